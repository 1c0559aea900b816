-- A list of one item or of two, stored in the pool of an area, item by item; and what one bit of a number says of its
-- vertices. Leans on Storing.
use Rattle.std.specs.Prelude.{◌≡◌, refl, Bool, true, false, cond, List, [], ◌∷◌, ℕ, ◌+◌, ◌*◌, ◌%◌, ◌^◌, ◌≤◌, ◌<◌, eqb}
use Rattle.std.specs.Prelude.{length}
use Rattle.std.proofs.Common.{arith, eq-eqb, ne_eqb}
use Rattle.laws.specs.Segments.{part, placed}
use Rattle.laws.specs.Sets.{vertices_from}
use Rattle.pool.specs.Pool.{base, used, pushed}
use Rattle.keep.specs.Storing.{ListRoom, Growing, growing_none, growing_room, growing_push}

-- a list of one item, or of two
unfoldable pub one_or_two : Bool → ℕ → ℕ → List ℕ
one_or_two two a b = cond two (a ∷ b ∷ []) (a ∷ [])

some_items : (two : Bool) (a b : ℕ) → 0 < length (one_or_two two a b)
unfolding one_or_two
some_items true a b = omega arith
some_items false a b = omega arith

pub short_few : (two : Bool) (a b : ℕ) → length (one_or_two two a b) ≤ 2
unfolding one_or_two
short_few true a b = omega arith
short_few false a b = omega arith

module _ {w most a n : ℕ} {s : List ℕ} (two : Bool) (first second : ℕ)
    (room : ListRoom w most a n s (length (one_or_two two first second))) where
  pub first_room : (base most + w * (used (part a n s) + 1) ≤ length (part a n s))
      × (used (part a n s) + 1 < 4294967296)
  first_room = growing_room room (growing_none w most a n s) (some_items two first second)

  pub first_pushed : (p : List ℕ) → first < 256 ^ w → p ≡ pushed w most (part a n s) first
      → Growing w most a n s (placed a n s p) (first ∷ [])
  first_pushed p small e = growing_push room (growing_none w most a n s) (some_items two first second) first p small e

  module _ {t : List ℕ} (g : Growing w most a n s t (first ∷ [])) where
    both : two ≡ true → 1 < length (one_or_two two first second)
    unfolding one_or_two
    both e = rw e (omega arith)

    pub second_room : two ≡ true → (base most + w * (used (part a n t) + 1) ≤ length (part a n t))
        × (used (part a n t) + 1 < 4294967296)
    second_room e = growing_room room g (both e)

    pub second_pushed : two ≡ true → (p : List ℕ) → second < 256 ^ w → p ≡ pushed w most (part a n t) second
        → Growing w most a n s (placed a n t p) (one_or_two two first second)
    unfolding one_or_two
    second_pushed e p small q = rw e (growing_push room g (both e) second p small q)

    pub second_left : two ≡ false → Growing w most a n s t (one_or_two two first second)
    unfolding one_or_two
    second_left e = rw e g

pub one_vertex : (v rest : ℕ) → rest % 2 ≡ 1 → vertices_from v 1 rest ≡ v ∷ []
unfolding vertices_from
one_vertex v rest e = rw (eq-eqb (rest % 2) 1 e) refl

pub no_vertex : (v rest : ℕ) → (rest % 2 ≡ 1 → ⊥) → vertices_from v 1 rest ≡ []
unfolding vertices_from
no_vertex v rest e = rw (ne_eqb (rest % 2) 1 e) refl

pub few_vertices : (v rest : ℕ) → length (vertices_from v 1 rest) ≤ 1
unfolding vertices_from
few_vertices v rest = go (eqb (rest % 2) 1)
  where
    go : (b : Bool) → length (cond b (v ∷ []) []) ≤ 1
    go true = omega arith
    go false = omega arith
