-- A set's vertices, one after another: how many they are; they are below the number of vertices, and ascend; a row
-- sends them to vertices. Leans on the steps of the loops.
use Rattle.std.specs.Prelude.{◌≡◌, refl, List, [], ◌∷◌, ◌++◌, ℕ, zero, suc, ◌+◌, ◌*◌, ◌-◌, ◌/◌, ◌%◌, ◌≤◌, ◌<◌, length}
use Rattle.std.specs.Prelude.{get_or}
use Rattle.std.proofs.Common.{ap, ◌∙◌, arith, eq-eqb, ne_eqb}
use Rattle.std.proofs.Math.Decide.{ℕ_discrete}
use Rattle.laws.specs.Lists.{member_at}
use Rattle.laws.specs.Pairs.{Pairs}
use Rattle.laws.specs.Sets.{vertices_from, vertices_of, vertices_odd, vertices_even, vertices_set, set_range, set_rises}
use Rattle.sets.specs.Steps.{vertices_step}

-- these numbers are below a bound
abbrev pub Below : ℕ → List ℕ → Type 0
Below n vertices = (k : ℕ) → k < length vertices → get_or vertices k 0 < n

-- row i tells of each of these vertices, and sends it to a vertex
pub record RowSends (i : ℕ) (rows vertices : List ℕ) : Type 0 where
  pub told : (k : ℕ) → k < length vertices → 32 * i + get_or vertices k 0 < length rows
  pub sent : (k : ℕ) → k < length vertices → get_or rows (32 * i + get_or vertices k 0) 0 < 20

-- ---- as a loop takes them off the set's number

-- what is still to come of the vertices below n, from v on
unfoldable pub to_come : ℕ → ℕ → ℕ → List ℕ
to_come n v rest = vertices_from v (n - v) rest

pub come_turn : (n v rest : ℕ) → v < n → to_come n v rest ≡ vertices_from v 1 rest ++ to_come n (v + 1) (rest / 2)
unfolding to_come
come_turn n v rest h =
    let e : n - v ≡ suc (n - (v + 1)) = omega arith in
    let s : suc v ≡ v + 1 = omega arith in
    ap (λ (k : ℕ). vertices_from v k rest) e ∙ (vertices_step v (n - (v + 1)) rest
    ∙ ap (λ (u : ℕ). vertices_from v 1 rest ++ vertices_from u (n - (v + 1)) (rest / 2)) s)

pub come_end : (n v rest : ℕ) → n ≤ v → to_come n v rest ≡ []
unfolding to_come vertices_from
come_end n v rest h = let e : n - v ≡ 0 = omega arith in ap (λ (k : ℕ). vertices_from v k rest) e

pub come_all : (n set : ℕ) → to_come n 0 set ≡ vertices_of n set
unfolding to_come vertices_of
come_all n set = let e : n - 0 ≡ n = omega arith in ap (λ (k : ℕ). vertices_from 0 k set) e

-- vertex v stands first where its bit is set, and is left out where it is not
pub come_joins : (n v rest : ℕ) → v < n → rest % 2 ≡ 1 → to_come n v rest ≡ v ∷ to_come n (v + 1) (rest / 2)
unfolding vertices_from
come_joins n v rest h odd = come_turn n v rest h ∙ rw (eq-eqb (rest % 2) 1 odd) refl

pub come_stays : (n v rest : ℕ) → v < n → (rest % 2 ≡ 1 → ⊥) → to_come n v rest ≡ to_come n (v + 1) (rest / 2)
unfolding vertices_from
come_stays n v rest h even = come_turn n v rest h ∙ rw (ne_eqb (rest % 2) 1 even) refl

-- ---- how many vertices

pub bit_length : (v n x : ℕ) → length (vertices_from v (suc n) x) ≡ x % 2 + length (vertices_from (suc v) n (x / 2))
bit_length v n x = go (ℕ_discrete (x % 2) 1)
  where
    go : Dec (x % 2 ≡ 1) → length (vertices_from v (suc n) x) ≡ x % 2 + length (vertices_from (suc v) n (x / 2))
    go (yes e) = ap length (vertices_odd v n x e) ∙ (omega arith)
    go (no e) = ap length (vertices_even v n x e) ∙ (omega arith)

pub vertices_few : (v n x : ℕ) → length (vertices_from v n x) ≤ n
unfolding vertices_from
vertices_few v zero x = omega arith
vertices_few v (suc n) x = omega (arith, bit_length v n x, vertices_few (suc v) n (x / 2))

-- ---- each of them

-- a vertex is below n, and a later one is larger
pub vertex_below : (n set p : ℕ) → p < length (vertices_of n set) → get_or (vertices_of n set) p 0 < n
unfolding vertices_of
vertex_below n set p h =
    let r = (set_range (vertices_set 0 n set) (get_or (vertices_from 0 n set) p 0)
    (member_at (vertices_from 0 n set) p 0 h)).1 in
    omega arith

rising_at : (l : List ℕ) → Pairs ◌<◌ l → (i j : ℕ) → i < j → j < length l → get_or l i 0 < get_or l j 0
rising_at [] p i j h k = absurd (omega arith)
rising_at (x ∷ l) p i zero h k = absurd (omega arith)
rising_at (x ∷ l) p zero (suc j) h k = p.0 (get_or l j 0) (member_at l j 0 (omega arith))
rising_at (x ∷ l) p (suc i) (suc j) h k = rising_at l p.1 i j (omega arith) (omega arith)

pub vertex_rises : (n set i j : ℕ) → i < j → j < length (vertices_of n set)
    → get_or (vertices_of n set) i 0 < get_or (vertices_of n set) j 0
unfolding vertices_of
vertex_rises n set i j h k = rising_at (vertices_from 0 n set) (set_rises (vertices_set 0 n set)) i j h k

-- a row of n vertices sends those of a set to vertices
pub row_sends : (i n set : ℕ) (rows : List ℕ) → 32 * i + n ≤ length rows
    → ((v : ℕ) → v < n → get_or rows (32 * i + v) 0 < 20) → RowSends i rows (vertices_of n set)
row_sends i n set rows room images = record {
  told = λ k h. omega (arith, vertex_below n set k h);
  sent = λ k h. images (get_or (vertices_of n set) k 0) (vertex_below n set k h);
}
