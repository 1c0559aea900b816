-- Theorems on the definitions of specs/Shape.
use Rattle.std.specs.Prelude.{◌≡◌, refl, List, [], ◌∷◌, map, length, get_or}
use Rattle.std.proofs.Common.{sym, ap, ◌∙◌}
use Prim.Native.Nat.{ℕ, ◌<◌}
use Rattle.definitions.specs.Lists.{sort_by, sort_nats, compare_nats}
use Rattle.definitions.specs.Figures.{Elements, Figure, number_in, renumber, sort_ranks, sort_strong}
use Rattle.laws.specs.Lists.{Mem}
use Rattle.laws.specs.Orders.{nat_lists}
use Rattle.laws.specs.Ascending.{Ascends, ascends_distinct}
use Rattle.laws.proofs.Ascending.{sort_ascending}
use Rattle.laws.specs.Places.{place_at_holds, map_self}
use Rattle.shapes.specs.Shape.{Element, Shaped, Sorted, Stack, Tower, element_sorted}

-- ---- sorting changes nothing

-- a numbering that changes nothing below the bound
renumber_same : (b : ℕ) (number : ℕ → ℕ) (es : Elements) → ((i : ℕ) → i < b → number i ≡ i)
    → ((e : List ℕ) → Mem e es → Element b e) → renumber number es ≡ es
unfolding renumber
renumber_same b number es same h =
    map_self (λ (e : List ℕ). sort_nats (map number e)) es
    (λ e m. ap sort_nats (map_self number e (λ i j. same i ((h e m).below i j))) ∙ element_sorted b e (h e m))

-- an element's number in its own rank is its place
number_in_place : (es : Elements) → Ascends compare_nats es → (i : ℕ) → i < length es
    → number_in (sort_by compare_nats es) (get_or es i []) ≡ i
unfolding number_in
number_in_place es h i k =
    ap (λ (s : Elements). number_in s (get_or es i [])) (sort_ascending compare_nats nat_lists es h)
    ∙ place_at_holds compare_nats nat_lists [] es (ascends_distinct compare_nats nat_lists es h) i k

pub sort_ranks_same : (b : ℕ) (es : Elements) (more : List Elements) → Stack b (es ∷ more) → Sorted (es ∷ more)
    → sort_ranks es more ≡ es ∷ more
unfolding sort_ranks
sort_ranks_same b es [] s h = refl
sort_ranks_same b es (next ∷ more) s h =
    let number : ℕ → ℕ = λ i. number_in (sort_by compare_nats es) (get_or es i []) in
    let same = renumber_same (length es) number next (number_in_place es h.0) s.1.0.elements in
    let first = sort_ascending compare_nats nat_lists es h.0 in
    let rest = ap (λ (n : Elements). sort_ranks n more) same ∙ sort_ranks_same (length es) next more s.1 h.1 in
    λ t. first t ∷ rest t

-- `element_sort_strong` keeps a shaped figure
pub sort_same : (points rank : ℕ) (f : Figure) → Shaped points rank f → sort_strong f ≡ f
unfolding sort_strong
sort_same points rank f s = ap sort_strong s.is ∙ go s.ranks s.tower ∙ sym s.is
  where
    go : (ranks : List Elements) → Tower points ranks
        → sort_strong (s.empty ∷ s.vertices ∷ ranks) ≡ s.empty ∷ s.vertices ∷ ranks
    go [] t = absurd t.crowned
    go (edges ∷ more) t =
        let ends = map_self sort_nats edges (λ e m. element_sorted points e (t.stack.0.elements e m)) in
        ap (λ (es : Elements). s.empty ∷ s.vertices ∷ sort_ranks es more) ends
        ∙ ap (λ (r : List Elements). s.empty ∷ s.vertices ∷ r) (sort_ranks_same points edges more t.stack t.sorted)
