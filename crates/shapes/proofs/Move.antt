-- Theorems on the definitions of specs/Move.
use Rattle.std.specs.Prelude.{◌≡◌, refl, length, get_or}
use Rattle.std.proofs.Common.{sym, ap, ◌∙◌, arith}
use Rattle.std.proofs.Math.Path.{subst}
use mathlib.Core.List.{List, [], ◌∷◌, map, map-map}
use Prim.Native.Nat.{Ordering}
use Prim.Native.Nat.{ℕ, suc, ◌<◌, compare}
use Rattle.std.proofs.lemmas.List.{length-map}
use Rattle.definitions.specs.Lists.{sort_by, sort_nats, compare_nats}
use Rattle.definitions.specs.Figures.{Elements, Figure, number_in, renumber, sort_ranks, sort_strong, move_ends}
use Rattle.definitions.specs.Recursion.{move_sorted}
use Rattle.laws.specs.Lists.{of_map}
use Rattle.laws.specs.Orders.{nats, nat_lists, compare_lt, lt_compare}
use Rattle.laws.specs.Sorting.{in_sorted, of_sorted}
use Rattle.laws.specs.Ascending.{Distinct, Ascends, ascends_distinct, sorted_ascends}
use Rattle.laws.specs.Places.{distinct_map, keeps_compare, compare_map, ascends_map}
use Rattle.shapes.specs.Shape.{Element, Rank, Stack, Crowned, Tower, Shaped, crowned_above}
use Rattle.shapes.specs.Move.{Into, Rising, numbers_into, rank_sorted, sent_apart, sort_ranks_length}

-- ---- maps that send no two numbers to one

module _ (b d : ℕ) (to : ℕ → ℕ) (m : Into b d to) where
  abbrev Below : ℕ → Type 0
  Below x = x < b

  sent_distinct : (e : List ℕ) → Element b e → Distinct (map to e)
  sent_distinct e h =
      distinct_map compare nats compare nats to Below m.apart e h.below (ascends_distinct compare nats e h.ascends)

  -- an element sent elsewhere, its subs sorted
  pub element_sent : (e : List ℕ) → Element b e → Element d (sort_nats (map to e))
  unfolding sort_nats
  element_sent e h = record {
    ascends = sorted_ascends compare nats (map to e) (sent_distinct e h);
    below = λ y i.
        let r = of_map to y e (of_sorted compare y (map to e) i) in
        subst (λ (z : ℕ). z < d) (sym r.2) (m.below r.0 (h.below r.0 r.1));
  }

  pub rank_sent : (es : Elements) → Rank b es → Rank d (renumber to es)
  unfolding renumber
  rank_sent es h = record {
    elements = λ y i.
        let r = of_map (λ (e : List ℕ). sort_nats (map to e)) y es i in
        subst (Element d) (sym r.2) (element_sent r.0 (h.elements r.0 r.1));
    distinct =
        distinct_map compare_nats nat_lists compare_nats nat_lists (λ (e : List ℕ). sort_nats (map to e)) (Element b)
        (sent_apart b d to m) es h.elements h.distinct;
  }

  pub stack_sent : (es : Elements) (more : List Elements) → Stack b (es ∷ more) → Stack d (renumber to es ∷ more)
  unfolding renumber
  stack_sent es more s = (
    rank_sent es s.0,
    subst (λ (n : ℕ). Stack n more) (sym (length-map es (λ (e : List ℕ). sort_nats (map to e)))) s.1,
  )

-- ---- sorting gives a stack its shape

crowned_renumbered : (number : ℕ → ℕ) (es : Elements) (more : List Elements) → Crowned (es ∷ more)
    → Crowned (renumber number es ∷ more)
unfolding renumber
crowned_renumbered number es [] h = length-map es (λ (e : List ℕ). sort_nats (map number e)) ∙ h
crowned_renumbered number es (next ∷ more) h = h

one_ascends : (es : Elements) → length es ≡ 1 → Ascends compare_nats es
one_ascends [] h = absurd (omega arith)
one_ascends (e ∷ []) h = ((λ y i. elim i [ ]), tt)
one_ascends (e ∷ d ∷ es) h = absurd (omega arith)

pub sort_ranks_tower : (b : ℕ) (es : Elements) (more : List Elements) → Stack b (es ∷ more) → Crowned (es ∷ more)
    → Tower b (sort_ranks es more)
unfolding sort_ranks
sort_ranks_tower b es [] s k = record { stack = (s.0, tt); sorted = (one_ascends es k, tt); crowned = k }
sort_ranks_tower b es (next ∷ more) s k =
    let sorted = sort_by compare_nats es in
    let number : ℕ → ℕ = λ i. number_in sorted (get_or es i []) in
    let upper = stack_sent (length es) (length sorted) number
    (numbers_into es sorted s.0.distinct (λ e i. in_sorted compare_nats e es i)) next more s.1 in
    let rest =
    sort_ranks_tower (length sorted) (renumber number next) more upper (crowned_renumbered number next more k) in
    record {
      stack = (rank_sorted b es s.0, rest.stack);
      sorted = (sorted_ascends compare_nats nat_lists es s.0.distinct, rest.sorted);
      crowned = crowned_above sorted (sort_ranks (renumber number next) more) rest.crowned;
    }

-- ---- moved by a map that sends no two points to one

pub moved_shaped : (n m rank : ℕ) (to : ℕ → ℕ) → Into n m to → (f : Figure) → Shaped n rank f
    → Shaped m rank (move_sorted to f)
unfolding move_sorted sort_strong move_ends renumber
moved_shaped n m rank to into f s =
    subst (λ (g : Figure). Shaped m rank (move_sorted to g)) (sym s.is) (go s.ranks s.number s.tower)
  where
    go : (ranks : List Elements) → suc (length ranks) ≡ rank → Tower n ranks
        → Shaped m rank (move_sorted to (s.empty ∷ s.vertices ∷ ranks))
    go [] k t = absurd t.crowned
    go (edges ∷ more) k t =
        let ends : map sort_nats (map (map to) edges) ≡ renumber to edges = map-map sort_nats (map to) edges in
        let e = sort_ranks_length (renumber to edges) more in
        record {
          empty = s.empty;
          vertices = s.vertices;
          ranks = sort_ranks (renumber to edges) more;
          is = ap (λ (x : Elements). s.empty ∷ s.vertices ∷ sort_ranks x more) ends;
          number = omega arith;
          tower =
              sort_ranks_tower m (renumber to edges) more (stack_sent n m to into edges more t.stack)
              (crowned_renumbered to edges more t.crowned);
        }

-- ---- moved by a map that rises

module _ (b d : ℕ) (to : ℕ → ℕ) (m : Rising b d to) where
  lower : (x y : ℕ) → x < b → y < b → compare x y ≡ Ordering.lt → compare (to x) (to y) ≡ Ordering.lt
  lower x y h k e = lt_compare (to x) (to y) (m.rises x y (compare_lt x y e) k)

  element_raised : (e : List ℕ) → Element b e → Element d (map to e)
  element_raised e h = record {
    ascends = ascends_map compare nats compare nats to (λ x. x < b) lower e h.below h.ascends;
    below = λ y i. let r = of_map to y e i in subst (λ (z : ℕ). z < d) (sym r.2) (m.below r.0 (h.below r.0 r.1));
  }

  lists_kept : (e f : List ℕ) → Element b e → Element b f → compare_nats (map to e) (map to f) ≡ compare_nats e f
  unfolding compare_nats
  lists_kept e f h k =
      compare_map compare nats compare nats to (λ x. x < b)
      (keeps_compare compare nats compare nats to (λ x. x < b) lower) e f h.below k.below

  edges_raised : (es : Elements) → Rank b es → Ascends compare_nats es
      → Rank d (map (map to) es) × Ascends compare_nats (map (map to) es)
  edges_raised es h a =
      let up = ascends_map compare_nats nat_lists compare_nats nat_lists (map to) (Element b)
      (λ e f j k q. lists_kept e f j k ∙ q) es h.elements a in (
        record {
          elements =
              λ y i. let r = of_map (map to) y es i in
              subst (Element d) (sym r.2) (element_raised r.0 (h.elements r.0 r.1));
          distinct = ascends_distinct compare_nats nat_lists (map (map to) es) up;
        },
        up,
      )

pub raised_shaped : (n m rank : ℕ) (to : ℕ → ℕ) → Rising n m to → (f : Figure) → Shaped n rank f
    → Shaped m rank (move_ends to f)
unfolding move_ends
raised_shaped n m rank to up f s =
    subst (λ (g : Figure). Shaped m rank (move_ends to g)) (sym s.is) (go s.ranks s.number s.tower)
  where
    crown : (edges : Elements) (more : List Elements) → Crowned (edges ∷ more) → Crowned (map (map to) edges ∷ more)
    crown edges [] h = length-map edges (map to) ∙ h
    crown edges (next ∷ more) h = h

    go : (ranks : List Elements) → suc (length ranks) ≡ rank → Tower n ranks
        → Shaped m rank (move_ends to (s.empty ∷ s.vertices ∷ ranks))
    go [] k t = absurd t.crowned
    go (edges ∷ more) k t =
        let r = edges_raised n m to up edges t.stack.0 t.sorted.0 in
        record {
          empty = s.empty;
          vertices = s.vertices;
          ranks = map (map to) edges ∷ more;
          is = refl;
          number = k;
          tower = record {
            stack = (r.0, subst (λ (x : ℕ). Stack x more) (sym (length-map edges (map to))) t.stack.1);
            sorted = (r.1, t.sorted.1);
            crowned = crown edges more t.crowned;
          };
        }
