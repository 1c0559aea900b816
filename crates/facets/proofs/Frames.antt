-- Theorems on the definitions of specs/Frames.
use Rattle.std.specs.Prelude.{◌≡◌, Bool}
use Rattle.std.proofs.Math.Path.{ap}
use Rattle.std.proofs.Common.{◌∙◌}
use Rattle.std.proofs.Math.Bool.{true, false}
use mathlib.Core.List.{List, [], ◌∷◌, ◌++◌, reverse_aux}
use Rattle.std.specs.Prelude.{Some, None}
use Prim.Native.Nat.{ℕ, suc, ◌<◌}
use Rattle.std.proofs.Math.ListN.{length}
use Rattle.definitions.specs.Search.{Table, Facet, Item, closed, open_at, totals, judge, put_in, EntryLimits}
use Rattle.definitions.specs.Search.{limit_reached, emit_if, examine, search}
use Rattle.facets.specs.Frames.{Frame, emit_one, enter_closed, enter_open, enter_root, entered, judged, pending, root}

-- ---- the search, step by step

module _ (t : Table) (limits : EntryLimits) where
  pub search_starts : (budget : ℕ) → search t limits budget ≡ examine t limits budget (pending t (root t ∷ [])) []
  unfolding search pending
  search_starts budget = ap (λ (l : List Item). examine t limits budget (reverse_aux l []) []) (enter_root t)

  pub examine_open : (left : ℕ) (item : Item) (ridge : ℕ) (frames : List Frame) (emitted : List (List Facet))
      → judge (totals t item.list) ≡ open_at ridge
      → examine t limits (suc left) (item ∷ pending t frames) emitted
      ≡ examine t limits left (pending t (entered t item.list item.mark (Some ridge) ∷ frames)) emitted
  unfolding emit_if put_in pending
  examine_open left item ridge frames emitted e =
      judged t limits left item (pending t frames) emitted (open_at ridge) e
      ∙ ap (λ (l : List Item). examine t limits left (reverse_aux l (pending t frames)) emitted)
      (enter_open t item ridge)

  -- and where it is not reached, the list is extended
  pub examine_closed : (left : ℕ) (item : Item) (frames : List Frame) (emitted : List (List Facet))
      → judge (totals t item.list) ≡ closed → length emitted < limits.bound
      → limit_reached limits.limit (suc (length emitted)) ≡ false → limits.extended ≡ true
      → examine t limits (suc left) (item ∷ pending t frames) emitted
      ≡ examine t limits left (pending t (entered t item.list item.mark None ∷ frames)) (emitted ++ (item.list ∷ []))
  unfolding emit_if put_in pending
  examine_closed left item frames emitted e h r x =
      judged t limits left item (pending t frames) emitted closed e
      ∙ (emit_one t limits item.list left emitted
      (examine t limits left (reverse_aux (put_in limits.extended t item closed) (pending t frames))) false h r
      ∙ (ap (λ (b : Bool). examine t limits left (reverse_aux (put_in b t item closed) (pending t frames))
      (emitted ++ (item.list ∷ []))) x
      ∙ ap (λ (l : List Item). examine t limits left (reverse_aux l (pending t frames)) (emitted ++ (item.list ∷ [])))
      (enter_closed t item)))
