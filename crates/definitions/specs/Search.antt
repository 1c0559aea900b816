-- The search, over any table of facets and shares: docs/SPECIFICATION.md, chapter 7. Leans on Lists and Outcome;
-- where a table comes from is in Recursion.
use Rattle.std.specs.Prelude.{Bool, true, false, cond, not, ◌&&◌, ℕ, zero, suc, ◌+◌, ◌*◌, leb, ltb, eqb, length, get_or}
use Rattle.std.specs.Prelude.{replicate}
use mathlib.Core.List.{List, [], ◌∷◌, ◌++◌, map, flat_map, reverse_aux}
use Rattle.std.specs.Prelude.{Option, Some, None}
use Rattle.definitions.specs.Lists.{Pair, any_of, keep, place_of, map_at, count_from}
use Rattle.definitions.specs.Outcome.{Outcome, refused, answered, refuse_if}

-- [7.1] the number of its hyperplane orbit, and its number among that orbit's possible facets
abbrev pub Facet : Type 0
Facet = Pair

-- [6.9] of a place: the number of its ridge orbit, and the share
abbrev pub Share : Type 0
Share = Pair

-- [6.9] What the search goes by: for each orbit, for each of its possible facets, the shares of its places in
-- order; and the number of ridge orbits.
pub record Table : Type 0 where
  pub shares : List (List (List Share))
  pub ridges : ℕ

-- [6.9] the shares of a facet, place by place
unfoldable pub shares_of : Table → Facet → List Share
shares_of table f = get_or (get_or table.shares f.0 []) f.1 []

-- ---- what a facet adds

-- [7.2] those in one ridge orbit, in order
unfoldable pub shares_at : ℕ → List Share → List Share
shares_at ridge = keep (λ (s : Share). eqb ridge s.0)

-- [7.2] the last share of a list, or the one before it where the list is empty
unfoldable pub last_share : ℕ → List Share → ℕ
last_share before [] = before
last_share before (s ∷ ss) = last_share s.1 ss

-- [7.2] what a facet adds to a ridge orbit: its last share there times the number of its places there
unfoldable pub adds : Table → ℕ → Facet → ℕ
adds table ridge f = let here = shares_at ridge (shares_of table f) in last_share 0 here * length here

-- [7.3] what the facets of a list add to a ridge orbit, together
unfoldable pub total : Table → List Facet → ℕ → ℕ
total table [] ridge = 0
total table (f ∷ fs) ridge = adds table ridge f + total table fs ridge

-- [7.3] the total in each ridge orbit
unfoldable pub totals : Table → List Facet → List ℕ
totals table list = map (total table list) (count_from 0 table.ridges)

-- ---- verdicts

-- [7.4] what a list is judged: over, open at a ridge orbit, or closed
pub data Verdict : Type 0 where
  over closed : Verdict
  open_at : ℕ → Verdict

-- [7.4] [1.3] Over where a total is above 2. Else open at the lowest ridge orbit with a total of 1. Else every
-- total is 0 or 2, and the list is closed.
unfoldable pub judge : List ℕ → Verdict
judge sums =
    let lowest = place_of (eqb 1) sums in
    cond (any_of (ltb 2) sums) over (cond (ltb lowest (length sums)) (open_at lowest) closed)

-- ---- lists put in

-- [7.5] a list of facets with its mark
pub record Item : Type 0 where
  pub list : List Facet
  pub mark : ℕ

-- [7.5] every possible facet, ascending
unfoldable pub all_facets : Table → List Facet
all_facets table =
    flat_map (λ (fs : List Facet). fs) (map_at (λ orbit (facets : List (List Share)).
    map (λ (f : ℕ). (orbit, f)) (count_from 0 (length facets))) 0 table.shares)

-- [7.5] a list for each facet, with its orbit as mark
unfoldable pub starts : Table → List Item
starts table = map (λ (f : Facet). record { list = f ∷ []; mark = f.0 }) (all_facets table)

-- [7.5] a facet of the list has this orbit
unfoldable pub uses_orbit : ℕ → List Facet → Bool
uses_orbit orbit = any_of (λ (f : Facet). eqb orbit f.0)

-- [7.5] a facet whose orbit is above the mark, and is that of no facet of the list
unfoldable pub may_join : Item → Facet → Bool
may_join item f = ltb item.mark f.0 && not (uses_orbit f.0 item.list)

-- [7.5] a list with a facet more at its end, and the mark given
unfoldable pub joined : Item → ℕ → Facet → Item
joined item mark f = record { list = item.list ++ (f ∷ []); mark = mark }

-- [7.6] how many places of a facet in a ridge orbit have a share of 1
unfoldable pub ones_at : Table → ℕ → Facet → ℕ
ones_at table ridge f = length (keep (λ (s : Share). eqb 1 s.1) (shares_at ridge (shares_of table f)))

-- [7.6] behind a list that is open at a ridge orbit: a list for each place there that has a share of 1, of each
-- facet that may join
unfoldable pub open_next : Table → Item → ℕ → List Item
open_next table item ridge =
    map (joined item item.mark)
    (flat_map (λ (f : Facet). replicate (ones_at table ridge f) f) (keep (may_join item) (all_facets table)))

-- [7.7] behind a closed list: a list for each facet that may join, its orbit becoming the mark
unfoldable pub closed_next : Table → Item → List Item
closed_next table item = map (λ (f : Facet). joined item f.0 f) (keep (may_join item) (all_facets table))

-- [7.8] the lists that an examined list puts in, in the order in which they are put in; [17.9] a closed one puts in
-- none where closed lists are not extended
unfoldable pub put_in : Bool → Table → Item → Verdict → List Item
put_in extended table item over = []
put_in extended table item (open_at ridge) = open_next table item ridge
put_in true table item closed = closed_next table item
put_in false table item closed = []

-- ---- the search

-- [7.9] the lists emitted, in order, and what is left of the budget
pub record Found : Type 0 where
  pub lists : List (List Facet)
  pub left : ℕ

-- [7.9] whether an entry limit ends the search, with so many lists emitted
unfoldable pub limit_reached : Option ℕ → ℕ → Bool
limit_reached None emitted = false
limit_reached (Some m) emitted = leb m emitted

-- [7.9] the entry limit, the number of entries past which a call is refused with 15, and [17.9] whether closed lists
-- are extended
pub record EntryLimits : Type 0 where
  pub limit : Option ℕ
  pub bound : ℕ
  pub extended : Bool

-- [7.9] One more list is emitted, or 15. Then the limit is asked, and `next` goes on with what is emitted.
unfoldable pub emit : EntryLimits → List Facet → ℕ → List (List Facet) → (List (List Facet) → Outcome Found)
    → Outcome Found
emit limits list left emitted next =
    let lists = emitted ++ (list ∷ []) in
    refuse_if (leb limits.bound (length emitted)) 15 (λ u.
    elim (limit_reached limits.limit (length lists)) [
      | true ↦ answered (record { lists = lists; left = left })
      | false ↦ next lists
    ])

-- [7.8] a list that is over or open emits nothing
unfoldable pub emit_if : Verdict → EntryLimits → List Facet → ℕ → List (List Facet)
    → (List (List Facet) → Outcome Found) → Outcome Found
emit_if over limits list left emitted next = next emitted
emit_if (open_at ridge) limits list left emitted next = next emitted
emit_if closed limits list left emitted next = emit limits list left emitted next

-- [7.8] [7.10] `pending` holds the lists put in and not yet examined, the latest first. The number is what is left
-- of the budget: each list examined uses one, and a list that is due when none is left is refused with 16.
unfoldable pub examine : Table → EntryLimits → ℕ → List Item → List (List Facet) → Outcome Found
examine table limits zero [] emitted = answered (record { lists = emitted; left = 0 })
examine table limits zero (item ∷ pending) emitted = refused 16
examine table limits (suc left) [] emitted = answered (record { lists = emitted; left = suc left })
examine table limits (suc left) (item ∷ pending) emitted =
    let verdict = judge (totals table item.list) in
    emit_if verdict limits item.list left emitted
    (examine table limits left (reverse_aux (put_in limits.extended table item verdict) pending))

-- [7.8] [7.10] from the lists of single facets on
unfoldable pub search : Table → EntryLimits → ℕ → Outcome Found
search table limits budget = examine table limits budget (reverse_aux (starts table) []) []
