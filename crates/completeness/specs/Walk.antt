-- The search walks a tree of lists, and what it emits are the closed lists of the tree in that order, cut off at the
-- limit. Whether a closed list is extended is a parameter of the tree. Leans on Tree and Facets; nothing here knows
-- how many ranks there are.
use Rattle.std.specs.Prelude.{◌≡◌, refl, ◌⊎◌, Bool, true, false, not, ◌||◌, T, leb, ltb, eqb, length, take, replicate}
use Rattle.std.proofs.Math.Path.{sym, ap}
use Rattle.std.proofs.Common.{◌∙◌, subst, inl, inr, arith, T_not, eqb→eq, ltb→lt, lt→ltb, leb→le, length-append}
use mathlib.Core.List.{List, [], ◌∷◌, ◌++◌, flat_map, reverse_aux, append_assoc, append-nil, Memᴰ}
use Rattle.std.specs.Prelude.{Option, Some, None}
use Prim.Native.Nat.{ℕ, zero, suc, ◌-◌, ◌≤◌, ◌<◌, max}
use Rattle.std.proofs.Math.Dec.{eqb_refl, nleb→lt}
use Rattle.std.proofs.Math.Seq.{take-nil}
use Rattle.definitions.specs.Lists.{any_of, keep, count_from}
use Rattle.definitions.specs.Outcome.{Outcome, refused, answered, refuse_if}
use Rattle.definitions.specs.Search.{Table, Facet, Item, Verdict, over, closed, open_at, totals, judge, all_facets}
use Rattle.definitions.specs.Search.{starts, uses_orbit, may_join, joined, ones_at, open_next, closed_next, put_in}
use Rattle.definitions.specs.Search.{Found, EntryLimits, limit_reached, emit, emit_if, examine, search}
use Rattle.laws.specs.Bools.{true→holds, false→fails, both, first, second, either, left_of, right_of, not_not}
use Rattle.laws.specs.Lists.{Mem, of_map, of_flat_map, in_keep, kept, keep_less, in_count, in_replicate, replicate_some}
use Rattle.completeness.specs.Tree.{yield, yields_cons}
use Rattle.completeness.specs.Facets.{orbit_below}

-- ---- the orbits that a list uses

pub uses_joined : (orbit : ℕ) (l : List Facet) (f : Facet) → T (uses_orbit orbit (l ++ (f ∷ [])))
    → T (uses_orbit orbit l) ⊎ (orbit ≡ f.0)
unfolding uses_orbit any_of
uses_joined orbit [] f h = go (either (eqb orbit f.0) false h)
  where
    go : T (eqb orbit f.0) ⊎ T false → T false ⊎ (orbit ≡ f.0)
    go (inl t) = inr (eqb→eq orbit f.0 t)
    go (inr t) = absurd t
uses_joined orbit (g ∷ l) f h =
    go (either (eqb orbit g.0) (uses_orbit orbit (l ++ (f ∷ []))) h) (λ k. uses_joined orbit l f k)
  where
    go : T (eqb orbit g.0) ⊎ T (uses_orbit orbit (l ++ (f ∷ [])))
        → (T (uses_orbit orbit (l ++ (f ∷ []))) → T (uses_orbit orbit l) ⊎ (orbit ≡ f.0))
        → T (eqb orbit g.0 || uses_orbit orbit l) ⊎ (orbit ≡ f.0)
    go (inl t) ih = inl (left_of (eqb orbit g.0) (uses_orbit orbit l) t)
    go (inr t) ih = later (ih t)
      where
        later : T (uses_orbit orbit l) ⊎ (orbit ≡ f.0) → T (eqb orbit g.0 || uses_orbit orbit l) ⊎ (orbit ≡ f.0)
        later (inl u) = inl (right_of (eqb orbit g.0) (uses_orbit orbit l) u)
        later (inr e) = inr e

pub uses_before : (orbit : ℕ) (l : List Facet) (f : Facet) → T (uses_orbit orbit l)
    → T (uses_orbit orbit (l ++ (f ∷ [])))
unfolding uses_orbit any_of
uses_before orbit [] f h = absurd h
uses_before orbit (g ∷ l) f h = go (either (eqb orbit g.0) (uses_orbit orbit l) h) (λ k. uses_before orbit l f k)
  where
    go : T (eqb orbit g.0) ⊎ T (uses_orbit orbit l) → (T (uses_orbit orbit l) → T (uses_orbit orbit (l ++ (f ∷ []))))
        → T (eqb orbit g.0 || uses_orbit orbit (l ++ (f ∷ [])))
    go (inl t) ih = left_of (eqb orbit g.0) (uses_orbit orbit (l ++ (f ∷ []))) t
    go (inr t) ih = right_of (eqb orbit g.0) (uses_orbit orbit (l ++ (f ∷ []))) (ih t)

pub uses_last : (l : List Facet) (f : Facet) → T (uses_orbit f.0 (l ++ (f ∷ [])))
unfolding uses_orbit any_of
uses_last [] f = left_of (eqb f.0 f.0) false (eqb_refl f.0)
uses_last (g ∷ l) f = right_of (eqb f.0 g.0) (uses_orbit f.0 (l ++ (f ∷ []))) (uses_last l f)

pub uses_member : (f : Facet) (l : List Facet) → Mem f l → T (uses_orbit f.0 l)
unfolding uses_orbit any_of
uses_member f [] x' = elim x' [ ]
uses_member f (g ∷ l) (Memᴰ.head e) =
    left_of (eqb f.0 g.0) (uses_orbit f.0 l) (subst (λ (x : Facet). T (eqb f.0 x.0)) e (eqb_refl f.0))
uses_member f (g ∷ l) (Memᴰ.tail h) = right_of (eqb f.0 g.0) (uses_orbit f.0 l) (uses_member f l h)

-- an orbit that a longer list does not use, the shorter does not
pub unused_before : (orbit : ℕ) (l : List Facet) (f : Facet) → T (not (uses_orbit orbit (l ++ (f ∷ []))))
    → T (not (uses_orbit orbit l)) × (orbit ≡ f.0 → ⊥)
unused_before orbit l f h = (
  go (uses_orbit orbit l) refl,
  λ e. T_not (uses_orbit orbit (l ++ (f ∷ []))) h
      (subst (λ (o : ℕ). T (uses_orbit o (l ++ (f ∷ [])))) (sym e) (uses_last l f)),
)
  where
    go : (b : Bool) → uses_orbit orbit l ≡ b → T (not b)
    go true e = absurd (T_not (uses_orbit orbit (l ++ (f ∷ []))) h (uses_before orbit l f (true→holds e)))
    go false e = tt

pub unused_after : (orbit : ℕ) (l : List Facet) (f : Facet) → T (not (uses_orbit orbit l)) → (orbit ≡ f.0 → ⊥)
    → T (not (uses_orbit orbit (l ++ (f ∷ []))))
unused_after orbit l f h n = go (uses_orbit orbit (l ++ (f ∷ []))) refl
  where
    no : T (uses_orbit orbit l) ⊎ (orbit ≡ f.0) → ⊥
    no (inl u) = T_not (uses_orbit orbit l) h u
    no (inr e) = n e

    go : (b : Bool) → uses_orbit orbit (l ++ (f ∷ [])) ≡ b → T (not b)
    go true e = absurd (no (uses_joined orbit l f (true→holds e)))
    go false e = tt

-- ---- the tree

-- what a list puts in; a closed list is extended or not
unfoldable pub children_by : Bool → Table → Item → Verdict → List Item
children_by extended t item over = []
children_by extended t item (open_at ridge) = open_next t item ridge
children_by true t item closed = closed_next t item
children_by false t item closed = []

unfoldable pub verdict_of : Table → Item → Verdict
verdict_of t item = judge (totals t item.list)

unfoldable pub children : Bool → Table → Item → List Item
children extended t item = children_by extended t item (verdict_of t item)

-- these are what the definition's search puts in
pub put_in_holds : (extended : Bool) (t : Table) (item : Item) (v : Verdict)
    → children_by extended t item v ≡ put_in extended t item v
unfolding children_by put_in
put_in_holds extended t item over = refl
put_in_holds extended t item (open_at ridge) = refl
put_in_holds true t item closed = refl
put_in_holds false t item closed = refl

-- what a list emits itself
unfoldable pub own_by : List Facet → Verdict → List (List Facet)
own_by l over = []
own_by l (open_at ridge) = []
own_by l closed = l ∷ []

unfoldable pub own : Table → Item → List (List Facet)
own t item = own_by item.list (verdict_of t item)

-- a facet that may join
abbrev pub Joins : Table → Item → Facet → Type 0
Joins t item f = Mem f (all_facets t) × (item.mark < f.0) × T (not (uses_orbit f.0 item.list))

pub joins_of : (t : Table) (item : Item) (f : Facet) → Mem f (keep (may_join item) (all_facets t)) → Joins t item f
unfolding may_join
joins_of t item f h =
    let r = kept (may_join item) f (all_facets t) h in (
      r.0,
      ltb→lt item.mark f.0 (first (ltb item.mark f.0) (not (uses_orbit f.0 item.list)) r.1),
      second (ltb item.mark f.0) (not (uses_orbit f.0 item.list)) r.1,
    )

pub joins_in : (t : Table) (item : Item) (f : Facet) → Joins t item f → Mem f (keep (may_join item) (all_facets t))
unfolding may_join
joins_in t item f j =
    in_keep (may_join item) f (all_facets t) j.0
    (both (ltb item.mark f.0) (not (uses_orbit f.0 item.list)) (lt→ltb item.mark f.0 j.1) j.2)

pub open_child : (t : Table) (item : Item) (ridge : ℕ) (j : Item) → Mem j (open_next t item ridge)
    → (f : Facet) × Joins t item f × (0 < ones_at t ridge f) × (j ≡ joined item item.mark f)
unfolding open_next
open_child t item ridge j h =
    let r = of_map (joined item item.mark) j
    (flat_map (λ (f : Facet). replicate (ones_at t ridge f) f) (keep (may_join item) (all_facets t))) h in
    let q =
    of_flat_map (λ (f : Facet). replicate (ones_at t ridge f) f) r.0 (keep (may_join item) (all_facets t)) r.1 in
    let e = in_replicate (ones_at t ridge q.0) r.0 q.0 q.2 in
    (q.0, joins_of t item q.0 q.1, replicate_some (ones_at t ridge q.0) r.0 q.0 q.2, r.2 ∙ ap (joined item item.mark) e)

pub closed_child : (t : Table) (item : Item) (j : Item) → Mem j (closed_next t item)
    → (f : Facet) × Joins t item f × (j ≡ joined item f.0 f)
unfolding closed_next
closed_child t item j h =
    let r = of_map (λ (f : Facet). joined item f.0 f) j (keep (may_join item) (all_facets t)) h in
    (r.0, joins_of t item r.0 r.1, r.2)

-- whatever the verdict: a facet joined, the mark not lower
pub any_child : (extended : Bool) (t : Table) (item : Item) (v : Verdict) (j : Item)
    → Mem j (children_by extended t item v)
    → (f : Facet) × (mark : ℕ) × Joins t item f × (item.mark ≤ mark) × (j ≡ joined item mark f)
unfolding children_by
any_child extended t item over j h = elim h [ ]
any_child extended t item (open_at ridge) j h =
    let r = open_child t item ridge j h in
    (r.0, item.mark, r.1, omega arith, r.3)
any_child true t item closed j h =
    let r = closed_child t item j h in
    let k = r.1.1 in
    (r.0, r.0.0, r.1, omega arith, r.2)
any_child false t item closed j h = elim h [ ]

-- ---- the measure: how many orbits the list does not use

unfoldable pub unused : Table → Item → ℕ
unused t item = length (keep (λ (o : ℕ). not (uses_orbit o item.list)) (count_from 0 (length t.shares)))

pub joined_less : (t : Table) (item : Item) (f : Facet) (mark : ℕ) → Joins t item f
    → unused t (joined item mark f) < unused t item
unfolding unused joined
joined_less t item f mark j =
    keep_less (λ (o : ℕ). not (uses_orbit o item.list)) (λ (o : ℕ). not (uses_orbit o (item.list ++ (f ∷ [])))) f.0
    (count_from 0 (length t.shares))
    (λ o h. (unused_before o item.list f h).0)
    (let k = orbit_below t f j.0 in in_count 0 (length t.shares) f.0 (omega arith) (omega arith))
    j.2
    (not_not (uses_orbit f.0 (item.list ++ (f ∷ []))) (uses_last item.list f))

pub falls : (extended : Bool) (t : Table) (item j : Item) → Mem j (children extended t item)
    → unused t j < unused t item
unfolding children
falls extended t item j h =
    let r = any_child extended t item (verdict_of t item) j h in
    subst (λ (x : Item). unused t x < unused t item) (sym r.4) (joined_less t item r.0 r.1 r.2)

-- the closed lists of the tree below an item, and of a store of items, in the order in which they are examined
abbrev pub closed_in : Bool → Table → Item → List (List Facet)
closed_in extended t item = yield (children extended t) (own t) (unused t) (falls extended t) item

abbrev pub closed_among : Bool → Table → List Item → List (List Facet)
closed_among extended t items = flat_map (closed_in extended t) items

-- all that there are: the starts are put in ascending and examined from the last
abbrev pub closed_lists : Bool → Table → List (List Facet)
closed_lists extended t = closed_among extended t (reverse_aux (starts t) [])

-- ---- what the search emits

-- with a limit m, and so many emitted before: as many more as make m, but one at least, since the limit is tested
-- behind an emission
unfoldable pub cut : Option ℕ → ℕ → List (List Facet) → List (List Facet)
cut None before lists = lists
cut (Some m) before lists = take (max (m - before) 1) lists

cut_nothing : (limit : Option ℕ) (before : ℕ) → cut limit before [] ≡ []
unfolding cut
cut_nothing None before = refl
cut_nothing (Some m) before = take-nil (max (m - before) 1)

-- where the limit is reached, one list more is all
cut_last : (limit : Option ℕ) (before : ℕ) (l : List Facet) (rest : List (List Facet))
    → T (limit_reached limit (suc before)) → cut limit before (l ∷ rest) ≡ l ∷ []
unfolding cut limit_reached
cut_last None before l rest h = absurd h
cut_last (Some m) before l rest h =
    let k = leb→le m (suc before) h in
    let e : max (m - before) 1 ≡ 1 = omega arith in
    ap (λ (n : ℕ). take n (l ∷ rest)) e

-- where it is not reached, the next list and then the rest
cut_more : (limit : Option ℕ) (before : ℕ) (l : List Facet) (rest : List (List Facet))
    → T (not (limit_reached limit (suc before))) → cut limit before (l ∷ rest) ≡ l ∷ cut limit (suc before) rest
unfolding cut limit_reached
cut_more None before l rest h = refl
cut_more (Some m) before l rest h =
    let k = nleb→lt m (suc before) h in
    let e : max (m - before) 1 ≡ suc (max (m - suc before) 1) = omega arith in
    ap (λ (n : ℕ). take n (l ∷ rest)) e

-- what an outcome holds
lists_of : Outcome Found → List (List Facet)
lists_of (refused number) = []
lists_of (answered found) = found.lists

is_answered : Outcome Found → Bool
is_answered (refused number) = false
is_answered (answered found) = true

not_refused : (number : ℕ) (found : Found) → refused number ≡ answered found → ⊥
unfolding is_answered
not_refused number found e = subst (λ (o : Outcome Found). T (not (is_answered o))) e tt

same_lists : (x found : Found) → answered x ≡ answered found → found.lists ≡ x.lists
unfolding lists_of
same_lists x found e = ap lists_of (sym e)

length_emitted : (emitted : List (List Facet)) (l : List Facet) → length (emitted ++ (l ∷ [])) ≡ suc (length emitted)
length_emitted emitted l = let e = length-append emitted (l ∷ []) in omega arith

module _ (t : Table) (limits : EntryLimits) where
  -- what is promised of a search that goes on from a store
  abbrev Emits : ℕ → List Item → Type 0
  Emits left pending =
      (emitted : List (List Facet)) (found : Found) → examine t limits left pending emitted ≡ answered found
      → found.lists ≡ emitted ++ cut limits.limit (length emitted) (closed_among limits.extended t pending)

  -- a closed list is emitted, and the search stops or goes on
  emit_law : (l : List Facet) (left : ℕ) (pending : List Item) → Emits left pending
      → (emitted : List (List Facet)) (found : Found)
      → emit limits l left emitted (examine t limits left pending) ≡ answered found
      → found.lists ≡ emitted ++ cut limits.limit (length emitted) (l ∷ closed_among limits.extended t pending)
  unfolding emit refuse_if
  emit_law l left pending ih emitted found e = go (leb limits.bound (length emitted)) e
    where
      rest : List (List Facet)
      rest = closed_among limits.extended t pending

      stops : T (limit_reached limits.limit (suc (length emitted))) → found.lists ≡ emitted ++ (l ∷ [])
          → found.lists ≡ emitted ++ cut limits.limit (length emitted) (l ∷ rest)
      stops h q =
          q ∙ ap (λ (x : List (List Facet)). emitted ++ x) (sym (cut_last limits.limit (length emitted) l rest h))

      goes_on : T (not (limit_reached limits.limit (suc (length emitted))))
          → found.lists ≡ (emitted ++ (l ∷ [])) ++ cut limits.limit (length (emitted ++ (l ∷ []))) rest
          → found.lists ≡ emitted ++ cut limits.limit (length emitted) (l ∷ rest)
      goes_on h q =
          q ∙ append_assoc emitted (l ∷ []) (cut limits.limit (length (emitted ++ (l ∷ []))) rest)
          ∙ ap (λ (n : ℕ). emitted ++ (l ∷ cut limits.limit n rest)) (length_emitted emitted l)
          ∙ ap (λ (x : List (List Facet)). emitted ++ x) (sym (cut_more limits.limit (length emitted) l rest h))

      by_limit : (b : Bool) → limit_reached limits.limit (length (emitted ++ (l ∷ []))) ≡ b
          → elim b as (λ (x : Bool). Outcome Found) [
            | true ↦ answered (record {
              lists = emitted ++ (l ∷ []);
              left = left;
            })
            | false ↦ examine t limits left pending (emitted ++ (l ∷ []))
          ] ≡ answered found
          → found.lists ≡ emitted ++ cut limits.limit (length emitted) (l ∷ rest)
      by_limit true r q =
          stops (subst (λ (n : ℕ). T (limit_reached limits.limit n)) (length_emitted emitted l) (true→holds r))
          (same_lists (record { lists = emitted ++ (l ∷ []); left = left }) found q)
      by_limit false r q =
          goes_on
          (subst (λ (n : ℕ). T (not (limit_reached limits.limit n))) (length_emitted emitted l) (false→fails r))
          (ih (emitted ++ (l ∷ [])) found q)

      go : (b : Bool)
          → refuse_if b 15
          (λ u. elim (limit_reached limits.limit (length (emitted ++ (l ∷ [])))) as (λ (x : Bool). Outcome Found) [
            | true ↦ answered (record {
              lists = emitted ++ (l ∷ []);
              left = left;
            })
            | false ↦ examine t limits left pending (emitted ++ (l ∷ []))
          ]) ≡ answered found
          → found.lists ≡ emitted ++ cut limits.limit (length emitted) (l ∷ rest)
      go true q = absurd (not_refused 15 found q)
      go false q = by_limit (limit_reached limits.limit (length (emitted ++ (l ∷ [])))) refl q

  by_verdict : (l : List Facet) (left : ℕ) (pending : List Item) → Emits left pending
      → (v : Verdict) (emitted : List (List Facet)) (found : Found)
      → emit_if v limits l left emitted (examine t limits left pending) ≡ answered found → found.lists
      ≡ emitted ++ cut limits.limit (length emitted) (own_by l v ++ closed_among limits.extended t pending)
  unfolding emit_if own_by
  by_verdict l left pending ih over emitted found e = ih emitted found e
  by_verdict l left pending ih (open_at ridge) emitted found e = ih emitted found e
  by_verdict l left pending ih closed emitted found e = emit_law l left pending ih emitted found e

  ended : (emitted : List (List Facet)) (left : ℕ) (found : Found)
      → answered (record { lists = emitted; left = left }) ≡ answered found
      → found.lists ≡ emitted ++ cut limits.limit (length emitted) (closed_among limits.extended t [])
  unfolding flat_map
  ended emitted left found e =
      same_lists (record { lists = emitted; left = left }) found e
      ∙ sym (append-nil emitted)
      ∙ ap (λ (x : List (List Facet)). emitted ++ x) (sym (cut_nothing limits.limit (length emitted)))

  -- the latest item taken, and what it puts in put in
  abbrev after : Item → List Item → List Item
  after item pending = reverse_aux (put_in limits.extended t item (judge (totals t item.list))) pending

  taken : (item : Item) (pending : List Item) → closed_among limits.extended t (item ∷ pending)
      ≡ own_by item.list (judge (totals t item.list)) ++ closed_among limits.extended t (after item pending)
  unfolding children own verdict_of
  taken item pending =
      yields_cons (children limits.extended t) (own t) (unused t) (falls limits.extended t) item pending
      ∙ ap (λ (l : List Item). own_by item.list (judge (totals t item.list))
      ++ closed_among limits.extended t (reverse_aux l pending))
      (put_in_holds limits.extended t item (judge (totals t item.list)))

  pub examine_emits : (left : ℕ) (pending : List Item) → Emits left pending
  unfolding examine
  examine_emits zero [] emitted found e = ended emitted 0 found e
  examine_emits zero (item ∷ pending) emitted found e = absurd (not_refused 16 found e)
  examine_emits (suc left) [] emitted found e = ended emitted (suc left) found e
  examine_emits (suc left) (item ∷ pending) emitted found e =
      by_verdict item.list left (after item pending) (examine_emits left (after item pending))
      (judge (totals t item.list)) emitted found e
      ∙ ap (λ (x : List (List Facet)). emitted ++ cut limits.limit (length emitted) x) (sym (taken item pending))

  -- without a limit all closed lists of the tree in order, and with a limit m the first max(m, 1) of them
  pub search_emits : (budget : ℕ) (found : Found) → search t limits budget ≡ answered found
      → found.lists ≡ cut limits.limit 0 (closed_lists limits.extended t)
  unfolding search
  search_emits budget found e = examine_emits budget (reverse_aux (starts t) []) [] found e
