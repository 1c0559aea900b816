-- Theorems on the definitions of specs/KeptOrbitTable.
use Rattle.std.specs.Prelude.{◌≡◌, drop, replicate}
use Rattle.std.proofs.Math.Path.{refl, sym, ap}
use Rattle.std.proofs.Common.{◌∙◌, subst}
use mathlib.Core.List.{List, [], ◌∷◌, ◌++◌, map, zip_with, Memᴰ, map-map}
use Prim.Native.Nat.{ℕ, zero, suc, ◌+◌, ◌*◌, ◌/◌, ◌<◌, Ordering}
use native.Mathlib.Omega.{arith}
use Rattle.std.proofs.Math.ListN.{length, get_or, get_or-append}
use Rattle.std.proofs.lemmas.List.{length-replicate}
use Rattle.definitions.specs.Lists.{Pair, map_with, count_from}
use Rattle.definitions.specs.Outcome.{answered}
use Rattle.definitions.specs.Vectors.{Vec}
use Rattle.definitions.specs.Subspace.{Subspace}
use Rattle.definitions.specs.Orbits.{Row}
use Rattle.definitions.specs.Figures.{Figure, dyad}
use Rattle.definitions.specs.Search.{Share, Table}
use Rattle.definitions.specs.Recursion.{Rules, Entry, Answer, Inner, vertex_ridge, share_of, facet_shares}
use Rattle.definitions.specs.Faceting.{Prepared, possible_facets, table_for, entry_of, finish, faceting}
use Rattle.laws.specs.Lists.{Mem, here, there, append_at, replicate_at, of_map, of_count, map_at_holds, count_length}
use Rattle.laws.specs.Places.{map_same}
use Rattle.shapes.specs.Answered.{facet_number, Preparation, AnsweredCall, answered_call}
use Rattle.shapes.specs.Emitted.{map_with_length, found_facet, entry_of_list}
use Rattle.shapes.specs.LowRanks.{RankTwo, rank_two}
use Rattle.shapes.specs.Calls.{Given}
use Rattle.shapes.specs.SplitCalls.{SplitAnswer}
use Rattle.shapes.proofs.SplitCalls.{split_answer, split_in_call}
use Rattle.shapes.specs.Ridges.{KnownKeys, no_keys, number_key, number_keys, key_numbers, numbers_table}
use Rattle.shapes.specs.Ridges.{table_of_numbers}
use Rattle.shapes.specs.NestedCalls.{facets_many}
use Rattle.shapes.specs.RidgeKeys.{compare_ridge, send_ridge, ridges_read}
use Rattle.shapes.proofs.RidgeKeys.{ridges_by_keys}
use Rattle.shapes.specs.KeptOrbits.{KeptOrbit, number_over, counts_over, together, keep_by, keep_orbit, orbit_share}
use Rattle.shapes.specs.KeptOrbits.{orbit_shares, orbit_table}
use Rattle.shapes.specs.KeptOrbitTable.{PlacesIn, item_over, length_at, numbers_together, ridges_as_many}

-- ---- places of an answer

two_places : (budget : ℕ) (a : Answer) → RankTwo budget a → PlacesIn a
two_places budget a r = record {
  below = λ e m place i.
      subst (λ (l : List (List Figure)). place.1 < length (get_or l place.0 [])) (sym r.possible)
      (only e (subst (λ (l : List Entry). Mem e l) r.entries m) place i);
}
  where
    one : (place : Pair) → Mem place (map (λ (v : ℕ). (v, 0)) (count_from 0 r.ends))
        → place.1 < length (get_or (map (λ (v : ℕ). vertex_ridge v ∷ []) (count_from 0 r.ends)) place.0 [])
    one place m =
        let q = of_map (λ (v : ℕ). (v, 0)) place (count_from 0 r.ends) m in
        let k = (of_count 0 r.ends q.0 q.1).1 in
        let n = count_length 0 r.ends in
        let a = ap (λ (x : Pair). x.0) q.2 in
        let b = ap (λ (x : Pair). x.1) q.2 in
        let s = ap length (map_at_holds {B =
        List Figure} (λ (v : ℕ). vertex_ridge v ∷ []) (count_from 0 r.ends) place.0 [] 0 (omega arith)) in
        omega arith

    only : (e : Entry) → Mem e (record {
      list = map (λ (v : ℕ). (v, 0)) (count_from 0 r.ends);
      before = map (λ (v : ℕ). (v, 0)) (count_from 0 r.ends);
      figure = dyad;
    } ∷ []) → (place : Pair)
        → Mem place e.list
        → place.1 < length (get_or (map (λ (v : ℕ). vertex_ridge v ∷ []) (count_from 0 r.ends)) place.0 [])
    only e (Memᴰ.head q) place i = one place (subst (λ (x : Entry). Mem place x.list) q i)
    only e (Memᴰ.tail m) place i = elim m [ ]

facets_at : (inner : List Inner) (a : ℕ)
    → length (get_or (map possible_facets inner) a []) ≡ get_or (map facet_number inner) a 0
facets_at [] a = refl
facets_at (i ∷ inner) zero = facets_many i
facets_at (i ∷ inner) (suc a) = facets_at inner a

more_places : (more : ℕ) (rules : Rules) (plane : Subspace) (points : List Vec) (rows : List Row) (a : Answer)
    → AnsweredCall more rules plane points rows a → PlacesIn a
unfolding finish entry_of
more_places more rules plane points rows a c = record {
  below = λ e m place i.
      let p = c.before in
      let r = entry_of_list rules p c.found c.is_found_holds e (subst (λ (x : Answer). Mem e x.entries) c.is m) in
      let splits : (i : Inner) → Mem i p.inner
      → SplitAnswer i.answer = λ i k. let inner = c.prepared.inner.each i k in
      split_answer more rules _ _ _ inner.budget i.answer inner.is in
      let inside = split_in_call p splits r.0 (found_facet rules p c.found c.is_found_holds r.0 r.1) place
      (subst (λ (x : Entry). Mem place x.list) r.2 i) in
      let s = facets_at p.inner place.0 in
      subst (λ (x : Answer). place.1 < length (get_or x.possible place.0 [])) (sym c.is) (omega arith);
}

pub places_in_holds : (more : ℕ) (rules : Rules) (plane : Subspace) (points : List Vec) (rows : List Row) (budget : ℕ)
    (a : Answer) → faceting more rules plane points rows budget ≡ answered a → PlacesIn a
places_in_holds zero rules plane points rows budget a e =
    two_places budget a (rank_two rules plane points rows budget a e)
places_in_holds (suc more) rules plane points rows budget a e =
    more_places more rules plane points rows a (answered_call more rules plane points rows budget a e)

-- ---- one number for a place

count_over : {A : Type 0} (counts : List ℕ) (lists : List (List A)) (a b : ℕ) → b < length (get_or lists a [])
    → get_or (counts_over counts (map length lists)) (number_over (map length lists) a b) 0 ≡ get_or counts a 0
unfolding counts_over number_over
count_over [] lists a b h = refl
count_over (c ∷ counts) [] a b h = absurd (omega arith)
count_over (c ∷ counts) (l ∷ lists) zero b h =
    let n = length-replicate (length l) c in
    get_or-append (replicate (length l) c) (counts_over counts (map length lists)) 0 b (omega arith)
    ∙ replicate_at (length l) c b 0 h
count_over (c ∷ counts) (l ∷ lists) (suc a) b h =
    let place = number_over (map length lists) a b in
    ap (λ (n : ℕ). get_or (replicate (length l) c ++ counts_over counts (map length lists)) (n + place) 0)
    (sym (length-replicate (length l) c))
    ∙ append_at (replicate (length l) c) (counts_over counts (map length lists)) place 0
    ∙ count_over counts lists a b h

-- ---- numbers together

map_with_alike : {A B C S : Type 0} (f : S → A → B × S) (says : B → C) (of : A → C)
    → ((s : S) (x : A) → says (f s x).0 ≡ of x) → (s : S) (l : List A) → map says (map_with f s l).0 ≡ map of l
unfolding map_with
map_with_alike f says of one s [] = refl
map_with_alike f says of one s (x ∷ l) =
    let first = one s x in
    let rest = map_with_alike f says of one (f s x).1 l in
    λ t. first t ∷ rest t

-- lists side by side, each item with its own
zip_alike : {A A' B B' C D : Type 0} (f : A → B → C) (g : A' → B' → C) (h : A → A') (k : B → B') (says : B → D)
    (of : A → D) (xs : List A) (ys : List B) → map says ys ≡ map of xs
    → ((x : A) → Mem x xs → (y : B) → says y ≡ of x → f x y ≡ g (h x) (k y))
    → zip_with f xs ys ≡ zip_with g (map h xs) (map k ys)
unfolding zip_with
zip_alike f g h k says of [] ys e same = refl
zip_alike f g h k says of (x ∷ xs) [] e same = refl
zip_alike {D = D} f g h k says of (x ∷ xs) (y ∷ ys) e same =
    let first = same x (here refl) y (ap (λ (l : List D). get_or l 0 (says y)) e) in
    let rest = zip_alike f g h k says of xs ys (ap (drop 1) e) (λ z m. same z (there m)) in
    λ t. first t ∷ rest t

-- ---- the table of keys kept by number

module _ {K F : Type 0} (c : K → K → Ordering) (send : (ℕ → ℕ) → K → K) (keys : Inner → List (List K))
    (facets : Inner → List F) (rows : List Row) where
  abbrev kept : Inner → KeptOrbit K F
  kept = keep_by send keys facets

  -- one orbit's ridges, list by list or all together
  abbrev orbit_lists : KnownKeys K → Inner → List (List ℕ) × KnownKeys K
  orbit_lists known i = map_with (map_with (number_key c send rows i.orbit.vertices)) known (keys i)

  numbers_lengths : (inner : List Inner) → map (map length) (number_keys c send rows keys (no_keys K) inner).0
      ≡ map (λ (i : Inner). map length (keys i)) inner
  unfolding number_keys
  numbers_lengths inner =
      map_with_alike orbit_lists (map length) (λ (i : Inner). map length (keys i))
      (λ known i. map_with_alike (map_with (number_key c send rows i.orbit.vertices)) length length (λ s l.
      map_with_length (number_key c send rows i.orbit.vertices) s l) known (keys i)) (no_keys K) inner

  -- a place's share, by its number
  share_over : (ridgeCounts : List ℕ) (i : Inner) (numbers : List (List ℕ)) → map length numbers ≡ map length (keys i)
      → (place : Pair) → place.1 < length (get_or numbers place.0 [])
      → share_of ridgeCounts i numbers place
      ≡ orbit_share ridgeCounts (kept i) (together numbers) (number_over (map length (keys i)) place.0 place.1)
  unfolding share_of orbit_share keep_by
  share_over ridgeCounts i numbers same place inside =
      let a = place.0 in
      let b = place.1 in
      let ridge : get_or (get_or numbers a []) b 0
      ≡ get_or (together numbers) (number_over (map length (keys i)) a b) 0 =
      sym (item_over numbers a b 0 inside)
      ∙ ap (λ (lengths : List ℕ). get_or (together numbers) (number_over lengths a b) 0) same in
      let count : get_or i.answer.counts a 0
      ≡ get_or (counts_over i.answer.counts (map length (keys i))) (number_over (map length (keys i)) a b) 0 =
      sym (count_over i.answer.counts numbers a b inside) ∙ ap (λ (lengths : List ℕ).
      get_or (counts_over i.answer.counts lengths) (number_over lengths a b) 0) same in
      λ t. (ridge t, i.orbit.count * count t / get_or ridgeCounts (ridge t) 0)

  shares_over : (ridgeCounts : List ℕ) (i : Inner) → PlacesIn i.answer → map length (keys i)
      ≡ map length i.answer.possible → (numbers : List (List ℕ)) → map length numbers ≡ map length (keys i)
      → facet_shares ridgeCounts i numbers ≡ orbit_shares ridgeCounts (kept i) (together numbers)
  unfolding facet_shares orbit_shares keep_by
  shares_over ridgeCounts i places as_many numbers same =
      let share = orbit_share ridgeCounts (kept i) (together numbers) in
      let number : Pair → ℕ = λ place. number_over (map length (keys i)) place.0 place.1 in
      let inside : (e : Entry) → Mem e i.answer.entries → (place : Pair) → Mem place e.list
      → place.1 < length (get_or numbers place.0 []) = λ e m place j.
      let k = places.below e m place j in
      let a = length_at i.answer.possible place.0 in
      let b = length_at numbers place.0 in
      let d = ap (λ (l : List ℕ). get_or l place.0 0) (same ∙ as_many) in
      omega arith in
      map_same (λ (e : Entry). map (share_of ridgeCounts i numbers) e.list)
      (λ (e : Entry). map share (map number e.list)) i.answer.entries
      (λ e m. map_same (share_of ridgeCounts i numbers) (λ (place : Pair). share (number place)) e.list (λ place j.
      share_over ridgeCounts i numbers same place (inside e m place j)) ∙ sym (map-map share number e.list))
      ∙ sym (map-map (map share) (λ (e : Entry). map number e.list) i.answer.entries)

  -- keys as many as ridges, and places that are facets: the table by numbers is the table by lists
  pub table_together : (inner : List Inner) → ((i : Inner) → Mem i inner → PlacesIn i.answer)
      → ((i : Inner) → Mem i inner → map length (keys i) ≡ map length i.answer.possible)
      → numbers_table inner (key_numbers c send rows keys inner) ≡ orbit_table c send rows (map kept inner)
  unfolding numbers_table key_numbers orbit_table
  table_together inner places as_many =
      let numbered = number_keys c send rows keys (no_keys K) inner in
      let ridgeCounts = numbered.1.counts in
      ap {B = Table} (λ (s : List (List (List Share))). record { shares = s; ridges = length ridgeCounts })
      (zip_alike (facet_shares ridgeCounts) (orbit_shares ridgeCounts) kept together (map length)
      (λ (i : Inner). map length (keys i)) inner numbered.0 (numbers_lengths inner)
      (λ i m numbers same. shares_over ridgeCounts i (places i m) (as_many i m) numbers same))
      ∙ ap {B = Table}
      (λ (x : List (List ℕ) × KnownKeys K). record {
        shares = zip_with (orbit_shares x.1.counts) (map kept inner) x.0;
        ridges = length x.1.counts;
      }) (sym (numbers_together c send keys facets rows inner))

-- ---- every rank from 3

module _ (more : ℕ) (rules : Rules) (plane : Subspace) (points : List Vec) (rows : List Row) (p : Prepared)
    (given : Given points rows)
    (made : Preparation more rules (faceting more rules) plane points rows p) where
  pub inner_places : (i : Inner) → Mem i p.inner → PlacesIn i.answer
  inner_places i m = let inner = made.inner.each i m in places_in_holds more rules _ _ _ inner.budget i.answer inner.is

  -- the table of a call, from what it keeps
  pub orbit_table_holds : table_for p
      ≡ orbit_table (compare_ridge more) (send_ridge more) rows (map (keep_orbit more) p.inner)
  unfolding table_for keep_orbit
  orbit_table_holds =
      table_of_numbers p.rows p.inner
      ∙ ap (numbers_table p.inner) (ridges_by_keys more rules plane points rows p given made)
      ∙ table_together (compare_ridge more) (send_ridge more) (ridges_read more) _ p.rows p.inner inner_places
      (λ i m. ridges_as_many more i)
      ∙ ap (λ (l : List Row).
      orbit_table (compare_ridge more) (send_ridge more) l (map (keep_orbit more) p.inner)) made.rows_are
