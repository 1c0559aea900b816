-- Theorems on the definitions of specs/KeptOrbitSizes.
use Rattle.std.specs.Prelude.{◌≡◌, refl, ◌⊎◌, replicate}
use Rattle.std.proofs.Math.Path.{sym, ap, subst}
use Rattle.std.proofs.Common.{◌∙◌, inl, inr, length-append}
use mathlib.Core.List.{List, [], ◌∷◌, map, flat_map}
use Prim.Native.Nat.{ℕ, ◌<◌, compare}
use native.Mathlib.Omega.{arith}
use Rattle.std.proofs.Math.ListN.{length, get_or, length-map}
use Rattle.std.proofs.lemmas.List.{length-replicate}
use Rattle.definitions.specs.Lists.{Pair}
use Rattle.definitions.specs.Vectors.{Vec}
use Rattle.definitions.specs.Subspace.{Subspace}
use Rattle.definitions.specs.Orbits.{Row}
use Rattle.definitions.specs.Recursion.{Rules, Entry, Inner, rows_within, no_ridges, number_ridges}
use Rattle.definitions.specs.Faceting.{Prepared, possible_facets, faceting}
use Rattle.laws.specs.Lists.{Mem, here, there, in_map, of_map, in_append, in_replicate}
use Rattle.laws.specs.Orders.{nats}
use Rattle.laws.specs.Pairs.{pairs_map}
use Rattle.laws.specs.Ascending.{Differ, Distinct, ascends_distinct}
use Rattle.laws.specs.Ranges.{distinct_below}
use Rattle.shapes.specs.Answered.{Preparation}
use Rattle.shapes.specs.Calls.{Given, inner_points, inner_set, inner_enough}
use Rattle.shapes.proofs.Calls.{inner_given}
use Rattle.shapes.specs.SplitCalls.{lists_of}
use Rattle.shapes.proofs.RidgeCounts.{call_ridges}
use Rattle.shapes.specs.AnswerSizes.{within_few, AnswerCounted}
use Rattle.shapes.proofs.AnswerSizes.{call_counted, answer_counted}
use Rattle.shapes.specs.Ridges.{KnownKeys, no_keys, number_keys, ridge_numbers, key_numbers}
use Rattle.shapes.specs.Nested.{Nested, NestedSet}
use Rattle.shapes.specs.NestedFigures.{read_nested, nested_read}
use Rattle.shapes.specs.NestedCalls.{Ridge, RidgeOn, entry_points, facets_many}
use Rattle.shapes.proofs.NestedCalls.{call_split, possible_nested}
use Rattle.shapes.specs.RidgeKeys.{compare_ridge, send_ridge, ridges_read}
use Rattle.shapes.proofs.RidgeKeys.{ridges_keyed, ridges_on, ridges_by_keys}
use Rattle.shapes.specs.KeptOrbits.{KeptOrbit, number_over, counts_over, together, keep_by, keep_orbit, orbit_numbers}
use Rattle.shapes.specs.KeptOrbitTable.{ridges_as_many, length_at, of_together, numbers_together}
use Rattle.shapes.proofs.KeptOrbitTable.{inner_places}
use Rattle.shapes.specs.KeptOrbitSizes.{OrbitRidges, OrbitSized, number_apart, number_below}

-- ---- one number for a place

counts_many : {A : Type 0} (counts : List ℕ) (lists : List (List A)) → length lists ≡ length counts
    → length (counts_over counts (map length lists)) ≡ length (together lists)
unfolding counts_over together flat_map
counts_many [] [] e = refl
counts_many [] (l ∷ lists) e = absurd (omega arith)
counts_many (c ∷ counts) [] e = absurd (omega arith)
counts_many (c ∷ counts) (l ∷ lists) e =
    let r = counts_many counts lists (omega arith) in
    let a = length-append (replicate (length l) c) (counts_over counts (map length lists)) in
    let b = length-replicate (length l) c in
    let d = length-append l (together lists) in
    omega arith

of_counts : (counts lengths : List ℕ) (x : ℕ) → Mem x (counts_over counts lengths) → Mem x counts
unfolding counts_over
of_counts [] lengths x m = elim m [ ]
of_counts (c ∷ counts) [] x m = elim m [ ]
of_counts (c ∷ counts) (l ∷ lengths) x m =
    go (in_append x (replicate l c) (counts_over counts lengths) m) (of_counts counts lengths x)
  where
    go : Mem x (replicate l c) ⊎ Mem x (counts_over counts lengths)
        → (Mem x (counts_over counts lengths) → Mem x counts) → Mem x (c ∷ counts)
    go (inl i) later = here (in_replicate l x c i)
    go (inr i) later = there (later i)

-- ---- what is kept of an orbit

module _ (more : ℕ) (rules : Rules) (plane : Subspace) (points : List Vec) (rows : List Row) (p : Prepared)
    (given : Given points rows)
    (made : Preparation more rules (faceting more rules) plane points rows p) where
  abbrev n : ℕ
  n = length points

  inner_counts : (i : Inner) → Mem i p.inner → AnswerCounted (rows_within i.orbit.vertices rows) i.answer
  inner_counts i m =
      let inner = made.inner.each i m in
      answer_counted more rules _ (inner_points plane points i)
      (rows_within i.orbit.vertices rows) inner.budget i.answer
      (inner_given more rules (faceting more rules) plane points rows p made given.rows_good i m) inner.is

  -- the places of an entry, among the ridges that were read
  place_inside : (i : Inner) → Mem i p.inner → (e : Entry) → Mem e i.answer.entries → (place : Pair)
      → Mem place e.list → place.1 < length (get_or (ridges_read more i) place.0 [])
  place_inside i m e j place l =
      let b = (inner_places more rules plane points rows p given made i m).below e j place l in
      let r = length_at i.answer.possible place.0 in
      let s = length_at (ridges_read more i) place.0 in
      let d = ap (λ (x : List ℕ). get_or x place.0 0) (ridges_as_many more i) in
      omega arith

  inner_orbit_sized : (i : Inner) → Mem i p.inner → OrbitSized more n rows (keep_orbit more i)
  unfolding keep_orbit keep_by possible_facets
  inner_orbit_sized i m =
      let keys = ridges_read more i in
      let to : ℕ → ℕ = λ v. get_or i.orbit.vertices v 0 in
      let set = inner_set more rules (faceting more rules) plane points rows p made i m in
      let splits = call_split more rules plane points rows p given made i m in
      let counts = inner_counts i m in
      let of-keys = ridges_on more rules plane points rows p given made in
      let within = within_few i.orbit.vertices rows in
      let number : Pair → ℕ = λ place. number_over (map length keys) place.0 place.1 in
      let listed : Entry → List ℕ = λ e. map number e.list in
      let sent = length-map (together keys) (send_ridge more to) in
      let same : length keys ≡ length i.answer.counts = sym (length-map keys length)
      ∙ ap length (ridges_as_many more i) ∙ length-map i.answer.possible length ∙ counts.possible_many in
      let many = counts_many i.answer.counts keys same in
      let entries_many : length (map listed i.answer.entries)
      ≡ length i.answer.entries = length-map i.answer.entries listed in
      let lists_many : length (lists_of i.answer)
      ≡ length i.answer.entries = length-map i.answer.entries (λ (e : Entry). e.list) in
      record {
        vertices = set;
        few_vertices =
            distinct_below n i.orbit.vertices (ascends_distinct compare nats i.orbit.vertices set.ascends) set.below;
        some_vertices = inner_enough more rules (faceting more rules) plane points rows p made i m;
        counted = call_counted more rules plane points rows p made given i m;
        ridges_on = λ r j.
            let q = of_map (send_ridge more to) r (together keys) j in
            let w = of_together q.0 keys q.1 in
            subst (λ (k : ℕ). RidgeOn k more r) made.points_are
            (subst (RidgeOn p.points more) (sym q.2)
            ((ridges_keyed more).sent (length i.orbit.vertices) p.points to (of-keys.sets_move i m) q.0
            (of-keys.on i m w.0 w.1 q.0 w.2)));
        ridges_many = omega arith;
        inner_counted =
            λ c j. let r = counts.counted c (of_counts i.answer.counts (map length keys) c j) in let b = r.few in
            record { some_set = r.some_set; few = omega arith };
        places_below = λ l j a k.
            let r = of_map listed l i.answer.entries j in
            let q = of_map number a r.0.list (subst (λ (x : List ℕ). Mem a x) r.2 k) in
            let b = number_below keys q.0.0 q.0.1 (place_inside i m r.0 r.1 q.0 q.1) in
            let s = q.2 in
            omega arith;
        places_some = λ l j.
            let r = of_map listed l i.answer.entries j in
            let s = ap length r.2 ∙ length-map r.0.list number in
            let b = splits.some_items r.0.list (in_map (λ (e : Entry). e.list) r.0 i.answer.entries r.1) in
            omega arith;
        places_distinct = λ l j.
            let r = of_map listed l i.answer.entries j in
            subst Distinct (sym r.2)
            (pairs_map Differ Differ number r.0.list
            (λ x u y v d e.
            let w =
            number_apart keys x.0 x.1 y.0 y.1 (place_inside i m r.0 r.1 x u) (place_inside i m r.0 r.1 y v) e in
            d (λ t. (w.0 t, w.1 t)))
            (splits.distinct r.0.list (in_map (λ (e : Entry). e.list) r.0 i.answer.entries r.1)));
        facets_many = length-map (possible_facets i) (read_nested more) ∙ facets_many i ∙ sym entries_many;
        facets_sets = λ x j.
            let r = of_map (read_nested more) x (possible_facets i) j in
            let g = possible_nested more rules plane points rows p given made i m r.0 r.1 in
            let is : x ≡ g.0 = r.2 ∙ ap (read_nested more) g.1
            ∙ nested_read p.points (entry_points more (length i.orbit.vertices)) more g.0 g.2 in
            subst (λ (k : ℕ). NestedSet k more x) made.points_are (subst (NestedSet p.points more) (sym is) g.2);
        compounds_below = λ c j.
            let r = splits.compounds c j in
            let a = r.whole_below in
            let b = r.second_below in
            (omega arith, r.behind, omega arith);
      }

  pub orbit_sized : (k : KeptOrbit (Ridge more) (Nested more)) → Mem k (map (keep_orbit more) p.inner)
      → OrbitSized more (length points) rows k
  orbit_sized k m =
      let r = of_map (keep_orbit more) k p.inner m in
      subst (OrbitSized more n rows) (sym r.2) (inner_orbit_sized r.0 r.1)

-- ---- ridge orbits

pub orbit_ridges : (more : ℕ) (rules : Rules) (plane : Subspace) (points : List Vec) (rows : List Row) (p : Prepared)
    → Given points rows
    → Preparation more rules (faceting more rules) plane points rows p
    → OrbitRidges more rows (map (keep_orbit more) p.inner)
unfolding key_numbers ridge_numbers keep_orbit
orbit_ridges more rules plane points rows p given made =
    let c = compare_ridge more in
    let send = send_ridge more in
    let inner = p.inner in
    let numbered = number_keys c send p.rows (ridges_read more) (no_keys (Ridge more)) inner in
    let same = numbers_together c send (ridges_read more)
    (λ (i : Inner). map (read_nested more) (possible_facets i)) p.rows inner in
    let keyed = ridges_by_keys more rules plane points rows p given made in
    let all = call_ridges more rules plane points rows p given made in
    let lists : (orbit_numbers c send p.rows (map (keep_orbit more) inner)).0
    ≡ map together numbered.0 = ap (λ (x : List (List ℕ) × KnownKeys (Ridge more)). x.0) same in
    let counts : (number_ridges p.rows no_ridges inner).1.counts
    ≡ (orbit_numbers c send p.rows (map (keep_orbit more) inner)).1.counts =
    ap (λ (x : List (List (List ℕ)) × List ℕ). x.1) keyed
    ∙ sym (ap (λ (x : List (List ℕ) × KnownKeys (Ridge more)). x.1.counts) same) in
    subst (λ (l : List Row). OrbitRidges more l (map (keep_orbit more) inner)) made.rows_are (record {
      below = λ l m number j.
          let r = of_map together l numbered.0 (subst (λ (x : List (List ℕ)). Mem l x) lists m) in
          let q = of_together number r.0 (subst (λ (x : List ℕ). Mem number x) r.2 j) in
          subst (λ (cs : List ℕ). number < length cs) counts
          (all.numbers r.0 (subst (λ (x : List (List (List ℕ))). Mem r.0 x)
          (sym (ap (λ (x : List (List (List ℕ)) × List ℕ). x.0) keyed)) r.1) q.0 q.1 number q.2);
      counted = λ x m. all.counts x (subst (λ (cs : List ℕ). Mem x cs) (sym counts) m);
    })
