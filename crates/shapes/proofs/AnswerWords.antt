-- Theorems on the definitions of specs/AnswerWords.
use Rattle.std.specs.Prelude.{◌≡◌, refl, ◌⊎◌, take}
use Rattle.std.proofs.Math.Path.{sym, ap, subst}
use Rattle.std.proofs.Common.{◌∙◌, inl, inr, arith}
use mathlib.Core.List.{List, [], ◌∷◌, map, Memᴰ}
use Prim.Native.Nat.{ℕ, zero, suc, ◌+◌, ◌*◌, ◌/◌, ◌≤◌, ◌<◌, max}
use Rattle.std.proofs.Math.ListN.{length, get_or, length-map}
use Rattle.std.proofs.lemmas.List.{length-replicate}
use Rattle.definitions.specs.Lists.{Pair, count_from, compare_pair}
use Rattle.definitions.specs.Outcome.{answered}
use Rattle.definitions.specs.Vectors.{Vec}
use Rattle.definitions.specs.Subspace.{Subspace}
use Rattle.definitions.specs.Orbits.{Row}
use Rattle.definitions.specs.Figures.{Figure, Compound, dyad, move_ends, label_irc}
use Rattle.definitions.specs.Search.{Facet}
use Rattle.definitions.specs.Recursion.{Rules, Entry, Answer, Inner, vertex_ridge, rows_within}
use Rattle.definitions.specs.Faceting.{Way, faceting_with, Prepared, possible_facets, split, entry_of, finish, faceting}
use Rattle.definitions.specs.Job.{counted, figure_words, facet_words, entry_words, compound_words, summary_words}
use Rattle.definitions.specs.Job.{answer_words}
use Rattle.shapes.specs.AnswerSizes.{within_few}
use Rattle.laws.specs.Lists.{Mem, of_map, of_count, count_length, in_replicate}
use Rattle.laws.specs.Ascending.{Differ, Distinct}
use Rattle.laws.specs.Pairs.{pairs_map}
use Rattle.laws.specs.Ranges.{distinct_below}
use Rattle.shapes.specs.Answered.{facet_number, facet_sum, TakesSome, AnsweredCall, answered_with, answered_call}
use Rattle.shapes.specs.Answered.{made_orbit}
use Rattle.shapes.specs.Emitted.{entry_of_list, found_facet}
use Rattle.shapes.specs.LowRanks.{RankTwo, rank_two, inner_at, inner_at_member, facet_orbit, few_entries_holds}
use Rattle.shapes.specs.Compounds.{composed, compounds_ascend}
use Rattle.shapes.specs.Calls.{Given, inner_points, facet_rank, ShapedAnswer}
use Rattle.shapes.proofs.Calls.{inner_given, shaped_answer, answered_shaped}
use Rattle.shapes.specs.EntryFigures.{facets_many}
use Rattle.shapes.proofs.NestedCalls.{call_split, found_split_in_call}
use Rattle.shapes.specs.Sizes.{found_length}
use Rattle.shapes.proofs.Sizes.{split_length}
use Rattle.shapes.specs.FewElements.{sizes, Few, most_elements, inner_points_holds, possible_few}
use Rattle.shapes.proofs.CallOrbits.{call_orbit_counted}
use Rattle.shapes.proofs.FewElements.{step_few, few_elements, answered_few}
use Rattle.shapes.specs.FigureNumbers.{WordsBelow, none_below, more_below, joined_below, each_below, counted_below}
use Rattle.shapes.specs.FigureNumbers.{OnGround, ground_wider, ground_moved, ridge_ground, summary_below}
use Rattle.shapes.proofs.FigureNumbers.{figure_below}
use Rattle.shapes.specs.AnswerWords.{FacetsBelow, Measured, NumbersBelow, Under, call_ground, entries_ground}

-- ---- rank 2

two_numbers : (most budget : ℕ) (a : Answer) → 3 < most → RankTwo budget a → NumbersBelow most a
two_numbers most budget a h r = record {
  few_counts =
      let k = ap length r.counts in
      let n = length-replicate {A = ℕ} r.ends (2 / r.ends) in
      let b = few r.ends r.one_or_two_holds in
      omega arith;
  counts =
      λ c m. let q = in_replicate r.ends c (2 / r.ends) (subst (λ (l : List ℕ). Mem c l) r.counts m) in
      let b = half r.ends r.one_or_two_holds in omega arith;
  few_entries_holds = let k = ap length r.entries in omega arith;
  lists = λ x m. both_below x (subst (λ (l : List Entry). Mem x l) r.entries m);
  few_possible =
      λ fs m. let q = of_map (λ (v : ℕ). vertex_ridge v ∷ []) fs (count_from 0 r.ends)
      (subst (λ (l : List (List Figure)). Mem fs l) r.possible m) in let k = ap length q.2 in omega arith;
  few_compounds = let k = ap length r.compounds in omega arith;
  compounds = λ c m. none_in c (subst (λ (l : List Compound). Mem c l) r.compounds m);
}
  where
    few : (ends : ℕ) → (ends ≡ 1) ⊎ (ends ≡ 2) → ends ≤ 2
    few ends (inl e) = omega arith
    few ends (inr e) = omega arith

    half : (ends : ℕ) → (ends ≡ 1) ⊎ (ends ≡ 2) → 2 / ends ≤ 2
    half ends (inl e) = subst (λ (n : ℕ). 2 / n ≤ 2) (sym e) (omega arith)
    half ends (inr e) = subst (λ (n : ℕ). 2 / n ≤ 2) (sym e) (omega arith)

    list : List Pair
    list = map (λ (v : ℕ). (v, 0)) (count_from 0 r.ends)

    list_below : FacetsBelow most list
    list_below = record {
      few =
          let n = length-map {B = Pair} (count_from 0 r.ends) (λ (v : ℕ). (v, 0)) in
          let m = count_length 0 r.ends in
          let b = few r.ends r.one_or_two_holds in
          omega arith;
      items = λ g i.
          let o = of_map (λ (v : ℕ). (v, 0)) g (count_from 0 r.ends) i in
          let low = (of_count 0 r.ends o.0 o.1).1 in
          let b = few r.ends r.one_or_two_holds in
          let first = ap (λ (y : Facet). y.0) o.2 in
          let second = ap (λ (y : Facet). y.1) o.2 in
          (omega arith, omega arith);
    }

    both_below : (x : Entry) → Mem x (record { list = list; before = list; figure = dyad } ∷ [])
        → FacetsBelow most x.list × FacetsBelow most x.before
    both_below x (Memᴰ.head q) =
        subst (λ (y : Entry). FacetsBelow most y.list × FacetsBelow most y.before) (sym q) (list_below, list_below)
    both_below x (Memᴰ.tail m) = elim m [ ]

    none_in : (c : Compound) → Mem c [] → WordsBelow most (compound_words c)
    none_in c m = elim m [ ]

-- ---- above rank 2

-- an orbit's facets are no more than all
sum_above : (inner : List Inner) (i : Inner) → Mem i inner → facet_number i ≤ facet_sum inner
unfolding facet_sum
sum_above [] i x' = elim x' [ ]
sum_above (j ∷ inner) i (Memᴰ.head q) = let k = ap facet_number q in omega arith
sum_above (j ∷ inner) i (Memᴰ.tail m) = let k = sum_above inner i m in omega arith

-- compounds are no more than entries
compounds_few : (lists : List (List Pair)) → length (label_irc compare_pair lists) ≤ length lists
compounds_few lists =
    let wholes = map (λ (c : Compound). c.whole) (label_irc compare_pair lists) in
    let distinct : Distinct wholes =
    pairs_map (λ (c d : Compound). c.whole < d.whole) Differ (λ (c : Compound). c.whole)
    (label_irc compare_pair lists) (λ c i d j h e. omega arith) (compounds_ascend lists) in
    let few = distinct_below (length lists) wholes distinct (λ n m. let r =
    of_map (λ (c : Compound). c.whole) n (label_irc compare_pair lists) m in
    let b = (composed lists r.0 r.1).whole_below in let q = r.2 in omega arith) in
    let e = length-map (label_irc compare_pair lists) (λ (c : Compound). c.whole) in
    omega arith

module _ (most more : ℕ) (rules : Rules) (plane : Subspace) (points : List Vec) (rows : List Row) (a : Answer)
    (given : Given points rows) (c : AnsweredCall more rules plane points rows a)
    (under : Under most (suc more) rules.bounds (length points) (length rows)) where
  abbrev p : Prepared
  p = c.before

  few_inner : length p.inner < most
  few_inner = let o = under.orbits in omega (arith, c.prepared.few_orbits_holds)

  facets_below : (i : Inner) → Mem i p.inner → facet_number i < most
  facets_below i m = let s = sum_above p.inner i m in let f = under.facets in omega (arith, c.prepared.few_facets_holds)

  -- an orbit has no more sets than there are rows
  count_below : (i : Inner) → Mem i p.inner → i.orbit.count < most
  count_below i m =
      let k =
      (call_orbit_counted more rules plane points rows given.rows_good i.orbit (made_orbit c.prepared i m)).few in
      let r = under.few_rows in
      omega arith

  -- an entry is that of a list found
  from_list : (x : Entry) → Mem x a.entries → (l : List Facet) × Mem l c.found.lists × (x ≡ entry_of p l)
  unfolding finish
  from_list x i = entry_of_list rules p c.found c.is_found_holds x (subst (λ (y : Answer). Mem x y.entries) c.is i)

  -- a facet of the call
  facet_below : (g : Facet) → g.1 < get_or (map facet_number p.inner) g.0 0 → (g.0 < most) × (g.1 < most)
  facet_below g inside =
      let o = facet_orbit p.inner g inside in
      let low = o.0 in
      let part = o.1 in
      let few = facets_below (inner_at p.inner g.0) (inner_at_member p.inner g.0 low) in
      (omega (arith, few_inner), omega arith)

  -- the lists of an entry: a list found split, and that list
  list_below : (l : List Facet) → Mem l c.found.lists → FacetsBelow most (split p l) × FacetsBelow most l
  list_below l m = (
    record {
      few =
          let k = split_length rules p c.found c.is_found_holds
          (call_split more rules plane points rows p given c.prepared) l m in
          let f = under.facets in
          omega (arith, c.prepared.few_facets_holds);
      items =
          λ g j. facet_below g
          (found_split_in_call more rules plane points rows p given c.prepared c.found c.is_found_holds l m g j);
    },
    record {
      few = let k = found_length rules p c.found c.is_found_holds l m in omega (arith, few_inner);
      items = λ g j. facet_below g (found_facet rules p c.found c.is_found_holds l m g j);
    },
  )

  abbrev lists : List (List Pair)
  lists = map (λ (x : Entry). x.list) a.entries

  lists_below : length lists < most
  lists_below =
      let e = length-map a.entries (λ (x : Entry). x.list) in
      let k = few_entries_holds more rules plane points rows a c in
      let b = under.entries in
      omega arith

  are_compounds : a.compounds ≡ label_irc compare_pair lists
  unfolding finish
  are_compounds =
      ap (λ (y : Answer). y.compounds) c.is
      ∙ sym (ap (λ (y : Answer). label_irc compare_pair (map (λ (x : Entry). x.list) y.entries)) c.is)

  pub call_numbers : NumbersBelow most a
  unfolding finish entry_of compound_words
  call_numbers = record {
    few_counts =
        let k = ap (λ (y : Answer). length y.counts) c.is ∙ length-map p.inner (λ (i : Inner). i.orbit.count) in
        omega (arith, few_inner);
    counts = λ n m.
        let r = of_map (λ (i : Inner). i.orbit.count) n p.inner (subst (λ (y : Answer). Mem n y.counts) c.is m) in
        subst (λ (k : ℕ). k < most) (sym r.2) (count_below r.0 r.1);
    few_entries_holds =
        let k = few_entries_holds more rules plane points rows a c in
        let b = under.entries in
        omega arith;
    lists = λ x i.
        let r = from_list x i in
        subst (λ (y : Entry). FacetsBelow most y.list × FacetsBelow most y.before) (sym r.2) (list_below r.0 r.1);
    few_possible = λ fs m.
        let r = of_map possible_facets fs p.inner (subst (λ (y : Answer). Mem fs y.possible) c.is m) in
        let k = ap length r.2 ∙ facets_many r.0 in
        let f = facets_below r.0 r.1 in
        omega arith;
    few_compounds = let k = ap length are_compounds in let n = compounds_few lists in omega (arith, lists_below);
    compounds = λ d m.
        let r = composed lists d (subst (λ (l : List Compound). Mem d l) are_compounds m) in
        let w = r.whole_below in
        let f = r.behind in
        let s = r.second_below in
        more_below (omega (arith, lists_below))
        (more_below (omega (arith, lists_below)) (more_below (omega (arith, lists_below)) none_below));
  }

-- ---- the figures of an answer

-- all words of an answer, from what is counted and from its figures
pub answer_below : (most more n w budget : ℕ) (a : Answer) → ShapedAnswer n more a → Measured n w a
    → NumbersBelow most a → 3 + more < most → n < most → w < most → budget < most
    → WordsBelow most (answer_words budget a)
unfolding answer_words entry_words facet_words facet_rank
answer_below most more n w budget a shaped measured numbers ranks few_points elements few-budget =
    joined_below _
    (joined_below _
    (joined_below _
    (joined_below _ (more_below (omega arith) (counted_below (λ (count : ℕ). count ∷ []) a.counts numbers.few_counts
    (λ n i. more_below (numbers.counts n i) none_below)))
    (counted_below entry_words a.entries numbers.few_entries_holds (λ x i.
    joined_below _ (joined_below _ (facets x.list (numbers.lists x i).0) (facets x.before (numbers.lists x i).1))
    (own x i))))
    (each_below (counted figure_words) a.possible (λ fs i.
    counted_below figure_words fs (numbers.few_possible fs i) (λ f j. possible fs i f j))))
    (counted_below compound_words a.compounds numbers.few_compounds numbers.compounds))
    (each_below summary_words a.entries (λ x i.
    summary_below most n w (2 + more) x.figure (shaped.entries x i) (measured.entry_ground x i)
    (measured.entry_few x i) (omega arith) few_points elements x refl))
  where
    facets : (l : List Facet) → FacetsBelow most l → WordsBelow most (facet_words l)
    facets l b =
        counted_below (λ (item : Facet). item.0 ∷ item.1 ∷ []) l b.few
        (λ g j. let k = b.items g j in more_below k.0 (more_below k.1 none_below))

    own : (x : Entry) → Mem x a.entries → WordsBelow most (figure_words x.figure)
    own x i =
        figure_below most n w (2 + more) x.figure (shaped.entries x i) (measured.entry_ground x i)
        (measured.entry_few x i) (omega arith) few_points elements (omega arith)

    rank_few : (k : ℕ) → facet_rank k ≤ 2 + k
    rank_few zero = omega arith
    rank_few (suc k) = omega arith

    possible : (fs : List Figure) → Mem fs a.possible → (f : Figure) → Mem f fs → WordsBelow most (figure_words f)
    possible fs i f j =
        let r = rank_few more in
        figure_below most n w (facet_rank more) f (shaped.possible fs i f j) (measured.possible_ground fs i f j)
        (measured.possible_few fs i f j) (omega arith) few_points elements (omega arith)

-- ---- the figures of a call

two_possible : (P : Figure → Type 0) (budget : ℕ) (a : Answer) → RankTwo budget a → ((v : ℕ) → P (vertex_ridge v))
    → (fs : List Figure) → Mem fs a.possible → (f : Figure) → Mem f fs → P f
two_possible P budget a r h fs i f j =
    let q = of_map (λ (v : ℕ). vertex_ridge v ∷ []) fs (count_from 0 r.ends)
    (subst (λ (l : List (List Figure)). Mem fs l) r.possible i) in
    only q.0 (subst (λ (l : List Figure). Mem f l) q.2 j)
  where
    only : (v : ℕ) → Mem f (vertex_ridge v ∷ []) → P f
    only v (Memᴰ.head q) = subst P (sym q) (h v)
    only v (Memᴰ.tail m) = elim m [ ]

ridge_few : (w v : ℕ) → 1 ≤ w → Few w (vertex_ridge v)
unfolding vertex_ridge sizes
ridge_few w v h n (Memᴰ.head q) = omega arith
ridge_few w v h n (Memᴰ.tail m) = elim m [ ]

-- the possible facets of a call above rank 2, whose inner calls' entries have few elements
module _ (more w : ℕ) (rules : Rules) (plane : Subspace) (points : List Vec) (rows : List Row) (a : Answer)
    (given : Given points rows) (c : AnsweredCall more rules plane points rows a) where
  abbrev q : Prepared
  q = c.before

  facets_ground : (fs : List Figure) → Mem fs a.possible → (f : Figure) → Mem f fs → OnGround (length points) f
  unfolding finish possible_facets
  facets_ground fs m f k =
      let r = of_map possible_facets fs q.inner (subst (λ (y : Answer). Mem fs y.possible) c.is m) in
      let i = r.0 in
      let to : ℕ → ℕ = λ v. get_or i.orbit.vertices v 0 in
      let s = of_map (λ (e : Entry). move_ends to e.figure) f i.answer.entries
      (subst (λ (l : List Figure). Mem f l) r.2 k) in
      let inner = c.prepared.inner.each i r.1 in
      let its = inner_points plane points i in
      let own = entries_ground more rules _ its (rows_within i.orbit.vertices rows) inner.budget i.answer
      (inner_given more rules (faceting more rules) plane points rows q c.prepared given.rows_good i r.1) inner.is s.0
      s.1 in
      subst (OnGround (length points)) (sym s.2)
      (ground_moved (length points) to s.0.figure (ground_wider (length its) (length points) (take 2 s.0.figure)
      (inner_points_holds more rules plane points rows q c.prepared i r.1) own))

  facets_few : ((i : Inner) → Mem i q.inner → (e : Entry) → Mem e i.answer.entries → Few w e.figure)
      → (fs : List Figure) → Mem fs a.possible → (f : Figure) → Mem f fs → Few w f
  unfolding finish
  facets_few inner_few fs m f k =
      let r = of_map possible_facets fs q.inner (subst (λ (y : Answer). Mem fs y.possible) c.is m) in
      possible_few q w inner_few r.0 r.1 f (subst (λ (l : List Figure). Mem f l) r.2 k)

-- ---- the words of a call, at every rank

few_more : (v w : ℕ) (f : Figure) → v ≤ w → Few v f → Few w f
few_more v w f h k n m = let j = k n m in omega arith

-- where its entries and its inner calls' entries have at most so many elements in a rank; `spent` is the number from
-- which what is left is taken, the budget of the call or any other
pub call_words : (most more w : ℕ) (rules : Rules) (plane : Subspace) (points : List Vec) (rows : List Row)
    (a : Answer) → Given points rows
    → (c : AnsweredCall more rules plane points rows a)
    → Under most (suc more) rules.bounds (length points) (length rows) → w < most
    → ((x : Entry) → Mem x a.entries → Few w x.figure)
    → ((i : Inner) → Mem i c.before.inner → (x : Entry) → Mem x i.answer.entries → Few w x.figure)
    → (spent : ℕ) → spent < most → WordsBelow most (answer_words spent a)
call_words most more w rules plane points rows a given c under elements few inner_few spent few-spent =
    answer_below most (suc more) (length points) w spent a (answered_shaped more rules plane points rows a given c)
    (record {
      entry_ground = call_ground more rules plane points rows a given c;
      entry_few = few;
      possible_ground = facets_ground more w rules plane points rows a given c;
      possible_few = facets_few more w rules plane points rows a given c inner_few;
    }) (call_numbers most more rules plane points rows a given c under) under.ranks under.few_points elements few-spent

-- where the inner calls' entries have at most v: so few that a further rank times as many fit
pub words_from_inner : (most more v : ℕ) (rules : Rules) (plane : Subspace) (points : List Vec) (rows : List Row)
    (a : Answer) → Given points rows
    → (c : AnsweredCall more rules plane points rows a)
    → Under most (suc more) rules.bounds (length points) (length rows)
    → v < most → length rows * rules.bounds.facets * v < most
    → ((i : Inner) → Mem i c.before.inner → (x : Entry) → Mem x i.answer.entries → Few v x.figure)
    → (spent : ℕ) → spent < most → WordsBelow most (answer_words spent a)
words_from_inner most more v rules plane points rows a given c under small product inner_few =
    let own = max 1 (length rows * rules.bounds.facets * v) in
    let ranks = under.ranks in
    call_words most more (max own v) rules plane points rows a given c under (omega arith)
    (λ x i. few_more own (max own v) x.figure (omega arith) (step_few more (length rows) rules.bounds.facets v rules
    plane points rows a given (omega arith) (omega arith) c inner_few x i))
    (λ j m x i. few_more v (max own v) x.figure (omega arith) (inner_few j m x i))

-- and where these numbers are the computed ones
module _ (most n r f : ℕ) (rules : Rules) (few_facets_holds : rules.bounds.facets ≤ f) where
  -- of an answered call above rank 2
  answered_words : (more : ℕ) (plane : Subspace) (points : List Vec) (rows : List Row) (a : Answer)
      → Given points rows → length points ≤ n → length rows ≤ r
      → AnsweredCall more rules plane points rows a → Under most (suc more) rules.bounds (length points) (length rows)
      → ((k : ℕ) → k ≤ suc more → most_elements n r f k < most)
      → (spent : ℕ) → spent < most → WordsBelow most (answer_words spent a)
  answered_words more plane points rows a given h k c under small spent few-spent =
      let p = c.before in
      let own = most_elements n r f (suc more) in
      let inner = most_elements n r f more in
      let own_small = small (suc more) (omega arith) in
      let inner_small = small more (omega arith) in
      call_words most more (max own inner) rules plane points rows a given c under (omega arith)
      (λ x i. few_more own (max own inner) x.figure (omega arith)
      (answered_few rules n r f few_facets_holds more plane points rows a given h k c x i))
      (λ j m x i.
      let call = c.prepared.inner.each j m in
      let its = inner_points_holds more rules plane points rows p c.prepared j m in
      let rows_of_lem = within_few j.orbit.vertices rows in
      few_more inner (max own inner) x.figure (omega arith)
      (few_elements rules n r f few_facets_holds more _ (inner_points plane points j)
      (rows_within j.orbit.vertices rows) call.budget j.answer
      (inner_given more rules (faceting more rules) plane points rows p c.prepared given.rows_good j m) (omega arith)
      (omega arith) call.is x i))
      spent few-spent

  pub words_below : (more : ℕ) (plane : Subspace) (points : List Vec) (rows : List Row) (budget : ℕ) (a : Answer)
      → Given points rows → length points ≤ n → length rows ≤ r
      → faceting more rules plane points rows budget ≡ answered a
      → Under most more rules.bounds (length points) (length rows)
      → ((k : ℕ) → k ≤ more → most_elements n r f k < most)
      → (spent : ℕ) → spent < most → WordsBelow most (answer_words spent a)
  unfolding most_elements
  words_below zero plane points rows budget a given h k e under small spent few-spent =
      let two = rank_two rules plane points rows budget a e in
      let some-points = given.two in
      let ranks = under.ranks in
      answer_below most 0 (length points) 1 spent a (shaped_answer 0 rules plane points rows budget a given e)
      (record {
        entry_ground = entries_ground 0 rules plane points rows budget a given e;
        entry_few = few_elements rules n r f few_facets_holds 0 plane points rows budget a given h k e;
        possible_ground =
            two_possible (OnGround (length points)) budget a two (λ v. ridge_ground (length points) v (omega arith));
        possible_few = two_possible (Few 1) budget a two (λ v. ridge_few 1 v (omega arith));
      }) (two_numbers most budget a (omega arith) two) (omega arith) under.few_points (omega arith) few-spent
  words_below (suc more) plane points rows budget a given h k e under small spent few-spent =
      answered_words more plane points rows a given h k
      (answered_call more rules plane points rows budget a e) under small spent few-spent

  -- with a package or without
  pub words_below_with : (way : Way) → TakesSome way
      → (more : ℕ) (plane : Subspace) (points : List Vec) (rows : List Row) (budget : ℕ) (a : Answer)
      → Given points rows → length points ≤ n → length rows ≤ r
      → faceting_with way more rules plane points rows budget ≡ answered a
      → Under most more rules.bounds (length points) (length rows)
      → ((k : ℕ) → k ≤ more → most_elements n r f k < most)
      → (spent : ℕ) → spent < most → WordsBelow most (answer_words spent a)
  unfolding faceting_with faceting
  words_below_with way takes zero plane points rows budget a given h k e under small =
      words_below zero plane points rows budget a given h k e under small
  words_below_with way takes (suc more) plane points rows budget a given h k e under small =
      answered_words more plane points rows a given h k
      (answered_with way takes more rules plane points rows budget a e) under small
