-- The orbits of the workspace, one counted or moved after another: its first 2,048 bytes hold the orbits, and the marks
-- lie behind. Leans on Counts and Agreement, and on the workspace of the orbits.
use mathlib.Core.Path.{◌≡◌, refl, sym, ap, subst, ◌∙◌}
use mathlib.Core.Bool.{Bool, true, false, cond}
use mathlib.Core.List.{List, [], ◌∷◌, ◌++◌, map, append-nil}
use mathlib.Core.Logic.{◌⊎◌, inl, inr}
use Prim.Native.Nat.{ℕ, zero, suc, ◌+◌, ◌*◌, ◌-◌, ◌≤◌, ◌<◌}
use native.Mathlib.Nat.{mul-le-mul}
use native.Mathlib.Omega.{arith}
use native.Mathlib.Numerals.{add-one}
use borrow.Author.Tests.{le-leb, lt-leb}
use lib.Dec.{leb}
use lib.ListN.{length, get_or, take, drop, replicate, length-drop, get_or-append}
use lib.Seq.{take_all, get_or_at}
use Rattle.std.specs.List.{copy_within}
use Rattle.std.proofs.Common.{append_assoc, drop-drop}
use Rattle.definitions.specs.Lists.{Pair, keep}
use Rattle.definitions.specs.Orbits.{Row, set_image}
use Rattle.definitions.specs.Job.{little, number_at}
use Rattle.definitions.specs.Noble.{kept_by}
use Rattle.laws.specs.Parts.{length_rows}
use Rattle.laws.specs.Merging.{moved}
use Rattle.laws.specs.Segments.{le_or_lt, part, placed, part_length, part_part, part_placed, part_placed_off}
use Rattle.laws.specs.Segments.{take_placed, drop_placed, placed_length}
use Rattle.laws.specs.Sets.{set_number, vertices_of}
use Rattle.words.specs.Words.{words, words_length, number_at_take}
use Rattle.sorted.specs.Ascending.{Ascending}
use Rattle.rows.specs.Rows.{rows_in, row_at}
use Rattle.orbits.specs.Numbers.{orbit_of}
use Rattle.orbits.specs.Workspace.{orbits_in, orbits_room, orbits_length, orbits_front}
use Rattle.orbits.specs.Answers.{rows_permute}
use Rattle.tallies.specs.Marks.{latest, TalliesBelow}
use Rattle.tallies.specs.Counts.{Counted, count_one, count_all, count_more, none_counted, pair_key, sum_by, keeps_pair}
use Rattle.tallies.specs.Counts.{keep_pairs, most_weight, CountFits, none_fits, one_fits, all_fit}
use Rattle.tallies.specs.Agreement.{kept_are}
use Rattle.tallies.specs.Meaning.{PackageFits, package_in, counted_in, TallyFits, WeightsFit, key_set}
use Rattle.tallies.specs.declared.Package.{Package}

-- ---- the part behind the orbits, lent and given back

pub lent : (ws : List ℕ) → 2048 ≤ length ws → take (length ws - 2048) (drop 2048 ws) ≡ drop 2048 ws
lent ws h = take_all (length ws - 2048) (drop 2048 ws) (omega (arith, length-drop 2048 ws))

abbrev pub given_back : List ℕ → List ℕ → List ℕ
given_back ws p = placed 2048 (length ws - 2048) ws p

module _ (ws p : List ℕ) (h : 2048 ≤ length ws)
    (long : length p ≡ length (take (length ws - 2048) (drop 2048 ws))) where
  part_long : length p ≡ length ws - 2048
  part_long = long ∙ ap length (lent ws h) ∙ length-drop 2048 ws

  pub back_long : length (given_back ws p) ≡ length ws
  back_long = placed_length 2048 (length ws - 2048) ws p (omega arith) part_long

  pub back_front : take 2048 (given_back ws p) ≡ take 2048 ws
  back_front = take_placed 2048 (length ws - 2048) ws p 2048 h (omega arith)

  pub back_behind : drop 2048 (given_back ws p) ≡ p
  back_behind =
      let l = back_long in
      sym (lent (given_back ws p) (omega arith)) ∙ (ap (λ (k : ℕ). take (k - 2048) (drop 2048 (given_back ws p))) l
      ∙ part_placed 2048 (length ws - 2048) ws p h part_long)

-- ---- orbits

abbrev pub orbit_at : List ℕ → ℕ → Pair
orbit_at ws i = (number_at ws (8 * i) 4, number_at ws (8 * i + 4) 4)

pub orbits_more : (ws : List ℕ) (i : ℕ) → orbits_in ws (i + 1) ≡ orbits_in ws i ++ (orbit_at ws i ∷ [])
unfolding orbits_in
orbits_more ws i = ap (orbits_in ws) (add-one i)

orbit_at_holds : (ws : List ℕ) (n i : ℕ) → i < n → get_or (orbits_in ws n) i (0, 0) ≡ orbit_at ws i
unfolding orbits_in
orbit_at_holds ws zero i h = absurd (omega arith)
orbit_at_holds ws (suc n) i h = go (le_or_lt n i) (λ q. orbit_at_holds ws n i q)
  where
    go : (n ≤ i) ⊎ (i < n) → (i < n → get_or (orbits_in ws n) i (0, 0) ≡ orbit_at ws i)
        → get_or (orbits_in ws n ++ (orbit_at ws n ∷ [])) i (0, 0) ≡ orbit_at ws i
    go (inr q) ih =
        get_or-append (orbits_in ws n) (orbit_at ws n ∷ []) (0, 0) i (omega (arith, orbits_length ws n)) ∙ ih q
    go (inl q) ih =
        let e : i ≡ n = omega arith in
        rw e (get_or_at (orbits_in ws n) (orbit_at ws n) [] (0, 0) n (orbits_length ws n))

pub same_front : (ws v : List ℕ) (n : ℕ) → n ≤ 256 → take 2048 ws ≡ take 2048 v → orbits_in ws n ≡ orbits_in v n
same_front ws v n h e =
    sym (orbits_front ws 2048 n (omega arith))
    ∙ (ap (λ (l : List ℕ). orbits_in l n) e ∙ orbits_front v 2048 n (omega arith))

same_number : (ws v : List ℕ) (at : ℕ) → at + 4 ≤ 2048 → take 2048 ws ≡ take 2048 v
    → number_at ws at 4 ≡ number_at v at 4
same_number ws v at h e =
    sym (number_at_take ws 2048 at 4 h) ∙ (ap (λ (l : List ℕ). number_at l at 4) e ∙ number_at_take v 2048 at 4 h)

-- an orbit's bytes at another place
pub orbit_moved : (ws : List ℕ) (from to : ℕ)
    → copy_within ws (8 * from) (8 * from + 8) (8 * to) ≡ placed (8 * to) 8 ws (part (8 * from) 8 ws)
orbit_moved ws from to =
    moved ws (8 * from) 8 (8 * to)
    ∙ (append_assoc (take (8 * to) ws) (part (8 * from) 8 ws) (drop (8 * to + 8) ws)
    ∙ ap (λ (l : List ℕ). take (8 * to) ws ++ (part (8 * from) 8 ws ++ l)) (sym (drop-drop 8 (8 * to) ws)))

-- a number of it there
moved_number : (ws : List ℕ) (from to b : ℕ) → b + 4 ≤ 8 → 8 * from + 8 ≤ length ws → 8 * to ≤ length ws
    → number_at (placed (8 * to) 8 ws (part (8 * from) 8 ws)) (8 * to + b) 4 ≡ number_at ws (8 * from + b) 4
unfolding number_at
moved_number ws from to b h there here =
    let orbit = part (8 * from) 8 ws in
    let same = part_placed (8 * to) 8 ws orbit here (part_length (8 * from) 8 ws there) in
    ap little (sym (part_part b 4 (8 * to) 8 (placed (8 * to) 8 ws orbit) h)
    ∙ (ap (part b 4) same ∙ part_part b 4 (8 * from) 8 ws h))

-- a number elsewhere
kept_number : (ws : List ℕ) (from to at : ℕ) → 8 * from + 8 ≤ length ws → 8 * to ≤ length ws → 8 * to + 8 ≤ at
    → number_at (placed (8 * to) 8 ws (part (8 * from) 8 ws)) at 4 ≡ number_at ws at 4
unfolding number_at
kept_number ws from to at there here off =
    ap little
    (part_placed_off (8 * to) 8 ws (part (8 * from) 8 ws) at 4 here (part_length (8 * from) 8 ws there) (inr off))

pair_same : {a b c d : ℕ} → a ≡ b → c ≡ d → ◌≡◌ {A = Pair} (a, c) (b, d)
pair_same p q = rw (p, q) refl

moved_at : (ws : List ℕ) (from to : ℕ) → 8 * from + 8 ≤ length ws → 8 * to ≤ length ws
    → orbit_at (placed (8 * to) 8 ws (part (8 * from) 8 ws)) to ≡ orbit_at ws from
moved_at ws from to there here =
    let z : 8 * to + 0 ≡ 8 * to = omega arith in
    let y : 8 * from + 0 ≡ 8 * from = omega arith in
    let first = moved_number ws from to 0 (omega arith) there here in
    pair_same (rw (z, y) at first) (moved_number ws from to 4 (omega arith) there here)

-- count × orbit size
pub weight_small : (count size : ℕ) → count ≤ 65535 → size < 4294967296 → count * size ≤ most_weight
weight_small count size h g = let k : size ≤ 4294967295 = omega arith in let m = mul-le-mul h k in omega arith

-- ---- so many orbits counted

pub record TalliedTo (n count : ℕ) (globals : Row) (g : ℕ) (rows : List Row) (ws₀ : List ℕ) (i known tallies : ℕ)
    (ws images sums : List ℕ) : Type 0 where
  pub long : length ws ≡ length ws₀
  pub front : take 2048 ws ≡ take 2048 ws₀
  pub fits : CountFits i (counted_in known tallies (drop 2048 ws) images sums)
  pub counted : counted_in known tallies (drop 2048 ws) images sums
      ≡ count_all n globals g rows count none_counted (orbits_in ws₀ i)
  pub light : (j : ℕ) → j < i → count * number_at ws₀ (8 * j + 4) 4 ≤ most_weight

module _ (n count : ℕ) (globals : Row) (g : ℕ) (rows : List Row) (ws₀ : List ℕ) (some_row : 0 < length rows)
    (few_rows : length rows ≤ 120) (room : orbits_room ≤ length ws₀) where
  none_held : (images sums : List ℕ) → images ≡ replicate 256 0 → sums ≡ replicate 256 0
      → counted_in 0 0 (drop 2048 ws₀) images sums ≡ none_counted
  unfolding counted_in none_counted words
  none_held images sums a b = rw (a, b) refl

  pub tallied_start : (images sums : List ℕ) → images ≡ replicate 256 0 → sums ≡ replicate 256 0
      → TalliedTo n count globals g rows ws₀ 0 0 0 ws₀ images sums
  unfolding count_all orbits_in
  tallied_start images sums a b = record {
    long = refl;
    front = refl;
    fits = rw (none_held images sums a b) none_fits;
    counted = none_held images sums a b;
    light = λ j h. absurd (omega arith);
  }

  module _ (i known tallies : ℕ) (ws images sums : List ℕ)
      (t : TalliedTo n count globals g rows ws₀ i known tallies ws images sums) (free : i < 256) where
    long_enough : 2048 ≤ length ws
    long_enough = omega (arith, t.long)

    pub lent_fits : TallyFits known tallies (take (length ws - 2048) (drop 2048 ws)) images sums
    lent_fits =
        subst (λ (l : List ℕ). TallyFits known tallies l images sums) (sym (lent ws long_enough))
        (record {
          long = omega (arith, length-drop 2048 ws, t.long);
          ready = record { done = i; fits = t.fits; free = free };
        })

    module _ (set size key weight : ℕ) (is_set : set ≡ number_at ws (8 * i) 4)
        (is-size : size ≡ number_at ws (8 * i + 4) 4)
        (is_key : key ≡ set_number (set_image (vertices_of n set) globals)) (is-weight : weight ≡ count * size)
        (small : weight ≤ most_weight) where
      same_key : key ≡ pair_key n globals (orbit_at ws₀ i)
      unfolding pair_key
      same_key =
          is_key ∙ ap (λ (x : ℕ). set_number (set_image (vertices_of n x) globals))
          (is_set ∙ same_number ws ws₀ (8 * i) (omega arith) t.front)

      same_weight : weight ≡ count * number_at ws₀ (8 * i + 4) 4
      same_weight =
          is-weight ∙ ap (λ (x : ℕ). count * x) (is-size ∙ same_number ws ws₀ (8 * i + 4) (omega arith) t.front)

      pub tallied_turn : (known' tallies' : ℕ) (p images' sums' : List ℕ)
          → counted_in known' tallies' p images' sums' ≡ count_one g rows
          (counted_in known tallies (take (length ws - 2048) (drop 2048 ws)) images sums) key weight
          → length p ≡ length (take (length ws - 2048) (drop 2048 ws))
          → TalliedTo n count globals g rows ws₀ (i + 1) known' tallies' (given_back ws p) images' sums'
      tallied_turn known' tallies' p images' sums' e long-p = record {
        long = back_long ws p long_enough long-p ∙ t.long;
        front = back_front ws p long_enough long-p ∙ t.front;
        fits =
            rw held (rw (add-one i) (one_fits i g rows (counted_in known tallies (drop 2048 ws) images sums) key
            weight t.fits free small some_row few_rows));
        counted =
            held ∙ (rw (
              t.counted,
              same_key,
              same_weight,
            ) (sym (count_more n globals g rows count none_counted (orbits_in ws₀ i) (orbit_at ws₀ i))
            ∙ ap (count_all n globals g rows count none_counted) (sym (orbits_more ws₀ i))));
        light = light_more;
      }
        where
          held : counted_in known' tallies' (drop 2048 (given_back ws p)) images' sums'
              ≡ count_one g rows (counted_in known tallies (drop 2048 ws) images sums) key weight
          held =
              ap (λ (l : List ℕ). counted_in known' tallies' l images' sums') (back_behind ws p long_enough long-p)
              ∙ (e ∙ ap (λ (l : List ℕ).
              count_one g rows (counted_in known tallies l images sums) key weight) (lent ws long_enough))

          light_more : (j : ℕ) → j < i + 1 → count * number_at ws₀ (8 * j + 4) 4 ≤ most_weight
          light_more j h = go (le_or_lt i j)
            where
              go : (i ≤ j) ⊎ (j < i) → count * number_at ws₀ (8 * j + 4) 4 ≤ most_weight
              go (inr q) = t.light j q
              go (inl q) = let e : j ≡ i = omega arith in rw e (omega (arith, same_weight))

-- as many full rows as there are to be
pub rows_some : (n : ℕ) (whole : Package) → PackageFits n whole
    → (0 < length (rows_in whole.full.n whole.full.rows.count whole.full.rows.bytes.now))
    × (length (rows_in whole.full.n whole.full.rows.count whole.full.rows.bytes.now) ≤ 120)
unfolding rows_in
rows_some n whole f =
    let e = length_rows 32 whole.full.n whole.full.rows.count whole.full.rows.bytes.now in
    (omega (arith, f.some_row), omega (arith, f.few_rows))

-- what is asked for a look at the marks
pub marks_asked : (ws ws₀ : List ℕ) (known : ℕ) → length ws ≡ length ws₀ → drop 2048 ws ≡ drop 2048 ws₀
    → 2048 + 4 * known ≤ length ws₀ → Ascending (words 4 (drop 2048 ws₀) known)
    → (4 * known ≤ length (take (length ws - 2048) (drop 2048 ws)))
    × Ascending (words 4 (take (length ws - 2048) (drop 2048 ws)) known)
marks_asked ws ws₀ known long behind room a =
    let e = lent ws (omega arith) in
    let d : take (length ws - 2048) (drop 2048 ws) ≡ drop 2048 ws₀ = e ∙ behind in
    let n = length-drop 2048 ws₀ in (
      subst (λ (l : List ℕ). 4 * known ≤ length l) (sym d) (omega arith),
      subst (λ (l : List ℕ). Ascending (words 4 l known)) (sym d) a,
    )

pub below_asked : (ws ws₀ : List ℕ) (known tallies : ℕ) → 2048 ≤ length ws → drop 2048 ws ≡ drop 2048 ws₀
    → TalliesBelow tallies (words 4 (drop 2048 ws₀) known)
    → TalliesBelow tallies (words 4 (take (length ws - 2048) (drop 2048 ws)) known)
below_asked ws ws₀ known tallies h behind b =
    subst (λ (l : List ℕ). TalliesBelow tallies (words 4 l known)) (sym (lent ws h ∙ behind)) b

pub sum_here : (ws ws₀ : List ℕ) (known key : ℕ) (sums : List ℕ) (sum : ℕ) → 2048 ≤ length ws
    → drop 2048 ws ≡ drop 2048 ws₀
    → sum ≡ sum_by (latest 256 (words 4 (take (length ws - 2048) (drop 2048 ws)) known) key) sums
    → sum ≡ sum_by (latest 256 (words 4 (drop 2048 ws₀) known) key) sums
sum_here ws ws₀ known key sums sum h behind e =
    e ∙ ap (λ (l : List ℕ). sum_by (latest 256 (words 4 l known) key) sums) (lent ws h ∙ behind)

-- ---- so many orbits looked at, those kept moved to the front

keep_more : (P : Pair → Bool) (l : List Pair) (q : Pair) → keep P (l ++ (q ∷ [])) ≡ keep P l ++ cond (P q) (q ∷ []) []
unfolding keep
keep_more P [] q = refl
keep_more P (x ∷ l) q = go (P x) (keep_more P l q)
  where
    go : (b : Bool) → keep P (l ++ (q ∷ [])) ≡ keep P l ++ cond (P q) (q ∷ []) []
        → cond b (x ∷ keep P (l ++ (q ∷ []))) (keep P (l ++ (q ∷ [])))
        ≡ cond b (x ∷ keep P l) (keep P l) ++ cond (P q) (q ∷ []) []
    go true e = ap (λ (r : List Pair). x ∷ r) e
    go false e = e

pub record MovedTo (n : ℕ) (globals : Row) (marks sums ws₀ : List ℕ) (orbits i kept : ℕ) (ws : List ℕ) : Type 0 where
  pub long : length ws ≡ length ws₀
  pub behind : drop 2048 ws ≡ drop 2048 ws₀
  pub fewer : kept ≤ i
  pub front : orbits_in ws kept ≡ keep_pairs n globals marks sums (orbits_in ws₀ i)
  pub rest : (j : ℕ) → i ≤ j → orbit_at ws j ≡ orbit_at ws₀ j

module _ (n : ℕ) (globals : Row) (marks sums ws₀ : List ℕ) (orbits : ℕ) (few : orbits ≤ 256)
    (room : 2048 ≤ length ws₀) where
  pub moved_start : MovedTo n globals marks sums ws₀ orbits 0 0 ws₀
  unfolding keep_pairs keep orbits_in
  moved_start = record { long = refl; behind = refl; fewer = omega arith; front = refl; rest = λ j h. refl }

  module _ (i kept : ℕ) (ws : List ℕ) (m : MovedTo n globals marks sums ws₀ orbits i kept ws) (h : i < orbits)
      (key : ℕ) (is_key : key ≡ set_number (set_image (vertices_of n (number_at ws (8 * i) 4)) globals))
      (sum : ℕ) (is_sum : sum ≡ sum_by (latest 256 marks key) sums) where
    test : keeps_pair n globals marks sums (orbit_at ws₀ i) ≡ leb 2 sum
    unfolding keeps_pair pair_key
    test =
        let e : number_at ws (8 * i) 4 ≡ number_at ws₀ (8 * i) 4 = ap (λ (q : Pair). q.0) (m.rest i (omega arith)) in
        let k : key ≡ set_number (set_image (vertices_of n (number_at ws₀ (8 * i) 4)) globals) = is_key
        ∙ ap (λ (x : ℕ). set_number (set_image (vertices_of n x) globals)) e in
        ap (λ (x : ℕ). leb 2 (sum_by (latest 256 marks x) sums)) (sym k) ∙ ap (leb 2) (sym is_sum)

    next : (b : Bool) → leb 2 sum ≡ b → keep_pairs n globals marks sums (orbits_in ws₀ (i + 1))
        ≡ keep_pairs n globals marks sums (orbits_in ws₀ i) ++ cond b (orbit_at ws₀ i ∷ []) []
    unfolding keep_pairs
    next b e =
        ap (keep (keeps_pair n globals marks sums)) (orbits_more ws₀ i)
        ∙ (keep_more (keeps_pair n globals marks sums) (orbits_in ws₀ i) (orbit_at ws₀ i)
        ∙ ap (λ (c : Bool). keep_pairs n globals marks sums (orbits_in ws₀ i) ++ cond c (orbit_at ws₀ i ∷ []) [])
        (test ∙ e))

    pub moved_past : sum < 2 → MovedTo n globals marks sums ws₀ orbits (i + 1) kept ws
    moved_past s = record {
      long = m.long;
      behind = m.behind;
      fewer = omega (arith, m.fewer);
      front =
          m.front ∙ (sym (append-nil (keep_pairs n globals marks sums (orbits_in ws₀ i)))
          ∙ sym (next false (lt-leb 2 sum s)));
      rest = λ j g. m.rest j (omega arith);
    }

    abbrev pub brought : List ℕ
    brought = placed (8 * kept) 8 ws (part (8 * i) 8 ws)

    there : 8 * i + 8 ≤ length ws
    there = omega (arith, m.long)

    here : 8 * kept ≤ length ws
    here = omega (arith, m.long, m.fewer)

    orbit_long : length (part (8 * i) 8 ws) ≡ 8
    orbit_long = part_length (8 * i) 8 ws there

    pub moved_kept : 2 ≤ sum → MovedTo n globals marks sums ws₀ orbits (i + 1) (kept + 1) brought
    moved_kept s = record {
      long = placed_length (8 * kept) 8 ws _ (omega (arith, m.long, m.fewer)) orbit_long ∙ m.long;
      behind = drop_placed (8 * kept) 8 ws _ 2048 here orbit_long (omega (arith, m.fewer)) ∙ m.behind;
      fewer = omega (arith, m.fewer);
      front =
          orbits_more brought kept ∙ (ap2_append before (moved_at ws i kept there here ∙ m.rest i (omega arith))
          ∙ sym (next true (le-leb 2 sum s)));
      rest = λ j g. off j g ∙ m.rest j (omega arith);
    }
      where
        before : orbits_in brought kept ≡ keep_pairs n globals marks sums (orbits_in ws₀ i)
        before =
            sym (orbits_front brought (8 * kept) kept (omega arith))
            ∙ (ap (λ (l : List ℕ). orbits_in l kept) (take_placed (8 * kept) 8 ws _ (8 * kept) here (omega arith))
            ∙ (orbits_front ws (8 * kept) kept (omega arith) ∙ m.front))

        off : (j : ℕ) → i + 1 ≤ j → orbit_at brought j ≡ orbit_at ws j
        off j g = pair_same
            (kept_number ws i kept (8 * j) there here (omega (arith, m.fewer)))
            (kept_number ws i kept (8 * j + 4) there here (omega (arith, m.fewer)))

        ap2_append : {a b : List Pair} {x y : Pair} → a ≡ b → x ≡ y → a ++ (x ∷ []) ≡ b ++ (y ∷ [])
        ap2_append p q = rw (p, q) refl

-- ---- all of it

module _ (n orbits : ℕ) (whole : Package) (ws₀ : List ℕ) (f : PackageFits n whole) (few : orbits ≤ 256)
    (room : orbits_room ≤ length ws₀)
    (light : WeightsFit whole.count orbits ws₀) where
  abbrev rows : List Row
  rows = rows_in whole.full.n whole.full.rows.count whole.full.rows.bytes.now

  rows_many : length rows ≡ whole.full.rows.count
  unfolding rows_in
  rows_many = length_rows 32 whole.full.n whole.full.rows.count whole.full.rows.bytes.now

  abbrev end : Counted
  end = count_all n (row_at n 0 whole.globals.now) whole.full.n rows whole.count none_counted (orbits_in ws₀ orbits)

  all_light : (i : ℕ) → i < length (orbits_in ws₀ orbits)
      → whole.count * (get_or (orbits_in ws₀ orbits) i (0, 0)).1 ≤ most_weight
  all_light i h =
      let k : i < orbits = omega (arith, orbits_length ws₀ orbits) in
      subst (λ (q : Pair). whole.count * q.1 ≤ most_weight) (sym (orbit_at_holds ws₀ orbits i k)) (light.light i k)

  end_fits : CountFits (0 + length (orbits_in ws₀ orbits)) end
  end_fits =
      all_fit n (row_at n 0 whole.globals.now) whole.full.n rows whole.count (omega (arith, rows_many, f.some_row))
      (omega (arith, rows_many, f.few_rows)) 0 none_counted (orbits_in ws₀ orbits) all_light
      (omega (arith, orbits_length ws₀ orbits)) none_fits

  module _ (known tallies : ℕ) (ws images sums : List ℕ)
      (counted : counted_in known tallies (drop 2048 ws) images sums ≡ end)
      (front : take 2048 ws ≡ take 2048 ws₀) where
    marks_are : words 4 (drop 2048 ws) known ≡ end.marks
    unfolding counted_in
    marks_are = ap (λ (c : Counted). c.marks) counted

    sums_are : sums ≡ end.sums
    unfolding counted_in
    sums_are = ap (λ (c : Counted). c.sums) counted

    pub marks_ascending : Ascending (words 4 (drop 2048 ws) known)
    marks_ascending = subst Ascending (sym marks_are) end_fits.ascends

    pub marks_below : TalliesBelow tallies (words 4 (drop 2048 ws) known)
    unfolding counted_in
    marks_below = rw (marks_are, ap (λ (c : Counted). c.tallies) counted) end_fits.below

    pub marks_few : 2048 + 4 * known ≤ orbits_room
    marks_few =
        let a : known ≡ length end.marks = sym (words_length 4 (drop 2048 ws) known) ∙ ap length marks_are in
        omega (arith, end_fits.few_marks, end_fits.few_tallies, orbits_length ws₀ orbits)

    pub all_kept : (after : List ℕ) (r : ℕ) → orbits_in after r
        ≡ keep_pairs n (row_at n 0 whole.globals.now) (words 4 (drop 2048 ws) known) sums (orbits_in ws orbits)
        → map (orbit_of n) (orbits_in after r) ≡ kept_by (package_in n whole) (map (orbit_of n) (orbits_in ws₀ orbits))
    unfolding package_in
    all_kept after r e =
        let same : keep_pairs n (row_at n 0 whole.globals.now) (words 4 (drop 2048 ws) known) sums
        (orbits_in ws orbits)
        ≡ keep_pairs n (row_at n 0 whole.globals.now) end.marks end.sums (orbits_in ws₀ orbits) =
        keep_same marks_are sums_are (same_front ws ws₀ orbits few front) in
        ap (map (orbit_of n)) (e ∙ same)
        ∙ kept_are (package_in n whole) (rows_permute whole.full.permute) n
        (key_set n whole.full.n whole.globals.now f.numbered) (omega (arith, rows_many, f.some_row))
        (omega (arith, rows_many, f.few_rows))
        (orbits_in ws₀ orbits) all_light (omega (arith, orbits_length ws₀ orbits))
      where
        keep_same : {a b c d : List ℕ} {x y : List Pair} → a ≡ b → c ≡ d → x ≡ y
            → keep_pairs n (row_at n 0 whole.globals.now) a c x ≡ keep_pairs n (row_at n 0 whole.globals.now) b d y
        keep_same p q r = rw (p, q, r) refl
