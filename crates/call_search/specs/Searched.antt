-- From what a call keeps to its answer in the workspace: the tables are laid, the search runs in the workspace from
-- the owners on, and the lists that it emitted are made the call's entries, at rank 3 as they are, at rank 4 split.
-- Leans on PreparedCalls and Answers, on the outcome of the search and on the laws of emitted lists.
use Rattle.std.specs.Prelude.{◌≡◌, refl, Bool, ℕ, zero, suc, ◌+◌, ◌-◌, ◌≤◌, length, take, drop}
use Rattle.std.proofs.Math.Path.{sym, ap, subst}
use Rattle.std.proofs.Common.{◌∙◌, arith, take-add, take-take}
use mathlib.Core.List.{List, [], ◌++◌, map}
use Rattle.definitions.specs.Outcome as result
use Rattle.definitions.specs.Search as def
use Rattle.definitions.specs.Search.{Facet, Table, Found, all_facets}
use Rattle.definitions.specs.Faceting.{table_for, entry_limits, search_from, finish, faceting}
use Rattle.laws.specs.Lists.{Mem}
use Rattle.laws.specs.Pairs.{Pairs}
use Rattle.laws.specs.Segments.{part}
use Rattle.completeness.specs.Taken.{OtherOrbit}
use Rattle.words.specs.Lent.{lent_tail, back_length, back_front, back_tail}
use Rattle.pool.specs.Pool.{closed_lists}
use Rattle.rows.specs.Rows.{rows_in}
use Rattle.facets.specs.declared.Areas.{Areas}
use Rattle.facets.specs.Layout.{Inputs, lists_part}
use Rattle.order.specs.Numbers.{AllBelow}
use Rattle.frames.specs.Paths.{Emitted, emitted_in}
use Rattle.std.specs.Prelude.{Result, Ok, Err}
use Rattle.refusals.specs.declared.Refusal.{Refusal}
use Rattle.search.specs.declared.Listed.{Listed as Emissions}
use Rattle.search.specs.Outcomes.{entry_limits_of, search_outcome, counted_lists}
use Rattle.shapes.specs.Answered.{Preparation}
use Rattle.shapes.specs.Emitted.{found_apart}
use Rattle.shapes.specs.Kept.{Kept, kept_table, kept_answer}
use Rattle.shapes.proofs.KeptAnswer.{kept_finish}
use Rattle.shapes.proofs.KeptTable.{kept_table_holds}
use Rattle.layout.specs.declared.KeptLayout.{KeptLayout}
use Rattle.layout.specs.declared.Level.{Level}
use Rattle.layout.specs.Keeps.{Keeps, facets_of}
use Rattle.layout.specs.Front.{keeps_front}
use Rattle.layout.specs.Leaves.{Leaves, answer_left, facet_at}
use Rattle.entries.specs.Listed.{ListsBehind, Listed}
use Rattle.entries.specs.Split.{Splits, split_on}
use Rattle.entries.specs.Parts.{Splittable}
use Rattle.entries.specs.Emitted.{found_lists, numbers_below, sort_ready}
use Rattle.entries.proofs.Emitted.{split_ready}
use Rattle.entries.specs.Calls.{three_plain, four_splittable}
use Rattle.entries.specs.Answer.{left_whole}
use Rattle.entries.proofs.Answer.{left_split}
use Rattle.calls.specs.declared.Rules.{Rules}
use Rattle.calls.specs.declared.Called.TheVariants.{Left}
use Rattle.layout.specs.declared.TableLayout.{TableLayout}
use Rattle.ridges.specs.TableLayouts.{Given, areas_of}
use Rattle.ridges.specs.Shared.{facets_same}
use Rattle.definitions.specs.Job.{workspace_for}
use Rattle.layout.specs.Capacities.{capacities_three, capacities_four, capacities_of, kept_layout, tables_from}
use Rattle.layout.specs.Capacities.{table_layout, layout_for, table_layout_for}
use Rattle.layout.specs.Capacities.{entry_bytes, images_from, listed_bytes, split_bytes}
use Rattle.call_search.specs.Answers.{Answers, Searched}
use Rattle.call_search.specs.PreparedCalls.{PreparedCall, CallPrepared, points_in, kept_in, call_rules}
use Rattle.call_search.specs.PreparedCalls.{tables_asked}

-- ---- entries from emitted lists

-- where the emitted lists stand in the whole workspace
abbrev pub lists_at : KeptLayout → Areas → ℕ
lists_at layout a = layout.owners + a.lists

abbrev pub list_bytes : Areas → ℕ
list_bytes a = a.end - a.lists

-- the lists that the search emitted
abbrev emitted_lists : KeptLayout → Areas → List ℕ → List (List ℕ)
emitted_lists layout a s = closed_lists 2 1024 (part (lists_at layout a) (list_bytes a) s)

-- what `list_entries` is asked, and what it leaves: at rank 3 the lists as they are, above split
pub record ListsReady (layout : KeptLayout) (rank : ℕ) (a : Areas) (s : List ℕ) : Type 0 where
  pub order : a.lists ≤ a.end
  pub inside : layout.owners + a.end ≤ length s
  pub whole : rank ≡ 3 → ListsBehind layout (lists_at layout a) (list_bytes a) s
  pub parts : (rank ≡ 3 → ⊥) → Splits layout (lists_at layout a) (list_bytes a) s

pub record EntriesListed (layout : KeptLayout) (rank : ℕ) (a : Areas) (s : List ℕ) (level : Level)
    (t : List ℕ) : Type 0 where
  pub whole : rank ≡ 3 → Listed layout (lists_at layout a) (lists_at layout a) (list_bytes a) (lists_at layout a)
      (list_bytes a) (emitted_lists layout a s) (emitted_lists layout a s) s level t
  pub parts : (rank ≡ 3 → ⊥) → Listed layout (layout.owners + 2048) (layout.owners + 2048) (list_bytes a)
      (layout.owners + 2048 + list_bytes a) split_bytes (emitted_lists layout a s)
      (map (split_on layout s) (emitted_lists layout a s)) s level t

-- ---- where the areas lie

-- the search's areas behind what is kept, with room for the entries behind the emitted lists
pub record Placed (layout : KeptLayout) (rank : ℕ) (a : Areas) (size : ℕ) : Type 0 where
  pub bound : a.bound ≡ 1024
  pub facets : a.facets ≡ layout.facets
  pub owners : layout.owners + 2048 ≤ layout.end
  pub fits : layout.end ≤ size
  pub frames : 2048 ≤ a.frames
  pub behind : 2048 ≤ a.lists
  pub order : a.lists ≤ a.end
  pub inside : layout.owners + a.end + listed_bytes ≤ size
  pub parts : (rank ≡ 3 → ⊥) → layout.owners + (list_bytes a + entry_bytes) ≤ size
  pub ends : layout.owners + a.end + listed_bytes ≤ images_from
  pub parts_end : (rank ≡ 3 → ⊥) → layout.owners + (list_bytes a + entry_bytes) ≤ images_from

placed_three : (layout : KeptLayout) (rank : ℕ) (a : Areas) (size known : ℕ) → rank ≡ 3
    → layout.owners ≡ (layout_for 3).owners → layout.end ≡ (layout_for 3).end → 524288 ≤ size
    → a ≡ areas_of layout (table_layout_for 3) known → Placed layout rank a size
unfolding areas_of layout_for table_layout_for table_layout tables_from kept_layout capacities_of capacities_three
placed_three layout rank a size known e o h room is =
    let lists = ap (λ (x : Areas). x.lists) is in
    let end = ap (λ (x : Areas). x.end) is in
    let frames = ap (λ (x : Areas). x.frames) is in
    record {
      bound = ap (λ (x : Areas). x.bound) is;
      facets = ap (λ (x : Areas). x.facets) is;
      owners = omega arith;
      fits = omega arith;
      frames = omega arith;
      behind = omega arith;
      order = omega arith;
      inside = omega arith;
      parts = λ n. absurd (n e);
      ends = omega arith;
      parts_end = λ n. absurd (n e);
    }

placed_four : (layout : KeptLayout) (rank : ℕ) (a : Areas) (size known : ℕ) → layout.owners ≡ (layout_for 4).owners
    → layout.end ≡ (layout_for 4).end → 4194304 ≤ size → a ≡ areas_of layout (table_layout_for 4) known
    → Placed layout rank a size
unfolding areas_of layout_for table_layout_for table_layout tables_from kept_layout capacities_of capacities_four
placed_four layout rank a size known o h room is =
    let lists = ap (λ (x : Areas). x.lists) is in
    let end = ap (λ (x : Areas). x.end) is in
    let frames = ap (λ (x : Areas). x.frames) is in
    record {
      bound = ap (λ (x : Areas). x.bound) is;
      facets = ap (λ (x : Areas). x.facets) is;
      owners = omega arith;
      fits = omega arith;
      frames = omega arith;
      behind = omega arith;
      order = omega arith;
      inside = omega arith;
      parts = λ n. omega arith;
      ends = omega arith;
      parts_end = λ n. omega arith;
    }

-- what `lay_tables` says of the areas and the workspace that it leaves
abbrev pub Laid : ℕ → List ℕ → KeptLayout → TableLayout → List ℕ → Areas → List ℕ → Type 0
Laid m rows layout table_layout s a t =
    (a ≡ areas_of layout table_layout a.ridges)
    × ((n : ℕ) (most : ℕ) (ridges : ℕ) (kept : List Kept) → Given n most ridges m rows kept layout table_layout s
    → Inputs (kept_table (rows_in n m rows) kept) a (drop layout.owners t) × (take layout.end t ≡ take layout.end s))

-- a workspace whose rest was lent, with what came back
abbrev pub given_back : ℕ → List ℕ → List ℕ → List ℕ
given_back o s u = take o s ++ (u ++ drop (length s - o) (drop o s))

-- the front of a workspace whose rest was lent: what the borrower kept of it
front_kept : (o f : ℕ) (s t : List ℕ) → 2048 ≤ f → take o t ≡ take o s → take f (drop o t) ≡ take f (drop o s)
    → take (o + 2048) t ≡ take (o + 2048) s
front_kept o f s t h e q =
    let inner : take 2048 (drop o t) ≡ take 2048 (drop o s) = sym (take-take 2048 f (drop o t) h)
    ∙ (ap (take 2048) q ∙ take-take 2048 f (drop o s) h) in
    take-add o 2048 t ∙ ((λ i. e i ++ inner i) ∙ sym (take-add o 2048 s))

module _ (k : PreparedCall) (layout : KeptLayout) (rank : ℕ) (rows : List ℕ) (m : ℕ) (rules : Rules) (extended : Bool)
    (left : ℕ) (s : List ℕ) (st : CallPrepared k layout rank rows m rules extended left s) where
  -- the table that the workspace has
  abbrev pub table : Table
  table = kept_table (rows_in (points_in k) m rows) (kept_in k)

  table_is : table_for k.prepared ≡ table
  table_is =
      kept_table_holds k.more (call_rules rules) k.plane k.points k.rows k.prepared st.few_more st.made
      ∙ ap (λ (l : List _). kept_table l (kept_in k)) st.rows_are

  table_facets : all_facets table ≡ facets_of (kept_in k)
  table_facets = facets_same (rows_in (points_in k) m rows) (kept_in k)

  pub placed : (a : Areas) → a ≡ areas_of layout (table_layout_for rank) a.ridges → Placed layout rank a (length s)
  unfolding workspace_for
  placed a is = at_rank k.more st.few_more st.rank_is
    where
      at_rank : (more : ℕ) → more ≤ 1 → rank ≡ 3 + more → Placed layout rank a (length s)
      at_rank zero few e =
          let three : rank ≡ 3 = omega arith in
          placed_three layout rank a (length s) a.ridges three
          (st.owners_at ∙ ap (λ (r : ℕ). (layout_for r).owners) three)
          (st.end_at_holds ∙ ap (λ (r : ℕ). (layout_for r).end) three)
          (subst (λ (r : ℕ). workspace_for r ≤ length s) three st.room)
          (is ∙ ap (λ (r : ℕ). areas_of layout (table_layout_for r) a.ridges) three)
      at_rank (suc zero) few e =
          let four : rank ≡ 4 = omega arith in
          placed_four layout rank a (length s) a.ridges
          (st.owners_at ∙ ap (λ (r : ℕ). (layout_for r).owners) four)
          (st.end_at_holds ∙ ap (λ (r : ℕ). (layout_for r).end) four)
          (subst (λ (r : ℕ). workspace_for r ≤ length s) four st.room)
          (is ∙ ap (λ (r : ℕ). areas_of layout (table_layout_for r) a.ridges) four)
      at_rank (suc (suc more)) few e = absurd (omega arith)

  -- the search of the tables is the call's
  pub search_is : (a : Areas) → a.bound ≡ 1024 → def.search table (entry_limits_of a (record {
    limit = rules.limit;
    extended = extended;
  })) left ≡ search_from (call_rules rules) k.prepared
  unfolding search_from entry_limits entry_limits_of call_rules
  search_is a bound =
      let same : a.bound ≡ rules.entries = bound ∙ sym st.few_entries_holds in
      λ i. def.search (sym table_is i) (record {
        limit = rules.limit;
        bound = same i;
        extended = st.extended_is i;
      }) (st.left_is i)

  -- ---- what the search leaves

  module _ (a : Areas) (is : a ≡ areas_of layout (table_layout_for rank) a.ridges) (t : List ℕ)
      (long : length t ≡ length s)
      (front : take (layout.owners + 2048) t ≡ take (layout.owners + 2048) s) where
    p : Placed layout rank a (length s)
    p = placed a is

    keeps_still : Keeps (points_in k) layout (kept_in k) t
    keeps_still = keeps_front (points_in k) layout (kept_in k) s t front long st.keeps

    module _ (rest : ℕ)
        (is_found_holds : result.answered (record {
          lists = emitted_in table a (lists_part a (drop layout.owners t));
          left = rest;
        }) ≡ search_from (call_rules rules) k.prepared)
        (emitted : Emitted a (lists_part a (drop layout.owners t))) where
      abbrev found : Found
      found = record { lists = emitted_in table a (lists_part a (drop layout.owners t)); left = rest }

      abbrev numbered : List (List ℕ)
      numbered = closed_lists 2 1024 (part (lists_at layout a) (list_bytes a) t)

      lists_are : found.lists ≡ map (map (facet_at (kept_in k))) numbered
      lists_are = found_lists layout a t p.bound table (kept_in k) table_facets

      apart : (l : List Facet) → Mem l (map (map (facet_at (kept_in k))) numbered) → Pairs OtherOrbit l
      apart l i =
          found_apart (call_rules rules) k.prepared found (sym is_found_holds) l
          (subst (λ (ls : List (List Facet)). Mem l ls) (sym lists_are) i)

      splittable : (rank ≡ 3 → ⊥) → (j : Kept) → Mem j (kept_in k) → Splittable j
      splittable other = at_rank k.more st.few_more st.rank_is st.made
        where
          at_rank : (more : ℕ) → more ≤ 1 → rank ≡ 3 + more → Preparation more (call_rules rules)
              (faceting more (call_rules rules)) k.plane k.points k.rows k.prepared → (j : Kept) → Mem j (kept_in k)
              → Splittable j
          at_rank zero few e made = absurd (other (omega arith))
          at_rank (suc zero) few e made =
              four_splittable (call_rules rules) k.plane k.points k.rows k.prepared made st.few_points
          at_rank (suc (suc more)) few e made = absurd (omega arith)

      plain : rank ≡ 3 → (j : Kept) → Mem j (kept_in k) → j.compounds ≡ []
      plain three = at_rank k.more st.rank_is st.made
        where
          at_rank : (more : ℕ) → rank ≡ 3 + more → Preparation more (call_rules rules)
              (faceting more (call_rules rules)) k.plane k.points k.rows k.prepared → (j : Kept) → Mem j (kept_in k)
              → j.compounds ≡ []
          at_rank zero e made = three_plain (call_rules rules) k.plane k.points k.rows k.prepared made
          at_rank (suc more) e made = absurd (omega arith)

      -- what the entries are asked
      pub entries_asked : ListsReady layout rank a t
      entries_asked = record {
        order = p.order;
        inside = omega (arith, p.inside);
        whole = λ three. sort_ready layout a t p.bound emitted p.facets p.behind (omega (arith, p.order, p.inside));
        parts = λ other.
            split_ready layout a t p.bound emitted p.facets (points_in k) (kept_in k) keeps_still
            (splittable other) apart (omega (arith, p.order, p.inside)) (omega (arith, p.parts other));
      }

      below : AllBelow layout.facets numbered
      below = numbers_below layout a t p.bound emitted p.facets

      -- and what the call answers
      pub entries_answer : (level : Level) (u : List ℕ) → EntriesListed layout rank a t level u
          → Answers k rules level rest u
      entries_answer level u l = at_rank k.more st.few_more st.rank_is
        where
          finished : finish k.prepared found ≡ kept_answer k.more (points_in k) k.rows (kept_in k) found
          finished =
              kept_finish k.more (call_rules rules) k.plane k.points k.rows st.few_more st.given k.prepared st.made
              found (sym is_found_holds)

          answers : answer_left k.more (points_in k) k.rows (kept_in k) level u rest
              ≡ kept_answer k.more (points_in k) k.rows (kept_in k) found
              → Leaves k.more (points_in k) k.rows (kept_in k) level u
              → level.lists + (level.bytes + listed_bytes) ≤ images_from
              → Answers k rules level rest u
          answers e leaves ends = record {
            found = found;
            is_found_holds = sym is_found_holds;
            rest_is = refl;
            leaves = leaves;
            answer = finished ∙ sym e;
            ends = ends;
          }

          at_rank : (more : ℕ) → more ≤ 1 → rank ≡ 3 + more → Answers k rules level rest u
          at_rank zero few e =
              let three : rank ≡ 3 = omega arith in
              let g = l.whole three in
              answers (left_whole (points_in k) layout
              (kept_in k) t keeps_still numbered below k.more k.rows found lists_are (lists_at layout a)
              (lists_at layout a) (list_bytes a) (lists_at layout a) (list_bytes a) level u (plain three) g)
              (g.leaves k.more (points_in k) k.rows (kept_in k) keeps_still) (omega (
                arith,
                ap (λ (x : Level). x.lists) g.level_is,
                ap (λ (x : Level). x.bytes) g.level_is,
                p.order,
                p.ends,
              ))
          at_rank (suc zero) few e =
              let other : rank ≡ 3 → ⊥ = λ q. omega arith in
              let g = l.parts other in
              answers (left_split (points_in k) layout (kept_in k) t keeps_still numbered below k.more k.rows found
              lists_are (layout.owners + 2048) (layout.owners + 2048) (list_bytes a)
              (layout.owners + 2048 + list_bytes a) split_bytes level u (splittable other) g)
              (g.leaves k.more (points_in k) k.rows (kept_in k) keeps_still) (omega (
                arith,
                ap (λ (x : Level). x.lists) g.level_is,
                ap (λ (x : Level). x.bytes) g.level_is,
                p.parts_end other,
              ))
          at_rank (suc (suc more)) few e = absurd (omega arith)

  -- ---- the search on the lent rest

  module _ (s1 : List ℕ) (long1 : length s1 ≡ length s) (front1 : take layout.end s1 ≡ take layout.end s) (a : Areas)
      (is : a ≡ areas_of layout (table_layout_for rank) a.ridges)
      (u : List ℕ) (long-u : length u ≡ length (drop layout.owners s1))
      (tables : take a.frames u ≡ take a.frames (drop layout.owners s1)) where
    abbrev now : List ℕ
    now = given_back layout.owners s1 u

    inside : layout.owners ≤ length s1
    inside = let p = placed a is in omega (arith, p.owners, p.fits)

    tail_is : drop layout.owners now ≡ u
    tail_is = back_tail layout.owners s1 u inside long-u

    pub long_is : length now ≡ length s
    long_is = back_length layout.owners s1 u inside long-u ∙ long1

    pub front_is : take (layout.owners + 2048) now ≡ take (layout.owners + 2048) s
    front_is =
        let p = placed a is in
        front_kept layout.owners a.frames s1 now p.frames (back_front layout.owners s1 u inside long-u)
        (ap (take a.frames) tail_is ∙ tables)
        ∙ (sym (take-take (layout.owners + 2048) layout.end s1 p.owners)
        ∙ (ap (take (layout.owners + 2048)) front1 ∙ take-take (layout.owners + 2048) layout.end s p.owners))

    module _ (o : Result Emissions Refusal) (said : search_outcome table a o u
        ≡ def.search table (entry_limits_of a (record { limit = rules.limit; extended = extended })) left) where
      whole : search_outcome table a o u ≡ search_from (call_rules rules) k.prepared
      whole = said ∙ search_is a (placed a is).bound

      -- it is refused
      pub search_refused : (e : Refusal) → o ≡ Err e → (v : List ℕ) → Searched k rules (Err e) v
      unfolding search_outcome Searched
      search_refused e is v = sym whole ∙ ap (λ (x : Result Emissions Refusal). search_outcome table a x u) is

      -- or it found lists, which stand in the whole workspace
      pub search_answered : (e : Emissions) → o ≡ Ok e
          → result.answered (record {
            lists = emitted_in table a (lists_part a (drop layout.owners now));
            left = e.left;
          }) ≡ search_from (call_rules rules) k.prepared
      unfolding search_outcome
      search_answered e is =
          ap (λ (l : List ℕ). result.answered (record {
            lists = emitted_in table a (lists_part a l);
            left = e.left;
          })) tail_is
          ∙ (sym (ap (λ (x : Result Emissions Refusal). search_outcome table a x u) is) ∙ whole)

    pub search_emitted : (o : Result Emissions Refusal) → counted_lists table a o u → (e : Emissions) → o ≡ Ok e
        → Emitted a (lists_part a (drop layout.owners now))
    unfolding counted_lists
    search_emitted o c e is =
        subst (λ (l : List ℕ). Emitted a (lists_part a l)) (sym tail_is)
        (emitted_in_holds (subst (λ (x : Result Emissions Refusal). counted_lists table a x u) is c))
      where
        emitted_in_holds : counted_lists table a (Ok e) u → Emitted a (lists_part a u)
        emitted_in_holds d = d.emitted

  -- ---- the tables as they are laid

  module _ (table_layout : TableLayout) (table_layout-is : table_layout ≡ table_layout_for rank) where
    in_tables : (most : ℕ) × (ridges : ℕ)
        × Given (points_in k) most ridges m rows (kept_in k) layout table_layout s
    in_tables =
        subst (λ (d : TableLayout). (most : ℕ) × (ridges : ℕ)
        × Given (points_in k) most ridges m rows (kept_in k) layout d s) (sym table_layout-is)
        (tables_asked k layout rank rows m rules extended left s st)

    pub given_tables : (n : ℕ) × (most : ℕ) × (ridges : ℕ) × (kept : List Kept)
        × Given n most ridges m rows kept layout table_layout s
    given_tables = (points_in k, in_tables.0, in_tables.1, kept_in k, in_tables.2)

    module _ (a : Areas) (s1 : List ℕ) (laid : Laid m rows layout table_layout s a s1) where
      pub areas_are : a ≡ areas_of layout (table_layout_for rank) a.ridges
      areas_are = laid.0 ∙ ap (λ (d : TableLayout). areas_of layout d a.ridges) table_layout-is

      pub laid_inputs : Inputs table a (take (length s1 - layout.owners) (drop layout.owners s1))
      laid_inputs =
          subst (Inputs table a) (sym (lent_tail layout.owners s1))
          (laid.1 (points_in k) in_tables.0 in_tables.1 (kept_in k) in_tables.2).0

      pub laid_front : take layout.end s1 ≡ take layout.end s
      laid_front = (laid.1 (points_in k) in_tables.0 in_tables.1 (kept_in k) in_tables.2).1

      -- ---- what the search said

      module _ (long1 : length s1 ≡ length s) (o : Result Emissions Refusal) (u : List ℕ) (long-u : length u
          ≡ length (take (length s1 - layout.owners) (drop layout.owners s1)))
          (said : (t : Table) → Inputs t a (take (length s1 - layout.owners) (drop layout.owners s1))
          → search_outcome t a o u
          ≡ def.search t (entry_limits_of a (record { limit = rules.limit; extended = extended })) left)
          (many : (t : Table) → counted_lists t a o u) (tables : take a.frames u
          ≡ take a.frames (take (length s1 - layout.owners) (drop layout.owners s1))) where
        tail_long : length u ≡ length (drop layout.owners s1)
        tail_long = long-u ∙ ap length (lent_tail layout.owners s1)

        tables_are : take a.frames u ≡ take a.frames (drop layout.owners s1)
        tables_are = tables ∙ ap (take a.frames) (lent_tail layout.owners s1)

        abbrev whole_now : List ℕ
        whole_now = given_back layout.owners s1 u

        pub call_refused : (e : Refusal) → o ≡ Err e → (v : List ℕ) → Searched k rules (Err e) v
        call_refused = search_refused s1 long1 laid_front a areas_are u tail_long tables_are o (said table laid_inputs)

        module _ (e : Emissions) (is : o ≡ Ok e) where
          -- what `list_entries` is asked
          pub call_emits : ListsReady layout rank a whole_now
          call_emits =
              entries_asked a areas_are whole_now (long_is s1 long1 laid_front a areas_are u tail_long tables_are)
              (front_is s1 long1 laid_front a areas_are u tail_long tables_are) e.left
              (search_answered s1 long1 laid_front a areas_are u tail_long tables_are o (said table laid_inputs) e is)
              (search_emitted s1 long1 laid_front a areas_are u tail_long tables_are o (many table) e is)

          pub call_answers : (level : Level) (v : List ℕ) → EntriesListed layout rank a whole_now level v
              → Searched k rules (Ok (Left level e.left)) v
          unfolding Searched
          call_answers level v l =
              entries_answer a areas_are whole_now (long_is s1 long1 laid_front a areas_are u tail_long tables_are)
              (front_is s1 long1 laid_front a areas_are u tail_long tables_are) e.left
              (search_answered s1 long1 laid_front a areas_are u tail_long tables_are o (said table laid_inputs) e is)
              (search_emitted s1 long1 laid_front a areas_are u tail_long tables_are o (many table) e is) level v l
