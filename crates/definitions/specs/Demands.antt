-- The three demands, as propositions over the definitions of this crate: docs/SPECIFICATION.md, chapter 13. They
-- are statements only: what is proved of them, and where, docs/READING.md says.
-- The second has a half that is shown by running the Rust, and a part of its own on the square root, `RootIsIeee`
-- in Vectors.
use Rattle.std.specs.Prelude.{◌≡◌, ◌↔◌, Bool, true, cond, not, ◌&&◌, ◌||◌, ℕ, ◌-◌, ◌≤◌, min, max, T, leb, ltb, eqb, ℤ}
use Rattle.std.specs.Prelude.{pos, neg_ℤ, length, get_or, take, drop, replicate}
use mathlib.Core.List.{List, [], ◌∷◌, ◌++◌, map, Memᴰ, Nodup, Pairwise}
use Rattle.std.specs.Prelude.{Option, Some, None}
use Rattle.std.proofs.Math.Dec.{compare_is_eq}
use Rattle.definitions.specs.Lists.{is_gt, compare_pair, sort_by, all_of, keep, place_of, member_pair}
use Rattle.definitions.specs.Outcome.{Outcome, refused, answered}
use Rattle.definitions.specs.Search.{Facet, Share, Table, Found, shares_of, all_facets, totals, ones_at}
use Rattle.definitions.specs.Recursion.{Entry}
use Rattle.definitions.specs.Faceting.{Prepared, prepare, faceting, table_for, entry_of, entries_of, compare_entries}
use Rattle.definitions.specs.Faceting.{search_from}
use Rattle.definitions.specs.Job.{Bytes, Job, read_job, bounds1, rules_of, plane_of, between, outcome}

-- ---- the first

-- [13.1] Of a call with these bytes, this much workspace and this much room, its return code and its answer buffer:
-- the refusal's number and zeros, or an answer that fits and zeros behind it.
pub record Demand1 (bytes : Bytes) (workspace room : ℕ) (code : ℤ) (buffer : Bytes) : Type 0 where
  pub after_refusal : (number : ℕ) → outcome bytes workspace room ≡ refused number
      → (code ≡ neg_ℤ (pos number)) × (buffer ≡ replicate room 0)
  pub after_answer : (answer : Bytes) → outcome bytes workspace room ≡ answered answer
      → (many : ℕ) × (code ≡ pos many) × (many ≤ room) × (length buffer ≡ room)
      × (drop many buffer ≡ replicate (room - many) 0)

-- ---- the second

-- [13.2] after an answer, the return code is its length and the front of the buffer is the answer
pub record Demand2 (bytes : Bytes) (workspace room : ℕ) (code : ℤ) (buffer : Bytes) : Type 0 where
  pub same_bytes : (answer : Bytes) → outcome bytes workspace room ≡ answered answer
      → (code ≡ pos (length answer)) × (take (length answer) buffer ≡ answer)

-- ---- the third: choices

-- [13.3] one of the table's possible facets
unfoldable pub is_possible : Table → Facet → Bool
is_possible table f = ltb f.0 (length table.shares) && ltb f.1 (length (get_or table.shares f.0 []))

-- [13.3] strictly ascending by orbit
unfoldable pub orbits_ascend : List Facet → Bool
orbits_ascend [] = true
orbits_ascend (f ∷ []) = true
orbits_ascend (f ∷ g ∷ fs) = let rest = orbits_ascend (g ∷ fs) in ltb f.0 g.0 && rest

-- [13.3] one or more possible facets, never two of one orbit, written ascending by orbit, so that each set is one
-- list
unfoldable pub is_choice : Table → List Facet → Bool
is_choice table c = ltb 0 (length c) && all_of (is_possible table) c && orbits_ascend c

-- [13.3] the set of a list's facets, so written
unfoldable pub choice_of : List Facet → List Facet
choice_of = sort_by compare_pair

-- [1.3] [13.3] A choice with a total of 0 or 2 in every ridge orbit. When that is the same as a figure that closes
-- in itself: [1.4], [1.5]; when it is not: [1.6].
unfoldable pub is_closed_choice : Table → List Facet → Bool
is_closed_choice table c = is_choice table c && all_of (λ (t : ℕ). eqb 0 t || eqb 2 t) (totals table c)

-- ---- the third: the order in which a closed choice is taken

-- [13.4] the lowest ridge orbit in which the facets taken so far have a total of 1
unfoldable pub lowest_open : Table → List Facet → Option ℕ
lowest_open table taken =
    let lowest = place_of (eqb 1) (totals table taken) in
    cond (ltb lowest table.ridges) (Some lowest) None

-- [13.4] a facet that may be taken next: one with a share of 1 in the lowest open ridge orbit, or, where none is
-- open, the one of the lowest orbit left
unfoldable pub is_next : Table → Option ℕ → List Facet → Facet → Bool
is_next table (Some ridge) remaining f = ltb 0 (ones_at table ridge f)
is_next table None remaining f = all_of (λ (g : Facet). leb f.0 g.0) remaining

-- [13.4] the facets but this one
unfoldable pub without : Facet → List Facet → List Facet
without f = keep (λ (g : Facet). not (compare_is_eq (compare_pair f g)))

-- [13.4] Whether the facets that remain, some being taken, are taken in this order. Before the first facet every
-- total is 0, so the first is that of the lowest orbit.
unfoldable pub is_order_of : Table → List Facet → List Facet → List Facet → Bool
is_order_of table taken remaining [] = eqb 0 (length remaining)
is_order_of table taken remaining (f ∷ fs) =
    let rest = is_order_of table (taken ++ (f ∷ [])) (without f remaining) fs in
    member_pair f remaining && is_next table (lowest_open table taken) remaining f && rest

-- [13.5] an entry made from an order of the choice, which is the list before splitting that its record carries
pub record EntryOfChoice (p : Prepared) (e : Entry) (c : List Facet) : Type 0 where
  pub taken_so : T (is_order_of (table_for p) [] c e.before)
  pub entry : e ≡ entry_of p e.before

-- [13.5] the choices of entries, in the entries' order, read from their records alone
unfoldable pub choices_of : List Entry → List (List Facet)
choices_of = map (λ (e : Entry). choice_of e.before)

-- ---- the third: the proviso, and lists of choices

-- [13.7] two places in one ridge orbit have equal shares
unfoldable pub same_where_same_ridge : Share → Share → Bool
same_where_same_ridge s t = not (eqb s.0 t.0) || eqb s.1 t.1

-- [13.7] any two places of one facet in one ridge orbit do
unfoldable pub equal_shares : Table → Bool
equal_shares table =
    all_of (λ (f : Facet). let ss = shares_of table f in
    all_of (λ (s : Share). all_of (same_where_same_ridge s) ss) ss) (all_facets table)

-- [13.8] the list has every closed choice just once, and nothing else; so its length is the number of closed
-- choices
pub record AllClosedChoices (table : Table) (choices : List (List Facet)) : Type 0 where
  pub once : Nodup choices
  pub these : (c : List Facet) → T (is_closed_choice table c) ↔ Memᴰ c choices

-- ---- the third

-- [13.8] What is demanded of the entries of a call above rank 2, sentence by sentence: of its entry limit, what it
-- had before its search, the lists its search emits, and the entries.
pub record EntriesComplete (limit : Option ℕ) (p : Prepared) (emitted : List (List Facet))
    (entries : List Entry) : Type 0 where
  -- sound: the choice that the record names is closed, and the entry is made from it
  pub every_entry : (e : Entry) → Memᴰ e entries
      → T (is_closed_choice (table_for p) (choice_of e.before)) × EntryOfChoice p e (choice_of e.before)
  -- complete, where no limit cuts it off
  pub every_choice : limit ≡ None → (c : List Facet) → T (is_closed_choice (table_for p) c)
      → (e : Entry) × Memᴰ e entries × EntryOfChoice p e c
  -- under the proviso the choices that the records name, in the entries' order, are all closed choices, once each
  pub one_to_one : limit ≡ None → T (equal_shares (table_for p)) → AllClosedChoices (table_for p) (choices_of entries)
  -- and just one order, so that there is one entry that it may have
  pub one_order : T (equal_shares (table_for p)) → (c : List Facet) → T (is_closed_choice (table_for p) c)
      → (d e : List Facet) → T (is_order_of (table_for p) [] c d) → T (is_order_of (table_for p) [] c e) → d ≡ e
  -- a limit of 0 lets one entry pass, as a limit of 1 does
  pub at_most : (m : ℕ) → limit ≡ Some m → length entries ≤ max m 1
  -- cut off at a limit, under the proviso no choice has two entries
  pub different_choices : (m : ℕ) → limit ≡ Some m → T (equal_shares (table_for p)) → Nodup (choices_of entries)
  -- and nothing is cut off before the limit is reached
  pub number : (m : ℕ) → limit ≡ Some m → T (equal_shares (table_for p))
      → (choices : List (List Facet)) × AllClosedChoices (table_for p) choices
      × (length entries ≡ min (max m 1) (length choices))
  -- sorted; equal lists may stand side by side
  pub ascending : Pairwise (λ (d e : Entry). T (not (is_gt (compare_entries d e)))) entries
  -- and just those of the lists that the search emits, as often as it emits them
  pub exactly : entries ≡ entries_of p emitted

-- [13.8] the outermost call of a job of rank 3 or more, before its search
unfoldable pub prepared_of : Job → Outcome Prepared
prepared_of job =
    let rules = rules_of bounds1 job in
    prepare (job.rank - 3) rules (faceting (job.rank - 3) rules) (plane_of job) job.points job.rows job.budget

-- [13.6] a job that gets an answer where workspace and room are long enough
pub record Accepted (bytes : Bytes) : Type 0 where
  pub workspace : ℕ
  pub room : ℕ
  pub answer : Bytes
  pub is_answered_holds : outcome bytes workspace room ≡ answered answer

-- [13.8] orbits, possible facets, shares and the search are those of the definitions for this job, and its entries
-- are as demanded
pub record CallComplete (job : Job) (entries : List Entry) : Type 0 where
  pub before : Prepared
  pub is_before : prepared_of job ≡ answered before
  pub found : Found
  pub is_found_holds : search_from (rules_of bounds1 job) before ≡ answered found
  pub complete : EntriesComplete job.entry_limit before found.lists entries

-- [13.8] of a job's bytes and any list of entries, if the job is accepted and has rank 3 or 4
pub record Demand3 (bytes : Bytes) (entries : List Entry) : Type 0 where
  pub holds : Accepted bytes → T (between 3 4 (read_job bytes).rank) → CallComplete (read_job bytes) entries
