-- The demands, of the definitions themselves. Demands 1 and 2 of the return code and the answer buffer that the
-- definitions give, for every job; demand 3 of the entries of a job's call, for every rank from 3. And those of a
-- call with a package. Leans on Entries.
use Rattle.std.specs.Prelude.{◌≡◌, Bool, true, List, [], ◌++◌, map, ℕ, suc, ◌-◌, ◌≤◌, leb, ltb, take, replicate}
use Rattle.std.proofs.Common.{sym, ◌∙◌, subst, arith, leb→le, nltb→le, length-append}
use Rattle.std.proofs.Math.Path.{ap}
use Rattle.std.proofs.Math.ListN.{length, drop}
use Rattle.std.proofs.lemmas.List.{length-replicate}
use Rattle.std.proofs.Math.Seq.{take-append_seam, drop-append_seam}
use Rattle.definitions.specs.Outcome.{Outcome, refused, answered, and_then}
use Rattle.definitions.specs.Search.{Found}
use Rattle.definitions.specs.Vectors.{Vec}
use Rattle.definitions.specs.Subspace.{Subspace, flatten}
use Rattle.definitions.specs.Orbits.{Row}
use Rattle.definitions.specs.Recursion.{Rules, Answer, Entry, Call, InnerCalls, inner_call, inner_calls}
use Rattle.definitions.specs.Faceting.{Way, plain_way, Prepared, orbits_of, prepare_from, prepare_with, prepare}
use Rattle.definitions.specs.Faceting.{entries_of, faceting, faceting_with, search_from, finish, answer_from}
use Rattle.definitions.specs.Job.{Bytes, Job, read_job, tests, bounds1, rules_of, plane_of, call_of, between, fitting}
use Rattle.definitions.specs.Job.{answer_bytes, outcome_within, outcome, code_of, buffer_of}
use Rattle.definitions.specs.Demands.{Demand1, Demand2, Demand3, Accepted, CallComplete, EntriesComplete, prepared_of}
use Rattle.definitions.specs.Noble.{Package, read_package}
use Rattle.definitions.specs.NobleCalls.{noble_way, noble_call_of, noble_tests, noble_outcome, noble_prepared_of}
use Rattle.definitions.specs.NobleCalls.{FirstDemand, SecondDemand, MinimalEntries, NobleCallComplete, NobleComplete}
use Rattle.laws.specs.Bools.{first, false→fails}
use Rattle.laws.specs.Outcomes.{answered_before, not_refused_if}
use Rattle.laws.specs.Refusals.{answered_passed}
use Rattle.completeness.specs.Entries.{entries_complete, minimal_entries}

-- ---- what an answered job says

-- an answer for which there is room
fitted : (room : ℕ) (bytes answer : Bytes) → fitting room bytes ≡ answered answer → length answer ≤ room
unfolding fitting
fitted room bytes answer e =
    let c = not_refused_if (ltb room (length bytes)) 17 (λ u. answered bytes) answer e in
    subst (λ (l : Bytes). length l ≤ room) (ap contents c.1) (nltb→le room (length bytes) (false→fails c.0))
  where
    contents : Outcome Bytes → Bytes
    contents (refused number) = []
    contents (answered l) = l

-- its call was answered, and its bytes fit
pub record AnsweredCall (bytes : Bytes) (room : ℕ) (answer : Bytes) : Type 0 where
  pub given : Answer
  pub is_given : call_of bounds1 (read_job bytes) ≡ answered given
  pub fits : length answer ≤ room

pub answered_call : (bytes : Bytes) (workspace room : ℕ) (answer : Bytes)
    → outcome bytes workspace room ≡ answered answer → AnsweredCall bytes room answer
unfolding outcome outcome_within
answered_call bytes workspace room answer e =
    let job = read_job bytes in
    let a = (answered_passed (tests bytes workspace) (λ u.
    and_then (call_of bounds1 job) (λ (x : Answer). fitting room (answer_bytes job.budget x))) answer e).1 in
    let b = answered_before (call_of bounds1 job) (λ (x : Answer). fitting room (answer_bytes job.budget x)) answer a in
    record { given = b.0; is_given = b.1; fits = fitted room (answer_bytes job.budget b.0) answer b.2 }

-- ---- demands 1 and 2, of the definitions' own code and buffer

filled : (answer : Bytes) (room : ℕ) → length answer ≤ room
    → length (answer ++ replicate (room - length answer) 0) ≡ room
filled answer room h =
    let e = length-append answer (replicate (room - length answer) 0) in
    let k = length-replicate {A = ℕ} (room - length answer) 0 in
    omega arith

-- of any outcome whose answer fits
module _ (room : ℕ) (result : Outcome Bytes)
    (fits : (answer : Bytes) → result ≡ answered answer → length answer ≤ room) where
  pub first_demand : FirstDemand result room (code_of result) (buffer_of room result)
  unfolding code_of buffer_of
  first_demand = record {
    after_refusal = λ number e. (ap code_of e, ap (buffer_of room) e);
    after_answer = λ answer e.
        let h = fits answer e in
        let rest = room - length answer in (
          length answer,
          ap code_of e,
          h,
          ap (λ (o : Outcome Bytes). length (buffer_of room o)) e ∙ filled answer room h,
          ap (λ (o : Outcome Bytes). drop (length answer) (buffer_of room o)) e
              ∙ drop-append_seam answer (replicate rest 0),
        );
  }

pub second_demand : (room : ℕ) (result : Outcome Bytes) → SecondDemand result (code_of result) (buffer_of room result)
unfolding code_of buffer_of
second_demand room result = record {
  same_bytes = λ answer e. (
    ap code_of e,
    ap (λ (o : Outcome Bytes). take (length answer) (buffer_of room o)) e
        ∙ take-append_seam answer (replicate (room - length answer) 0),
  );
}

module _ (bytes : Bytes) (workspace room : ℕ) where
  abbrev result : Outcome Bytes
  result = outcome bytes workspace room

  pub demand_1 : Demand1 bytes workspace room (code_of result) (buffer_of room result)
  demand_1 =
      let d = first_demand room result (λ answer e. (answered_call bytes workspace room answer e).fits) in
      record { after_refusal = d.after_refusal; after_answer = d.after_answer }

  pub demand_2 : Demand2 bytes workspace room (code_of result) (buffer_of room result)
  demand_2 = record { same_bytes = (second_demand room result).same_bytes }

-- ---- demand 3

-- a prepared call extends closed lists as its way has it
pub extended_by : (way : Way) (more : ℕ) (rules : Rules) (call : Call) (plane : Subspace) (points : List Vec)
    (rows : List Row) (budget : ℕ) (p : Prepared)
    → prepare_with way more rules call plane points rows budget ≡ answered p → p.extended ≡ way.extended
unfolding prepare_from prepare_with
extended_by way more rules call plane points rows budget p e =
    let orbits = orbits_of more rules plane points rows in
    let calls = inner_calls (inner_call (suc more) rules call (map (flatten plane) points) rows) rules.bounds.facets
    (way.keeps orbits) 0 budget in
    let next : InnerCalls → Outcome Prepared = λ done. answered (record {
      more = more;
      points = length points;
      rows = rows;
      inner = done.calls;
      left = done.left;
      extended = way.extended;
    }) in
    let a = not_refused_if (ltb rules.bounds.orbits (length orbits)) 13 (λ u. and_then calls next) p e in
    let b = answered_before calls next p a.1 in
    sym (ap extended_in b.2)
  where
    extended_in : Outcome Prepared → Bool
    extended_in (refused number) = true
    extended_in (answered x) = x.extended

-- what a call above rank 2 was before its search, what that found, and its entries
record FoundWith (rules : Rules) (prepared : Outcome Prepared) (a : Answer) : Type 0 where
  before : Prepared
  is_before : prepared ≡ answered before
  found : Found
  is_found_holds : search_from rules before ≡ answered found
  entries_are : entries_of before found.lists ≡ a.entries

found_with : (rules : Rules) (prepared : Outcome Prepared) (a : Answer) → answer_from rules prepared ≡ answered a
    → FoundWith rules prepared a
unfolding answer_from finish
found_with rules prepared a e =
    let p = answered_before prepared
    (λ (x : Prepared). and_then (search_from rules x) (λ (f : Found). answered (finish x f))) a e in
    let f = answered_before (search_from rules p.0) (λ (x : Found). answered (finish p.0 x)) a p.2 in
    record { before = p.0; is_before = p.1; found = f.0; is_found_holds = f.1; entries_are = ap entries_in f.2 }
  where
    entries_in : Outcome Answer → List Entry
    entries_in (refused number) = []
    entries_in (answered x) = x.entries

-- the entries of a call of any rank from 3, when it is answered
pub call_complete : (job : Job) → 3 ≤ job.rank → (a : Answer) → call_of bounds1 job ≡ answered a
    → CallComplete job a.entries
unfolding call_of faceting prepared_of rules_of prepare plain_way
call_complete job h a e =
    let rules = rules_of bounds1 job in
    let k : job.rank - 2 ≡ suc (job.rank - 3) = omega arith in
    let whole = sym (ap (λ (n : ℕ). faceting n rules (plane_of job) job.points job.rows job.budget) k) ∙ e in
    let f = found_with rules (prepared_of job) a whole in
    let plain = extended_by plain_way (job.rank - 3) rules (faceting (job.rank - 3) rules)
    (plane_of job) job.points job.rows job.budget f.before f.is_before in
    record {
      before = f.before;
      is_before = f.is_before;
      found = f.found;
      is_found_holds = f.is_found_holds;
      complete =
          subst (λ (x : List Entry). EntriesComplete job.entry_limit f.before f.found.lists x) f.entries_are
          (entries_complete rules f.before f.found f.is_found_holds plain);
    }

-- and of one with a package [17.11]
pub noble_complete : (job : Job) (pack : Package) → 3 ≤ job.rank → (a : Answer)
    → noble_call_of bounds1 job pack ≡ answered a → NobleCallComplete job pack a.entries
unfolding noble_call_of faceting_with noble_prepared_of rules_of noble_way
noble_complete job pack h a e =
    let rules = rules_of bounds1 job in
    let k : job.rank - 2 ≡ suc (job.rank - 3) = omega arith in
    let whole =
    sym (ap (λ (n : ℕ). faceting_with (noble_way pack) n rules (plane_of job) job.points job.rows job.budget) k)
    ∙ e in
    let f = found_with rules (noble_prepared_of job pack) a whole in
    let shortened = extended_by (noble_way pack) (job.rank - 3) rules (faceting (job.rank - 3) rules)
    (plane_of job) job.points job.rows job.budget f.before f.is_before in
    record {
      before = f.before;
      is_before = f.is_before;
      found = f.found;
      is_found_holds = f.is_found_holds;
      complete =
          subst (λ (x : List Entry). MinimalEntries job.entry_limit f.before f.found.lists x) f.entries_are
          (minimal_entries rules f.before f.found f.is_found_holds shortened);
    }

-- demand 3, whole, for every accepted job: of the entries that its call gives
pub demand_3 : (bytes : Bytes) (a : Answer) → call_of bounds1 (read_job bytes) ≡ answered a → Demand3 bytes a.entries
unfolding between
demand_3 bytes a e = record {
  holds = λ accepted rank. call_complete (read_job bytes)
      (leb→le 3 (read_job bytes).rank (first (leb 3 (read_job bytes).rank) (leb (read_job bytes).rank 4) rank)) a e;
}

-- and an accepted job's call does give some
pub accepted_answers : (bytes : Bytes) → Accepted bytes
    → (a : Answer) × (call_of bounds1 (read_job bytes) ≡ answered a) × Demand3 bytes a.entries
accepted_answers bytes accepted =
    let c = answered_call bytes accepted.workspace accepted.room accepted.answer accepted.is_answered_holds in
    (c.given, c.is_given, demand_3 bytes c.given c.is_given)

-- ---- the demands of a job with a package [17.11]

module _ (bytes pack : Bytes) (workspace room : ℕ) where
  abbrev noble : Outcome Bytes
  noble = noble_outcome bytes pack workspace room

  abbrev full : Package
  full = read_package (read_job bytes).n pack

  noble_answered : (answer : Bytes) → noble ≡ answered answer
      → (a : Answer) × (noble_call_of bounds1 (read_job bytes) full ≡ answered a)
      × (fitting room (answer_bytes (read_job bytes).budget a) ≡ answered answer)
  unfolding noble_outcome
  noble_answered answer e =
      let job = read_job bytes in
      let a = (answered_passed (noble_tests bytes pack workspace) (λ u. and_then (noble_call_of bounds1 job full)
      (λ (x : Answer). fitting room (answer_bytes job.budget x))) answer e).1 in
      answered_before (noble_call_of bounds1 job full)
      (λ (x : Answer). fitting room (answer_bytes job.budget x)) answer a

  pub noble_first : FirstDemand noble room (code_of noble) (buffer_of room noble)
  noble_first =
      first_demand room noble (λ answer e. let r = noble_answered answer e in
      fitted room (answer_bytes (read_job bytes).budget r.0) answer r.2)

  pub noble_second : SecondDemand noble (code_of noble) (buffer_of room noble)
  noble_second = second_demand room noble

-- the third, of the entries that the call gives
pub noble_third : (bytes pack : Bytes) (a : Answer)
    → noble_call_of bounds1 (read_job bytes) (read_package (read_job bytes).n pack) ≡ answered a
    → NobleComplete bytes pack a.entries
unfolding between
noble_third bytes pack a e =
    record {
      holds = λ rank. noble_complete (read_job bytes) (read_package (read_job bytes).n pack)
          (leb→le 3 (read_job bytes).rank (first (leb 3 (read_job bytes).rank) (leb (read_job bytes).rank 4) rank)) a e;
    }
