-- Theorems on the definitions of specs/SplitEnded.
use Rattle.std.specs.Prelude.{◌≡◌, refl, ℕ, zero, suc, ◌-◌, ◌<◌, length}
use Rattle.std.proofs.Math.Path.{sym, ap}
use Rattle.std.proofs.Common.{◌∙◌, subst}
use Rattle.std.specs.Prelude.{Option, Some, None}
use mathlib.Core.List.{List, [], ◌∷◌, map}
use Rattle.definitions.specs.Outcome.{answered}
use Rattle.definitions.specs.Vectors.{Vec}
use Rattle.definitions.specs.Subspace.{Subspace}
use Rattle.definitions.specs.Orbits.{Row}
use Rattle.definitions.specs.Figures.{Compound, components_of, split_queue, parts_of}
use Rattle.definitions.specs.Search.{Facet, Found}
use Rattle.definitions.specs.Recursion.{Rules, Entry, Inner}
use Rattle.definitions.specs.Faceting.{Prepared, prepare, faceting, split_in, at_orbit, split, entry_of, entries_of}
use Rattle.definitions.specs.Faceting.{search_from}
use Rattle.definitions.specs.Job.{Job, bounds1, rules_of, plane_of}
use Rattle.definitions.specs.Demands.{CallComplete, prepared_of}
use Rattle.laws.specs.Options.{none_is_not_some}
use Rattle.laws.specs.Lists.{Mem, flat_map_same}
use Rattle.laws.specs.Places.{flat_singles}
use Rattle.shapes.specs.Answered.{preparation}
use Rattle.shapes.specs.Emitted.{found_facet, entry_of_list}
use Rattle.shapes.specs.LowRanks.{inner_at, at_orbit_holds, facet_orbit}
use Rattle.shapes.specs.SplitCalls.{SplitAnswer}
use Rattle.shapes.proofs.SplitCalls.{split_answer, split_in_call, split_final}
use Rattle.shapes.specs.SplitEnded.{components_in, compounds_of}

-- a facet that is not compound is its own one part, however many steps are made
parts_alone : (compounds : List Compound) (steps a : ℕ) → components_of compounds a ≡ None
    → split_queue steps compounds (a ∷ []) ≡ a ∷ []
unfolding split_queue
parts_alone compounds zero a e = refl
parts_alone compounds (suc steps) a e = go (components_of compounds a) e
  where
    ends : (n : ℕ) → split_queue n compounds [] ≡ []
    ends zero = refl
    ends (suc n) = refl

    go : (o : Option (ℕ × ℕ)) → o ≡ None → elim o [
      | None ↦ a ∷ split_queue steps compounds []
      | Some parts ↦
          split_queue steps compounds (parts.0 ∷ parts.1 ∷ [])
    ] ≡ a ∷ []
    go None q = ap (λ (l : List ℕ). a ∷ l) (ends steps)
    go (Some parts) q = absurd (none_is_not_some parts (sym q))

module _ (more : ℕ) (rules : Rules) (plane : Subspace) (points : List Vec) (rows : List Row) (budget : ℕ) (p : Prepared)
    (is_before : prepare more rules (faceting more rules) plane points rows budget ≡ answered p) (found : Found)
    (is_found_holds : search_from rules p ≡ answered found) where
  inner_split : (i : Inner) → Mem i p.inner → SplitAnswer i.answer
  inner_split i m =
      let inner = (preparation more rules (faceting more rules) plane points rows budget p is_before).inner.each i m in
      split_answer more rules _ _ _ inner.budget i.answer inner.is

  -- the list of an entry: a list found, split
  abbrev Split : Entry → Type 0
  Split x = (l : List Facet) × Mem l found.lists × (x.list ≡ split p l)

  split_of : (x : Entry) → Mem x (entries_of p found.lists) → Split x
  unfolding entry_of
  split_of x i = let r = entry_of_list rules p found is_found_holds x i in (r.0, r.1, ap (λ (y : Entry). y.list) r.2)

  -- its items are facets of the call
  item_orbit : (x : Entry) → Mem x (entries_of p found.lists) → (g : Facet) → Mem g x.list → g.0 < length p.inner
  item_orbit x i g m =
      let r = split_of x i in
      (facet_orbit p.inner g (split_in_call p inner_split r.0 (found_facet rules p found is_found_holds r.0 r.1) g
      (subst (λ (l : List Facet). Mem g l) r.2 m))).0

  -- and none of them is compound
  pub none_compound : (x : Entry) → Mem x (entries_of p found.lists) → (g : Facet) → Mem g x.list
      → components_in p g ≡ None
  unfolding components_in
  none_compound x i g m =
      let r = split_of x i in
      ap (λ (cs : List Compound). components_of cs g.1) (at_orbit_holds compounds_of p.inner g.0 (item_orbit x i g m))
      ∙ split_final p inner_split r.0 (found_facet rules p found is_found_holds r.0 r.1) g
      (subst (λ (l : List Facet). Mem g l) r.2 m)

  -- so its list, split once more, is itself
  pub split_again : (x : Entry) → Mem x (entries_of p found.lists) → split p x.list ≡ x.list
  unfolding components_in split split_in parts_of
  split_again x i =
      flat_map_same (λ (f : Facet). at_orbit (λ (j : Inner). split_in j f) p.inner f.0)
      (λ (f : Facet). f ∷ []) x.list alone ∙ flat_singles x.list
    where
      alone : (f : Facet) → Mem f x.list → at_orbit (λ (j : Inner). split_in j f) p.inner f.0 ≡ f ∷ []
      alone f m =
          let here_is = item_orbit x i f m in
          let own = inner_at p.inner f.0 in
          let none_of : components_of (compounds_of own) f.1 ≡ None =
          sym (ap (λ (cs : List Compound). components_of cs f.1) (at_orbit_holds compounds_of p.inner f.0 here_is))
          ∙ none_compound x i f m in
          at_orbit_holds (λ (j : Inner). split_in j f) p.inner f.0 here_is
          ∙ ap (map (λ (part : ℕ). (f.0, part))) (parts_alone (compounds_of own) _ f.1 none_of)

-- ---- of a job

-- the entries that demand 3 speaks of name no compound facet
pub job_none_compound : (job : Job) (entries : List Entry) (done : CallComplete job entries) → (x : Entry)
    → Mem x entries → (g : Facet) → Mem g x.list → components_in done.before g ≡ None
unfolding prepared_of
job_none_compound job entries done x i =
    none_compound (job.rank - 3) (rules_of bounds1 job)
    (plane_of job) job.points job.rows job.budget done.before done.is_before done.found done.is_found_holds x
    (subst (λ (l : List Entry). Mem x l) done.complete.exactly i)
