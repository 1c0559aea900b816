-- Theorems on the definitions of specs/Ways.
use Rattle.std.specs.Prelude.{◌≡◌, List, map, ℕ, ◌≤◌, ltb, length}
use Rattle.std.proofs.Math.Path.{sym, ap}
use Rattle.std.proofs.Common.{◌∙◌, ltb-false}
use Rattle.std.proofs.Math.Bool.{false}
use native.Mathlib.Omega.{arith}
use Rattle.std.proofs.lemmas.List.{length-map}
use Rattle.definitions.specs.Outcome.{answered, refuse_if}
use Rattle.definitions.specs.Orbits.{Orbit}
use Rattle.definitions.specs.Faceting as def
use Rattle.definitions.specs.Faceting.{plain_way}
use Rattle.definitions.specs.Noble.{kept_by}
use Rattle.definitions.specs.NobleCalls.{noble_way}
use Rattle.laws.specs.Outcomes.{not_refused_if}
use Rattle.orbits.specs.Numbers.{orbit_of}
use Rattle.orbits.specs.Workspace.{orbits_in, orbits_length}
use Rattle.orbits.specs.Answers.{answer_in, orbits_or_refusal}
use Rattle.refusals.specs.declared.Refusal.{Refusal}
use Rattle.std.specs.Prelude.{Option, Some, Ok, Err}
use Rattle.shapes.specs.Answered.{answers_equal}
use Rattle.tallies.specs.Meaning.{package_in}
use Rattle.tallies.specs.declared.Package.{Package}
use Rattle.faceting.specs.Ways.{all_taken, found_too_many, some_taken, taken_or_refusal, too_many, way_noble, way_of}

module _ (way : def.Way) (bound : ℕ) (orbits : List Orbit) (n : ℕ) (s : List ℕ) where
  module _ (count : ℕ) (e : answer_in n (Ok count) s ≡ taken_or_refusal way bound orbits) where
    found_whole : refuse_if (ltb bound (length orbits)) 13 (λ u. answered (way.keeps orbits))
        ≡ answered (map (orbit_of n) (orbits_in s count))
    unfolding answer_in taken_or_refusal
    found_whole = sym e

    all : (ltb bound (length orbits) ≡ false)
        × (answered (way.keeps orbits) ≡ answered (map (orbit_of n) (orbits_in s count)))
    all =
        not_refused_if (ltb bound (length orbits)) 13 (λ u. answered (way.keeps orbits))
        (map (orbit_of n) (orbits_in s count)) found_whole

    -- and else no more
    pub found_few : length orbits ≤ bound
    found_few = ltb-false bound (length orbits) all.0

    pub found_are : way.keeps orbits ≡ map (orbit_of n) (orbits_in s count)
    found_are = answers_equal (way.keeps orbits) (map (orbit_of n) (orbits_in s count)) all.1

    pub found_count : count ≡ length (way.keeps orbits)
    found_count = sym (ap length found_are ∙ (length-map (orbits_in s count) (orbit_of n) ∙ orbits_length s count))

    pub found_all : map (orbit_of n) (orbits_in s (length (way.keeps orbits))) ≡ way.keeps orbits
    found_all = ap (λ (k : ℕ). map (orbit_of n) (orbits_in s k)) (sym found_count) ∙ sym found_are

-- ---- what is kept of the orbits that were found

module _ (n : ℕ) (bound : ℕ) (orbits : List Orbit) where
  pub kept_refused : (way : Option Package) (e : Refusal) (s u : List ℕ) → answer_in n (Err e) s
      ≡ orbits_or_refusal bound orbits → answer_in n (Err e) u ≡ taken_or_refusal (way_of n way) bound orbits
  kept_refused way e s u found =
      let k = found_too_many plain_way bound orbits n s e (found ∙ all_taken bound orbits) in
      too_many (way_of n way) bound orbits n u e k.0 k.1

  module _ (count : ℕ) (s : List ℕ) (found : answer_in n (Ok count) s ≡ orbits_or_refusal bound orbits) where
    plainly : answer_in n (Ok count) s ≡ taken_or_refusal plain_way bound orbits
    plainly = found ∙ all_taken bound orbits

    are : orbits ≡ map (orbit_of n) (orbits_in s count)
    unfolding plain_way
    are = found_are plain_way bound orbits n s count plainly

    pub few_counted : count ≤ bound
    unfolding plain_way
    few_counted =
        let e = found_count plain_way bound orbits n s count plainly in
        let f = found_few plain_way bound orbits n s count plainly in
        omega arith

    pub kept_some : (pack : Package) (r : ℕ) (u : List ℕ)
        → map (orbit_of n) (orbits_in u r) ≡ kept_by (package_in n pack) (map (orbit_of n) (orbits_in s count))
        → answer_in n (Ok r) u ≡ taken_or_refusal (way_of n (Some pack)) bound orbits
    unfolding noble_way
    kept_some pack r u kept =
        some_taken (way_of n (Some pack)) bound orbits n u r (found_few plain_way bound orbits n s count plainly)
        (kept ∙ (ap (kept_by (package_in n pack)) (sym are)
        ∙ ap (λ (w : def.Way). w.keeps orbits) (sym (way_noble n pack))))
