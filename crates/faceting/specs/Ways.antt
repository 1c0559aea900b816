-- The way of a call by what the code holds: no package, which is the plain way, or the package of a full set whose
-- global numbers and rows are lent [17.8]. What is taken of the orbits that were found, and what 13 counts: all of
-- them. Leans on the package in bytes and on the orbits' answer.
use Rattle.std.specs.Prelude.{◌≡◌, Bool, not, List, map, ℕ, ◌≤◌, ◌<◌, ltb, length}
use Rattle.std.proofs.Math.Path.{refl, sym, ap}
use Rattle.std.proofs.Common.{◌∙◌, subst, le-ltb, lt-ltb}
use Rattle.std.proofs.Math.Bool.{true, false}
use Rattle.std.proofs.Math.Logic.{⊎_elim}
use Rattle.definitions.specs.Outcome.{Outcome, refused, answered, refuse_if}
use Rattle.definitions.specs.Orbits.{Orbit}
use Rattle.definitions.specs.Faceting as def
use Rattle.definitions.specs.Faceting.{plain_way}
use Rattle.definitions.specs.NobleCalls.{noble_way}
use Rattle.laws.specs.Segments.{le_or_lt}
use Rattle.orbits.specs.Numbers.{orbit_of}
use Rattle.orbits.specs.Workspace.{orbits_in}
use Rattle.orbits.specs.Answers.{answer_in, orbits_or_refusal}
use Rattle.refusals.specs.declared.Refusal.{Refusal}
use Rattle.refusals.specs.Refused.{number_of}
use Rattle.std.specs.Prelude.{Option, None, Some, is_some, Result, Ok, Err}
use Rattle.shapes.specs.Answered.{TakesSome, plain_takes, noble_takes}
use Rattle.tallies.specs.Meaning.{PackageFits, package_in}
use Rattle.tallies.specs.declared.Package.{Package}

-- the definition's way: plain, or by the package that is lent
unfoldable pub way_of : ℕ → Option Package → def.Way
way_of n None = plain_way
way_of n (Some pack) = noble_way (package_in n pack)

-- the package, where there is one, can be counted by
pub record WayFits (n : ℕ) (way : Option Package) : Type 0 where
  pub pack : (whole : Package) → way ≡ Some whole → PackageFits n whole

-- a plain way asks nothing
pub plain_fits : (n : ℕ) → WayFits n None
plain_fits n = record { pack = λ whole e. let no : ⊥ = cc in absurd no }

-- nor does the way of a package that can be counted by
pub package_fits : {n : ℕ} {pack : Package} → PackageFits n pack → WayFits n (Some pack)
package_fits {n} {pack} f = record {
  pack = λ other e. let same : pack ≡ other = cc in subst (PackageFits n) same f;
}

module _ (n : ℕ) where
  pub way_takes : (way : Option Package) → TakesSome (way_of n way)
  unfolding way_of
  way_takes None = plain_takes
  way_takes (Some pack) = noble_takes (package_in n pack)

  -- without a package closed lists are extended
  pub way_extended : (way : Option Package) (plain : Bool) → is_some way ≡ not plain → plain ≡ (way_of n way).extended
  unfolding way_of plain_way noble_way
  way_extended None true e = refl
  way_extended None false e = cc
  way_extended (Some pack) true e = cc
  way_extended (Some pack) false e = refl

  pub way_plain : way_of n None ≡ plain_way
  unfolding way_of
  way_plain = refl

  pub way_noble : (pack : Package) → way_of n (Some pack) ≡ noble_way (package_in n pack)
  unfolding way_of
  way_noble pack = refl

-- the orbits that a way keeps, unless there are more than the bound in all
unfoldable pub taken_or_refusal : def.Way → ℕ → List Orbit → Outcome (List Orbit)
taken_or_refusal way bound orbits = refuse_if (ltb bound (length orbits)) 13 (λ u. answered (way.keeps orbits))

-- the plain way takes them all
pub all_taken : (bound : ℕ) (orbits : List Orbit)
    → orbits_or_refusal bound orbits ≡ taken_or_refusal plain_way bound orbits
unfolding orbits_or_refusal taken_or_refusal plain_way
all_taken bound orbits = refl

module _ (way : def.Way) (bound : ℕ) (orbits : List Orbit) (n : ℕ) (s : List ℕ) where
  -- refusal 13: there are more orbits than the bound
  pub found_too_many : (e : Refusal) → answer_in n (Err e) s ≡ taken_or_refusal way bound orbits
      → (number_of e ≡ 13) × (bound < length orbits)
  unfolding answer_in taken_or_refusal refuse_if
  found_too_many e is = ⊎_elim
      (λ h.
      let q : refused (number_of e) ≡ answered (way.keeps orbits) = is
      ∙ ap (λ (b : Bool). refuse_if b 13 (λ u. answered (way.keeps orbits))) (le-ltb bound (length orbits) h) in cc)
      (λ h.
      let q : refused (number_of e) ≡ refused 13 = is
      ∙ ap (λ (b : Bool). refuse_if b 13 (λ u. answered (way.keeps orbits))) (lt-ltb bound (length orbits) h) in
      (cc, h))
      (le_or_lt (length orbits) bound)

  pub too_many : (e : Refusal) → number_of e ≡ 13 → bound < length orbits
      → answer_in n (Err e) s ≡ taken_or_refusal way bound orbits
  unfolding answer_in taken_or_refusal refuse_if
  too_many e is h =
      ap refused is
      ∙ sym (ap (λ (b : Bool). refuse_if b 13 (λ u. answered (way.keeps orbits))) (lt-ltb bound (length orbits) h))

  pub some_taken : (count : ℕ) → length orbits ≤ bound → map (orbit_of n) (orbits_in s count) ≡ way.keeps orbits
      → answer_in n (Ok count) s ≡ taken_or_refusal way bound orbits
  unfolding answer_in taken_or_refusal refuse_if
  some_taken count few e =
      ap answered e ∙ sym
      (ap (λ (b : Bool). refuse_if b 13 (λ u. answered (way.keeps orbits))) (le-ltb bound (length orbits) few))

-- ---- what is kept of the orbits that were found

module _ (n bound : ℕ) (orbits : List Orbit) where
  pub kept_plain : (r : Result ℕ Refusal) (s : List ℕ) → answer_in n r s ≡ orbits_or_refusal bound orbits
      → answer_in n r s ≡ taken_or_refusal (way_of n None) bound orbits
  kept_plain r s found =
      found ∙ (all_taken bound orbits ∙ ap (λ (w : def.Way). taken_or_refusal w bound orbits) (sym (way_plain n)))
