-- The number that docs/SPECIFICATION.md gives each refusal, and what a result says as an outcome of chapter 2. Leans
-- on the definition of an outcome.
use Rattle.std.specs.Prelude.{ℕ, ◌≡◌, Result, Ok, Err}
use Rattle.std.proofs.Common.{refl, ap, ◌∙◌, arith}
use Rattle.std.proofs.lemmas.Result.{err_from_is_err_and}
use Rattle.std.specs.Result.{IsErrAnd}
use Rattle.definitions.specs.Outcome.{Outcome, refused, answered}
use Rattle.refusals.specs.declared.Refusal.{Refusal}
use Rattle.refusals.specs.declared.Refusal.TheVariants.{Mark, Version, Rank, Dimension, Points, Rows, Flags, Length}
use Rattle.refusals.specs.declared.Refusal.TheVariants.{Number, FirstRow, Row, Workspace, Orbits, Plane, Bound, Budget}
use Rattle.refusals.specs.declared.Refusal.TheVariants.{Room, Package, Tariff, NotOfRank4, Entry, Tolerance, Rule, Cut}
use Rattle.refusals.specs.declared.Refusal.TheVariants.{Records}

-- [11.1] [11.4] [11.5] [15.1] [15.2] [16.4] [17.3]
abbrev pub number_of : Refusal → ℕ
number_of Mark = 1
number_of Version = 2
number_of Rank = 3
number_of Dimension = 4
number_of Points = 5
number_of Rows = 6
number_of Flags = 7
number_of Length = 8
number_of Number = 9
number_of FirstRow = 10
number_of Row = 11
number_of Workspace = 12
number_of Orbits = 13
number_of Plane = 14
number_of Bound = 15
number_of Budget = 16
number_of Room = 17
number_of Package = 18
number_of Tariff = 19
number_of NotOfRank4 = 20
number_of Entry = 21
number_of Tolerance = 22
number_of Rule = 25
number_of Cut = 26
number_of Records = 27

-- a result as an outcome: an answer, or a refusal's number
abbrev pub outcome_of : {A : Type 0} → Result A Refusal → Outcome A
outcome_of (Ok a) = answered a
outcome_of (Err e) = refused (number_of e)

-- what a `?` hands on is the error that it met
pub handed_on : {A : Type 0} (r : Result A Refusal) (e : Refusal) → IsErrAnd r (λ x. x ≡ e) → r ≡ Err e
handed_on r e is = let p = err_from_is_err_and r is in p.1 ∙ ap Err p.2

pub refused_on : {A : Type 0} (r : Result A Refusal) (e : Refusal) → IsErrAnd r (λ x. x ≡ e)
    → outcome_of r ≡ refused (number_of e)
refused_on r e is = ap outcome_of (handed_on r e is)

-- 17 is the number of one refusal
pub only_room : (e : Refusal) → number_of e ≡ 17 → e ≡ Room
only_room Mark e = absurd (omega arith)
only_room Version e = absurd (omega arith)
only_room Rank e = absurd (omega arith)
only_room Dimension e = absurd (omega arith)
only_room Points e = absurd (omega arith)
only_room Rows e = absurd (omega arith)
only_room Flags e = absurd (omega arith)
only_room Length e = absurd (omega arith)
only_room Number e = absurd (omega arith)
only_room FirstRow e = absurd (omega arith)
only_room Row e = absurd (omega arith)
only_room Workspace e = absurd (omega arith)
only_room Orbits e = absurd (omega arith)
only_room Plane e = absurd (omega arith)
only_room Bound e = absurd (omega arith)
only_room Budget e = absurd (omega arith)
only_room Room e = refl
only_room Package e = absurd (omega arith)
only_room Tariff e = absurd (omega arith)
only_room NotOfRank4 e = absurd (omega arith)
only_room Entry e = absurd (omega arith)
only_room Tolerance e = absurd (omega arith)
only_room Rule e = absurd (omega arith)
only_room Cut e = absurd (omega arith)
only_room Records e = absurd (omega arith)
