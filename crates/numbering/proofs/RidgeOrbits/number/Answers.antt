-- `RidgeOrbits::number` meets its contract: a mark is the number of a ridge orbit, and where there is none one is
-- opened.
use native.Mathlib.Omega.{arith}
use Rattle.numbering.proofs.Images.{ridge_held, ridge_opens, ridge_opened, many_small}
use Rattle.numbering.proofs.RidgeOrbits.number.Goals as goal

pub returns-in-Some : goal.returns-in-Some
returns-in-Some c = λ keys st. ridge_held c.args.key c.requires.2 st c.in-Some.number c.in-Some.is

pub overflow_cast-count : goal.overflow_cast-count
overflow_cast-count c =
    record { fits = omega (arith, many_small _ c.args.key _ _ _ c.requires.0 c.open_ridge-count.ensures.counts) }

pub push-requires : goal.push-requires
push-requires c = (omega arith, ridge_opens c.args.key c.requires.2 c.requires.3.1 c.in-None.is c.requires.3.2)

pub returns-in-None : goal.returns-in-None
returns-in-None c = λ keys st.
    ridge_opened c.args.key c.requires.2 st c.in-None.is _ c.len-number.ensures.value _ _
    c.open_ridge-count.ensures.marks c.open_ridge-count.ensures.counts _ c.push.ensures.items
