-- `nobles::write_noble` meets its contract: the package is loaded, the call by it is the definition's, and what is
-- written of it is what the job gets by itself. Assumes nothing.
use mathlib.Core.Path.{refl, sym, ap, ◌∙◌}
use lib.ListN.{length}
use Rattle.answering.specs.Closed.{written_in, buffer_in}
use Rattle.answering.specs.Answered.{bytes_of}
use Rattle.faceting.specs.Ways.{package_fits}
use Rattle.job_calls.specs.Loaded.{counts}
use Rattle.nobles.specs.Passed.{job_passes, pack_fits, noble_call, alone_is}
use Rattle.laws.specs.Clauses.{of_two}
use Rattle.nobles.proofs.write_noble.Goals as goal

pub load_package-numbers-requires : goal.load_package-numbers-requires
load_package-numbers-requires c =
    let a = c.args in
    let passes = job_passes a.job.now a.pack.now (length a.ws.now) a.fields c.requires.0 in (
      (counts a.job.now (length a.ws.now) a.fields passes).n_most,
      pack_fits a.job.now a.pack.now (length a.ws.now) a.fields c.requires.0,
      refl,
      refl,
    )

pub call_in_way-called-requires : goal.call_in_way-called-requires
call_in_way-called-requires c =
    let a = c.args in (
      job_passes a.job.now a.pack.now (length a.ws.now) a.fields c.requires.0,
      refl,
      package_fits (c.package-whole.ensures.fits a.fields.n c.load_package-numbers.ensures.fits),
    )

pub write_called-requires : goal.write_called-requires
write_called-requires c = (c.requires.1, (_, c.call_in_way-called.ensures.said))

pub returns : goal.returns
returns c = of_two (λ x0 x1. record { result = x0; buffer = x1 })
    (let a = c.args in
    let room = length a.answer.now in
    let load = c.load_package-numbers in
    let said = c.call_in_way-called.ensures.said in
    let is = noble_call a.job.now a.pack.now (length a.ws.now) a.fields c.requires.0 _
    (c.package-whole.ensures.is a.fields.n ∙ load.ensures.is) in
    let whole = ap (bytes_of a.fields.budget) is
    ∙ sym (alone_is a.job.now a.pack.now (length a.ws.now) a.fields c.requires.0) in (
      c.write_called.ensures.result _ said ∙ ap (written_in room) whole,
      c.write_called.ensures.buffer _ said ∙ ap (buffer_in room) whole,
    ))
