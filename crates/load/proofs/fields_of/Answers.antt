-- `load::fields_of` meets its contract. In a job of its exact length every field is there. Assumes nothing.
use mathlib.Core.Path.{◌∙◌}
use lib.ListN.{get_or}
use Rattle.std.proofs.Common.{rules}
use Rattle.definitions.specs.Job.{float_at, number_at}
use Rattle.load.proofs.Laws.{fitting, fields_are, present_read, instead_read}
use Rattle.load.proofs.fields_of.Goals as goal

pub then-tolerance-requires : goal.then-tolerance-requires
then-tolerance-requires c =
    let k = (fitting _ _ _ c.requires c.header_of-h.ensures c.places_of-p.ensures).tolerance in search rules

pub then-rule-requires : goal.then-rule-requires
then-rule-requires c =
    let k = (fitting _ _ _ c.requires c.header_of-h.ensures c.places_of-p.ensures).rule in search rules

pub then-requires : goal.then-requires
then-requires c =
    let k = (fitting _ _ _ c.requires c.header_of-h.ensures c.places_of-p.ensures).min in search rules

pub then-requires-2 : goal.then-requires-2
then-requires-2 c =
    let k = (fitting _ _ _ c.requires c.header_of-h.ensures c.places_of-p.ensures).max in search rules

pub then-requires-3 : goal.then-requires-3
then-requires-3 c =
    let k = (fitting _ _ _ c.requires c.header_of-h.ensures c.places_of-p.ensures).limit in search rules

pub get-requires : goal.get-requires
get-requires c = (fitting _ _ _ c.requires c.header_of-h.ensures c.places_of-p.ensures).budget

pub returns : goal.returns
returns c =
    let shortest = present_read _ (float_at c.args.job.now 11) _
    (c.then.ensures.variant ∙ c.has_flag.ensures) c.then.ensures.some (λ x p. search rules) in
    let longest = present_read _ (float_at c.args.job.now c.places_of-p.result.max) _
    (c.then-2.ensures.variant ∙ c.has_flag-2.ensures) c.then-2.ensures.some (λ x p. search rules) in
    let entries = present_read _ (number_at c.args.job.now c.places_of-p.result.limit 4) _
    (c.then-3.ensures.variant ∙ c.has_flag-3.ensures) c.then-3.ensures.some (λ x p. search rules) in
    let tolerance = present_read _ (float_at c.args.job.now c.places_of-p.result.tolerance) _
    c.then-tolerance.ensures.variant c.then-tolerance.ensures.some (λ x p. search rules) in
    let rule = present_read _ (get_or c.args.job.now c.places_of-p.result.rule 0) _ c.then-rule.ensures.variant
    c.then-rule.ensures.some (λ x p. search rules) in
    fields_are _ _ _ _ _ _ _ _ _ c.header_of-h.ensures c.places_of-p.ensures shortest longest entries
    (c.unwrap_or.ensures ∙ instead_read _ _ _ _ tolerance)
    (c.unwrap_or-2.ensures ∙ instead_read _ _ _ _ rule) c.get.ensures
