-- `call_search::search_call` meets its contract: the tables are laid, the rest of the workspace from the owners on is
-- lent to the search, and the lists are made entries (specs/Searched).
use Rattle.call_search.specs.Searched.{table, given_tables, laid_inputs, call_refused, call_emits, call_answers}
use mathlib.Core.Path.{refl}
use Rattle.refusals.specs.Refused.{handed_on}
use Rattle.call_search.proofs.search_call.Goals as goal

pub lay_tables-areas-requires : goal.lay_tables-areas-requires
lay_tables-areas-requires c =
    given_tables c.requires.0 c.args.layout c.args.rank c.args.rows.bytes.now c.args.rows.count c.args.rules
    c.args.extended c.args.left c.args.ws.now c.requires.1 _ c.table_layout_for-tables.ensures

pub search-requires : goal.search-requires
search-requires c = let t = c.lay_tables-areas in (
  table c.requires.0 c.args.layout c.args.rank c.args.rows.bytes.now c.args.rows.count c.args.rules c.args.extended
      c.args.left c.args.ws.now c.requires.1,
  laid_inputs c.requires.0 c.args.layout c.args.rank c.args.rows.bytes.now
      c.args.rows.count c.args.rules c.args.extended c.args.left c.args.ws.now c.requires.1 _
      c.table_layout_for-tables.ensures t.result _ t.ensures,
)

pub list_entries-level-requires : goal.list_entries-level-requires
list_entries-level-requires c =
    let d = c.table_layout_for-tables in
    let t = c.lay_tables-areas in
    let g = c.search in
    call_emits c.requires.0 c.args.layout c.args.rank c.args.rows.bytes.now c.args.rows.count c.args.rules
    c.args.extended c.args.left c.args.ws.now c.requires.1 d.result d.ensures t.result _ t.ensures t.auto.ws _ _
    c.search.auto.ws c.in_ok-found.ensures.found c.in_ok-found.ensures.many c.in_ok-found.ensures.kept _ refl

pub returns-in_err-found : goal.returns-in_err-found
returns-in_err-found c =
    λ k st. let d = c.table_layout_for-tables in let t = c.lay_tables-areas in let g = c.search in
    rw (handed_on _ _ c.from_residual.ensures.1)
    (call_refused k c.args.layout c.args.rank c.args.rows.bytes.now c.args.rows.count c.args.rules c.args.extended
    c.args.left c.args.ws.now st d.result d.ensures t.result _ t.ensures t.auto.ws _ _ c.search.auto.ws
    c.in_err-found.ensures.found c.in_err-found.ensures.many c.in_err-found.ensures.kept _ refl _)

pub returns : goal.returns
returns c = λ k st. let d = c.table_layout_for-tables in let t = c.lay_tables-areas in let g = c.search in
    call_answers k c.args.layout c.args.rank c.args.rows.bytes.now c.args.rows.count c.args.rules c.args.extended
    c.args.left c.args.ws.now st d.result d.ensures t.result _ t.ensures t.auto.ws _ _ c.search.auto.ws
    c.in_ok-found.ensures.found c.in_ok-found.ensures.many c.in_ok-found.ensures.kept _ refl _ _
    c.list_entries-level.ensures
