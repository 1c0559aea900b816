-- `list_rows` meets what it calls: the rows that keep a set are no more than all, and their bytes are there.
use Rattle.std.proofs.Common.{arith}
use Rattle.orbit_list.proofs.Laws.{written_few}
use Rattle.orbit_list.proofs.list_rows.Goals as goal

pub invariant_of-within : goal.invariant_of-within
invariant_of-within g c = let full = c.args.full in
    record {
      room = written_few full.n full.rows.count full.rows.bytes.now full.permute c.args.set _
          (omega arith) _ _ c.rows_within-count.ensures.count c.rows_within-count.ensures.rows;
    }
