use Rattle.std.proofs.Common.{◌≡◌}
use Rattle.orders.proofs.Reading.{Rows, ReadSoFar}
use Rattle.orders.proofs.table.OrderTable.of_rows.Given as goal

abbrev pub invariant-loop-r : goal.invariant-loop-r
invariant-loop-r l =
    record {
      size : l.r-iterator.iter.size ≡ l.n;
      rows : Rows l.bytes l.n l.len;
      so_far : ReadSoFar l.bytes l.n l.len l.r-iterator.count l.r-iterator.iter.rest.now l.rows;
    }
