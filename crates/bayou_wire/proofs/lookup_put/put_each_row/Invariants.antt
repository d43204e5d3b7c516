use Rattle.std.proofs.Common.{◌≡◌, ◌++◌, drop}
use Rattle.std.specs.List.{flat_map, AllByRecursion}
use Rattle.bayou_wire.specs.Lookups.{IsRow, row_bytes}
use Rattle.bayou_wire.proofs.lookup_put.put_each_row.Given as goal

-- what is written, and what is still to be, are the whole
abbrev pub invariant-loop-row : goal.invariant-loop-row
invariant-loop-row l =
    let left = drop l.row-index l.rows in
    record {
      written : l.out.items ++ flat_map row_bytes left ≡ l.fn.out.items ++ flat_map row_bytes l.rows;
      each : AllByRecursion IsRow left → AllByRecursion IsRow l.rows;
    }
