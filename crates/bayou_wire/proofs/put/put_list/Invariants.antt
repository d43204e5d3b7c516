use Rattle.std.proofs.Common.{◌≡◌, ◌++◌, drop}
use Rattle.std.specs.List.{flat_map, AllByRecursion}
use Rattle.bayou_wire.specs.Spelling.{list_bytes}
use Rattle.bayou_wire.proofs.put.put_list.Given as goal

-- what is written, and what is still to be, are the whole
abbrev pub invariant-loop-member : goal.invariant-loop-member
invariant-loop-member g l =
    let left = drop l.member-index l.members in
    record {
      written : l.out.items ++ flat_map g.T.Spelled.spelling left ≡ l.fn.out.items ++ list_bytes g.T.Spelled.spelling l.members;
      each : AllByRecursion g.T.Spelled.Is left → AllByRecursion g.T.Spelled.Is l.members;
    }
