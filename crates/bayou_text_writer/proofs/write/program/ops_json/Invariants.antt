use Rattle.std.proofs.Common.{◌≡◌, map, take}
use Rattle.std.specs.List.{AllByRecursion}
use Rattle.serde_json.specs.View.{view}
use Rattle.bayou_lang.specs.Ranges.{IsOp}
use Rattle.bayou_text.specs.Spelling.{op_json}
use Rattle.bayou_text_writer.proofs.write.program.ops_json.Given as goal

-- those so far are spelled, and keep their ranges
abbrev pub invariant-loop-op : goal.invariant-loop-op
invariant-loop-op l = record {
  spelled : map view l.list.items ≡ map op_json (take l.op-index l.ops);
  kept : AllByRecursion IsOp (take l.op-index l.ops);
}
