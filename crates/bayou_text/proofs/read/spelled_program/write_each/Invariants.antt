-- those so far are written, and keep their ranges
use Rattle.std.proofs.Common.{◌≡◌, ◌++◌, map, take}
use Rattle.std.specs.List.{AllByRecursion}
use Rattle.bayou_lang.specs.Ranges.{IsOp}
use Rattle.bayou_text.specs.AtOnce.{all_tokens}
use Rattle.bayou_text.specs.Spelling.{op_json}
use Rattle.bayou_text.proofs.read.spelled_program.write_each.Given as goal

abbrev pub invariant-loop-op : goal.invariant-loop-op
invariant-loop-op l = record {
  before : l.writer.before ≡ l.initial.writer.before;
  spelled : l.writer.tokens ≡ l.initial.writer.tokens ++ all_tokens (map op_json (take l.op-index l.ops));
  kept : AllByRecursion IsOp (take l.op-index l.ops);
}
