-- those so far are written, and keep their ranges
use Rattle.std.proofs.Common.{◌≡◌, ◌++◌, map, take}
use Rattle.std.specs.List.{AllByRecursion}
use Rattle.bayou_lang.specs.Ranges.{IsCond}
use Rattle.bayou_text.specs.AtOnce.{all_tokens}
use Rattle.bayou_text.specs.Spelling.{cond_json}
use Rattle.bayou_text.proofs.read.spelled_check.write_each.Given as goal

abbrev pub invariant-loop-condition : goal.invariant-loop-condition
invariant-loop-condition l = record {
  before : l.writer.before ≡ l.initial.writer.before;
  spelled : l.writer.tokens ≡ l.initial.writer.tokens ++ all_tokens (map cond_json (take l.condition-index l.conditions));
  kept : AllByRecursion IsCond (take l.condition-index l.conditions);
}
