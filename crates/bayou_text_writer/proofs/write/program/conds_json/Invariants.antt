use Rattle.std.proofs.Common.{◌≡◌, map, take}
use Rattle.std.specs.List.{AllByRecursion}
use Rattle.serde_json.specs.View.{view}
use Rattle.bayou_lang.specs.Ranges.{IsCond}
use Rattle.bayou_text.specs.Spelling.{cond_json}
use Rattle.bayou_text_writer.proofs.write.program.conds_json.Given as goal

-- those so far are spelled, and keep their ranges
abbrev pub invariant-loop-condition : goal.invariant-loop-condition
invariant-loop-condition l = record {
  spelled : map view l.list.items ≡ map cond_json (take l.condition-index l.conditions);
  kept : AllByRecursion IsCond (take l.condition-index l.conditions);
}
