use Rattle.std.proofs.Common.{◌≡◌, map, take}
use Rattle.std.specs.List.{AllByRecursion}
use Rattle.serde_json.specs.View.{view}
use Rattle.bayou_lang.specs.Ranges.{IsAlt}
use Rattle.bayou_text.specs.Spelling.{alt_json}
use Rattle.bayou_text_writer.proofs.write.program.alts_json.Given as goal

-- those so far are spelled, and keep their ranges
abbrev pub invariant-loop-alternative : goal.invariant-loop-alternative
invariant-loop-alternative l = record {
  spelled : map view l.list.items ≡ map alt_json (take l.alternative-index l.alternatives);
  kept : AllByRecursion IsAlt (take l.alternative-index l.alternatives);
}
