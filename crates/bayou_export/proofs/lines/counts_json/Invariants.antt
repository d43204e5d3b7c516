use Rattle.std.proofs.Common.{◌≡◌, map, take}
use Rattle.serde_json.specs.View.{view}
use Rattle.bayou_text.specs.Spelling.{count_json}
use Rattle.bayou_export.proofs.lines.counts_json.Given as goal

-- those so far are spelled
abbrev pub invariant-loop-count : goal.invariant-loop-count
invariant-loop-count l = map view l.list.items ≡ map count_json (take l.count-index l.counts)
