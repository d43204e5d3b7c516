-- those so far are written
use Rattle.std.proofs.Common.{◌≡◌, ◌++◌, map, take}
use Rattle.bayou_text.specs.AtOnce.{all_tokens}
use Rattle.bayou_text.specs.Spelling.{count_json}
use Rattle.bayou_text.proofs.read.spelled.write_each.Given as goal

abbrev pub invariant-loop-count : goal.invariant-loop-count
invariant-loop-count l =
    (l.writer.before ≡ l.initial.writer.before)
    × (l.writer.tokens ≡ l.initial.writer.tokens ++ all_tokens (map count_json (take l.count-index l.counts)))
