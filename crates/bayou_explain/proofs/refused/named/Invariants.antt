-- no line so far tells it
use Rattle.std.proofs.Common.{All, take}
use Rattle.bayou_text.specs.Said.{audit_said}
use Rattle.bayou_explain.specs.Refused.{NamesWrite}
use Rattle.bayou_explain.proofs.refused.named.Given as goal

abbrev pub invariant-loop-line : goal.invariant-loop-line
invariant-loop-line l = All (λ line. ¬ NamesWrite l.wid (audit_said line.told)) (take l.line-index l.lines)
