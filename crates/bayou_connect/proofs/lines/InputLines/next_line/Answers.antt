use Rattle.std.proofs.Common.{rules}
use Rattle.bayou_connect.proofs.Lining.{is_next, is_too_long}
use Rattle.bayou_connect.proofs.lines.InputLines.next_line.Goals as goal

pub returns-then-len-gt-MAX_LINE_BYTES : goal.returns-then-len-gt-MAX_LINE_BYTES
returns-then-len-gt-MAX_LINE_BYTES g c = is_too_long _ _ c.take_line.new.line.items (search rules) (search rules)

pub returns : goal.returns
returns g c = is_next _ _ c.take_line.new.line (search rules) (search rules)
