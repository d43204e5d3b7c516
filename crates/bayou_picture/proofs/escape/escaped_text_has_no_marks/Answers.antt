use Rattle.bayou_picture.proofs.NoMarks.{escaped_none}
use Rattle.bayou_picture.proofs.escape.escaped_text_has_no_marks.Goals as goal

pub returns : goal.returns
returns c bytes = escaped_none bytes
