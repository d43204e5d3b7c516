use Rattle.std.proofs.Common.{◌∙◌, sym}
use Rattle.bayou_web_state.proofs.Texts.{text_of-other, text_of-utf8}
use Rattle.bayou_web_state.proofs.done.text_in.Goals as goal

pub returns-in-Ok : goal.returns-in-Ok
returns-in-Ok c = c.in-Ok.ensures.cases.0 ∙ sym (text_of-utf8 c.args.bytes.now c.in-Ok.ensures.cases.1)

pub returns-in-Err : goal.returns-in-Err
returns-in-Err c = sym (text_of-other c.args.bytes.now c.in-Err.ensures.cases.0)
