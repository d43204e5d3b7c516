use Rattle.std.proofs.Common.{◌∙◌, ap, inr}
use Rattle.bayou_base.specs.declared.wid.Wid.{Wid}
use Rattle.bayou_server.specs.Inner.Gathering.{told_one}
use Rattle.bayou_server.proofs.together.take_alone.Goals as goal

pub returns : goal.returns
returns c = inr (record {
  write = c.in-Some.write;
  split = c.in-Some.ensures.items;
  answer = c.answer_alone-answer.result;
  takes = c.answer_alone-answer.ensures;
  tells = c.told_alone.ensures ∙ ap (λ (wid : Wid). told_one wid c.answer_alone-answer.result) c.wid.ensures;
})
