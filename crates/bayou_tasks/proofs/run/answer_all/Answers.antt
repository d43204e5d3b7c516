use Rattle.bayou_script.specs.Plan.{plan_of}
use Rattle.bayou_tasks.specs.Run.{Prints, PrintsPart}
use Rattle.bayou_tasks.proofs.Runs.{PrintsPart-front, PrintsPart-whole}
use Rattle.bayou_print.specs.Laws.Ending.{ends_short, ends_well}
use Rattle.bayou_print.specs.Waiting.{stage}
use Rattle.bayou_streams.specs.Account.{account}
use Rattle.bayou_tasks.proofs.run.answer_all.Goals as goal

pub returns-clause-ok : goal.returns-clause-ok
returns-clause-ok g c =
    let now = stage g.W.Write.contents in
    ends_well (Prints c.args.form (plan_of c.args.script)) c.answer_each-ended.result c.end.result (now c.args.output.now c.args.waiting) (now c.answer_each-ended.new.output c.answer_each-ended.new.waiting)
    (account g.W.Write.contents c.end.new.output) c.requires.none c.answer_each-ended.ensures.ok c.end.ensures.whole c.end.ensures.same

pub returns-clause-err : goal.returns-clause-err
returns-clause-err g c =
    let now = stage g.W.Write.contents in
    ends_short (Prints c.args.form (plan_of c.args.script)) (PrintsPart c.args.form (plan_of c.args.script)) (PrintsPart-front c.args.form (plan_of c.args.script)) (PrintsPart-whole c.args.form (plan_of c.args.script)) c.answer_each-ended.result c.end.result
    (now c.args.output.now c.args.waiting) (now c.answer_each-ended.new.output c.answer_each-ended.new.waiting) (account g.W.Write.contents c.end.new.output)
    c.requires.none c.answer_each-ended.ensures.ok c.answer_each-ended.ensures.err c.end.ensures.part c.end.ensures.cause
