use Rattle.bayou_judge.specs.History.{history_of}
use Rattle.bayou_judge.proofs.Verdicts.{all_kept, first_is_least}
use Rattle.bayou_judge.proofs.judge_all.verdict_of.Goals as goal

pub returns-in-Some : goal.returns-in-Some
returns-in-Some c count dumps evidence survey =
    (evidence, first_is_least (history_of c.args.entries.now dumps) c.args.entries.now c.args.surveyed.now survey c.in-Some.breach c.in-Some.ensures)

pub returns-in-None : goal.returns-in-None
returns-in-None c count dumps evidence survey =
    (evidence, all_kept (history_of c.args.entries.now dumps) c.args.entries.now c.args.surveyed.now survey c.in-None.ensures)
