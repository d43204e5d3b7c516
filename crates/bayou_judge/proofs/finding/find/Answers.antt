use Rattle.bayou_judge.proofs.DumpsFound.{item_found, item_missing}
use Rattle.bayou_judge.proofs.finding.find.Goals as goal

pub returns-in-None-clause-missing : goal.returns-in-None-clause-missing
returns-in-None-clause-missing c = c.in-None.ensures c.requires.fitting.0 c.args.dump.now c.requires.indexed c.requires.fitting.1

pub returns-in-Some-clause-found : goal.returns-in-Some-clause-found
returns-in-Some-clause-found c =
    item_found c.args.dump.now c.args.wid c.in-Some.place c.get.result c.get.ensures.lookup
    (c.in-Some.ensures c.requires.fitting.0 c.args.dump.now c.requires.indexed c.requires.fitting.1)

pub returns-in-Some-clause-missing : goal.returns-in-Some-clause-missing
returns-in-Some-clause-missing c =
    item_missing c.args.dump.now c.args.wid c.in-Some.place c.get.result c.get.ensures.lookup
    (c.in-Some.ensures c.requires.fitting.0 c.args.dump.now c.requires.indexed c.requires.fitting.1)
