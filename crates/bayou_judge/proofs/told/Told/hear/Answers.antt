use Rattle.std.proofs.Common.{sym, ◌∙◌, refl, subst}
use Rattle.bayou_judge.specs.Evidence.{TellsOf}
use Rattle.bayou_judge.proofs.EntriesHeard.{AreTold-none, AreTold-write, OnOk-both}
use Rattle.bayou_judge.proofs.told.Told.hear.Goals as goal

pub returns-in-Write : goal.returns-in-Write
returns-in-Write c earlier entry same told =
    let wid = c.in-Write.wid in
    let what = same ∙ c.in-Write.is in
    OnOk-both c.add.result
    (λ here others.
    AreTold-write earlier entry wid c.args.self.now c.add.new.self (subst (TellsOf wid) (sym what) refl) (λ name of_it. subst (TellsOf name) what of_it) here others told)
    c.add.ensures.here c.add.ensures.others

pub returns-in-Read : goal.returns-in-Read
returns-in-Read c earlier entry same told = AreTold-none earlier entry c.args.self.now (λ wid of_it. subst (TellsOf wid) (same ∙ c.in-Read.is) of_it) told

pub returns-in-Refused : goal.returns-in-Refused
returns-in-Refused c earlier entry same told = AreTold-none earlier entry c.args.self.now (λ wid of_it. subst (TellsOf wid) (same ∙ c.in-Refused.is) of_it) told
