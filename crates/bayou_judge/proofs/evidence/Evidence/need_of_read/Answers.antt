use Rattle.std.proofs.Common.{subst, arith}
use Rattle.bayou_judge.specs.History.{dump_of}
use Rattle.bayou_judge.specs.Inner.Index.{IsIndexOf}
use Rattle.bayou_judge.proofs.Needed.{read_beyond, read_need}
use Rattle.bayou_judge.proofs.evidence.Evidence.need_of_read.Goals as goal

pub returns-in-Some : goal.returns-in-Some
returns-in-Some c key write told =
    let dumps = c.args.self.now.dumps in
    let home = c.args.home.index in
    let at : IsIndexOf (dump_of dumps home) c.in-Some.index.now = subst (λ server. IsIndexOf (dump_of dumps server) c.in-Some.index.now) c.from.ensures c.in-Some.ensures.there in
    let both = read_need c.args.self.now.count dumps c.recall.ensures.evidence.dumps_are home c.args.vector.now told.0 write c.size_of.result c.last_of.result told.1.0 told.1.1 told.2 c.size_of.ensures
    (c.last_of.ensures (dump_of dumps home) at) in
    record { counted = both.0; up_to = both.1 }

pub returns-in-None : goal.returns-in-None
returns-in-None c key write told =
    let dumps = c.args.self.now.dumps in
    absurd (read_beyond dumps c.args.home.index told.0 write (omega (arith, c.in-None.ensures.beyond, c.from.ensures)) told.1.0 told.2)
