use Rattle.std.proofs.Common.{subst}
use Rattle.bayou_judge.specs.History.{dump_of}
use Rattle.bayou_judge.specs.Inner.Needs.{IsServed, Tells}
use Rattle.bayou_judge.proofs.Needed.{write_need}
use Rattle.bayou_judge.proofs.evidence.Evidence.need_of.Goals as goal

pub returns-in-Read : goal.returns-in-Read
returns-in-Read c write told =
    c.need_of_read.ensures c.in-Read.field-0 write (subst (λ what. Tells (dump_of c.args.self.now.dumps c.args.home.index) what write) c.in-Read.is told)

pub returns-in-Write : goal.returns-in-Write
returns-in-Write c write told =
    let dumps = c.args.self.now.dumps in
    write_need c.args.self.now.count dumps c.recall.ensures.evidence.dumps_are c.args.home.index c.in-Write.wid c.in-Write.stamp c.in-Write.field-2 c.of_write.result write
    (subst (IsServed (dump_of dumps c.args.home.index)) c.in-Write.is c.requires.served) c.of_write.ensures.counted c.of_write.ensures.last
    (subst (λ what. Tells (dump_of dumps c.args.home.index) what write) c.in-Write.is told)
