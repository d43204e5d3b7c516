use Rattle.std.proofs.Common.{◌≡◌, ◌+◌, List, length, ap, sym, subst, arith}
use Rattle.std.specs.Borrow.{Bor}
use Rattle.std.proofs.lemmas.List.{length-map, length_push}
use Rattle.bayou_lang.specs.declared.write.Write.{Write}
use Rattle.bayou_judge.specs.History.{lent_lists}
use Rattle.bayou_judge.specs.Inner.Checks.{AreRead, DumpAnswer}
use Rattle.bayou_judge.proofs.DumpsGood.{read_all, read_more}
use Rattle.bayou_judge.proofs.dumps.indexes_of.Goals as goal

pub loop-server-preserved : goal.loop-server-preserved
loop-server-preserved c =
    let dumps = lent_lists c.args.dumps.now in
    let server = c.loop-server.server in
    let before = c.loop-server.indexes.items in
    let answer = subst (DumpAnswer c.args.count dumps server) c.in-Ok.is c.in_ok-index.ensures in
    let read = read_more c.args.count dumps server before c.in-Ok.index c.loop-server.invariant.as_many c.loop-server.invariant.read
    answer.0 answer.1 in
    record {
      as_many = omega (arith, ap length c.in_ok-push-in-Ok.ensures.items, length_push before c.in-Ok.index, c.loop-server.invariant.as_many);
      read = subst (AreRead c.args.count dumps (server + 1)) (sym c.in_ok-push-in-Ok.ensures.items) read;
    }

pub returns : goal.returns
returns c =
    let dumps = lent_lists c.args.dumps.now in
    let all : c.loop-server.server ≡ c.args.count = omega (arith, c.loop-server-test.false, c.loop-server.auto.server-end) in
    let many = length-map c.args.dumps.now (λ (dump : Bor (List Write)). dump.now) in (
      read_all c.args.count dumps c.loop-server.server c.loop-server.indexes.items c.loop-server.invariant.as_many (omega (arith, all, many, c.requires.dumps)) c.loop-server.invariant.read,
      record { as_many = omega (arith, all, many, c.requires.dumps, c.loop-server.invariant.as_many); each = c.loop-server.invariant.read.each },
    )
