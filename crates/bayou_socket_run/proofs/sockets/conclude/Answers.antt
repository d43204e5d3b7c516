use Rattle.std.proofs.Common.{◌≡◌, arith, length}
use Rattle.std.proofs.lemmas.Result.{err_from_is_err_and}
use Rattle.bayou_fleet.specs.Servers.{IsFleetSettled}
use Rattle.bayou_judge.specs.History.{lists_of}
use Rattle.bayou_print.specs.Laws.Ending.{ends_well}
use Rattle.bayou_print.specs.Waiting.{stage}
use Rattle.bayou_socket_run.specs.Inner.Settling.{EndsAt}
use Rattle.bayou_socket_run.proofs.Settled.{dumps_had, ends_at, had_so}
use Rattle.bayou_socket_run.proofs.Told.{phase_kept, tells_phase, took_told}
use Rattle.bayou_streams.specs.Account.{account}
use Rattle.bayou_socket_run.proofs.sockets.conclude.Goals as goal

pub settle-requires-after_bounds : goal.settle-requires-after_bounds
settle-requires-after_bounds g c κs within =
    dumps_had c.args.network.mailboxes c.args.servers.count c.args.settled c.in_ok-fleet.fleet c.in_ok-fleet.ensures.same c.requires.number c.requires.settled

pub returns-clause-took : goal.returns-clause-took
returns-clause-took g c =
    let now = stage g.W.Write.contents in
    took_told c.write_books-told.result (now c.args.output.now c.in_ok-waiting.waiting) (now c.write_books-told.new.output c.write_books-told.new.waiting)
    (account g.W.Write.contents c.end.new.output) c.in_ok-waiting.ensures c.write_books-told.ensures.told c.end.ensures.part

pub returns-clause-fault : goal.returns-clause-fault
returns-clause-fault g c =
    let now = stage g.W.Write.contents in
    phase_kept c.write_books-told.result c.end.result
    (tells_phase c.write_books-told.result (now c.args.output.now c.in_ok-waiting.waiting) (now c.write_books-told.new.output c.write_books-told.new.waiting) c.write_books-told.ensures.told)
    c.end.ensures.cause

pub returns-in_err-books-clause-ended : goal.returns-in_err-books-clause-ended
returns-in_err-books-clause-ended g c =
    let p = err_from_is_err_and c.from_residual-in_err-books.result c.from_residual-in_err-books.ensures.1 in
    rw (p.1, p.2) (c.in_err-books.ensures.writes _ _)

pub returns-in_err-fleet-clause-ended : goal.returns-in_err-fleet-clause-ended
returns-in_err-fleet-clause-ended g c =
    let p = err_from_is_err_and c.from_residual-in_err-fleet.result c.from_residual-in_err-fleet.ensures.1 in
    rw (p.1, p.2) (c.in_err-fleet.ensures.writes _ _)

pub returns-clause-prints : goal.returns-clause-prints
returns-clause-prints g c =
    let now = stage g.W.Write.contents in
    let servers = c.args.network.mailboxes.items in
    let many : length servers ≡ c.args.servers.count = omega (arith, c.requires.number, c.args.network.mailboxes.ok) in
    let start = now c.args.output.now c.in_ok-waiting.waiting in
    let told = now c.write_books-told.new.output c.write_books-told.new.waiting in
    let settled = had_so (λ fleet. IsFleetSettled servers (lists_of fleet.dumps.items) fleet.nodes.items) c.args.settled c.in_ok-fleet.fleet c.in_ok-fleet.ensures.same c.requires.settled in
    let books = c.in_ok-books.books in
    let same = c.in_ok-books.ensures.same in
    ends_well (EndsAt servers c.args.servers.count) c.write_books-told.result c.end.result start told (account g.W.Write.contents c.end.new.output) c.in_ok-waiting.ensures
    (ends_at servers c.args.servers.count c.in_ok-fleet.fleet books c.write_books-told.result start told many settled (had_so _ c.settle.result books same c.settle.ensures.nodes) (had_so _ c.settle.result books same c.settle.ensures.judged)
    c.write_books-told.ensures.prints) c.end.ensures.whole c.end.ensures.same
