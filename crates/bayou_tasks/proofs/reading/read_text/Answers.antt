use Rattle.std.proofs.Common.{rules, tests, ◌≡◌, ◌<◌, ◌++◌, [], Ok, length, take, subst, arith, append-nil}
use Rattle.std.proofs.KnownBytes.{Consumes-trans}
use Rattle.std.proofs.lemmas.Result.{err_from_is_err_and}
use Rattle.std.specs.Io.KnownBytes.{Consumes, ReadConsumes}
use Rattle.bayou_streams.specs.declared.channel.Turn.{Turn}
use Rattle.bayou_streams.specs.Turns.{count_of}
use Rattle.bayou_tasks.proofs.Read.{refused_all, refused_front}
use Rattle.bayou_tasks.proofs.reading.read_text.Goals as goal

pub returns-in_err-finish-in-Moved-eq0-clause-fault :
    goal.returns-in_err-finish-in-Moved-eq0-clause-fault
returns-in_err-finish-in-Moved-eq0-clause-fault g c =
    let p = err_from_is_err_and c.from_residual.result c.from_residual.ensures.1 in
    let (bytes, came, read) = c.loop-turn.invariant.read in
    let start = g.R.Read.remaining c.args.input.now.reader in
    let before = g.R.Read.remaining c.loop-turn.input.reader in
    let after = g.R.Read.remaining c.read_turn.new.self.reader in
    let piece = c.read_turn.new.piece in
    let (more, end) = subst (λ (turn : Turn). ReadConsumes before after (count_of (Ok turn)) piece) c.in-Moved-eq0.is c.in-Ok.ensures.bytes in
    let zero : c.in-Moved-eq0.field-0 ≡ 0 = search (rules, tests) in
    let none : Consumes before after [] = subst (λ n. Consumes before after (take n piece)) zero more in
    let all : Consumes start after bytes = subst (Consumes start after) (append-nil bytes) (Consumes-trans start before after bytes [] came none) in
    let room : 0 < length piece = omega arith in
    rw (p.1, p.2)
    (refused_all g.F.Front.order start after bytes c.in_err-finish-in-Moved-eq0.field-0.0 all (end zero room) (c.in_err-finish-in-Moved-eq0.ensures.said bytes read))

pub loop-turn-preserved-in_ok-feed-in-Moved : goal.loop-turn-preserved-in_ok-feed-in-Moved
loop-turn-preserved-in_ok-feed-in-Moved g c =
    let (bytes, came, read) = c.loop-turn.invariant.read in
    let start = g.R.Read.remaining c.args.input.now.reader in
    let before = g.R.Read.remaining c.loop-turn.input.reader in
    let after = g.R.Read.remaining c.read_turn.new.self.reader in
    let piece = c.read_turn.new.piece in
    let count = c.in-Moved.count in
    let (more, end) = subst (λ (turn : Turn). ReadConsumes before after (count_of (Ok turn)) piece) c.in-Moved.is c.in-Ok.ensures.bytes in
    record {
      read = (bytes ++ take count piece, Consumes-trans start before after bytes (take count piece) came more, c.in_ok-feed-in-Moved.ensures bytes read);
      fewer = omega (arith, c.loop-turn.invariant.fewer, c.in-Ok.ensures.left);
    }

pub returns-in_err-feed-in-Moved-clause-fault : goal.returns-in_err-feed-in-Moved-clause-fault
returns-in_err-feed-in-Moved-clause-fault g c =
    let p = err_from_is_err_and c.from_residual-in_err-feed-in-Moved.result c.from_residual-in_err-feed-in-Moved.ensures.1 in
    let (bytes, came, read) = c.loop-turn.invariant.read in
    let start = g.R.Read.remaining c.args.input.now.reader in
    let before = g.R.Read.remaining c.loop-turn.input.reader in
    let after = g.R.Read.remaining c.read_turn.new.self.reader in
    let piece = c.read_turn.new.piece in
    let count = c.in-Moved.count in
    let (more, end) = subst (λ (turn : Turn). ReadConsumes before after (count_of (Ok turn)) piece) c.in-Moved.is c.in-Ok.ensures.bytes in
    rw (p.1, p.2)
    (refused_front g.F.Front.order start after (bytes ++ take count piece) c.in_err-feed-in-Moved.field-0.0
    (Consumes-trans start before after bytes (take count piece) came more) (c.in_err-feed-in-Moved.ensures bytes read))
