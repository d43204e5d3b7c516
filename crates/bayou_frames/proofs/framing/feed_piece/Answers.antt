use Rattle.std.proofs.Common.{subst}
use Rattle.bayou_wire.specs.declared.stream.FeedFault.{FeedFault}
use Rattle.std.specs.Prelude.{Err}
use Rattle.bayou_frames.proofs.Pieces.{comes_bad, comes_never, comes_whole}
use Rattle.bayou_wire.specs.Stream.{Fed}
use Rattle.bayou_frames.proofs.framing.feed_piece.Goals as goal

pub returns-in-Ok-clause-comes : goal.returns-in-Ok-clause-comes
returns-in-Ok-clause-comes c held partial waits =
    let whole = comes_whole held c.args.piece.now c.in-Ok.whole.items c.args.frames.now c.feed.new.self c.fault.result waits c.in-Ok.ensures.fed c.fault.ensures in
    rw c.is_some.ensures whole

pub returns-in-Err-Fault-clause-comes : goal.returns-in-Err-Fault-clause-comes
returns-in-Err-Fault-clause-comes c held partial waits =
    let none = c.bad_at_once.ensures in
    let fed = subst (λ (fault : FeedFault). Fed c.args.frames.now c.args.piece.now (Err fault) c.feed.new.self) c.in-Err-Fault.field-0-is c.in-Err-Fault.ensures.fed in
    comes_bad held c.args.piece.now _ _ c.args.frames.now c.feed.new.self c.in-Err-Fault.field-0-0 waits fed none.0 none.1

pub returns-in-Err-Failed-clause-comes : goal.returns-in-Err-Failed-clause-comes
returns-in-Err-Failed-clause-comes c held partial waits =
    let fed = subst (λ (fault : FeedFault). Fed c.args.frames.now c.args.piece.now (Err fault) c.feed.new.self) c.in-Err-Failed.field-0-is c.in-Err-Failed.ensures.fed in
    absurd (comes_never held c.args.piece.now c.args.frames.now c.feed.new.self waits fed)
