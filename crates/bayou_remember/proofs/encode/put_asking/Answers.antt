use Rattle.std.proofs.Common.{[], ◌∷◌}
use Rattle.std.specs.Prelude.{replicate}
use Rattle.bayou_base.specs.declared.limits.TheConstants.{SERVERS}
use Rattle.bayou_wire.specs.declared.frame.Frame.TheVariants.{Write as WriteFrame}
use Rattle.bayou_remember.proofs.Asking.{asked_frames, one_more}
use Rattle.bayou_remember.proofs.encode.put_asking.Goals as goal

-- src/encode.rt:88:1
pub returns-in_ok-put_request-in-Some-Some : goal.returns-in_ok-put_request-in-Some-Some
returns-in_ok-put_request-in-Some-Some c =
    let request = WriteFrame c.in-Some-Some.tag (replicate SERVERS 0) c.in-Some-Some.asked.program in (
      request ∷ [],
      asked_frames c.args.session.now c.args.asked.now c.in-Some-Some.tag c.in-Some-Some.asked c.asked.result c.in-Some-Some.is-0 c.in-Some-Some.is-1 c.asked.ensures,
      (c.in_ok-put_request-in-Some-Some.ensures.0, tt),
      one_more c.put_request.new.out.items c.args.out.now.items request c.in_ok-put_request-in-Some-Some.ensures.1,
    )
