use Rattle.std.proofs.Common.{rules}
use Rattle.bayou_remember.proofs.Reading.{faulty_stream, nothing_left, whole_stream}
use Rattle.bayou_remember.proofs.decode.frames_of.Goals as goal

pub returns-in-Err-Fault : goal.returns-in-Err-Fault
returns-in-Err-Fault c = faulty_stream c.args.bytes.now c.in-Err-Fault._fault c.new-frames.result c.feed.new.self c.new-frames.ensures (rw c.in-Err-Fault.field-0-is at c.in-Err-Fault.ensures.fed)

pub returns-then-not-is_between : goal.returns-then-not-is_between
returns-then-not-is_between c =
    nothing_left c.one_reading.ensures c.args.bytes.now c.in-Ok.given.items c.new-frames.result c.feed.new.self c.new-frames.ensures (λ none. let yes = c.is_between.ensures.1 none in let no = c.if-not-is_between.true in absurd cc) c.in-Ok.ensures.fed

pub returns : goal.returns
returns c = whole_stream c.args.bytes.now c.in-Ok.given.items c.new-frames.result c.feed.new.self c.new-frames.ensures (search rules) c.in-Ok.ensures.fed
