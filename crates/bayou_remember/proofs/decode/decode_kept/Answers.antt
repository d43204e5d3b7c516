use Rattle.std.proofs.Common.{List, subst}
use Rattle.bayou_wire.specs.declared.frame.Frame.{Frame}
use Rattle.bayou_remember.proofs.decode.decode_kept.Goals as goal
use Rattle.bayou_remember.proofs.Telling.{ReadsFrames, again_of, in_any_run, no_frames, no_head, told_of}

pub returns-in_default-clause-told : goal.returns-in_default-clause-told
returns-in_default-clause-told c = λ kept spells. no_head c.args.bytes.now kept c.in_default.ensures spells

pub returns-in_default-clause-again : goal.returns-in_default-clause-again
returns-in_default-clause-again c = λ kept spells. absurd (no_head c.args.bytes.now kept c.in_default.ensures spells)

pub returns-in_default-2-clause-told : goal.returns-in_default-2-clause-told
returns-in_default-2-clause-told c = λ kept spells.
    no_frames c.in-Some.head c.args.bytes.now c.in-Some.rest.now kept c.in-Some.ensures (rw c.in_default-2.is at c.in_ok-frames.ensures) spells

pub returns-in_default-2-clause-again : goal.returns-in_default-2-clause-again
returns-in_default-2-clause-again c = λ kept spells.
    absurd (no_frames c.in-Some.head c.args.bytes.now c.in-Some.rest.now kept c.in-Some.ensures (rw c.in_default-2.is at c.in_ok-frames.ensures) spells)

pub returns-in-None-clause-told : goal.returns-in-None-clause-told
returns-in-None-clause-told c =
    told_of c.args.run c.in-Some.head c.args.bytes.now c.in-Some.rest.now c.in-Some-2.frames.items c.without_asking.result c.in-Some.ensures (rw c.in-Some-2.is at c.in_ok-frames.ensures)
    (subst (λ (all : List Frame). ReadsFrames c.args.run c.in-Some.head all c.without_asking.result) c.deref.ensures.value c.without_asking.ensures)

pub returns-in-None-clause-again : goal.returns-in-None-clause-again
returns-in-None-clause-again c =
    again_of c.args.run c.in-Some.head c.args.bytes.now c.in-Some.rest.now c.in-Some-2.frames.items c.without_asking.result c.in-Some.ensures (rw c.in-Some-2.is at c.in_ok-frames.ensures)
    (subst (λ (all : List Frame). ReadsFrames c.args.run c.in-Some.head all c.without_asking.result) c.deref.ensures.value c.without_asking.ensures)

pub returns-in-Some-server-clause-told : goal.returns-in-Some-server-clause-told
returns-in-Some-server-clause-told c =
    told_of c.args.run c.in-Some.head c.args.bytes.now c.in-Some.rest.now c.in-Some-2.frames.items c.with_asking.result c.in-Some.ensures (rw c.in-Some-2.is at c.in_ok-frames.ensures)
    (in_any_run c.args.run c.in-Some.head c.in-Some-2.frames.items c.with_asking.result c.with_asking.ensures)

pub returns-in-Some-server-clause-again : goal.returns-in-Some-server-clause-again
returns-in-Some-server-clause-again c =
    again_of c.args.run c.in-Some.head c.args.bytes.now c.in-Some.rest.now c.in-Some-2.frames.items c.with_asking.result c.in-Some.ensures (rw c.in-Some-2.is at c.in_ok-frames.ensures)
    (in_any_run c.args.run c.in-Some.head c.in-Some-2.frames.items c.with_asking.result c.with_asking.ensures)
