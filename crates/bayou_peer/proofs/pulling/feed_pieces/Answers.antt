use Rattle.std.proofs.Common.{◌≡◌, ◌⊎◌, [], ◌++◌, true, inl, inr, subst}
use Rattle.bayou_frames.specs.Framing.{Comes}
use Rattle.bayou_peer.proofs.Pieces.{comes_more, comes_whole}
use Rattle.bayou_peer.proofs.Short.{goes_on, none_left}
use Rattle.bayou_peer.proofs.pulling.feed_pieces.Goals as goal
use Rattle.bayou_peer.proofs.pulling.feed_pieces.Goals.{then-loop-is_bad-test+else-not-is_empty, else-loop-is_bad-test}

pub loop-is_bad-preserved : goal.loop-is_bad-preserved
loop-is_bad-preserved c =
    let (fed, whole, comes) = c.loop-is_bad.invariant.went in
    let piece = c.split_at-in-loop-is_bad.result.0.now in
    record {
      went = (
        fed ++ piece,
        goes_on c.args.bytes.now fed c.loop-is_bad.rest.now c.min-in-loop-is_bad.result piece c.split_at-in-loop-is_bad.result.1.now whole c.split_at-in-loop-is_bad.ensures.front c.split_at-in-loop-is_bad.ensures.back,
        λ held partial waits.
            let before = comes held partial waits in
            record {
              came = before.came ++ c.in_ok-more.more.frames.items;
              comes = comes_more held fed piece before.came c.in_ok-more.more.frames.items c.in_ok-more.more.is_bad c.loop-is_bad.frames c.feed_piece-in-loop-is_bad.new.frames
                  (subst (λ is_bad. Comes held fed before.came is_bad c.loop-is_bad.frames) c.loop-is_bad-test.true before.comes)
                  (λ rest less kept. c.in_ok-more.ensures.comes rest less kept);
              front = c.in_ok-front-2.ensures.front before.came before.front;
            },
      );
      other = c.in_ok-front-2.ensures.other;
    }

pub returns-clause-comes : goal.returns-clause-comes
returns-clause-comes c held partial waits =
    let (fed, whole, comes) = c.loop-is_bad.invariant.went in
    let before = comes held partial waits in
    let done : (c.loop-is_bad.is_bad ≡ true) ⊎ (c.loop-is_bad.rest.now ≡ []) =
    elim c.loop-is_bad-test.branch as (λ _. (c.loop-is_bad.is_bad ≡ true) ⊎ (c.loop-is_bad.rest.now ≡ [])) [
      | then-loop-is_bad-test+else-not-is_empty w ↦ inr (none_left c.loop-is_bad.rest.now w.is_empty.ensures w.if-not-is_empty.false)
      | else-loop-is_bad-test w ↦ inl w.loop-is_bad-test.false
    ] in
    record {
      came = before.came;
      comes = comes_whole held fed c.loop-is_bad.rest.now c.args.bytes.now before.came c.loop-is_bad.is_bad c.loop-is_bad.frames whole done before.comes;
      front = before.front;
    }
