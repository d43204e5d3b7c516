-- One entry more.
use Rattle.std.proofs.Common.{◌≡◌, ◌+◌, ◌<◌, ◌≤◌, ◌∷◌, ◌++◌, length, take, drop, refl, sym, ◌∙◌, ap, arith, subst, append_assoc}
use Rattle.bayou_journal.specs.Chain.{IsBody, entries_bytes, link, sized}
use Rattle.bayou_journal.proofs.Adding.{all_of, bytes_of, is_body, link_more, one_more, room_for, size_more, so_far}
use Rattle.bayou_journal.proofs.format.write_entries.Goals as goal

pub link_of-digest-requires : goal.link_of-digest-requires
link_of-digest-requires c =
    let body = is_body c.args.bodies.now c.loop-body.body-index c.body-item.result (omega (arith, c.loop-body-test.true)) c.body-item.is c.requires.bodies in
    omega (arith, body.within, ap length c.deref.ensures.value)

pub push_entry-requires-clause-body : goal.push_entry-requires-clause-body
push_entry-requires-clause-body c =
    let body = is_body c.args.bodies.now c.loop-body.body-index c.body-item.result (omega (arith, c.loop-body-test.true)) c.body-item.is c.requires.bodies in
    omega (arith, body.within, ap length c.deref-in-loop-body.ensures.value)

pub push_entry-requires-clause-room : goal.push_entry-requires-clause-room
push_entry-requires-clause-room c =
    let at = c.loop-body.body-index in
    let pieces = c.args.bodies.now in
    let piece = c.body-item.result in
    let room = room_for (bytes_of (take at pieces)) piece.items (bytes_of (drop (at + 1) pieces)) in
    let all = ap entries_bytes (all_of pieces at piece (omega (arith, c.loop-body-test.true)) c.body-item.is) in
    omega (arith, room, all, c.requires.within, c.loop-body.invariant.size, c.loop-body.invariant.room, ap length c.deref-in-loop-body.ensures.value)

pub loop-body-preserved : goal.loop-body-preserved
loop-body-preserved c =
    let at = c.loop-body.body-index in
    let pieces = c.args.bodies.now in
    let piece = c.body-item.result in
    let more = so_far pieces at piece (omega (arith, c.loop-body-test.true)) c.body-item.is in
    let front = bytes_of (take at pieces) in
    let next = bytes_of (take (at + 1) pieces) in
    let linked : c.link_of-digest.result ≡ link c.loop-body.last piece.items = c.link_of-digest.ensures ∙ ap (link c.loop-body.last) c.deref.ensures.value in
    record {
      items = one_more c.args.before.now c.loop-body.last c.loop-body.bytes.items c.push_entry.new.bytes.items front next piece.items more c.loop-body.invariant.last c.loop-body.invariant.items
          (c.push_entry.ensures.items
          ∙ ap (λ body. c.loop-body.bytes.items ++ (sized body ++ c.link_of-digest.result)) c.deref-in-loop-body.ensures.value
          ∙ ap (λ digest. c.loop-body.bytes.items ++ (sized piece.items ++ digest)) linked);
      size = size_more _ _ front next piece.items more c.loop-body.invariant.size (omega (arith, c.push_entry.ensures.len, ap length c.deref-in-loop-body.ensures.value));
      last = link_more c.args.before.now c.loop-body.last c.link_of-digest.result front next piece.items more c.loop-body.invariant.last linked;
      room = omega (arith, c.push_entry.ensures.room, c.loop-body.invariant.room);
    }
