-- One entry more is read: a mark, or a body in the version that the chain has there.
use Rattle.std.proofs.Common.{◌≡◌, ℕ, ◌+◌, ◌-◌, ◌≤◌, List, None, Some, length, arith, refl, sym, ◌∙◌, ap, length-append}
use Rattle.bayou_journal.specs.Chain.{journal}
use Rattle.bayou_journal.specs.Inner.Reads.{IsRead}
use Rattle.bayou_journal.specs.Versions.{marked}
use Rattle.bayou_journal.specs.declared.opened.Place.{Place}
use Rattle.bayou_journal.proofs.Walking.{reads_body, reads_mark}
use Rattle.bayou_journal.proofs.chain.chain_of.Goals as goal
use Rattle.bayou_journal.proofs.chain.chain_of.Goals.{in-Some-marked_by, in-None+in_ok-push-in-None}

pub loop-first-preserved : goal.loop-first-preserved
loop-first-preserved c =
    let first = c.in-Some.first in
    let so_far = c.loop-first in
    let IsSo : List Place → ℕ → List ℕ → Type 0 = λ places now last. IsRead c.args.version c.args.server.index c.args.bytes.now places now last first.rest.now in
    elim c.match-marked_by.branch [
      | in-Some-marked_by w ↦
          let later = w.in-Some-marked_by.later in
          let mark : marked so_far.now first.body.now ≡ Some later = sym c.marked_by.ensures ∙ w.in-Some-marked_by.is in
          let on = reads_mark c.args.version c.args.server.index c.args.bytes.now so_far.places.items so_far.now later so_far.last so_far.rest.now first.body.now first.rest.now so_far.invariant c.in-Some.ensures.body c.in-Some.ensures.split mark in
          rw (w.places-is, w.now-is, c.in-Some.ensures.digest) on
      | in-None+in_ok-push-in-None w ↦
          let plain : marked so_far.now first.body.now ≡ None = sym c.marked_by.ensures ∙ w.in-None.is in
          let short : length so_far.rest.now ≤ length c.args.bytes.now = omega (arith, ap length so_far.invariant.split, length-append (journal c.args.version c.args.server.index so_far.invariant.bodies) so_far.rest.now) in
          let place : Place = record { start = length c.args.bytes.now - length so_far.rest.now + 2; end = length c.args.bytes.now - length so_far.rest.now + 2 + length first.body.now; version = so_far.now } in
          let on = reads_body c.args.version c.args.server.index c.args.bytes.now so_far.places.items so_far.now so_far.last so_far.rest.now first.body.now first.rest.now place so_far.invariant c.in-Some.ensures.body c.in-Some.ensures.split plain (omega arith) refl refl in
          rw (w.places-is, w.in_ok-push-in-None.ensures.items, w.now-is, c.in-Some.ensures.digest) on
    ]
