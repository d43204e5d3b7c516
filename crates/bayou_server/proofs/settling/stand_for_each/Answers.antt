use Rattle.std.proofs.Common.{◌≡◌, ◌+◌, [], ◌∷◌, ◌++◌, None, Some, drop, take, sym, ap, ◌∙◌, subst, arith}
use Rattle.std.specs.List.{slice_get}
use Rattle.bayou_journal.specs.Versions.{Body, body_in}
use Rattle.bayou_lang.specs.declared.write.Write.{Write}
use Rattle.bayou_wire.specs.declared.record.Record.{Record}
use Rattle.bayou_server.specs.Server.{untagged}
use Rattle.bayou_server.specs.Stored.{IsBodyOf, Stores}
use Rattle.bayou_server.proofs.Bodies.{at_place, both_more, read_at, take_next, told_body}
use Rattle.bayou_server.proofs.Adopting.{at_behind, at_front, behind_at, untagged-push, untagged_at}
use Rattle.bayou_server.proofs.settling.stand_for_each.Goals as goal

pub overflow_add-place : goal.overflow_add-place
overflow_add-place c = omega (arith, c.requires.bodies, c.loop-at-test.true, c.len-all.ensures)

pub overflow_add-place-in-loop-at : goal.overflow_add-place-in-loop-at
overflow_add-place-in-loop-at c = omega (arith, c.requires.bodies, c.loop-at-test.true, c.len-all.ensures)

pub returns-then-not-branch : goal.returns-then-not-branch
returns-then-not-branch c =
    let bodies = c.args.opened.now.bodies in
    let at = c.loop-at.at in
    let many = c.args.many in
    let writes = c.args.writes.now.items in
    let body = body_in c.version.result c.body.result.now in
    let write = c.index.result.now in
    let stored : Record = record { write = write; tag = None } in
    let stands = told_body bodies (c.args.place + at) c.version.result c.body.result.now (omega (arith, c.requires.bodies, c.loop-at-test.true)) c.version.ensures c.body.ensures in
    let there : slice_get writes at ≡ Some write = read_at writes at write (omega (arith, c.requires.writes, c.loop-at-test.true)) c.index.ensures in (
      λ yes. absurd cc,
      λ all. absurd (let same = c.in_ok-stands_for.ensures.1 (at_place (IsBodyOf c.args.id.index) (take many (drop c.args.place bodies)) (untagged (take many writes)) at body stored all
          (at_behind bodies c.args.place many at body stands c.loop-at-test.true) (untagged_at (take many writes) at write (at_front writes many at write there c.loop-at-test.true))) in cc),
    )

pub loop-at-preserved : goal.loop-at-preserved
loop-at-preserved c =
    let bodies = c.args.opened.now.bodies in
    let at = c.loop-at.at in
    let many = c.args.many in
    let writes = c.args.writes.now.items in
    let body = body_in c.version.result c.body.result.now in
    let write = c.index.result.now in
    let stored : Record = record { write = write; tag = None } in
    let stands = told_body bodies (c.args.place + at) c.version.result c.body.result.now (omega (arith, c.requires.bodies, c.loop-at-test.true)) c.version.ensures c.body.ensures in
    let there : slice_get writes at ≡ Some write = read_at writes at write (omega (arith, c.requires.writes, c.loop-at-test.true)) c.index.ensures in
    let behind : slice_get (drop c.args.place bodies) at ≡ Some body = behind_at bodies c.args.place at body stands in
    record {
      so_far = subst (λ b. Stores c.args.id.index b (untagged (take (at + 1) writes))) (sym (take_next (drop c.args.place bodies) at body behind))
          (subst (λ r. Stores c.args.id.index (take at (drop c.args.place bodies) ++ body ∷ []) r) (sym (ap untagged (take_next writes at write there) ∙ untagged-push (take at writes) write))
          (both_more (IsBodyOf c.args.id.index) (take at (drop c.args.place bodies)) (untagged (take at writes)) body stored c.loop-at.invariant.so_far (c.in_ok-stands_for.ensures.0 c.if-not-branch.false)));
      within = omega (arith, c.loop-at-test.true);
    }
