use Rattle.std.proofs.Common.{◌≡◌, ◌+◌, ◌≤◌, ◌<◌, ℕ, get_or, slice_get, List, [], ◌∷◌, ◌++◌, Some, ap, drop, length, refl, sym, subst, arith, take, take-append-drop}
use Rattle.std.proofs.lemmas.List.{take_all}
use Rattle.bayou_journal.specs.Versions.{Body, body_in}
use Rattle.bayou_lang.specs.declared.write.Write.{Write}
use Rattle.bayou_wire.specs.declared.record.Record.{Record}
use Rattle.bayou_server.specs.Server.{records}
use Rattle.bayou_server.specs.Stored.{IsBodyOf, Stores}
use Rattle.bayou_server.proofs.Beside.{many_records, record_at}
use Rattle.bayou_server.proofs.Bodies.{both_more, read_at, take_next, told_body}
use Rattle.bayou_server.proofs.Comparing.{how_many, stands_at}
use Rattle.bayou_server.proofs.reopen.begins_with.Goals as goal

pub returns-then-len-held : goal.returns-then-len-held
returns-then-len-held c =
    let holding = c.args.holding.now in (
      λ yes. absurd cc,
      λ begins. absurd (omega (
        arith,
        c.if-len-held.true,
        c.len.ensures,
        ap length c.receipts-held.ensures.value,
        how_many c.args.id.index (records holding.log.receipts holding.tags.tags) c.args.opened.now.bodies begins,
        many_records holding.log.receipts holding.tags.tags c.requires,
      )),
    )

-- the Write at a place
write_at : (held : List Write) (told : List Write) (at : ℕ) (write : Write) → told ≡ held → at < length told → write ≡ get_or told at write → slice_get held at ≡ Some write
write_at held told at write same within is = subst (λ (l : List Write). slice_get l at ≡ Some write) same (read_at told at write within is)

pub returns-then-not-branch : goal.returns-then-not-branch
returns-then-not-branch c =
    let holding = c.args.holding.now in
    let at = c.loop-at.at in
    let stored : Record = record { write = c.index-held-at.result; tag = c.tag_at.result } in
    let stands = told_body c.args.opened.now.bodies at c.version.result c.body.result.now (omega (arith, c.loop-at-test.true, c.if-len-held.false, c.len.ensures)) c.version.ensures c.body.ensures in
    let here = record_at holding.log.receipts holding.tags.tags at c.index-held-at.result c.tag_at.result
    (write_at holding.log.receipts c.receipts-held.result.now at c.index-held-at.result c.receipts-held.ensures.value c.loop-at-test.true c.index-held-at.is) c.tag_at.ensures in (
      λ yes. absurd cc,
      λ begins. absurd (let same = c.in_ok-stands_for.ensures.1 (stands_at c.args.id.index (records holding.log.receipts holding.tags.tags) c.args.opened.now.bodies at (body_in c.version.result c.body.result.now) stored begins stands here) in cc),
    )

pub loop-at-preserved : goal.loop-at-preserved
loop-at-preserved c =
    let holding = c.args.holding.now in
    let bodies = c.args.opened.now.bodies in
    let at = c.loop-at.at in
    let id = c.args.id.index in
    let all = records holding.log.receipts holding.tags.tags in
    let body = body_in c.version.result c.body.result.now in
    let stored : Record = record { write = c.index-held-at.result; tag = c.tag_at.result } in
    let stands = told_body bodies at c.version.result c.body.result.now (omega (arith, c.loop-at-test.true, c.if-len-held.false, c.len.ensures)) c.version.ensures c.body.ensures in
    let here = record_at holding.log.receipts holding.tags.tags at c.index-held-at.result c.tag_at.result
    (write_at holding.log.receipts c.receipts-held.result.now at c.index-held-at.result c.receipts-held.ensures.value c.loop-at-test.true c.index-held-at.is) c.tag_at.ensures in
    subst (λ (b : List Body). Stores id b (take (at + 1) all)) (sym (take_next bodies at body stands))
    (subst (λ (r : List Record). Stores id (take at bodies ++ body ∷ []) r) (sym (take_next all at stored here))
    (both_more (IsBodyOf id) (take at bodies) (take at all) body stored c.loop-at.invariant (c.in_ok-stands_for.ensures.0 c.if-not-branch.false)))

pub returns : goal.returns
returns c = (
  λ yes.
      let bodies = c.args.opened.now.bodies in
      let holding = c.args.holding.now in
      let records_here = records holding.log.receipts holding.tags.tags in
      let many = many_records holding.log.receipts holding.tags.tags c.requires in
      let all : length records_here ≤ c.loop-at.at = omega (arith, c.loop-at-test.false, many, ap length c.receipts-held.ensures.value) in
      record {
        front = take c.loop-at.at bodies;
        more = drop c.loop-at.at bodies;
        stores = subst (λ (r : List Record). Stores c.args.id.index (take c.loop-at.at bodies) r) (take_all c.loop-at.at records_here all) c.loop-at.invariant;
        split = sym (take-append-drop c.loop-at.at bodies);
      },
  λ begins. refl,
)
