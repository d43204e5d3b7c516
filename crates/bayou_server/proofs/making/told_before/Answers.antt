use Rattle.std.proofs.Common.{◌≡◌, ℕ, ◌<◌, Fits, List, Some, ap, arith, length, refl, subst, sym}
use Rattle.std.specs.List.{slice_get, slice_index_or}
use Rattle.std.proofs.lemmas.Option.{slice_get_read}
use Rattle.bayou_lang.specs.declared.write.Write.{Write}
use Rattle.bayou_server.specs.Inner.Fields.{core_of}
use Rattle.bayou_server.proofs.Knowing.{held_under, write_there}
use Rattle.bayou_server.proofs.making.told_before.Goals as goal

pub offset_bounds-receipts-at : goal.offset_bounds-receipts-at
offset_bounds-receipts-at c =
    let there = write_there (core_of c.args.holding.now c.args.id.index) c.in_ok-at.at c.args.tag c.requires c.in_ok-at.ensures in
    omega (arith, there, ap length c.receipts.ensures.value, c.receipts.type_inv.1)

pub bounds-receipts-at : goal.bounds-receipts-at
bounds-receipts-at c =
    rw c.receipts.ensures.value (write_there (core_of c.args.holding.now c.args.id.index) c.in_ok-at.at c.args.tag c.requires c.in_ok-at.ensures)

-- the Write at the place
read : (receipts : List Write) (now : List Write) (at : ℕ) (write : Write) → now ≡ receipts → at < length receipts → write ≡ slice_index_or now at write → slice_get receipts at ≡ Some write
read receipts now at write same there is =
    subst (λ (l : List Write). slice_get l at ≡ Some write) same (slice_get_read now (length now) at write refl (rw same there) is)

pub returns-then-not-is_of_asking : goal.returns-then-not-is_of_asking
returns-then-not-is_of_asking c =
    let core = core_of c.args.holding.now c.args.id.index in
    let write = c.index-receipts-at.result in
    let is = read core.held c.receipts.result.now c.in_ok-at.at write c.receipts.ensures.value (write_there core c.in_ok-at.at c.args.tag c.requires c.in_ok-at.ensures) c.index-receipts-at.is in (
      record {
        write = write;
        held = held_under core c.in_ok-at.at write c.args.tag is c.in_ok-at.ensures;
        other = λ asked. absurd (let yes = c.is_of_asking.ensures.1 asked in let no = c.if-not-is_of_asking.true in cc);
      },
      refl,
    )

pub returns : goal.returns
returns c =
    let core = core_of c.args.holding.now c.args.id.index in
    let write = c.index-receipts-at.result in
    let is = read core.held c.receipts.result.now c.in_ok-at.at write c.receipts.ensures.value (write_there core c.in_ok-at.at c.args.tag c.requires c.in_ok-at.ensures) c.index-receipts-at.is in (
      record {
        write = write;
        held = held_under core c.in_ok-at.at write c.args.tag is c.in_ok-at.ensures;
        asked = c.is_of_asking.ensures.0 (let yes = c.if-not-is_of_asking.false in cc);
        tells = c.accepted.ensures;
      },
      refl,
    )
