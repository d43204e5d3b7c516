use Rattle.std.proofs.Common.{◌≡◌, ◌+◌, Option, Some, ap, length, sym, ◌∙◌, subst, arith, rules}
use Rattle.std.specs.List.{slice_get}
use Rattle.bayou_base.specs.declared.tag.Tag.{Tag}
use Rattle.bayou_journal.specs.Versions.{body_in}
use Rattle.bayou_lang.specs.declared.write.Write.{Write}
use Rattle.bayou_wire.specs.declared.record.Record.{Record}
use Rattle.bayou_server.specs.Server.{records_of}
use Rattle.bayou_server.specs.Stored.{IsBodyOf}
use Rattle.bayou_server.specs.Inner.Fields.{core_of}
use Rattle.bayou_server.proofs.Beside.{many_records}
use Rattle.bayou_server.proofs.Bodies.{not_both, told_body}
use Rattle.bayou_server.proofs.Comparing.{held_alone, held_and_doubt, how_many, more_than_doubt, other_than_doubt}
use Rattle.bayou_server.proofs.reopen.has_doubt.Goals as goal

pub returns-then-not-branch : goal.returns-then-not-branch
returns-then-not-branch c = search rules

pub returns-then-len-place : goal.returns-then-len-place
returns-then-len-place c = λ doubt is.
    let core = core_of c.args.holding.now c.args.id.index in
    held_alone core.id (records_of core) c.args.opened.now.bodies (c.in_ok-begins_with.ensures.0 c.if-not-branch.false)
    (sym c.len.ensures ∙ c.if-len-place.true ∙ ap length c.receipts-place.ensures.value ∙ sym (many_records core.held core.tags c.requires.tags))

pub returns-then-len-place-2 : goal.returns-then-len-place-2
returns-then-len-place-2 c = λ doubt is. (
  ap length c.receipts-place.ensures.value,
  more_than_doubt (core_of c.args.holding.now c.args.id.index) doubt c.args.opened.now.bodies c.requires.tags (c.in_ok-begins_with.ensures.0 c.if-not-branch.false)
      (omega (arith, c.if-len-place-2.true, c.len-2.ensures, ap length c.receipts-place.ensures.value)),
)

pub version-requires : goal.version-requires
version-requires c =
    let core = core_of c.args.holding.now c.args.id.index in
    let many = how_many core.id (records_of core) c.args.opened.now.bodies (c.in_ok-begins_with.ensures.0 c.if-not-branch.false) in
    omega (arith, many, many_records core.held core.tags c.requires.tags, c.if-len-place.false, c.len.ensures, ap length c.receipts-place.ensures.value)

pub body-requires : goal.body-requires
body-requires c =
    let core = core_of c.args.holding.now c.args.id.index in
    let many = how_many core.id (records_of core) c.args.opened.now.bodies (c.in_ok-begins_with.ensures.0 c.if-not-branch.false) in
    omega (arith, many, many_records core.held core.tags c.requires.tags, c.if-len-place.false, c.len.ensures, ap length c.receipts-place.ensures.value)

pub returns-then-not-branch-2 : goal.returns-then-not-branch-2
returns-then-not-branch-2 c = λ doubt is.
    let core = core_of c.args.holding.now c.args.id.index in
    let bodies = c.args.opened.now.bodies in
    let place = ap length c.receipts-place.ensures.value in
    let begins = c.in_ok-begins_with.ensures.0 c.if-not-branch.false in
    let many = how_many core.id (records_of core) bodies begins in
    let longer : length bodies ≡ length core.held + 1 = omega (arith, many, many_records core.held core.tags c.requires.tags, place, c.if-len-place.false, c.len.ensures, c.if-len-place-2.false, c.len-2.ensures) in
    let at : slice_get bodies (length core.held) ≡ Some (body_in c.version.result c.body.result.now) = subst (λ n. slice_get bodies n ≡ Some (body_in c.version.result c.body.result.now)) place
    (told_body bodies (length c.receipts-place.result.now) c.version.result c.body.result.now (omega (arith, longer, place)) c.version.ensures c.body.ensures) in
    let one : c.in-Some.doubt ≡ doubt = let both : Some c.in-Some.doubt ≡ Some doubt = sym c.in-Some.is ∙ is in cc in (
      place,
      other_than_doubt core doubt bodies (body_in c.version.result c.body.result.now) c.requires.tags begins longer at
          (λ stands. not_both (c.in_ok-stands_for.ensures.1
          (subst (λ (r : Record). IsBodyOf core.id (body_in c.version.result c.body.result.now) r)
          (ap (λ (w : Write). record { write = w; tag = core.doubt_tag }) (sym one) ∙ ap (λ (t : Option Tag). record { write = c.in-Some.doubt; tag = t }) (sym c.coming.ensures.value)) stands))
          c.if-not-branch-2.true),
    )

pub returns : goal.returns
returns c = λ doubt is.
    let core = core_of c.args.holding.now c.args.id.index in
    let bodies = c.args.opened.now.bodies in
    let place = ap length c.receipts-place.ensures.value in
    let begins = c.in_ok-begins_with.ensures.0 c.if-not-branch.false in
    let many = how_many core.id (records_of core) bodies begins in
    let longer : length bodies ≡ length core.held + 1 = omega (arith, many, many_records core.held core.tags c.requires.tags, place, c.if-len-place.false, c.len.ensures, c.if-len-place-2.false, c.len-2.ensures) in
    let at : slice_get bodies (length core.held) ≡ Some (body_in c.version.result c.body.result.now) = subst (λ n. slice_get bodies n ≡ Some (body_in c.version.result c.body.result.now)) place
    (told_body bodies (length c.receipts-place.result.now) c.version.result c.body.result.now (omega (arith, longer, place)) c.version.ensures c.body.ensures) in
    let one : c.in-Some.doubt ≡ doubt = let both : Some c.in-Some.doubt ≡ Some doubt = sym c.in-Some.is ∙ is in cc in
    held_and_doubt core doubt bodies (body_in c.version.result c.body.result.now) c.requires.tags begins longer at
    (subst (λ (r : Record). IsBodyOf core.id (body_in c.version.result c.body.result.now) r)
    (ap (λ (t : Option Tag). record { write = c.in-Some.doubt; tag = t }) c.coming.ensures.value ∙ ap (λ (w : Write). record { write = w; tag = core.doubt_tag }) one)
    (c.in_ok-stands_for.ensures.0 c.if-not-branch-2.false))
