use Rattle.std.proofs.Common.{◌≡◌, ◌+◌, ◌-◌, ◌≤◌, inl, inr, Option, Some, drop, take, length, ap, refl, sym, ◌∙◌, subst, arith}
use Rattle.std.specs.List.{slice_get}
use Rattle.bayou_base.specs.declared.tag.Tag.{Tag}
use Rattle.bayou_journal.specs.Versions.{body_in}
use Rattle.bayou_lang.specs.declared.write.Write.{Write}
use Rattle.bayou_wire.specs.declared.record.Record.{Record}
use Rattle.bayou_server.specs.Inner.Fields.{core_of}
use Rattle.bayou_server.specs.Server.{records_of, untagged}
use Rattle.bayou_server.specs.Stored.{IsBodyOf, Stores}
use Rattle.bayou_server.proofs.Adopting.{more_than_all, other_first, other_rest, some_stand}
use Rattle.bayou_server.proofs.Beside.{many_records}
use Rattle.bayou_server.proofs.Bodies.{not_both, told_body}
use Rattle.bayou_server.proofs.Comparing.{held_alone, how_many}
use Rattle.bayou_server.proofs.settling.count_adopted.Goals as goal

pub returns-then-len-place : goal.returns-then-len-place
returns-then-len-place c = λ doubt is.
    let core = core_of c.args.holding.now c.args.id.index in
    inl (
      refl,
      held_alone core.id (records_of core) c.args.opened.now.bodies (c.in_ok-begins_with.ensures.0 c.if-not-branch.false)
          (sym c.len.ensures ∙ c.if-len-place.true ∙ ap length c.receipts-place.ensures.value ∙ sym (many_records core.held core.tags c.requires.tags)),
    )

pub overflow_sub-more : goal.overflow_sub-more
overflow_sub-more c =
    let core = core_of c.args.holding.now c.args.id.index in
    let many = how_many core.id (records_of core) c.args.opened.now.bodies (c.in_ok-begins_with.ensures.0 c.if-not-branch.false) in
    omega (arith, many, many_records core.held core.tags c.requires.tags, c.len-2.ensures, ap length c.receipts-place.ensures.value)

pub overflow_sub-more-2 : goal.overflow_sub-more-2
overflow_sub-more-2 c =
    let core = core_of c.args.holding.now c.args.id.index in
    let many = how_many core.id (records_of core) c.args.opened.now.bodies (c.in_ok-begins_with.ensures.0 c.if-not-branch.false) in
    omega (arith, many, many_records core.held core.tags c.requires.tags, c.len-2.ensures, c.len.ensures, c.if-len-place.false, ap length c.receipts-place.ensures.value)

pub returns-then-more-len : goal.returns-then-more-len
returns-then-more-len c = λ doubt is.
    let core = core_of c.args.holding.now c.args.id.index in
    let begins = c.in_ok-begins_with.ensures.0 c.if-not-branch.false in
    let bodies = c.args.opened.now.bodies in
    let taking = c.args.holding.now.taking in
    let place = ap length c.receipts-place.ensures.value in
    let other = more_than_all core doubt bodies c.requires.tags taking.items begins (omega (arith, place, c.if-more-len.true, c.len-2.ensures, c.len-3.ensures, taking.ok.0)) in
    (place, other.0, other.1)

pub version-requires : goal.version-requires
version-requires c =
    let core = core_of c.args.holding.now c.args.id.index in
    let many = how_many core.id (records_of core) c.args.opened.now.bodies (c.in_ok-begins_with.ensures.0 c.if-not-branch.false) in
    omega (arith, many, many_records core.held core.tags c.requires.tags, c.len.ensures, c.if-len-place.false, ap length c.receipts-place.ensures.value)

pub body-requires : goal.body-requires
body-requires c =
    let core = core_of c.args.holding.now c.args.id.index in
    let many = how_many core.id (records_of core) c.args.opened.now.bodies (c.in_ok-begins_with.ensures.0 c.if-not-branch.false) in
    omega (arith, many, many_records core.held core.tags c.requires.tags, c.len.ensures, c.if-len-place.false, ap length c.receipts-place.ensures.value)

pub returns-then-not-branch-2 : goal.returns-then-not-branch-2
returns-then-not-branch-2 c = λ doubt is.
    let core = core_of c.args.holding.now c.args.id.index in
    let bodies = c.args.opened.now.bodies in
    let body = body_in c.version.result c.body.result.now in
    let place = ap length c.receipts-place.ensures.value in
    let begins = c.in_ok-begins_with.ensures.0 c.if-not-branch.false in
    let many = how_many core.id (records_of core) bodies begins in
    let at : slice_get bodies (length core.held) ≡ Some body = subst (λ n. slice_get bodies n ≡ Some body) place
    (told_body bodies (length c.receipts-place.result.now) c.version.result c.body.result.now
    (omega (arith, many, many_records core.held core.tags c.requires.tags, c.len.ensures, c.if-len-place.false, place)) c.version.ensures c.body.ensures) in
    let one : c.in-Some.doubt ≡ doubt = let both : Some c.in-Some.doubt ≡ Some doubt = sym c.in-Some.is ∙ is in cc in
    let other = other_first core doubt bodies c.requires.tags c.args.holding.now.taking.items body begins at
    (λ stands. not_both (c.in_ok-stands_for.ensures.1
    (subst (λ (r : Record). IsBodyOf core.id body r)
    (ap (λ (w : Write). record { write = w; tag = core.doubt_tag }) (sym one) ∙ ap (λ (t : Option Tag). record { write = c.in-Some.doubt; tag = t }) (sym c.coming.ensures.value)) stands))
    c.if-not-branch-2.true) in
    (place, other.0, other.1)

pub stand_for_each-requires-clause-bodies : goal.stand_for_each-requires-clause-bodies
stand_for_each-requires-clause-bodies c =
    let core = core_of c.args.holding.now c.args.id.index in
    let many = how_many core.id (records_of core) c.args.opened.now.bodies (c.in_ok-begins_with.ensures.0 c.if-not-branch.false) in
    omega (arith, many, many_records core.held core.tags c.requires.tags, c.len-2.ensures, c.len.ensures, c.if-len-place.false, ap length c.receipts-place.ensures.value)

pub returns-then-not-branch-3 : goal.returns-then-not-branch-3
returns-then-not-branch-3 c = λ doubt is.
    let core = core_of c.args.holding.now c.args.id.index in
    let bodies = c.args.opened.now.bodies in
    let taking = c.args.holding.now.taking in
    let body = body_in c.version.result c.body.result.now in
    let place = ap length c.receipts-place.ensures.value in
    let begins = c.in_ok-begins_with.ensures.0 c.if-not-branch.false in
    let many = how_many core.id (records_of core) bodies begins in
    let at : slice_get bodies (length core.held) ≡ Some body = subst (λ n. slice_get bodies n ≡ Some body) place
    (told_body bodies (length c.receipts-place.result.now) c.version.result c.body.result.now
    (omega (arith, many, many_records core.held core.tags c.requires.tags, c.len.ensures, c.if-len-place.false, place)) c.version.ensures c.body.ensures) in
    let more = c.len-2.result - length c.receipts-place.result.now - 1 in
    let size : length bodies ≡ length core.held + 1 + more =
    omega (arith, many, many_records core.held core.tags c.requires.tags, c.len-2.ensures, c.len.ensures, c.if-len-place.false, place) in
    let other = other_rest core doubt bodies c.requires.tags taking.items body more begins at size (omega (arith, c.if-more-len.false, c.len-3.ensures, taking.ok.0))
    (λ stores. not_both (c.in_ok-stand_for_each.ensures.1
    (subst (λ n. Stores core.id (take more (drop (n + 1) bodies)) (untagged (take more taking.items))) (sym place) stores)) c.if-not-branch-3.true) in
    (place, other.0, other.1)

pub returns : goal.returns
returns c = λ doubt is.
    let core = core_of c.args.holding.now c.args.id.index in
    let bodies = c.args.opened.now.bodies in
    let taking = c.args.holding.now.taking in
    let body = body_in c.version.result c.body.result.now in
    let place = ap length c.receipts-place.ensures.value in
    let begins = c.in_ok-begins_with.ensures.0 c.if-not-branch.false in
    let many = how_many core.id (records_of core) bodies begins in
    let at : slice_get bodies (length core.held) ≡ Some body = subst (λ n. slice_get bodies n ≡ Some body) place
    (told_body bodies (length c.receipts-place.result.now) c.version.result c.body.result.now
    (omega (arith, many, many_records core.held core.tags c.requires.tags, c.len.ensures, c.if-len-place.false, place)) c.version.ensures c.body.ensures) in
    let more = c.len-2.result - length c.receipts-place.result.now - 1 in
    let size : length bodies ≡ length core.held + 1 + more =
    omega (arith, many, many_records core.held core.tags c.requires.tags, c.len-2.ensures, c.len.ensures, c.if-len-place.false, place) in
    let one : c.in-Some.doubt ≡ doubt = let both : Some c.in-Some.doubt ≡ Some doubt = sym c.in-Some.is ∙ is in cc in
    let stands = subst (λ (r : Record). IsBodyOf core.id body r)
    (ap (λ (t : Option Tag). record { write = c.in-Some.doubt; tag = t }) c.coming.ensures.value ∙ ap (λ (w : Write). record { write = w; tag = core.doubt_tag }) one)
    (c.in_ok-stands_for.ensures.0 c.if-not-branch-2.false) in
    let rest = subst (λ n. Stores core.id (take more (drop (n + 1) bodies)) (untagged (take more taking.items))) place (c.in_ok-stand_for_each.ensures.0 c.if-not-branch-3.false) in
    inr (more, refl, omega (arith, c.if-more-len.false, c.len-3.ensures, taking.ok.0), some_stand core doubt bodies c.requires.tags taking.items body more begins at size stands rest)
