use Rattle.std.proofs.Common.{◌≤◌, List, ◌∷◌, [], length, ap, refl, sym, ◌∙◌, subst, arith, length-append}
use Rattle.std.proofs.lemmas.List.{take_all}
use Rattle.std.proofs.lemmas.Result.{err_from_is_err_and}
use Rattle.bayou_journal.specs.Versions.{Body, body_in}
use Rattle.bayou_lang.specs.declared.write.Write.{Write}
use Rattle.bayou_log.specs.Log.{Log}
use Rattle.bayou_tags.specs.Tags.{TagList}
use Rattle.bayou_server.specs.Server.{records}
use Rattle.bayou_server.specs.Stored.{Stores}
use Rattle.bayou_server.proofs.Bodies.{told_body}
use Rattle.bayou_server.proofs.Entries.{added_so_far, nothing_so_far, refuses_at_or}
use Rattle.bayou_server.proofs.start.holding_of.Goals as goal

pub loop-at-init : goal.loop-at-init
loop-at-init c = record {
  place = sym (ap length c.new.ensures.empty);
  so_far = nothing_so_far c.args.id.index c.args.count c.args.limit c.args.opened.now.bodies c.new.result c.new-2.result.tags c.new.ensures.empty c.new-2.ensures.empty c.new.ensures.count c.new.ensures.limit;
  nothing_comes = c.new-2.ensures.coming;
  no_doubt = refl;
  none_behind = c.new-3.ensures.items;
  alone = refl;
}

pub returns-in_err-add_next : goal.returns-in_err-add_next
returns-in_err-add_next c =
    let p = err_from_is_err_and c.from_residual.result c.from_residual.ensures.1 in
    let holding = c.loop-at.holding in
    let body = body_in c.version.result c.body.result.now in
    let stands = told_body c.args.opened.now.bodies c.loop-at.at c.version.result c.body.result.now (omega (arith, c.loop-at-test.true, c.len-at-end.ensures)) c.version.ensures c.body.ensures in
    rw (p.1, p.2)
    (refuses_at_or c.args.id.index c.args.count c.args.limit c.loop-at.at c.args.opened.now.bodies body holding.log holding.tags.tags c.in_err-add_next.field-0.0 c.loop-at.invariant.so_far stands
    c.in_err-add_next.ensures)

pub loop-at-preserved : goal.loop-at-preserved
loop-at-preserved c =
    let holding = c.loop-at.holding in
    let added = c.in_ok-add_next.ensures in
    let stands = told_body c.args.opened.now.bodies c.loop-at.at c.version.result c.body.result.now (omega (arith, c.loop-at-test.true, c.len-at-end.ensures)) c.version.ensures c.body.ensures in
    record {
      place = omega (arith, ap (λ (l : Log). length l.receipts) added.log, length-append holding.log.receipts (added.stored.write ∷ []), c.loop-at.invariant.place);
      so_far = added_so_far c.args.id.index c.args.count c.args.limit c.loop-at.at c.args.opened.now.bodies holding c.add_next.new.holding (body_in c.version.result c.body.result.now) c.loop-at.invariant.so_far stands added;
      nothing_comes = ap (λ (t : TagList). t.coming) added.tags ∙ c.loop-at.invariant.nothing_comes;
      no_doubt = added.doubt ∙ c.loop-at.invariant.no_doubt;
      none_behind = ap (λ t. t.items) added.taking ∙ c.loop-at.invariant.none_behind;
      alone = added.together ∙ c.loop-at.invariant.alone;
    }

pub returns : goal.returns
returns c =
    let so_far = c.loop-at.invariant.so_far in
    let bodies = c.args.opened.now.bodies in
    let holding = c.loop-at.holding in
    let all : length bodies ≤ c.loop-at.at = omega (arith, c.loop-at-test.false, c.len-at-end.ensures) in
    let same = ap (λ (log : Log). log.receipts) c.catch_up.ensures in record {
      whole = subst (λ (w : List Write). Stores c.args.id.index bodies (records w holding.tags.tags)) (sym same)
          (subst (λ (b : List Body). Stores c.args.id.index b (records holding.log.receipts holding.tags.tags)) (take_all c.loop-at.at bodies all) so_far.whole);
      spelled = rw c.catch_up.ensures so_far.spelled;
      holds = rw c.catch_up.ensures so_far.holds;
      tagged = rw c.catch_up.ensures so_far.tagged;
      nothing_comes = c.loop-at.invariant.nothing_comes;
      no_doubt = c.loop-at.invariant.no_doubt;
      none_behind = c.loop-at.invariant.none_behind;
      alone = c.loop-at.invariant.alone;
      same_count = ap (λ (log : Log). log.count) c.catch_up.ensures ∙ so_far.same_count;
      same_limit = ap (λ (log : Log). log.limit) c.catch_up.ensures ∙ so_far.same_limit;
      caught_up = ap (λ (log : Log). log.waiting) c.catch_up.ensures;
    }
