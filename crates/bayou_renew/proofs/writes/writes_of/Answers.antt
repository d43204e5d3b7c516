use Rattle.std.proofs.Common.{◌≡◌, ◌∙◌, ◌+◌, ◌*◌, ◌-◌, ◌<◌, ◌≤◌, ◌∷◌, [], ◌++◌, List, ap, append_assoc, arith, drop, length, length-append, length-drop, min, refl, subst, sym, take}
use Rattle.std.proofs.lemmas.List.{append-nil, drop_min, take_min}
use Rattle.bayou_base.specs.declared.limits.TheConstants.{MAX_OPS, MAX_WRITES}
use Rattle.bayou_lang.specs.declared.write.Write.{Write}
use Rattle.bayou_log.specs.Rows.{Row}
use Rattle.bayou_renew.specs.Renewal.{AreMadeOf}
use Rattle.bayou_renew.proofs.Made.{made_on, none_left, some_left}
use Rattle.bayou_renew.proofs.writes.writes_of.Goals as goal

pub add-requires-clause-room : goal.add-requires-clause-room
add-requires-clause-room c =
    let some = some_left c.loop-rest.rest.now c.is_empty.result c.is_empty.ensures c.loop-rest-test.true in
    omega (arith, c.loop-rest.invariant.number some, c.loop-rest.invariant.limit, some, c.requires.few)

pub loop-rest-preserved : goal.loop-rest-preserved
loop-rest-preserved c =
    let rows = c.loop-rest.rest.now in
    let some = some_left rows c.is_empty.result c.is_empty.ensures c.loop-rest-test.true in
    let added = c.in_ok-add.ensures in
    let held = c.loop-rest.log.receipts in
    let now = c.add.new.log.receipts in
    let at : c.min.result ≡ min MAX_OPS (length rows) = c.min.ensures in
    let front : c.split_at.result.0.now ≡ take MAX_OPS rows = c.split_at.ensures.front ∙ ap (λ n. take n rows) at ∙ take_min MAX_OPS rows in
    let back : c.split_at.result.1.now ≡ drop MAX_OPS rows = c.split_at.ensures.back ∙ ap (λ n. drop n rows) at ∙ drop_min MAX_OPS rows in
    let number = ap {A = List Write} length added.held ∙ length-append held (added.write ∷ []) in
    let left = ap {A = List Row} length back ∙ length-drop MAX_OPS rows in
    record {
      made = λ more made. made_on c.args.rows.now rows c.split_at.result.0.now c.split_at.result.1.now held now added.write more some front back added.next added.puts added.held c.loop-rest.invariant.made made;
      number = λ more. omega (arith, c.loop-rest.invariant.number some, number, left, more);
      count = added.count ∙ c.loop-rest.invariant.count;
      limit = added.limit ∙ c.loop-rest.invariant.limit;
    }

pub returns-clause-made : goal.returns-clause-made
returns-clause-made c =
    let none : c.loop-rest.rest.now ≡ [] = none_left c.loop-rest.rest.now c.is_empty.result c.is_empty.ensures c.loop-rest-test.false in
    subst (AreMadeOf [] c.args.rows.now) (append-nil c.loop-rest.log.receipts) (c.loop-rest.invariant.made [] none)
