use Rattle.std.proofs.Common.{◌≡◌, ◌≢◌, ◌==◌, ◌∙◌, [], ◌∷◌, ◌++◌, IsTrue, length, ap, refl, sym, subst, arith}
use Rattle.std.proofs.lemmas.Grind.{common_steps}
use Rattle.bayou_text.specs.Said.{said}
use Rattle.bayou_script.specs.Order.{skipped, added, misplaced}
use Rattle.bayou_script.proofs.Checked.{own_fault}
use Rattle.bayou_script.proofs.text.add_line.Goals as goal

pub returns-then-is_empty : goal.returns-then-is_empty
returns-then-is_empty g c before front number in_order draft =
    let none : c.args.bytes.now ≡ [] = grind (arith, common_steps) in
    (front, rw none (skipped before front in_order), draft)

pub returns-in-Err : goal.returns-in-Err
returns-in-Err g c before front number in_order draft =
    let some : c.args.bytes.now ≢ [] = λ e. let none = ap (λ bytes. length bytes == 0) e in cc in
    rw c.of_line.ensures (own_fault g.F.Front.order c.args.number front c.args.bytes.now c.in-Err.fault some c.in-Err.ensures.fault)

pub returns-then-branch : goal.returns-then-branch
returns-then-branch g c before front number in_order draft =
    let order = g.F.Front.order in
    let told = said c.in-Ok.line in
    let some : c.args.bytes.now ≢ [] = λ e. let none = ap (λ bytes. length bytes == 0) e in cc in
    let behind = c.in_ok-add.ensures front draft in
    let here : IsTrue (order c.args.number front told) = sym behind.place ∙ c.if-branch.true in (
      front ++ told ∷ [],
      added before front c.args.bytes.now told in_order some c.in-Ok.ensures.found (subst (λ n. IsTrue (order n front told)) number here),
      behind.kept c.if-branch.true,
    )

pub returns-else-branch : goal.returns-else-branch
returns-else-branch g c before front number in_order draft =
    let some : c.args.bytes.now ≢ [] = λ e. let none = ap (λ bytes. length bytes == 0) e in cc in
    let behind = c.in_ok-add.ensures front draft in
    rw c.out_of_place.ensures (refl, misplaced (said c.in-Ok.line) some c.in-Ok.ensures.found (sym behind.place ∙ c.if-branch.false) refl)
