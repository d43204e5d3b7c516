use Rattle.std.proofs.Common.{◌≡◌, rules, subst, sym}
use Rattle.std.specs.List.{before_first}
use Rattle.bayou_connect.specs.Plans.{is_equals_sign}
use Rattle.bayou_person.specs.Wishes.{ReadsServer}
use Rattle.bayou_connect.proofs.plan.place_of.Goals as goal

pub returns-in_default-id_of : goal.returns-in_default-id_of
returns-in_default-id_of c = λ place says.
    let number : c.in-Some.number.now ≡ before_first is_equals_sign c.args.word.now = search rules in
    c.in_default-id_of.ensures place.id (subst (λ word. ReadsServer word place.id) (sym number) says.number)
