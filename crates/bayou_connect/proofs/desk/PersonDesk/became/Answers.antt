use Rattle.std.proofs.Common.{rules, subst, sym}
use Rattle.bayou_connect.specs.Anywhere.{AsksAnywhere}
use Rattle.bayou_connect.specs.declared.asking.Requested.TheVariants as attempts
use Rattle.bayou_connect.specs.declared.store.Store.{Store}
use Rattle.bayou_connect.proofs.Going.{then_ok}
use Rattle.bayou_connect.proofs.desk.PersonDesk.became.Goals as goal

pub returns : goal.returns
returns g c =
    let desk = c.args.self.now in
    let told = c.in_ok-told.told in
    let first = c.place_for-first.result in
    then_ok c.print_told.result _ _ c.print_told.ensures.printed (λ printed. record {
      first = first;
      told = told;
      begins = c.place_for-first.ensures;
      asked = subst (λ (store : Store). AsksAnywhere c.args.who (attempts.Became c.args.wid) first desk.rounds desk.store store told) (sym c.print_told.ensures.same) c.in_ok-told.ensures;
      printed = printed;
      served = c.print_told.ensures.served;
      seat = search rules;
    })
