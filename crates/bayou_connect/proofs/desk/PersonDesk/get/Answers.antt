use Rattle.std.proofs.Common.{List, ℕ, rules, subst, sym}
use Rattle.bayou_connect.specs.Anywhere.{AsksAnywhere}
use Rattle.bayou_connect.specs.declared.asking.Requested.TheVariants as attempts
use Rattle.bayou_connect.specs.declared.store.Store.{Store}
use Rattle.bayou_connect.proofs.Going.{then_ok}
use Rattle.bayou_connect.proofs.desk.PersonDesk.get.Goals as goal

pub returns-clause-read : goal.returns-clause-read
returns-clause-read g c =
    let desk = c.args.self.now in
    let told = c.in_ok-told.told in
    let asked = subst (λ (key : List ℕ). AsksAnywhere c.args.who (attempts.Read key) desk.first desk.rounds desk.store c.anywhere.new.store told) c.copy.ensures c.in_ok-told.ensures in
    then_ok c.finish.result _ _ c.finish.ensures.printed (λ printed. record {
      told = told;
      asked = subst (λ (store : Store). AsksAnywhere c.args.who (attempts.Read c.args.key) desk.first desk.rounds desk.store store told) (sym c.finish.ensures.same) asked;
      printed = printed;
      seat = search rules;
    })
