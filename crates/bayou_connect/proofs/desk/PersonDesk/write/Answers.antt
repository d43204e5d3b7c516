use Rattle.std.proofs.Common.{rules, subst, sym}
use Rattle.bayou_connect.specs.Anywhere.{AsksAnywhere}
use Rattle.bayou_connect.specs.Claims.{IsMade}
use Rattle.bayou_connect.specs.declared.asking.Requested.TheVariants as attempts
use Rattle.bayou_connect.specs.declared.store.Store.{Store}
use Rattle.bayou_connect.proofs.desk.PersonDesk.write.Goals as goal

pub returns-clause-written : goal.returns-clause-written
returns-clause-written g c =
    let desk = c.args.self.now in
    let told = c.in_ok-told.told in
    record {
      told = told;
      asked = subst (λ (store : Store). AsksAnywhere c.args.who (attempts.Write c.args.program) desk.first desk.rounds desk.store store told) (sym c.finish.ensures.same) c.in_ok-told.ensures;
      printed = c.in_ok-finish.ensures.printed;
      accepted = subst (λ (store : Store). IsMade store.accesses.items told c.made_by-made.result) (sym c.finish.ensures.same) c.made_by-made.ensures;
      seat = search rules;
    }
