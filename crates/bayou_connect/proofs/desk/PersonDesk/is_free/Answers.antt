use Rattle.std.proofs.Common.{List, Some, ℕ, refl, rules, subst, sym}
use Rattle.bayou_connect.specs.Anywhere.{AsksAnywhere}
use Rattle.bayou_connect.specs.Printing.{told_text}
use Rattle.bayou_connect.specs.declared.asking.Requested.TheVariants as attempts
use Rattle.bayou_connect.specs.declared.store.Store.{Store}
use Rattle.bayou_streams.specs.Account.{TakesBytes, account}
use Rattle.bayou_connect.proofs.desk.PersonDesk.is_free.Goals as goal

pub returns-then-is_other-clause-read : goal.returns-then-is_other-clause-read
returns-then-is_other-clause-read g c =
    let desk = c.args.self.now in
    let told = c.in_ok-told.told in
    record {
      told = told;
      asked = subst (λ (key : List ℕ). AsksAnywhere c.args.who (attempts.Read key) desk.first desk.rounds desk.store c.anywhere.new.store told) c.copy.ensures c.in_ok-told.ensures;
      free = c.if-is_other.ensures;
      printed = refl;
      seat = search rules;
    }

pub returns-clause-read : goal.returns-clause-read
returns-clause-read g c =
    let desk = c.args.self.now in
    let told = c.in_ok-told.told in
    let asked = subst (λ (key : List ℕ). AsksAnywhere c.args.who (attempts.Read key) desk.first desk.rounds desk.store c.anywhere.new.store told) c.copy.ensures c.in_ok-told.ensures in
    record {
      told = told;
      asked = subst (λ (store : Store). AsksAnywhere c.args.who (attempts.Read c.args.key.now) desk.first desk.rounds desk.store store told) (sym c.in_ok-finish.ensures.same) asked;
      free = c.if-is_other.ensures;
      printed = subst (λ (key : List ℕ). TakesBytes (account g.W.Write.contents c.args.output.now) (account g.W.Write.contents c.finish.new.output) (told_text desk.servers c.args.who (Some key) told)) c.copy-2.ensures c.in_ok-finish.ensures.printed;
      seat = search rules;
    }
