use Rattle.std.proofs.Common.{◌≡◌, Option, MatchOption, refl, subst, sym}
use Rattle.bayou_connect.specs.Claiming.{TellsAdded}
use Rattle.bayou_connect.specs.declared.desk.MadeWrite.{MadeWrite}
use Rattle.bayou_connect.proofs.Going.{then_ok}
use Rattle.bayou_streams.specs.Account.{account}
use Rattle.bayou_connect.proofs.desk.PersonDesk.add.Goals as goal

pub returns-in-None : goal.returns-in-None
returns-in-None g c =
    let wrote = c.write.new.self in
    let line = account g.W.Write.contents c.write.new.output in
    record {
      made = c.in_ok-made.made;
      wrote = wrote;
      line = line;
      write = c.in_ok-made.ensures.written;
      rest = subst (λ (m : Option MadeWrite). MatchOption m ((wrote ≡ wrote) × (line ≡ line)) (λ made. TellsAdded c.args.who made wrote wrote line line)) (sym c.in-None.is) (refl, refl);
    }

pub returns-in-Some : goal.returns-in-Some
returns-in-Some g c =
    let wrote = c.write.new.self in
    let new = c.tell_added.new.self in
    let line = account g.W.Write.contents c.write.new.output in
    let after = account g.W.Write.contents c.tell_added.new.output in
    then_ok c.tell_added.result _ _ c.tell_added.ensures (λ told. record {
      made = c.in_ok-made.made;
      wrote = wrote;
      line = line;
      write = c.in_ok-made.ensures.written;
      rest = subst (λ (m : Option MadeWrite). MatchOption m ((new ≡ wrote) × (after ≡ line)) (λ made. TellsAdded c.args.who made wrote new line after)) (sym c.in-Some.is) told;
    })
