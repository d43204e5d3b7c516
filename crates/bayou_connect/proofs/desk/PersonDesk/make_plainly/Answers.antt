use Rattle.std.proofs.Common.{◌≡◌, Option, MatchOption, refl, subst, sym}
use Rattle.bayou_base.specs.declared.session.SessionId.{SessionId}
use Rattle.bayou_connect.specs.Claiming.{MakesWrite, TellsOutcome}
use Rattle.bayou_connect.specs.Sessions.{own_session}
use Rattle.bayou_connect.specs.declared.desk.MadeWrite.{MadeWrite}
use Rattle.bayou_wire.specs.declared.lookup.Placed.{Placed}
use Rattle.bayou_connect.proofs.Claimed.{own_is}
use Rattle.bayou_streams.specs.Account.{account}
use Rattle.bayou_connect.proofs.desk.PersonDesk.make_plainly.Goals as goal

pub returns-in-None : goal.returns-in-None
returns-in-None g c =
    let wrote = c.write.new.self in
    let before = account g.W.Write.contents c.args.output.now in
    let line = account g.W.Write.contents c.write.new.output in
    record {
      made = c.in_ok-made.made;
      wrote = wrote;
      line = line;
      write = subst (λ (who : SessionId). MakesWrite who c.args.program c.args.self.now wrote before line c.in_ok-made.made) (own_is _) c.in_ok-made.ensures.written;
      rest = subst (λ (m : Option MadeWrite). MatchOption m ((wrote ≡ wrote) × (line ≡ line)) (λ made. (placed : Option Placed) × TellsOutcome own_session made wrote wrote line line placed)) (sym c.in-None.is) (refl, refl);
    }

pub returns-in_ok-tell_outcome-in-Some : goal.returns-in_ok-tell_outcome-in-Some
returns-in_ok-tell_outcome-in-Some g c =
    let wrote = c.write.new.self in
    let new = c.tell_outcome.new.self in
    let before = account g.W.Write.contents c.args.output.now in
    let line = account g.W.Write.contents c.write.new.output in
    let after = account g.W.Write.contents c.tell_outcome.new.output in
    record {
      made = c.in_ok-made.made;
      wrote = wrote;
      line = line;
      write = subst (λ (who : SessionId). MakesWrite who c.args.program c.args.self.now wrote before line c.in_ok-made.made) (own_is _) c.in_ok-made.ensures.written;
      rest = subst (λ (m : Option MadeWrite). MatchOption m ((new ≡ wrote) × (after ≡ line)) (λ made. (placed : Option Placed) × TellsOutcome own_session made wrote new line after placed)) (sym c.in-Some.is) (
        c.in_ok-tell_outcome-in-Some.field-0,
        subst (λ (who : SessionId). TellsOutcome who c.in-Some.made wrote new line after c.in_ok-tell_outcome-in-Some.field-0) (own_is _) c.in_ok-tell_outcome-in-Some.ensures.told,
      );
    }
