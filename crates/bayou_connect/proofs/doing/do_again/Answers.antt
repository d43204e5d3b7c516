use Rattle.std.proofs.Common.{Option, None, Some, refl, subst}
use Rattle.bayou_base.specs.declared.session.SessionId.{SessionId}
use Rattle.bayou_connect.specs.Claiming.{TellsOutcome}
use Rattle.bayou_connect.specs.Commands.{WritesAgain}
use Rattle.bayou_connect.specs.Sessions.{own_session}
use Rattle.bayou_connect.specs.declared.desk.MadeWrite.{MadeWrite}
use Rattle.bayou_connect.proofs.Claimed.{own_is}
use Rattle.bayou_streams.specs.Account.{account}
use Rattle.bayou_connect.proofs.doing.do_again.Goals as goal

pub returns-in-None : goal.returns-in-None
returns-in-None g c =
    let old = c.args.desk.now in
    let wrote = c.write_again.new.self in
    let before = account g.W.Write.contents c.args.output.now in
    let line = account g.W.Write.contents c.write_again.new.output in
    record {
      made = None;
      wrote = wrote;
      line = line;
      again = subst (λ (made : Option MadeWrite). WritesAgain own_session old wrote before line made) c.in-None.is
          (subst (λ (who : SessionId). WritesAgain who old wrote before line c.in_ok-made.made) (own_is _) c.in_ok-made.ensures);
      rest = (refl, refl);
    }

pub returns-in_ok-tell_outcome-in-Some : goal.returns-in_ok-tell_outcome-in-Some
returns-in_ok-tell_outcome-in-Some g c =
    let old = c.args.desk.now in
    let wrote = c.write_again.new.self in
    let new = c.tell_outcome.new.self in
    let before = account g.W.Write.contents c.args.output.now in
    let line = account g.W.Write.contents c.write_again.new.output in
    let after = account g.W.Write.contents c.tell_outcome.new.output in
    record {
      made = Some c.in-Some.made;
      wrote = wrote;
      line = line;
      again = subst (λ (made : Option MadeWrite). WritesAgain own_session old wrote before line made) c.in-Some.is
          (subst (λ (who : SessionId). WritesAgain who old wrote before line c.in_ok-made.made) (own_is _) c.in_ok-made.ensures);
      rest = (
        c.in_ok-tell_outcome-in-Some.field-0,
        subst (λ (who : SessionId). TellsOutcome who c.in-Some.made wrote new line after c.in_ok-tell_outcome-in-Some.field-0) (own_is _) c.in_ok-tell_outcome-in-Some.ensures.told,
      );
    }
