use Rattle.std.proofs.Common.{List, ℕ, subst}
use Rattle.bayou_base.specs.declared.session.SessionId.{SessionId}
use Rattle.bayou_connect.specs.Claiming.{ReadsKey}
use Rattle.bayou_connect.specs.Sessions.{own_session}
use Rattle.bayou_connect.proofs.Claimed.{own_is}
use Rattle.bayou_connect.proofs.Going.{then_ok}
use Rattle.bayou_streams.specs.Account.{account}
use Rattle.bayou_connect.proofs.desk.PersonDesk.get_one.Goals as goal

pub returns : goal.returns
returns g c =
    let before = account g.W.Write.contents c.args.output.now in
    let line = account g.W.Write.contents c.get.new.output in
    then_ok c.tell_key_standing.result _ _ c.tell_key_standing.ensures.printed (λ told. record {
      read = c.get.new.self;
      line = line;
      reads = subst (λ (key : List ℕ). ReadsKey own_session key c.args.self.now c.get.new.self before line) c.copy.ensures
          (subst (λ (who : SessionId). ReadsKey who c.copy.result c.args.self.now c.get.new.self before line) (own_is _) c.in_ok-get.ensures.read);
      stands = told;
      same = c.tell_key_standing.ensures.same.0;
    })
