use Rattle.std.proofs.Common.{◌≡◌, ◌∷◌, Bool, is_some, rules, subst}
use Rattle.bayou_connect.specs.Claiming.{TellsClaim}
use Rattle.bayou_connect.proofs.Going.{then_ok}
use Rattle.bayou_streams.specs.Account.{account}
use Rattle.bayou_connect.proofs.desk.PersonDesk.tell_made.Goals as goal

pub returns : goal.returns
returns g c =
    let claim = c.args.claim in
    let told = c.tell_outcome.new.self in
    let new = c.tell_claim.new.self in
    let line = account g.W.Write.contents c.tell_outcome.new.output in
    let after = account g.W.Write.contents c.tell_claim.new.output in
    let known : c.is_some-is_known.result ≡ is_some c.in_ok-placed.placed = search rules in
    then_ok c.tell_claim.result _ _ c.tell_claim.ensures (λ claimed. record {
      placed = c.in_ok-placed.placed;
      told = told;
      line = line;
      outcome = c.in_ok-placed.ensures.told;
      claim = subst (λ (b : Bool). TellsClaim c.args.who claim.value.now c.args.made.at (claim.key.now ∷ claim.others.now) b told new line after) known claimed;
    })
