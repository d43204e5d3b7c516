use Rattle.std.proofs.Common.{◌≡◌, Option, MatchOption, refl, subst, sym}
use Rattle.bayou_connect.specs.Claiming.{LooksForText}
use Rattle.bayou_wire.specs.declared.lookup.Placed.{Placed}
use Rattle.bayou_connect.proofs.Going.{then_ok}
use Rattle.bayou_streams.specs.Account.{account}
use Rattle.bayou_connect.proofs.desk.PersonDesk.tell_added.Goals as goal

pub returns-in-Some : goal.returns-in-Some
returns-in-Some g c =
    let told = c.tell_outcome.new.self in
    let line = account g.W.Write.contents c.tell_outcome.new.output in
    record {
      placed = c.in_ok-placed.placed;
      told = told;
      line = line;
      outcome = c.in_ok-placed.ensures.told;
      rest = subst (λ (p : Option Placed). MatchOption p (LooksForText c.args.who told told line line) (λ placed. (told ≡ told) × (line ≡ line))) (sym c.in-Some.is) (refl, refl);
    }

pub returns-in-None : goal.returns-in-None
returns-in-None g c =
    let told = c.tell_outcome.new.self in
    let new = c.look_for_text.new.self in
    let line = account g.W.Write.contents c.tell_outcome.new.output in
    let after = account g.W.Write.contents c.look_for_text.new.output in
    then_ok c.look_for_text.result _ _ c.look_for_text.ensures (λ looked. record {
      placed = c.in_ok-placed.placed;
      told = told;
      line = line;
      outcome = c.in_ok-placed.ensures.told;
      rest = subst (λ (p : Option Placed). MatchOption p (LooksForText c.args.who told new line after) (λ placed. (new ≡ told) × (after ≡ line))) (sym c.in-None.is) looked;
    })
