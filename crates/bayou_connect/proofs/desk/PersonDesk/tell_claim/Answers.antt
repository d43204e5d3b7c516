use Rattle.std.proofs.Common.{◌≡◌, ◌∙◌, Bool, true, false, refl, rules, subst, sym}
use Rattle.bayou_connect.specs.Claiming.{TellsNothing}
use Rattle.std.specs.Prelude.{MatchBool}
use Rattle.bayou_connect.proofs.Going.{then_ok}
use Rattle.bayou_streams.specs.Account.{account}
use Rattle.bayou_connect.proofs.desk.PersonDesk.tell_claim.Goals as goal

pub returns-then-not-is_nothing : goal.returns-then-not-is_nothing
returns-then-not-is_nothing g c =
    let told = c.tell_keys.new.self in
    let line = account g.W.Write.contents c.tell_keys.new.output in
    let no : c.came_to_nothing-is_nothing.result ≡ false = search rules in
    record {
      are_other = c.in_ok-are_other.are_other;
      told = told;
      line = line;
      keys_told = c.in_ok-are_other.ensures.told;
      rest = subst (λ (b : Bool). MatchBool b (TellsNothing c.args.who told told line line) ((told ≡ told) × (line ≡ line))) (sym no ∙ c.came_to_nothing-is_nothing.ensures) (refl, refl);
    }

pub returns : goal.returns
returns g c =
    let told = c.tell_keys.new.self in
    let new = c.tell_nothing.new.self in
    let line = account g.W.Write.contents c.tell_keys.new.output in
    let after = account g.W.Write.contents c.tell_nothing.new.output in
    let yes : c.came_to_nothing-is_nothing.result ≡ true = search rules in
    then_ok c.tell_nothing.result _ _ c.tell_nothing.ensures.printed (λ printed. record {
      are_other = c.in_ok-are_other.are_other;
      told = told;
      line = line;
      keys_told = c.in_ok-are_other.ensures.told;
      rest = subst (λ (b : Bool). MatchBool b (TellsNothing c.args.who told new line after) ((new ≡ told) × (after ≡ line))) (sym yes ∙ c.came_to_nothing-is_nothing.ensures) (c.tell_nothing.ensures.others, printed);
    })
