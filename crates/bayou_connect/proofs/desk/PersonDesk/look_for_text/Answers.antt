use Rattle.std.proofs.Common.{◌≡◌, ◌∙◌, Bool, MatchBool, true, false, refl, rules, subst, sym}
use Rattle.bayou_connect.specs.Printing.{nothing_text}
use Rattle.bayou_connect.proofs.Going.{then_ok}
use Rattle.bayou_streams.specs.Account.{TakesBytes, account}
use Rattle.bayou_connect.proofs.desk.PersonDesk.look_for_text.Goals as goal

pub returns-then-not-has_text : goal.returns-then-not-has_text
returns-then-not-has_text g c =
    let old = c.args.self.now in
    let before = account g.W.Write.contents c.args.output.now in
    let no : c.is_text-has_text.result ≡ false = search rules in
    record {
      seen = c.in_ok-seen.seen;
      same = search rules;
      rest = subst (λ (b : Bool). MatchBool b ((old.is_served ≡ false) × TakesBytes before before (nothing_text c.args.who)) ((old.is_served ≡ old.is_served) × (before ≡ before))) (sym no ∙ c.is_text-has_text.ensures) (refl, refl);
    }

pub returns : goal.returns
returns g c =
    let old = c.args.self.now in
    let new = c.tell_nothing.new.self in
    let before = account g.W.Write.contents c.args.output.now in
    let after = account g.W.Write.contents c.tell_nothing.new.output in
    let yes : c.is_text-has_text.result ≡ true = search rules in
    then_ok c.tell_nothing.result _ _ c.tell_nothing.ensures.printed (λ printed. record {
      seen = c.in_ok-seen.seen;
      same = search rules;
      rest = subst (λ (b : Bool). MatchBool b ((new.is_served ≡ false) × TakesBytes before after (nothing_text c.args.who)) ((new.is_served ≡ old.is_served) × (after ≡ before))) (sym yes ∙ c.is_text-has_text.ensures) (c.tell_nothing.ensures.served, printed);
    })
