use Rattle.std.proofs.Common.{◌≡◌, ◌∙◌, Bool, List, ℕ, ap, inl, inr, refl, rules, subst}
use Rattle.bayou_connect.specs.Listing.{refused_told}
use Rattle.bayou_streams.specs.Account.{TakesBytes, account}
use Rattle.bayou_connect.proofs.Going.{then_ok}
use Rattle.bayou_connect.proofs.desk.PersonDesk.list.Goals as goal

pub returns-in_ok-beyond-in-Ok-clause-listed : goal.returns-in_ok-beyond-in-Ok-clause-listed
returns-in_ok-beyond-in-Ok-clause-listed g c =
    then_ok c.print_rows.result _ _ c.print_rows.ensures.printed (λ printed. inl (c.in-Ok.rows, c.in_ok-beyond-in-Ok.beyond, search rules, search rules, search rules))

pub returns-in_ok-text-in-Err-Refused-clause-listed : goal.returns-in_ok-text-in-Err-Refused-clause-listed
returns-in_ok-text-in-Err-Refused-clause-listed g c =
    let old = c.args.self.now in
    let asked = c.rows_of.new.self in
    let who = c.args.who in
    let refusal = c.in-Err-Refused.refusal in
    let before = account g.W.Write.contents c.args.output.now in
    let after = account g.W.Write.contents c.print.new.output in
    let told : c.as_str.result.now ≡ refused_told old.is_json old.servers who refusal =
    c.as_str.ensures.value ∙ c.in_ok-text-in-Err-Refused.ensures
    ∙ ap (λ (is_json : Bool). refused_told is_json asked.servers who refusal) c.rows_of.ensures.same.0.json
    ∙ ap (λ (servers : ℕ). refused_told old.is_json servers who refusal) c.rows_of.ensures.same.0.servers in
    then_ok c.print.result _ _ c.print.ensures (λ printed. inr (inl (refusal, refl, subst (λ (text : List ℕ). TakesBytes before after text) told printed)))
