use Rattle.std.proofs.Common.{◌≡◌, ◌∙◌, List, Option, ℕ, true, None, rules, subst, sym}
use Rattle.std.specs.Option.{option_copied}
use Rattle.bayou_connect.specs.Listing.{Row, do_follow, last_key}
use Rattle.bayou_connect.proofs.Following.{listed_more}
use Rattle.bayou_connect.proofs.listing.ListedRows.add.Goals as goal

pub returns-clause-listed : goal.returns-clause-listed
returns-clause-listed c = λ listed.
    let prefix = c.args.prefix.now in
    let had = c.args.self.now.each.items in
    let more = c.as_slice-rows.result.now in
    let behind : option_copied c.as_ref.result ≡ last_key had = c.as_ref.ensures.value ∙ c.last_key-last.ensures in
    let told : c.follow.result ≡ true = search rules in
    let follows : do_follow prefix (last_key had) more ≡ true = subst (λ (last : Option (List ℕ)). do_follow prefix last more ≡ true) behind (sym c.follow.ensures ∙ told) in
    subst (λ (rows : List Row). do_follow prefix None rows ≡ true) (sym c.in_ok-add_rows.ensures) (listed_more prefix had more listed follows)
