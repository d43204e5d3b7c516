use Rattle.std.proofs.Common.{◌≡◌, ◌∙◌, ◌+◌, ◌&&◌, Some, drop, true, false, nat_eq, rules, subst, sym}
use Rattle.std.specs.List.{starts_with}
use Rattle.std.specs.Option.{option_copied}
use Rattle.bayou_connect.specs.Listing.{Row, do_follow, is_behind}
use Rattle.bayou_connect.proofs.Following.{follow_goes_on, follow_stops}
use Rattle.bayou_connect.proofs.listing.follow.Goals as goal

pub returns-then-not-is_next : goal.returns-then-not-is_next
returns-then-not-is_next c =
    let last = option_copied c.loop-row.last in
    let no : c.is_next.result ≡ false = search rules in
    follow_stops c.args.prefix.now last c.args.rows.now c.loop-row.row-index c.row-item.result _ c.loop-row-test.true
    (subst (λ (row : Row). (is_behind last row.0 && starts_with nat_eq row.0 c.args.prefix.now) ≡ false) c.row-item.is (sym c.is_next.ensures ∙ no)) c.loop-row.invariant

pub loop-row-preserved : goal.loop-row-preserved
loop-row-preserved c =
    let last = option_copied c.loop-row.last in
    let yes : c.is_next.result ≡ true = search rules in
    subst (λ (row : Row). do_follow c.args.prefix.now (Some row.0) (drop (c.loop-row.row-index + 1) c.args.rows.now) ≡ do_follow c.args.prefix.now (option_copied c.args.after) c.args.rows.now) (sym c.row-item.is)
    (follow_goes_on c.args.prefix.now last c.args.rows.now c.loop-row.row-index c.row-item.result _ c.loop-row-test.true
    (subst (λ (row : Row). (is_behind last row.0 && starts_with nat_eq row.0 c.args.prefix.now) ≡ true) c.row-item.is (sym c.is_next.ensures ∙ yes)) c.loop-row.invariant)
