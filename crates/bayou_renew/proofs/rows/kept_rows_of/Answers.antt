use Rattle.std.proofs.Common.{◌≡◌, ◌∙◌, ◌<◌, ◌≤◌, [], List, ap, arith, length, option_copied, refl, subst, sym, take}
use Rattle.std.specs.Prelude.{IfNone, IfSome}
use Rattle.bayou_log.specs.Replay.{replay}
use Rattle.bayou_log.specs.Rows.{Row, rows_after}
use Rattle.bayou_wire.specs.declared.layout.TheConstants.{ROWS_AT_ONCE}
use Rattle.bayou_renew.specs.Inner.{IsLastKey}
use Rattle.bayou_renew.proofs.Pages.{IsPage, IsToldUpTo, told_all, told_more, told_none, within_page}
use Rattle.bayou_renew.proofs.rows.kept_rows_of.Given.{Over}
use Rattle.bayou_renew.proofs.rows.kept_rows_of.Goals as goal

pub loop-kept-init : goal.loop-kept-init
loop-kept-init g c = told_none (replay c.args.server.now.core.held) c.args.without.now c.new-kept.result.items c.new-kept.ensures.items

pub returns-then-not-page : goal.returns-then-not-page
returns-then-not-page g c =
    let database = replay c.args.server.now.core.held in
    let after = c.loop-kept.after in
    let left = rows_after [] after database in
    let page : List Row = c.deref.result.now in
    let same : rows_after [] (option_copied c.as_ref.result) database ≡ left = ap (λ behind. rows_after [] behind database) c.as_ref.ensures.value in
    let rows : page ≡ take ROWS_AT_ONCE left = c.deref.ensures.0 ∙ c.page_behind-page.ensures.rows ∙ ap (take ROWS_AT_ONCE) same in
    let within : length left ≤ ROWS_AT_ONCE =
    subst (λ (all : List Row). length all ≤ ROWS_AT_ONCE) same (within_page c.page_behind-page.result.more ROWS_AT_ONCE _ c.page_behind-page.ensures.more c.if-not-page.true) in
    told_all database c.args.without.now after ROWS_AT_ONCE c.loop-kept.kept.items page c.keep.new.kept.items c.loop-kept.invariant rows within c.in_ok-keep.ensures

-- one page more was told, and more are left
told_on : (g : Over) (c : goal.After-last_key-after g) → IsToldUpTo (replay c.args.server.now.core.held) c.args.without.now c.last_key-after.result c.keep.new.kept.items
    × (length (rows_after [] c.last_key-after.result (replay c.args.server.now.core.held)) < length (rows_after [] c.loop-kept.after (replay c.args.server.now.core.held)))
told_on g c =
    let database = replay c.args.server.now.core.held in
    let after = c.loop-kept.after in
    let left = rows_after [] after database in
    let page : List Row = c.deref.result.now in
    let same : rows_after [] (option_copied c.as_ref.result) database ≡ left = ap (λ behind. rows_after [] behind database) c.as_ref.ensures.value in
    let rows : page ≡ take ROWS_AT_ONCE left = c.deref.ensures.0 ∙ c.page_behind-page.ensures.rows ∙ ap (take ROWS_AT_ONCE) same in
    let one : c.deref-in-loop-kept.result.now ≡ page = c.deref-in-loop-kept.ensures.0 ∙ sym c.deref.ensures.0 in
    let more : ROWS_AT_ONCE < length left = subst (λ (all : List Row). ROWS_AT_ONCE < length all) same (c.page_behind-page.ensures.more.0 c.if-not-page.false) in
    let last = subst (λ (rows : List Row). IfSome c.last_key-after.result (IsLastKey rows)) one c.last_key-after.ensures.some in
    let none = subst (λ (rows : List Row). IfNone c.last_key-after.result (rows ≡ [])) one c.last_key-after.ensures.none in
    told_more database c.args.without.now after c.last_key-after.result ROWS_AT_ONCE c.loop-kept.kept.items page c.keep.new.kept.items (omega arith) c.loop-kept.invariant (record { rows = rows; more = more }) last none
    c.in_ok-keep.ensures

pub loop-kept-smaller : goal.loop-kept-smaller
loop-kept-smaller g c = (told_on g c).1

pub loop-kept-preserved : goal.loop-kept-preserved
loop-kept-preserved g c = (told_on g c).0
