use Rattle.std.proofs.Common.{◌≡◌, true, false, sym, ◌∙◌, subst}
use Rattle.bayou_judge.specs.Inner.Heard.{IsLatest}
use Rattle.bayou_judge.proofs.EntriesHeard.{asks-decides, follows_heard, heard_follows}
use Rattle.bayou_judge.proofs.entries.follows.Goals as goal

pub returns-then-is_above : goal.returns-then-is_above
returns-then-is_above c earlier heard =
    let entry = c.args.entry.now in
    let latest = c.in-Some.latest in
    let known = subst (IsLatest earlier entry.session.index) c.in-Some.is heard in
    let decides = asks-decides latest.asks entry.asks in (
      λ is. heard_follows earlier entry latest known (c.is_above.ensures.0 c.if-is_above.true) (decides.0 (sym c.eq.ensures ∙ is)),
      λ follows. c.eq.ensures ∙ decides.1 (follows_heard earlier entry latest known follows).1,
    )

pub returns-else-is_above : goal.returns-else-is_above
returns-else-is_above c earlier heard =
    let entry = c.args.entry.now in
    let latest = c.in-Some.latest in
    let known = subst (IsLatest earlier entry.session.index) c.in-Some.is heard in (
      λ is. absurd (let both : true ≡ false = sym is ∙ c.if-is_above.false in cc),
      λ follows. c.is_above.ensures.1 (follows_heard earlier entry latest known follows).0,
    )
