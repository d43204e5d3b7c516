use Rattle.std.proofs.Common.{◌≡◌, take, sym, subst, refl}
use Rattle.bayou_judge.specs.Inner.Needs.{IsKept, IsSecond}
use Rattle.bayou_judge.proofs.Kept.{breach_for, content_is_kept}
use Rattle.bayou_judge.proofs.Served.{one_entry}
use Rattle.bayou_judge.proofs.evidence.Evidence.breach_of.Goals as goal

pub returns-then-not-is_second_of : goal.returns-then-not-is_second_of
returns-then-not-is_second_of c second got is =
    let same : c.entry-entry.result.now ≡ second = one_entry c.args.self.now.entries c.args.at c.entry-entry.result.now second c.entry-entry.ensures.is got in
    let yes = c.is_second_of.ensures.1 (subst (IsSecond c.args.guarantee c.args.session.index) (sym same) is) in
    let no = c.if-not-is_second_of.true in
    absurd (cc)

pub returns-then-is_content : goal.returns-then-is_content
returns-then-is_content c second got is =
    let entries = c.args.self.now.entries in
    let dumps = c.args.self.now.dumps in
    let same : c.entry-entry.result.now ≡ second = one_entry entries c.args.at c.entry-entry.result.now second c.entry-entry.ensures.is got in
    subst (IsKept dumps c.args.guarantee c.args.session.index (take c.args.at entries)) same
    (content_is_kept c.args.self.now.count dumps c.recall.ensures.evidence.dumps_are c.args.guarantee c.args.session.index (take c.args.at entries) c.entry-entry.result.now c.args.need.now
    c.requires.need c.if-is_content.ensures)

pub returns : goal.returns
returns c second got =
    let entries = c.args.self.now.entries in
    let dumps = c.args.self.now.dumps in
    let same : c.entry-entry.result.now ≡ second = one_entry entries c.args.at c.entry-entry.result.now second c.entry-entry.ensures.is got in
    breach_for dumps entries c.args.guarantee c.args.session.index c.args.at second c.breach_at.result (c.breach_at.ensures second got (subst (IsSecond c.args.guarantee c.args.session.index) same (c.if-not-is_second_of.ensures.0 refl)))
