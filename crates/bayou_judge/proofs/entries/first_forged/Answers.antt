use Rattle.std.proofs.Common.{◌≡◌, true, false, None, Some, get_or, set, take, sym, ◌∙◌, refl, subst, arith}
use Rattle.std.proofs.lemmas.List.{length-set}
use Rattle.bayou_judge.specs.declared.entries.Latest.{Latest}
use Rattle.bayou_judge.specs.History.{lent_lists}
use Rattle.bayou_judge.specs.Inner.Heard.{AreTold, IsLatest}
use Rattle.bayou_judge.proofs.EntriesGenuine.{first_forged_is, genuine_more, genuine_whole, latest_more, longer, none_heard}
use Rattle.bayou_judge.proofs.entries.first_forged.Goals as goal

pub loop-at-init : goal.loop-at-init
loop-at-init c = record {
  genuine = λ place less. absurd (omega arith);
  told = c.new-told.ensures;
  sessions = refl;
  latest = none_heard;
}

pub returns-then-not-is_genuine : goal.returns-then-not-is_genuine
returns-then-not-is_genuine c =
    let entry = c.index-entries-at.result in
    let entries = c.args.entries.now in
    let kept = c.loop-at.invariant in
    let heard = subst (λ s. IsLatest (take c.loop-at.at entries) entry.session.index (get_or c.loop-at.latest s None)) (sym c.from-session.ensures) (kept.latest entry.session.index entry.session.in_range) in
    first_forged_is c.args.count (lent_lists c.args.dumps.now) entries c.loop-at.at entry c.loop-at-test.true c.index-entries-at.is
    (λ genuine. let both : true ≡ false = sym ((c.is_genuine.ensures (take c.loop-at.at entries) kept.told heard).1 genuine) ∙ c.if-not-is_genuine.true in cc)
    kept.genuine

pub loop-at-preserved : goal.loop-at-preserved
loop-at-preserved c =
    let entry = c.index-entries-at.result in
    let entries = c.args.entries.now in
    let at = c.loop-at.at in
    let kept = c.loop-at.invariant in
    let dumps = lent_lists c.args.dumps.now in
    let heard = subst (λ s. IsLatest (take at entries) entry.session.index (get_or c.loop-at.latest s None)) (sym c.from-session.ensures) (kept.latest entry.session.index entry.session.in_range) in
    let genuine = (c.is_genuine.ensures (take at entries) kept.told heard).0 c.if-not-is_genuine.false in
    let latest : Latest = record { place = entry.place; asks = entry.asks } in
    let more = longer entries at entry c.loop-at-test.true c.index-entries-at.is in
    record {
      genuine = genuine_more c.args.count dumps entries at entry c.loop-at-test.true c.index-entries-at.is genuine kept.genuine;
      told = subst (λ list. AreTold list c.hear.new.self) more (c.in_ok-hear.ensures (take at entries) entry refl kept.told);
      sessions = length-set c.loop-at.latest c.from-session.result (Some latest) ∙ kept.sessions;
      latest = λ session within.
          subst (λ list. IsLatest list session (get_or (set c.loop-at.latest c.from-session.result (Some latest)) session None)) more
          (latest_more c.args.count dumps (take at entries) entry c.loop-at.latest latest c.from-session.result c.from-session.ensures refl refl kept.sessions genuine kept.latest session within);
    }

pub returns : goal.returns
returns c = genuine_whole c.args.count (lent_lists c.args.dumps.now) c.args.entries.now c.loop-at.at c.loop-at-test.false c.loop-at.invariant.genuine
