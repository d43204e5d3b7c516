use Rattle.std.proofs.Common.{◌<◌, None, Some, get_or, length, sym, ◌∙◌, refl, subst, arith}
use Rattle.std.proofs.lemmas.List.{get_or_default, length-set}
use Rattle.bayou_judge.specs.Inner.Known.{IsKnown}
use Rattle.bayou_judge.proofs.Known.{known_more, none_known}
use Rattle.bayou_judge.proofs.evidence.Evidence.pass.Goals as goal

pub loop-at-init : goal.loop-at-init
loop-at-init c = record {
  sized = refl;
  within = omega arith;
  known = none_known c.args.self.now.dumps c.args.self.now.entries;
}

pub progress_with-requires-clause-progress : goal.progress_with-requires-clause-progress
progress_with-requires-clause-progress c =
    let entry = c.entry-entry.result.now in
    let entries = c.args.self.now.entries in
    let dumps = c.args.self.now.dumps in
    let within : c.from-session.result < length c.loop-at.known = omega (arith, c.from-session.ensures, entry.session.in_range, c.loop-at.invariant.sized) in
    let slot = get_or_default c.loop-at.known c.from-session.result None c.index-known-session.result within in
    c.of_known-progress.ensures dumps entries c.loop-at.at c.loop-at.invariant.within
    (subst (IsKnown dumps entries entry.session.index c.loop-at.at) slot
    (subst (λ s. IsKnown dumps entries entry.session.index c.loop-at.at (get_or c.loop-at.known s None)) (sym c.from-session.ensures) (c.loop-at.invariant.known entry.session.index entry.session.in_range)))

pub loop-at-preserved : goal.loop-at-preserved
loop-at-preserved c =
    let entry = c.entry-entry.result.now in
    let entries = c.args.self.now.entries in
    let within : c.loop-at.at < length entries = omega (arith, c.loop-at-test.true, c.size-at-end.ensures) in
    record {
      sized = length-set c.loop-at.known c.from-session.result (Some c.progress_with.result) ∙ c.loop-at.invariant.sized;
      within = omega (arith, within);
      known = known_more c.args.self.now.dumps entries c.loop-at.at entry c.entry-entry.ensures.is c.loop-at.known c.progress_with.result c.from-session.result c.from-session.ensures c.loop-at.invariant.sized c.progress_with.ensures c.loop-at.invariant.known;
    }
