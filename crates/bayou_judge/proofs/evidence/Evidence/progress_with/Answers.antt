use Rattle.std.proofs.Common.{refl, ◌+◌}
use Rattle.bayou_judge.specs.declared.breach.Guarantee.TheVariants as guarantees
use Rattle.bayou_judge.specs.declared.verdict.Surveyed.{Surveyed}
use Rattle.bayou_judge.specs.Inner.Needs.{IsFirstBreach}
use Rattle.bayou_judge.specs.Inner.Known.{found_of}
use Rattle.bayou_judge.proofs.evidence.Evidence.progress_with.Goals as goal

pub returns : goal.returns
returns c =
    let found : Surveyed = record { session = c.args.session; ryw = c.first_with.result; mr = c.first_with-2.result; wfr = c.first_with-3.result; mw = c.first_with-4.result } in
    record {
      session_is = refl;
      needs = λ guarantee. c.needs_with.ensures c.args.session.index guarantee (c.requires.progress.needs guarantee);
      found = λ guarantee. elim guarantee as (λ g. IsFirstBreach c.args.self.now.dumps c.args.self.now.entries g c.args.session.index (c.args.at + 1) (found_of found g)) [
        | guarantees.ReadYourWrites ↦ c.first_with.ensures
        | guarantees.MonotonicReads ↦ c.first_with-2.ensures
        | guarantees.WritesFollowReads ↦ c.first_with-3.ensures
        | guarantees.MonotonicWrites ↦ c.first_with-4.ensures
      ];
    }
