use Rattle.std.proofs.Common.{◌+◌, ◌<◌, None, get_or, length, sym, ap, ◌∙◌, subst, arith}
use Rattle.std.specs.Global.{Vec}
use Rattle.std.proofs.lemmas.List.{get_or_default}
use Rattle.bayou_judge.specs.declared.verdict.Surveyed.{Surveyed}
use Rattle.bayou_judge.specs.History.{history_of}
use Rattle.bayou_judge.specs.Inner.Verdicts.{IsSurveyTo}
use Rattle.bayou_judge.specs.Inner.Known.{IsKnown}
use Rattle.bayou_judge.proofs.Sessions.{survey_all_of, survey_more, survey_none}
use Rattle.bayou_judge.proofs.Known.{surveyed_all, unknown}
use Rattle.bayou_judge.proofs.survey_all.survey_sessions.Goals as goal
use Rattle.bayou_judge.proofs.survey_all.survey_sessions.Goals.{in-Some+in-Ok, in_default}

pub loop-session-preserved : goal.loop-session-preserved
loop-session-preserved c =
    let evidence = c.args.evidence.now in
    let entries = evidence.entries in
    let dumps = evidence.dumps in
    let history = history_of entries dumps in
    let session = c.loop-session.session in
    let all = c.pass-known.result in
    let within : session < length all = omega (arith, c.loop-session-test.true, c.pass-known.ensures.sized) in
    let known = c.pass-known.ensures.known session c.loop-session-test.true in
    elim c.match-known-session.branch as (λ _. IsSurveyTo history entries (session + 1) c.match-known-session.list.items) [
      | in-Some+in-Ok w ↦
          let is = subst (IsKnown dumps entries session (length entries)) (get_or_default all session None _ within ∙ w.in-Some.is) known in
          let list_is = sym w.in-Ok.ensures.items ∙ ap (λ (v : Vec Surveyed). v.items) (sym w.list-is) in
          subst (IsSurveyTo history entries (session + 1)) list_is
          (survey_more history entries session c.loop-session.list.items w.in-Some.progress.surveyed c.loop-session.invariant is.1.session_is is.0
          (surveyed_all evidence.count entries dumps evidence.indexes c.recall.ensures session w.in-Some.progress is.1))
      | in_default w ↦
          let none = unknown dumps entries session (get_or all session None) known (λ progress there. w.in_default.not-Some progress (get_or_default all session _ None within ∙ there)) in
          subst (IsSurveyTo history entries (session + 1)) (ap (λ (v : Vec Surveyed). v.items) (sym w.list-is)) (survey_none history entries session c.loop-session.list.items c.loop-session.invariant none)
    ]

pub returns : goal.returns
returns c =
    survey_all_of (history_of c.args.evidence.now.entries c.args.evidence.now.dumps) c.args.evidence.now.entries c.loop-session.session c.loop-session.list.items (omega (arith, c.loop-session-test.false)) c.loop-session.invariant
