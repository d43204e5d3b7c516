use Rattle.std.proofs.Common.{◌≡◌, ◌+◌, ◌∷◌, ◌++◌, List, [], length, ap, sym, ◌∙◌}
use Rattle.std.specs.List.{slice_get}
use Rattle.std.proofs.lemmas.List.{length-append}
use Rattle.bayou_judge.specs.declared.every.SessionBreaches.{SessionBreaches}
use Rattle.bayou_judge.specs.History.{history_of}
use Rattle.bayou_judge.proofs.Found.{session_more}
use Rattle.bayou_judge.proofs.evidence.Evidence.all_breaches.Goals as goal

-- src/every.rt
pub loop-index-preserved : goal.loop-index-preserved
loop-index-preserved c =
    let history = history_of c.args.self.now.entries c.args.self.now.dumps in
    let old = c.loop-index.list.items in
    let more = c.in_ok-found.found in
    let items = c.in_ok-push.ensures.items in
    let size : length (old ++ more ∷ []) ≡ length old + 1 = length-append old (more ∷ []) in
    let sized = c.loop-index.invariant.sized in
    record {
      sized = ap length items ∙ size ∙ ap (λ n. n + 1) sized;
      each = λ session found got. session_more history old c.loop-index.index more sized c.loop-index.invariant.each (ap (λ s. s.index) c.in_ok-found.ensures.0) c.in_ok-found.ensures.1 session found
          (ap (λ (l : List SessionBreaches). slice_get l session) (sym items) ∙ got);
    }
