use Rattle.std.proofs.Common.{◌≡◌, ◌+◌, ◌∷◌, [], ◌++◌, max, take, ap, sym, ◌∙◌, subst}
use Rattle.std.proofs.lemmas.List.{take_more}
use Rattle.bayou_tags.specs.Tags.{IsGreatestRun}
use Rattle.bayou_tags.proofs.Runs.{IsGreatestRun-push_none, IsGreatestRun-push_some}
use Rattle.bayou_tags.proofs.tags.greatest_run.Goals.{in-Some, in_default}
use Rattle.bayou_tags.proofs.tags.greatest_run.Goals as goal

pub loop-tag-preserved : goal.loop-tag-preserved
loop-tag-preserved c =
    let tags = c.args.tags.now in
    let seen = take c.loop-tag.tag-index tags in
    let before = c.loop-tag.run in
    let more : take (c.loop-tag.tag-index + 1) tags ≡ seen ++ c.tag-item.result ∷ [] =
    take_more tags c.loop-tag.tag-index c.tag-item.result c.loop-tag-test.true ∙ ap (λ entry. seen ++ entry ∷ []) (sym c.tag-item.is) in
    let AreWith : Type 0 = IsGreatestRun (seen ++ c.tag-item.result ∷ []) c.match-tag.run in
    let are_with : AreWith = elim c.match-tag.branch as (λ _. AreWith) [
      | in-Some w ↦
          subst (IsGreatestRun (seen ++ c.tag-item.result ∷ [])) (sym (w.run-is ∙ w.max-run.ensures))
          (subst (λ entry. IsGreatestRun (seen ++ entry ∷ []) (max before w.in-Some.tag.run)) (sym w.in-Some.is) (IsGreatestRun-push_some seen before w.in-Some.tag c.loop-tag.invariant))
      | in_default w ↦
          subst (IsGreatestRun (seen ++ c.tag-item.result ∷ [])) (sym w.run-is)
          (subst (λ entry. IsGreatestRun (seen ++ entry ∷ []) before) (sym w.in_default.is) (IsGreatestRun-push_none seen before c.loop-tag.invariant))
    ] in
    subst (λ list. IsGreatestRun list c.match-tag.run) (sym more) are_with
