use Rattle.std.proofs.Common.{◌∙◌, map, subst}
use Rattle.std.proofs.lemmas.List.{map-id}
use Rattle.std.specs.List.{flat_map}
use Rattle.bayou_lang.specs.Changes.{op_key, ChangeOnly}
use Rattle.bayou_lang.proofs.ChangeLists.{ChangeOnly-merge, ChangeOnly-update}
use Rattle.bayou_lang.proofs.resting.RestingProgram.eval.Goals as goal

pub returns-then-all_hold-clause-only : goal.returns-then-all_hold-clause-only
returns-then-all_hold-clause-only g c =
    ChangeOnly-update c.args.self.now _ (subst (λ ops. ChangeOnly (map op_key ops) c.update_changes.new.changes.items) c.update.ensures.value c.update_changes.ensures.only)

pub returns-else-all_hold-clause-only : goal.returns-else-all_hold-clause-only
returns-else-all_hold-clause-only g c =
    ChangeOnly-merge c.args.self.now _
    (subst (λ alternatives. ChangeOnly (flat_map (λ alt. map op_key alt.ops.items) alternatives) c.merge_changes.new.changes.items)
    (map-id c.merge.result.now ∙ c.merge.ensures.value) c.merge_changes.ensures.only)
