use Rattle.std.proofs.Common.{◌∙◌, ap, filter}
use Rattle.std.proofs.lemmas.Result.{IfOk-weaker}
use Rattle.std.specs.FinMap as finite
use Rattle.bayou_export.proofs.Kept.{all_kept}
use Rattle.bayou_lang.specs.Database.{begins_with}
use Rattle.bayou_log.specs.Replay.{replay}
use Rattle.bayou_log.specs.Rows.{Row}
use Rattle.bayou_renew.specs.Renewal.{kept_rows}
use Rattle.bayou_export.proofs.rows.rows_of.Goals as goal

pub returns : goal.returns
returns g c =
    let database = replay c.args.server.now.core.held in
    let all = c.as_slice-2.ensures.value ∙ c.in_ok-all.ensures ∙ ap (λ none. kept_rows none database) (c.as_slice.ensures.value ∙ c.new-none.ensures.items)
    ∙ all_kept (finite.entries database) in
    IfOk-weaker c.those_of.result _ _ (λ found is. is ∙ ap (filter (λ (row : Row). begins_with c.args.prefix.now row.0)) all) c.those_of.ensures
