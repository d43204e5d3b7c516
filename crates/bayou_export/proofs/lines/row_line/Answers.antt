use Rattle.std.proofs.Common.{◌∙◌, ap, ◌++◌, ◌∷◌, []}
use Rattle.std.proofs.lemmas.Result.{IfOk-weaker}
use Rattle.serde_json.specs.Data.{Data}
use Rattle.serde_json.specs.Written.{compact_text, has_float}
use Rattle.bayou_export.proofs.Plain.{put_plain}
use Rattle.bayou_export.proofs.lines.row_line.Goals as goal

pub line_of-requires : goal.line_of-requires
line_of-requires c = ap has_float c.in_ok-json.ensures ∙ put_plain (c.args.key.now, c.args.value.now)

pub returns : goal.returns
returns c = IfOk-weaker c.line_of.result _ _ (λ line is. is ∙ ap (λ (json : Data). compact_text json ++ 10 ∷ []) c.in_ok-json.ensures) c.line_of.ensures
