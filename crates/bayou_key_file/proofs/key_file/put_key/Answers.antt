use Rattle.std.proofs.Common.{rules, ◌≡◌, ◌∙◌, ◌++◌, ℕ, List, ap}
use Rattle.std.proofs.lemmas.List.{append_assoc}
use Rattle.std.proofs.lemmas.Result.{IfOk-weaker}
use Rattle.bayou_greeting.specs.StoreKeys.{key_line}
use Rattle.bayou_key_file.specs.Labels.{line_feed}
use Rattle.bayou_key_file.proofs.key_file.put_key.Goals as goal

pub returns : goal.returns
returns g c modelled =
    let content = g.D.Device.content c.args.device.now in
    let line : c.as_slice.result.now ≡ key_line c.args.key.now = search rules in
    let added = c.in_ok-append.ensures.added modelled ∙ ap (λ (bytes : List ℕ). content ++ bytes) line in
    IfOk-weaker c.put_text.result _ _
    (λ _ put. put ∙ ap (λ (bytes : List ℕ). bytes ++ line_feed) added ∙ append_assoc content (key_line c.args.key.now) line_feed) (c.put_text.ensures modelled)
