use Rattle.std.proofs.Common.{◌∙◌, ◌++◌, ℕ, List, ap, inl, inr}
use Rattle.std.proofs.lemmas.Option.{IfSome_then}
use Rattle.bayou_greeting.specs.StoreKeys.{key_line}
use Rattle.bayou_key_file.specs.Labels.{line_feed}
use Rattle.bayou_key_file.proofs.key_file.key_in.Goals as goal

pub returns-clause-read : goal.returns-clause-read
returns-clause-read c =
    IfSome_then c.parse.result c.parse.ensures.read
    (λ key same. elim c.line_in.ensures.parts [
      | inl ended ↦ inl (ended ∙ ap (λ (bytes : List ℕ). bytes ++ line_feed) same)
      | inr whole ↦ inr (whole ∙ same)
    ])

pub returns-clause-all : goal.returns-clause-all
returns-clause-all c key is text = c.parse.ensures.all key is (c.line_in.ensures.line (key_line key) text)
