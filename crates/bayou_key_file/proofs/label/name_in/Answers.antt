use Rattle.std.proofs.Common.{◌≡◌, ◌∙◌, ℕ, List, ap, subst}
use Rattle.std.specs.Prelude.{IsSomeAnd}
use Rattle.bayou_base.specs.Key.{key_fault}
use Rattle.bayou_key_file.proofs.label.name_in.Goals as goal

pub returns-in_default : goal.returns-in_default
returns-in_default c name rest size is text = absurd (c.in_default.ensures name rest size text)

pub returns : goal.returns
returns c name rest size is text =
    let part = c.in-Some.ensures name rest size text in
    let named = c.name_of.ensures (ap key_fault part ∙ is) in
    subst (λ (bytes : List ℕ). IsSomeAnd c.name_of.result (λ found. found.bytes ≡ bytes)) part named
