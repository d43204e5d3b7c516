use Rattle.std.proofs.Common.{◌≡◌, ◌∙◌, ◌++◌, ℕ, List, length, take, ap, refl, sym, arith, length-append}
use Rattle.std.proofs.lemmas.List.{take_at}
use Rattle.bayou_key_file.proofs.label.name_part.Goals as goal

pub returns-then-behind-lt-LABEL_END_BYTES : goal.returns-then-behind-lt-LABEL_END_BYTES
returns-then-behind-lt-LABEL_END_BYTES c name rest size text =
    let found : c.in-Some.behind.now ≡ name ++ rest = c.in-Some.ensures (name ++ rest) text in
    omega (arith, ap length found, length-append name rest, size, c.if-behind-lt-LABEL_END_BYTES.true)

pub returns : goal.returns
returns c name rest size text =
    let found : c.in-Some.behind.now ≡ name ++ rest = c.in-Some.ensures (name ++ rest) text in
    let front : List ℕ = c.split_at.result.0.now in
    let back : List ℕ = c.split_at.result.1.now in
    let sizes : length c.split_at.result.0.now ≡ length name = omega (arith, ap length found, length-append name rest, size, c.split_at.ensures.front_len) in
    let parts : front ++ back ≡ name ++ rest = sym c.split_at.ensures.by_index.0 ∙ found in
    sym (take_at front back (length name) sizes) ∙ ap (take (length name)) parts ∙ take_at name rest (length name) refl
