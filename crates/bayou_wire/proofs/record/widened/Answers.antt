use Rattle.std.proofs.Common.{◌≡◌, ◌++◌, ◌∙◌, List, ℕ, ap, append_assoc, take, drop, replicate}
use Rattle.std.proofs.lemmas.List.{drop_min, take_min}
use Rattle.bayou_wire.specs.declared.layout.TheConstants.{OLD_HEAD_BYTES, OLD_LACKED_BYTES}
use Rattle.bayou_wire.proofs.record.widened.Goals as goal

pub returns : goal.returns
returns c =
    let bytes = c.args.bytes.now in
    let zeros : List ℕ = replicate OLD_LACKED_BYTES 0 in
    let front : c.split_at.result.0.now ≡ take OLD_HEAD_BYTES bytes =
    c.split_at.ensures.front ∙ ap (λ n. take n bytes) c.min.ensures ∙ take_min OLD_HEAD_BYTES bytes in
    let back : c.split_at.result.1.now ≡ drop OLD_HEAD_BYTES bytes =
    c.split_at.ensures.back ∙ ap (λ n. drop n bytes) c.min.ensures ∙ drop_min OLD_HEAD_BYTES bytes in
    let begun = c.in_ok-extend_from_slice.ensures.items ∙ ap (λ b. b ++ c.split_at.result.0.now) c.in_ok-wide.ensures.items in
    let filled = c.in_ok-extend_from_slice-2.ensures.items ∙ ap (λ b. b ++ zeros) begun in
    c.in_ok-extend_from_slice-3.ensures.items ∙ ap (λ b. b ++ c.split_at.result.1.now) filled
    ∙ append_assoc c.split_at.result.0.now zeros c.split_at.result.1.now
    ∙ ap (λ b. b ++ (zeros ++ c.split_at.result.1.now)) front ∙ ap (λ b. take OLD_HEAD_BYTES bytes ++ (zeros ++ b)) back
