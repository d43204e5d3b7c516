use Rattle.arrayvec.specs.declared.array_vec.ArrayVec.{ArrayVec}
use Rattle.std.proofs.Common.{List, ℕ, refl, subst}
use Rattle.bayou_client.proofs.Looked.{looked}
use Rattle.bayou_client.specs.Lookups.{JudgesReply, asks_fate}
use Rattle.bayou_client.proofs.link.Link.became.Goals as goal

pub returns-clause-ends : goal.returns-clause-ends
returns-clause-ends g c =
    let (read, consumed, went) = c.in_ok-text.ensures.fetches in
    let judged = subst (λ (t : List ℕ). JudgesReply (asks_fate c.args.asked) t c.fate_in-told.result) c.as_slice.ensures.value c.fate_in-told.ensures in
    (read, consumed, looked (asks_fate c.args.asked) (λ (t : ArrayVec ℕ 8194 (Unit {0})). t.items) _ _ read _ c.fetch.new.link.is_closed _ c.is_answered.result _ c.in_ok-text.text c.fate_in-told.result went judged c.is_answered.ensures refl)
