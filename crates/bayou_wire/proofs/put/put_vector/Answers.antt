use Rattle.std.proofs.Common.{◌≡◌, ◌++◌, Ok, Err, ap, sym, subst, ◌∙◌}
use Rattle.std.specs.Prelude.{OnOk}
use Rattle.std.specs.List.{flat_map}
use Rattle.bayou_base.specs.Vector.{AreCounts}
use Rattle.bayou_wire.specs.Spelling.{u32_bytes, vector_bytes}
use Rattle.bayou_wire.specs.Laws.Inner.Vectors.{vector_bytes-is}
use Rattle.bayou_wire.proofs.put.put_vector.Goals as goal

pub returns : goal.returns
returns c =
    let counts = c.counts.result.now in
    let vector = c.args.vector.now in
    let old = c.args.out.now.items in
    let new = c.put_counts.new.out.items in
    let are : AreCounts vector = subst AreCounts c.counts.ensures.value c.counts.ensures.valid in
    let spelled : flat_map u32_bytes counts ≡ vector_bytes vector =
    ap (flat_map u32_bytes) c.counts.ensures.value ∙ sym (vector_bytes-is vector are) in
    elim c.put_counts.result as (λ result. OnOk result (new ≡ old ++ flat_map u32_bytes counts) → OnOk result (AreCounts vector × (new ≡ old ++ vector_bytes vector))) [
      | Ok _ ↦ λ put. (are, put ∙ ap (λ bytes. old ++ bytes) spelled)
      | Err _ ↦ λ failed. failed
    ] c.put_counts.ensures
