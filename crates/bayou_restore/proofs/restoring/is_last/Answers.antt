use Rattle.std.proofs.Common.{◌≡◌, ◌∙◌, ◌-◌, length, slice_index_or, sym, arith}
use Rattle.std.proofs.lemmas.List.{get_or_default}
use Rattle.bayou_lang.specs.Laws.Equality.{same_write-decides}
use Rattle.bayou_restore.proofs.restoring.is_last.Goals as goal

pub returns : goal.returns
returns c =
    let writes = c.args.writes.now in
    let write = c.args.write.now in
    let last = c.index-writes-writes.result in
    let decides = same_write-decides last write in
    let at : slice_index_or writes (length writes - 1) write ≡ last = get_or_default writes (length writes - 1) write _ (omega (arith, c.requires)) ∙ sym c.index-writes-writes.is in (
      λ yes. at ∙ decides.0 (sym c.eq.ensures ∙ yes),
      λ same. c.eq.ensures ∙ decides.1 (sym at ∙ same),
    )
