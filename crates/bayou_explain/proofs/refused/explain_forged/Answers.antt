use Rattle.std.proofs.Common.{ap, refl}
use Rattle.std.proofs.lemmas.Option.{slice_get_read, slice_get_within}
use Rattle.bayou_text.specs.Said.{audit_said}
use Rattle.bayou_explain.proofs.refused.explain_forged.Goals as goal

pub returns : goal.returns
returns c =
    let lines = c.args.lines.now in
    let found = c.in-Some.ensures in
    let within = slice_get_within lines c.in-Some.at found.0 found.1 in (
      c.in-Some.at,
      c.index-lines-at.result,
      c.in-Entry.entry,
      _,
      slice_get_read lines _ c.in-Some.at c.index-lines-at.result refl within c.index-lines-at.is,
      ap audit_said c.in-Entry.is,
      found.3,
      c.shown_as.ensures,
      c.cause_of.ensures,
    )
