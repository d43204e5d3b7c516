use Rattle.std.proofs.Common.{◌≡◌, ◌∙◌, subst, IsUtf8, refl, sym, ap}
use Rattle.std.proofs.lemmas.Slice.Eq.{slice_eq-Decides}
use Rattle.std.specs.Cmp.{unsigned_Decides}
use Rattle.json.specs.Lex.{tokens}
use Rattle.bayou_text.proofs.OperationAtOnce.{write_spelled}
use Rattle.bayou_text.proofs.read.spelled_operation.is_updating.Goals as goal

pub returns-in-Ok : goal.returns-in-Ok
returns-in-Ok c = λ same.
    let bytes = c.args.bytes.now in
    let text = c.in-Ok.text.items in
    let spelled = c.in-Ok.ensures in
    let alone = c.if-not-is_update.ensures.alone refl in
    let is : text ≡ bytes = sym c.as_slice.ensures.value ∙ (slice_eq-Decides unsigned_Decides c.as_slice.result.now bytes c.eq.result c.eq.ensures).0 same in
    write_spelled c.args.is_whole c.args.session c.args.server c.args.program.now bytes c.requires (subst (λ l. IsUtf8 l) is spelled.utf8) spelled.kept.0 spelled.kept.1
    alone.0 alone.1 (ap tokens (sym is) ∙ spelled.spelling)
