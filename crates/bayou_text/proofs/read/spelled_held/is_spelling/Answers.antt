use Rattle.std.proofs.Common.{◌≡◌, ◌∙◌, [], subst, IsUtf8, refl, sym, ap}
use Rattle.std.proofs.lemmas.Slice.Eq.{slice_eq-Decides}
use Rattle.std.specs.Cmp.{unsigned_Decides}
use Rattle.json.specs.Lex.{tokens}
use Rattle.bayou_lang.specs.declared.program.Program.{Program}
use Rattle.bayou_text.specs.Ranges.{IsCutTo}
use Rattle.bayou_text.proofs.HeldAtOnce.{held_spelled}
use Rattle.bayou_text.proofs.read.spelled_held.is_spelling.Goals as goal

pub returns-in-Ok : goal.returns-in-Ok
returns-in-Ok c = λ same.
    let bytes = c.args.bytes.now in
    let item = c.args.write.now in
    let text = c.in-Ok.text.items in
    let spelled = c.in-Ok.ensures in
    let alone = subst (λ (program : Program). (program.check.items ≡ []) × (program.merge.items ≡ [])) c.program.ensures (c.if-not-is_update.ensures.alone refl) in
    let cut = subst (λ deps. IsCutTo c.args.counts deps) c.deps.ensures (c.if-not-is_cut.ensures refl) in
    let is : text ≡ bytes = sym c.as_slice.ensures.value ∙ (slice_eq-Decides unsigned_Decides c.as_slice.result.now bytes c.eq.result c.eq.ensures).0 same in
    held_spelled c.args.is_whole c.args.server item c.args.counts bytes c.requires (subst (λ l. IsUtf8 l) is spelled.utf8) spelled.kept cut spelled.ops.0 spelled.ops.1
    alone.0 alone.1 (ap tokens (sym is) ∙ spelled.spelling)
