use Rattle.std.proofs.Common.{◌≡◌, ◌∙◌, subst, IsUtf8, refl, sym, ap}
use Rattle.std.proofs.lemmas.Slice.Eq.{slice_eq-Decides}
use Rattle.std.specs.Cmp.{unsigned_Decides}
use Rattle.json.specs.Lex.{tokens}
use Rattle.bayou_text.specs.AtOnce.{tokens_of}
use Rattle.bayou_text.specs.Spelling.{told_json}
use Rattle.bayou_text.proofs.AtOnce.{entry_spelled}
use Rattle.bayou_text.proofs.read.spelled.is_spelling.Goals as goal

pub returns-in-Ok : goal.returns-in-Ok
returns-in-Ok c = λ same.
    let bytes = c.args.bytes.now in
    let told = c.args.entry.now in
    let text = c.in-Ok.text.items in
    let spelled = c.in-Ok.ensures in
    let is : text ≡ bytes = sym c.as_slice.ensures.value ∙ (slice_eq-Decides unsigned_Decides c.as_slice.result.now bytes c.eq.result c.eq.ensures).0 same in
    entry_spelled told c.args.counts bytes c.requires (subst (λ l. IsUtf8 l) is spelled.utf8) spelled.kept (c.if-not-is_told.ensures refl)
    (ap tokens (sym is) ∙ spelled.spelling ∙ ap (λ n. tokens_of (told_json told told.what n)) c.unwrap_or.ensures)
