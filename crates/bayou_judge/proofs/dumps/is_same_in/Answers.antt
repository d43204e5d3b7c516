use Rattle.std.proofs.Common.{◌≡◌, slice_index_or, sym, ◌∙◌, refl}
use Rattle.std.proofs.lemmas.List.Elements.{All-contains, Contains-get_or}
use Rattle.bayou_lang.specs.declared.write.Write.{Write}
use Rattle.bayou_lang.specs.Laws.Equality.{same_write-decides}
use Rattle.bayou_lang.specs.Laws.Clocks.{one_of_name}
use Rattle.bayou_judge.proofs.dumps.is_same_in.Goals as goal

pub returns-in-Some : goal.returns-in-Some
returns-in-Some c =
    let dump = c.args.dump.now in
    let write = c.args.write.now in
    let held = c.in-Some.held.now in
    let found = c.in-Some.ensures.found in
    let named : held.wid ≡ write.wid = found.1 ∙ c.wid.ensures in
    let decides = same_write-decides held write in (
      λ equal k d within same.
          let one = one_of_name c.requires.fitting.0 dump (slice_index_or dump k d) held c.requires.fitting.1 (Contains-get_or dump k d within) found.0 (same ∙ sym named) in
          one ∙ decides.0 (sym c.eq.ensures ∙ equal),
      λ all. c.eq.ensures ∙ decides.1 (All-contains (λ (w : Write). w.wid ≡ write.wid → w ≡ write) dump held all found.0 named),
    )

pub returns-in-None : goal.returns-in-None
returns-in-None c = (
  λ _ k d within same. absurd (c.in-None.ensures.missing k d within (same ∙ sym c.wid.ensures)),
  λ _. refl,
)
