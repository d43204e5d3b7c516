use Rattle.std.proofs.Common.{◌≡◌, true, false, All, get_or, sym, ◌∙◌, subst, arith}
use Rattle.std.proofs.lemmas.List.{get_or_default}
use Rattle.bayou_base.specs.declared.entry.Entry.{Entry}
use Rattle.bayou_lang.specs.Laws.Equality.{server-ext}
use Rattle.bayou_judge.specs.Evidence.{IsTrueOf, TellsOf}
use Rattle.bayou_judge.proofs.entries.is_true.Goals as goal

pub returns-else-has : goal.returns-else-has
returns-else-has c earlier told =
    let wid = c.in-Write.wid in
    let True = IsTrueOf c.args.dump.now c.args.server earlier in
    let own : wid.origin.index ≡ c.args.server.index = omega arith in
    let none : All (λ (entry : Entry). ¬ TellsOf wid entry.what) earlier = λ k d within of_it.
    let entry = get_or earlier k d in
    let is : true ≡ false = sym ((told wid).1 (k, entry, within, get_or_default earlier k entry d within, of_it)) ∙ sym c.has.ensures ∙ c.if-has.false in cc in (
      λ is. subst True (sym c.in-Write.is) (server-ext wid.origin c.args.server own, c.has_write.ensures.0 is, none),
      λ truth. let known = subst True c.in-Write.is truth in c.has_write.ensures.1 known.1,
    )
