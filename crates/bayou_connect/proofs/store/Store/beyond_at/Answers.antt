use Rattle.std.proofs.Common.{◌∙◌, List, Option, Some, drop, inr, subst, sym}
use Rattle.std.proofs.lemmas.List.{take_rest}
use Rattle.bayou_connect.specs.Beyond.{AreKeysOf}
use Rattle.bayou_connect.specs.Finals.{HasGoneOn, finals_in, outlook_of}
use Rattle.bayou_connect.specs.declared.views_file.ViewsFile.{ViewsFile}
use Rattle.bayou_lang.specs.declared.write.Write.{Write}
use Rattle.bayou_connect.proofs.Learning.{gone_on_from, is_near, unsettled_finals}
use Rattle.bayou_connect.proofs.store.Store.beyond_at.Goals as goal

pub returns-clause-gone_on : goal.returns-clause-gone_on
returns-clause-gone_on g c =
    let old = outlook_of c.args.self.now.views in
    let middle = outlook_of c.settle.new.self.views in
    let new = outlook_of c.go_on_by.new.self.views in
    let writes = c.deref.result.now in
    let number = c.in-Some-go_on_by.finals in
    let view = c.args.view.now in
    let (is, near) = c.in-Some.ensures.some in
    let goes : HasGoneOn middle writes (Some number) new =
    subst (λ (views : Option ViewsFile). HasGoneOn (outlook_of views) writes (Some number) new) c.lacking_at.ensures.1 c.in-Some-go_on_by.ensures.gone_on in
    inr (
      writes,
      number,
      is_near (finals_in old) (finals_in middle) c.in-Some.counts view (unsettled_finals old middle view c.if-settle.ensures.settled) is near,
      gone_on_from old middle new view writes number c.if-settle.ensures.settled goes,
      subst (λ (all : List Write). AreKeysOf (drop number all) c.in_ok-of-2.field-0.keys) (c.deref-2.ensures.value ∙ sym c.deref.ensures.value)
          (subst (λ (some : List Write). AreKeysOf some c.in_ok-of-2.field-0.keys) (take_rest c.deref-2.result.now number) c.in_ok-of-2.ensures),
    )
