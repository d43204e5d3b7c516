use Rattle.std.proofs.Common.{◌≡◌, [], ◌∷◌, ◌++◌, length, slice_index_or, ap, sym, ◌∙◌, arith, append_assoc, length-append}
use Rattle.std.proofs.lemmas.List.{append-nil, take_all}
use Rattle.bayou_base.specs.Vector.{raised}
use Rattle.bayou_lang.specs.declared.write.Write.{Write}
use Rattle.bayou_lang.specs.Laws.Lacking.{lacking_of-first, lacking_of-none}
use Rattle.bayou_lang.specs.Writes.{lacking_of}
use Rattle.bayou_log.proofs.write_log.WriteLog.lacking.Goals as goal

pub loop-init : goal.loop-init
loop-init c =
    let writes = c.args.self.now.receipts in
    record {
      target = ap (λ items. items ++ lacking_of c.args.counts.now writes) c.new-list.ensures.items;
      taken = ap length c.new-list.ensures.items;
    }

pub loop-preserved : goal.loop-preserved
loop-preserved c =
    let writes = c.args.self.now.receipts in
    let told = c.loop.told in
    let list = c.loop.list.items in
    let write = c.in-Some.write.now in
    let first = c.in-Some.ensures.first in
    let rest = lacking_of-first c.args.self.now.count told writes write c.in-Some.ensures.fitting c.in-Some.ensures.one_each first.held first.next
    (λ k d within missed. first.first k d within (slice_index_or writes k d).wid.origin.in_range missed) in
    let now : c.raise.new.self ≡ raised told write.wid = c.raise.ensures ∙ ap (raised told) c.wid.ensures in
    record {
      target = ap (λ items. items ++ lacking_of c.raise.new.self writes) c.in_ok-push.ensures.items
          ∙ append_assoc list (c.in_ok-copy.field-0 ∷ []) (lacking_of c.raise.new.self writes)
          ∙ ap (λ (copy : Write). list ++ copy ∷ lacking_of c.raise.new.self writes) c.in_ok-copy.ensures
          ∙ ap (λ counts. list ++ write ∷ lacking_of counts writes) now
          ∙ ap (λ those. list ++ those) (sym rest)
          ∙ c.loop.invariant.target;
      taken = omega (arith, ap length c.in_ok-push.ensures.items, length-append list (c.in_ok-copy.field-0 ∷ []), c.loop.invariant.taken);
    }

pub returns-in_default : goal.returns-in_default
returns-in_default c =
    let writes = c.args.self.now.receipts in
    let list = c.loop.list.items in
    let none = lacking_of-none c.loop.told writes (λ k d within. c.in_default.ensures.first k d within (slice_index_or writes k d).wid.origin.in_range) in
    let whole : list ≡ lacking_of c.args.counts.now writes = sym (append-nil list) ∙ ap (λ rest. list ++ rest) (sym none) ∙ c.loop.invariant.target in
    whole ∙ sym (take_all c.args.max (lacking_of c.args.counts.now writes) (omega (arith, ap length whole, c.loop.invariant.taken, c.loop.auto.counter-end)))
