use Rattle.std.proofs.Common.{ℕ, List, [], ◌∷◌, ◌++◌, Option, sym, ◌∙◌, ap, subst, append_assoc}
use Rattle.std.proofs.lemmas.List.{append-nil}
use Rattle.bayou_base.specs.declared.value.Value.{Value}
use Rattle.bayou_lang.specs.Database.{empty}
use Rattle.bayou_log.specs.Db.{database_of}
use Rattle.bayou_log.specs.Inner.Counting.{HasKeysOf}
use Rattle.bayou_log.proofs.Marked.{HasKeysOf-noted, HasKeysOf-own}
use Rattle.bayou_log.proofs.present.keys_of.Goals as goal

pub loop-key-init : goal.loop-key-init
loop-key-init c = (
  [],
  sym c.iter-left.ensures.rest ∙ sym (append-nil c.iter-left.result),
  subst (λ keys. HasKeysOf keys empty) (sym c.new-keys.ensures.empty) (HasKeysOf-own []),
)

pub loop-key-preserved : goal.loop-key-preserved
loop-key-preserved c =
    let passed = c.loop-key.invariant.0 in
    let slot : List ℕ × Option Value = (c.in-Some.key.now, c.in-Some.slot.now) in (
      slot ∷ passed,
      c.loop-key.invariant.1 ∙ ap (λ left. left ++ passed) c.in-Some.ensures.steps ∙ append_assoc c.next_back.new.self (slot ∷ []) passed,
      HasKeysOf-noted c.in-Some.key.now c.is_some.result c.loop-key.keys.entries c.note.new.keys.entries (database_of passed) c.in-Some.slot.now (sym c.is_some.ensures) c.in_ok-note.ensures c.loop-key.invariant.2,
    )

pub returns : goal.returns
returns c =
    subst (λ slots. HasKeysOf c.loop-key.keys.entries (database_of slots))
    (sym (c.loop-key.invariant.1 ∙ ap (λ left. left ++ c.loop-key.invariant.0) c.in_default.ensures.steps.0)) c.loop-key.invariant.2
