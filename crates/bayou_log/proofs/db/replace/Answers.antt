use Rattle.std.proofs.Common.{◌≡◌, Bool, true, false, refl, ap, is_some, sym, subst, ◌∙◌, rules}
use mathlib.Core.Bool.{beq, not}
use Rattle.bayou_lang.specs.Database.{changed, value_at}
use Rattle.bayou_log.specs.Db.{database_of}
use Rattle.bayou_log.specs.Inner.Counting.{Shows}
use Rattle.bayou_log.proofs.Marked.{Shows-kept}
use Rattle.bayou_log.proofs.Slots.{database_of-set, database_of-slot_at, room_has_slot, value_in}
use Rattle.bayou_log.proofs.db.replace.Goals as goal
use Rattle.bayou_log.proofs.db.replace.Goals.{then-is_some-is_there, else-is_some-is_there}

-- two tests that don't differ
alike : (one other : Bool) → not (beq one other) ≡ false → one ≡ other
alike true true same = refl
alike true false same = absurd cc
alike false true same = absurd cc
alike false false same = refl

pub returns-clause-present : goal.returns-clause-present
returns-clause-present c =
    let old = database_of c.args.slots.now.entries in
    let key = c.args.change.key in
    let value = c.args.change.value in
    let had : is_some c.replace-before.result ≡ is_some (value_at old key) =
    ap is_some (c.replace-before.ensures.value ∙ ap value_in c.in-Some.ensures.value ∙ sym (database_of-slot_at c.args.slots.now.entries key)) in
    let made : database_of (c.get_mut.follows.lender c.replace-before.new.dest).entries ≡ changed key value old =
    database_of-set c.args.slots.now.entries (c.get_mut.follows.lender c.replace-before.new.dest).entries key c.replace-before.new.dest
    ((c.get_mut.follows.holds c.replace-before.new.dest).3 (search rules)).0
    ∙ ap (λ value. changed key value old) c.replace-before.ensures.after in
    λ shows. subst (Shows c.if-is_some-is_there.present) (sym made) (elim c.if-is_some-is_there.branch [
      | then-is_some-is_there w ↦ subst (λ present. Shows present (changed key value old)) (sym w.present-is) (w.set.ensures old value (sym c.is_some-is_there.ensures) shows)
      | else-is_some-is_there w ↦
          let same : c.is_some.result ≡ c.is_some-is_there.result = alike c.is_some.result c.is_some-is_there.result w.if-is_some-is_there.false in
          subst (λ present. Shows present (changed key value old)) (sym w.present-is)
          (Shows-kept c.args.present.now key value old (sym had ∙ sym c.is_some.ensures ∙ same ∙ c.is_some-is_there.ensures) shows)
    ])

pub returns-clause-database : goal.returns-clause-database
returns-clause-database c =
    database_of-set c.args.slots.now.entries (c.get_mut.follows.lender c.replace-before.new.dest).entries c.args.change.key c.replace-before.new.dest
    ((c.get_mut.follows.holds c.replace-before.new.dest).3 (search rules)).0
    ∙ ap (λ value. changed c.args.change.key value (database_of c.args.slots.now.entries)) c.replace-before.ensures.after

pub returns-clause-value : goal.returns-clause-value
returns-clause-value c =
    c.replace-before.ensures.value ∙ ap value_in c.in-Some.ensures.value ∙ sym (database_of-slot_at c.args.slots.now.entries c.args.change.key)

pub returns-in_default-clause-database : goal.returns-in_default-clause-database
returns-in_default-clause-database c = absurd (room_has_slot c.args.slots.now.entries c.args.change.key c.requires c.in_default.ensures.value)

pub returns-in_default-clause-value : goal.returns-in_default-clause-value
returns-in_default-clause-value c = absurd (room_has_slot c.args.slots.now.entries c.args.change.key c.requires c.in_default.ensures.value)
