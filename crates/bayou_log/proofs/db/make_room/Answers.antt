use Rattle.std.proofs.Common.{◌≡◌, None, false, IsTrue, ap, sym, ◌∙◌, subst}
use Rattle.std.specs.Option.{is_some}
use Rattle.bayou_lang.specs.Laws.Database.{changed-same}
use Rattle.bayou_log.specs.Db.{room, has_room}
use Rattle.bayou_log.proofs.Slots.{database_of-set, has_room-set, has_room-set_same, has_room-slot_at, database_of-no_slot, slot_at}
use Rattle.bayou_log.proofs.db.make_room.Goals as goal

pub returns-in_ok-insert-clause-same : goal.returns-in_ok-insert-clause-same
returns-in_ok-insert-clause-same c =
    let none : is_some (slot_at c.args.slots.now.entries c.args.key.now) ≡ false = sym c.contains_key.ensures ∙ c.if-not-contains_key.true in
    let none_there : is_some (slot_at c.args.slots.now.entries c.copy.result) ≡ false =
    ap (λ key. is_some (slot_at c.args.slots.now.entries key)) c.copy.ensures ∙ none in
    database_of-set c.args.slots.now.entries c.insert.new.self.entries c.copy.result None c.in_ok-insert.ensures.updates.0
    ∙ changed-same _ None _ (database_of-no_slot c.args.slots.now.entries c.copy.result none_there)

pub returns-in_ok-insert-clause-keeps : goal.returns-in_ok-insert-clause-keeps
returns-in_ok-insert-clause-keeps c = has_room-set c.args.slots.now.entries c.insert.new.self.entries c.copy.result None c.in_ok-insert.ensures.updates.0

pub returns-in_ok-insert-clause-ok : goal.returns-in_ok-insert-clause-ok
returns-in_ok-insert-clause-ok c =
    subst (λ key. IsTrue (has_room (room c.insert.new.self.entries) key)) c.copy.ensures
    (has_room-set_same c.args.slots.now.entries c.insert.new.self.entries c.copy.result None c.in_ok-insert.ensures.updates.0)

pub returns-else-not-contains_key-clause-ok : goal.returns-else-not-contains_key-clause-ok
returns-else-not-contains_key-clause-ok c =
    has_room-slot_at c.args.slots.now.entries c.args.key.now ∙ sym c.contains_key.ensures ∙ c.if-not-contains_key.false
