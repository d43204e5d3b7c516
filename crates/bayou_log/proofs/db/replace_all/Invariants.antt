use Rattle.std.proofs.Common.{◌≡◌, ℕ, ◌+◌, List, All, Contains, IsTrue}
use Rattle.arrayvec.specs.ArrayVec.{array_vec_len}
use Rattle.bayou_lang.specs.Changes.{after_changes}
use Rattle.bayou_log.specs.Db.{database_of, room, has_room}
use Rattle.bayou_log.specs.Inner.Counting.{Shows}
use Rattle.bayou_log.proofs.db.replace_all.Given as goal

abbrev pub invariant-loop-change : goal.invariant-loop-change
invariant-loop-change l = record {
  undone : after_changes l.before.items (database_of l.slots.entries) ≡ database_of l.initial.slots.entries;
  among : (keys : List (List ℕ)) → All (λ change. Contains keys change.key) l.initial.changes.items
      → All (λ change. Contains keys change.key) l.changes.items × All (λ change. Contains keys change.key) l.before.items;
  number : array_vec_len l.before + array_vec_len l.changes ≡ array_vec_len l.initial.changes;
  target : after_changes l.changes.items (database_of l.slots.entries) ≡ after_changes l.initial.changes.items (database_of l.initial.slots.entries);
  shows : Shows l.initial.present (database_of l.initial.slots.entries) → Shows l.present (database_of l.slots.entries);
  same_room : room l.slots.entries ≡ room l.initial.slots.entries;
  reached : All (λ change. IsTrue (has_room (room l.slots.entries) change.key)) l.changes.items;
}

abbrev pub decreases-loop-change : goal.decreases-loop-change
decreases-loop-change l = array_vec_len l.changes
