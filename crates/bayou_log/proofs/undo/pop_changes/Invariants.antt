use Rattle.std.proofs.Common.{◌≡◌, ◌≤◌, All, IsTrue, drop, length, take}
use Rattle.bayou_lang.specs.Changes.{after_changes}
use Rattle.bayou_log.specs.Db.{database_of, room, has_room}
use Rattle.bayou_log.proofs.undo.pop_changes.Given as goal

-- what is left to make makes of the database what all did
abbrev pub invariant-loop-list : goal.invariant-loop-list
invariant-loop-list l = record {
  target : after_changes (drop l.left l.list.items) (database_of l.db) ≡ after_changes (drop l.left l.initial.list.items) (database_of l.initial.db);
  same_front : take l.left l.list.items ≡ take l.left l.initial.list.items;
  same_keys : room l.db ≡ room l.initial.db;
  same_room : l.list.room ≡ l.initial.list.room;
  within : l.left ≤ length l.list.items;
  reached : All (λ change. IsTrue (has_room (room l.db) change.key)) (drop l.left l.list.items);
}

abbrev pub decreases-loop-list : goal.decreases-loop-list
decreases-loop-list l = length l.list.items
