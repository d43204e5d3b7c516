use Rattle.std.proofs.Common.{◌≡◌, ◌≤◌, All, IsTrue, drop, length, take}
use Rattle.bayou_log.specs.Db.{database_of, room, has_room}
use Rattle.bayou_log.specs.Inner.Undone.{after_undoing}
use Rattle.bayou_log.proofs.undo.take_back.Given as goal

-- what is left to take back makes of the database what all did
abbrev pub invariant-loop-undone : goal.invariant-loop-undone
invariant-loop-undone l = record {
  target : after_undoing (drop l.left l.undone.undos) (database_of l.db) ≡ after_undoing (drop l.left l.initial.undone.undos) (database_of l.initial.db);
  same_front : take l.left l.undone.undos ≡ take l.left l.initial.undone.undos;
  same_keys : room l.db ≡ room l.initial.db;
  same_promise : l.undone.promised ≡ l.initial.undone.promised;
  same_room : l.undone.room ≡ l.initial.undone.room;
  same_places : l.undone.places ≡ l.initial.undone.places;
  within : l.left ≤ length l.undone.undos;
  reached : All (λ undo. All (λ change. IsTrue (has_room (room l.db) change.key)) undo) l.undone.undos;
}

abbrev pub decreases-loop-undone : goal.decreases-loop-undone
decreases-loop-undone l = length l.undone.undos
