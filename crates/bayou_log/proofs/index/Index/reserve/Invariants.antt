-- the places are as they were, no room is told of yet, and of the servers so far each has what is taken at once
use Rattle.std.proofs.Common.{◌≡◌, ℕ, ◌+◌, ◌<◌, ◌≤◌, get_or, length, map, vec_capacity, vec_items, vec_len}
use Rattle.bayou_base.specs.declared.limits.TheConstants.{SERVERS}
use Rattle.std.specs.Global.{Vec}
use Rattle.bayou_log.specs.declared.index.TheConstants.{AHEAD}
use Rattle.bayou_log.proofs.index.Index.reserve.Given as goal

abbrev pub invariant-loop-server : goal.invariant-loop-server
invariant-loop-server l =
    (map vec_items l.self-inside.places ≡ map vec_items l.initial.self-inside.places)
    × (length l.self-inside.places ≡ SERVERS)
    × (l.self-inside.room ≡ 0)
    × ((k : ℕ) (d : Vec ℕ) → k < l.server → vec_len (get_or l.self-inside.places k d) + AHEAD ≤ vec_capacity (get_or l.self-inside.places k d))
