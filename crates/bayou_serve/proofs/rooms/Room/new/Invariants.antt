-- a place for each so far
use Rattle.std.proofs.Common.{◌≡◌, vec_len}
use Rattle.bayou_serve.proofs.rooms.Room.new.Given as goal

abbrev pub invariant-loop : goal.invariant-loop
invariant-loop l = vec_len l.all ≡ l.counter
