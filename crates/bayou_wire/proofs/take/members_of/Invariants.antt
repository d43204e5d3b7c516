use Rattle.std.proofs.Common.{◌≡◌, ◌-◌}
use Rattle.arrayvec.specs.ArrayVec.{array_vec_len}
use Rattle.bayou_wire.specs.Inner.Reading.{times}
use Rattle.bayou_wire.specs.Laws.Inner.Readers.{with_front}
use Rattle.bayou_wire.proofs.take.members_of.Given as goal

-- the members so far, and those still read
abbrev pub invariant-loop : goal.invariant-loop
invariant-loop g l = record {
  length : array_vec_len l.members ≡ l.counter;
  told : with_front l.members.items (times (l.count - l.counter) g.T.Member.at l.rest) ≡ times l.count g.T.Member.at l.bytes;
}
