use Rattle.std.proofs.Common.{◌≡◌, ◌-◌, vec_capacity, vec_len}
use Rattle.bayou_wire.specs.Inner.Reading.{times}
use Rattle.bayou_wire.specs.Laws.Inner.Readers.{with_front}
use Rattle.bayou_wire.proofs.resting.resting_members_of.Given as goal

-- the members so far, and room for all, and those still read
abbrev pub invariant-loop : goal.invariant-loop
invariant-loop g l = record {
  length : vec_len l.members ≡ l.counter;
  room : vec_capacity l.members ≡ l.count;
  told : with_front l.members.items (times (l.count - l.counter) g.T.RestingMember.at l.rest) ≡ times l.count g.T.RestingMember.at l.bytes;
}
