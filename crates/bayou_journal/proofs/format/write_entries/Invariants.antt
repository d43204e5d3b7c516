-- the entries of the bodies so far stand there
use Rattle.std.proofs.Common.{◌≡◌, ◌≤◌, map, take, vec_capacity, vec_len}
use Rattle.bayou_journal.specs.Chain.{entries, entries_bytes, last_link}
use Rattle.bayou_journal.specs.declared.format.TheConstants.{ENTRY_BYTES}
use Rattle.bayou_journal.proofs.format.write_entries.Given as goal

abbrev pub invariant-loop-body : goal.invariant-loop-body
invariant-loop-body l = record {
  items : l.bytes.items ≡ entries l.fn.before (map (λ b. b.items) (take l.body-index l.bodies));
  size : vec_len l.bytes ≡ entries_bytes (map (λ b. b.items) (take l.body-index l.bodies));
  last : l.last ≡ last_link l.fn.before (map (λ b. b.items) (take l.body-index l.bodies));
  room : ENTRY_BYTES ≤ vec_capacity l.bytes;
}
