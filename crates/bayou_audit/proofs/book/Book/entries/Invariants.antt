-- those so far, and room for all
use Rattle.std.proofs.Common.{◌≡◌, length, take, vec_capacity, vec_len}
use Rattle.bayou_audit.proofs.book.Book.entries.Given as goal

abbrev pub invariant-loop-entry : goal.invariant-loop-entry
invariant-loop-entry g l = record {
  so_far : l.entries.items ≡ take l.entry-index l.self.entries;
  number : vec_len l.entries ≡ l.entry-index;
  room : vec_capacity l.entries ≡ length l.self.entries;
}
