-- so many dumps were made, and nothing is in them
use Rattle.std.proofs.Common.{◌≡◌, ℕ, ◌≤◌, [], map, get_or, vec_capacity, vec_len}
use Rattle.bayou_script.proofs.audit_draft.AuditDraft.start.Given as goal

abbrev pub invariant-loop : goal.invariant-loop
invariant-loop l = record {
  number : vec_len l.dumps ≡ l.counter;
  room : l.count ≤ vec_capacity l.dumps;
  none : (server : ℕ) → get_or (map (λ dump. dump.items) l.dumps.items) server [] ≡ [];
}
