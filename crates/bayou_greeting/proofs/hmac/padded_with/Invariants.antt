use Rattle.std.proofs.Common.{◌≡◌, ℕ, ◌<◌, ◌≤◌, length, get_or}
use Rattle.std.specs.Prelude.{bit_xor}
use Rattle.bayou_greeting.specs.declared.hmac.TheConstants.{BLOCK_BYTES}
use Rattle.bayou_greeting.proofs.hmac.padded_with.Given as goal

-- the bytes so far have the pad, and the others are as they were
abbrev pub invariant-loop-place : goal.invariant-loop-place
invariant-loop-place l = record {
  size : length l.padded ≡ BLOCK_BYTES;
  so_far : (k : ℕ) → k < l.place → get_or l.padded k 0 ≡ bit_xor (get_or l.block k 0) l.pad;
  left : (k : ℕ) → l.place ≤ k → get_or l.padded k 0 ≡ get_or l.block k 0;
}
