use Rattle.std.proofs.Common.{◌≡◌, ℕ, ◌<◌, get_or}
use Rattle.bayou_greeting.proofs.proofs_of_key.is_same_proof.Given as goal

-- no difference was met exactly where the bytes so far are the same
abbrev pub invariant-loop-place : goal.invariant-loop-place
invariant-loop-place l = record {
  same : l.difference ≡ 0 → (k : ℕ) → k < l.place → get_or l.found k 0 ≡ get_or l.wanted k 0;
  none : l.found ≡ l.wanted → l.difference ≡ 0;
}
