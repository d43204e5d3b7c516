-- what is whole of the bytes so far
use Rattle.std.proofs.Common.{◌≡◌, ◌≢◌, ◌-◌, ◌<◌, ◌≤◌, ℕ, get_or}
use Rattle.bayou_connect.proofs.audit_file.whole_lines.Given as goal

abbrev pub invariant-loop-at : goal.invariant-loop-at
invariant-loop-at l = record {
  within : l.whole ≤ l.at;
  ended : 0 < l.whole → get_or l.text (l.whole - 1) 0 ≡ 10;
  rest : (k : ℕ) → l.whole ≤ k → k < l.at → get_or l.text k 0 ≢ 10;
}
