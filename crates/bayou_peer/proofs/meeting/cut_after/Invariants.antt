-- so many frames were passed
use Rattle.std.proofs.Common.{◌≡◌, ◌≤◌, ◌<◌, ◌^◌, List, All, length}
use Rattle.bayou_lang.specs.declared.write.Write.{Write}
use Rattle.bayou_lang.specs.Ranges.{IsWrite}
use Rattle.bayou_frames.specs.Spelled.{answer_bytes}
use Rattle.bayou_peer.proofs.Passing.{Passed}
use Rattle.bayou_peer.proofs.meeting.cut_after.Given as goal

abbrev pub invariant-loop : goal.invariant-loop
invariant-loop l = record {
  passed : (sent : List Write) → All IsWrite sent → length sent < 2 ^ 32 → l.answer ≡ answer_bytes sent → Passed l.counter sent l.rest;
  within : length l.rest ≤ length l.answer;
}
