use Rattle.std.proofs.Common.{◌≡◌, ◌-◌, ◌≤◌, All, length, take, drop, replicate}
use Rattle.serde_json.specs.View.{view}
use Rattle.bayou_base.specs.declared.limits.TheConstants.{MAX_WRITES, SERVERS}
use Rattle.bayou_text.specs.Numbers.{tally_in}
use Rattle.bayou_text.specs.Laws.Inner.Lists.{IsReadTo}
use Rattle.bayou_text.proofs.read.vector.counts_in.Given as goal

-- the counts so far are read, and the others are still 0
abbrev pub invariant-loop-place : goal.invariant-loop-place
invariant-loop-place l = record {
  read : IsReadTo tally_in view l.list l.place (take l.place l.counts);
  number : length l.counts ≡ SERVERS;
  others : drop l.place l.counts ≡ replicate (SERVERS - l.place) 0;
  in_range : All (λ count. count ≤ MAX_WRITES) l.counts;
}
