use Rattle.std.proofs.Common.{◌≡◌, ◌++◌, drop}
use Rattle.std.specs.List.{flat_map}
use Rattle.bayou_wire.specs.Spelling.{u32_bytes}
use Rattle.bayou_wire.proofs.put.put_counts.Given as goal

-- what is written, and what is still to be, are the whole
abbrev pub invariant-loop-count : goal.invariant-loop-count
invariant-loop-count l = l.out.items ++ flat_map u32_bytes (drop l.count-index l.counts) ≡ l.fn.out.items ++ flat_map u32_bytes l.counts
