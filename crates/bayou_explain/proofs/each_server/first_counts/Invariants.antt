-- the counts so far are told
use Rattle.std.proofs.Common.{◌≡◌}
use Rattle.std.specs.Prelude.{string_bytes}
use Rattle.bayou_explain.specs.Standing.{counts_text}
use Rattle.bayou_explain.proofs.each_server.first_counts.Given as goal

abbrev pub invariant-loop-at : goal.invariant-loop-at
invariant-loop-at l = string_bytes l.text ≡ counts_text l.counts l.at
