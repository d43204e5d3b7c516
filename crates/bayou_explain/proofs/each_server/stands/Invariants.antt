-- the servers so far are told
use Rattle.std.proofs.Common.{◌≡◌}
use Rattle.std.specs.Prelude.{string_bytes}
use Rattle.bayou_judge.specs.History.{lent_lists}
use Rattle.bayou_explain.specs.Standing.{stands_text}
use Rattle.bayou_explain.proofs.each_server.stands.Given as goal

abbrev pub invariant-loop-server : goal.invariant-loop-server
invariant-loop-server l = string_bytes l.text ≡ stands_text (lent_lists l.dumps) l.server
