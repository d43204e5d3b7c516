-- what was told of the servers that were started, and one for each so far
use Rattle.std.proofs.Common.{◌≡◌, ◌+◌, length}
use Rattle.bayou_socket_run.specs.Damage.{TellsEntries}
use Rattle.bayou_streams.specs.Account.{account}
use Rattle.bayou_socket_run.proofs.journals.start_each.Given as goal

abbrev pub invariant-loop-index : goal.invariant-loop-index
invariant-loop-index g l = record {
  told : TellsEntries l.folder l.index (account g.E.Write.contents l.initial.told) (account g.E.Write.contents l.told);
  number : length l.started.items ≡ length l.initial.started.items + l.index;
}
