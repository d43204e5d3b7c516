-- those so far are kept
use Rattle.std.proofs.Common.{◌≡◌, ◌++◌, List, take}
use Rattle.bayou_connect.specs.Anew.{entries_behind, those}
use Rattle.bayou_remember.specs.Memory.{HasAll}
use Rattle.bayou_client.specs.Operating.{Asking}
use Rattle.bayou_connect.proofs.remembering.keep_each.Given as goal

abbrev pub invariant-loop-kept : goal.invariant-loop-kept
invariant-loop-kept g l = record {
  kept : g.D.Device.is_modelled → (had : List Asking) → HasAll g.D.Device l.initial.memory had → HasAll g.D.Device l.memory (had ++ those (take l.kept-index l.all));
  entries : l.memory.entries ≡ entries_behind l.initial.memory.entries (those (take l.kept-index l.all));
}
