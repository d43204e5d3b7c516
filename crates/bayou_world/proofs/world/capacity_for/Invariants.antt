-- those among the events so far
use Rattle.std.proofs.Common.{◌≡◌, ◌≤◌, filter, length, take}
use Rattle.bayou_world.specs.Runs.{is_file}
use Rattle.bayou_world.proofs.world.capacity_for.Given as goal

abbrev pub invariant-loop-event : goal.invariant-loop-event
invariant-loop-event l = record {
  so_far : l.files ≡ length (filter is_file (take l.event-index l.events));
  few : l.files ≤ l.event-index;
}
