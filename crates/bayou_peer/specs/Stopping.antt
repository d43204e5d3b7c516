-- When a pull may end for its streams: this project's own.
use Rattle.std.specs.Prelude.{ℕ, Bool}
use Rattle.bayou_frames.specs.Stopping.{Stops}
use Rattle.bayou_peer.specs.declared.fault.PullFault.{PullFault}
use Rattle.bayou_peer.specs.declared.fault.PullFault.TheVariants.{Stream, Refused}

abbrev pub StopsPull : Bool → Bool → ℕ → PullFault → Type 0
StopsPull read_failed write_failed turns_left (Stream fault) = Stops read_failed write_failed turns_left fault
StopsPull read_failed write_failed turns_left (Refused refusal) = Unit {0}
