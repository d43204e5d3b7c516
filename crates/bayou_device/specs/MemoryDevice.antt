-- What the clauses of a device say of one in memory: this project's own.
use Rattle.bayou_device.specs.declared.device.Device.{Ghosts}
use Rattle.bayou_device.specs.Memory.{AddsFront, LeadsTo, Memory, kept_bytes}

-- its content are its bytes, it counts its failures, and a call that fails may have added a front of its piece
abbrev pub memory_device : Ghosts Memory
memory_device = record {
  is_modelled = Unit {0};
  content = λ device. device.bytes;
  kept = kept_bytes;
  failures = λ device. device.failures;
  may_leave = AddsFront;
  leads_to = LeadsTo;
}
