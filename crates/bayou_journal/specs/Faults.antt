-- The faults of an opening: this project's own.
use Rattle.bayou_device.specs.declared.device.ReadFault.{ReadFault}
use Rattle.bayou_device.specs.declared.device.ReadFault.TheVariants as read
use Rattle.bayou_journal.specs.declared.fault.OpenFault.{OpenFault}
use Rattle.bayou_journal.specs.declared.fault.OpenFault.TheVariants.{Device, OutOfMemory}

-- the fault of an opening whose read failed so
abbrev pub of_read : ReadFault → OpenFault
of_read read.Failed = Device
of_read read.OutOfMemory = OutOfMemory
