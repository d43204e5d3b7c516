-- Which fault of a link a fault of its streams is. No public clause cites it.
use Rattle.bayou_client.specs.declared.fault.LinkFault.{LinkFault}
use Rattle.bayou_client.specs.declared.fault.LinkFault.TheVariants as told
use Rattle.bayou_frames.specs.declared.fault.ChannelFault.{ChannelFault}
use Rattle.bayou_frames.specs.declared.fault.ChannelFault.TheVariants as faults

abbrev pub told_fault : ChannelFault → LinkFault
told_fault faults.Read = told.Lost
told_fault faults.Write = told.Lost
told_fault faults.Cut = told.Lost
told_fault faults.BadFrame = told.BadFrame
told_fault faults.TooManyTurns = told.Lost
told_fault faults.OutOfMemory = told.OutOfMemory
