-- How a server decides on a Write that it is given, which its callers don't see.
use Rattle.std.specs.Prelude.{Option, None, Some, Result, Err}
use Rattle.bayou_lang.specs.declared.write.Write.{Write}
use Rattle.bayou_server.specs.declared.answer.Took.{Took}
use Rattle.bayou_server.specs.declared.fault.TakeFault.{TakeFault}
use Rattle.bayou_server.specs.Server.{Core}
use Rattle.bayou_server.specs.Takes.{IsTakable, Takes}

-- why the Write isn't added, and the server stays as it is; or that it may be added
abbrev pub IsRefused : Core → Write → Option TakeFault → Type 0
IsRefused core given None = IsTakable core given
IsRefused core given (Some fault) = Takes core given (Err fault) core

-- the answer that leaves the server as it is; or that the Write may be added
abbrev pub IsDecided : Core → Write → Option (Result Took TakeFault) → Type 0
IsDecided core given None = IsTakable core given
IsDecided core given (Some answer) = Takes core given answer core
