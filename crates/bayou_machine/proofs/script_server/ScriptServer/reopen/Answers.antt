use Rattle.std.proofs.Common.{refl}
use Rattle.bayou_machine.proofs.script_server.ScriptServer.reopen.Goals as goal

pub returns-in-Err : goal.returns-in-Err
returns-in-Err c = (
  c.in-Running.server,
  c.reopen.new.self,
  c.in-Err.fault,
  c.in-Running.is,
  refl,
  c.from.ensures,
  c.in-Err.ensures.reopens,
  c.in-Err.ensures.opens,
  c.in-Err.ensures.calls,
  c.in-Err.ensures.sound.0,
  c.in-Err.ensures.sound.1,
  c.in-Err.ensures.safe tt,
  c.in-Err.ensures.others,
)
