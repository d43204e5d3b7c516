use Rattle.std.proofs.Common.{refl, inl, ap, arith}
use Rattle.bayou_session.specs.Needs.{Told}
use Rattle.bayou_machine.specs.ScriptServer.{stopped}
use Rattle.bayou_machine.proofs.script_server.ScriptServer.read.Goals as goal

pub returns-in_default : goal.returns-in_default
returns-in_default c =
    inl (stopped c.in_default.field-0 c.in_default.is (omega (arith, c.left.ensures, ap (λ (t : Told). t.begun) c.session.ensures)) refl c.begin.ensures)
