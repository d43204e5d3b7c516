use Rattle.std.proofs.Common.{refl}
use Rattle.bayou_machine.proofs.parties.Parties.open.Goals as goal

pub returns : goal.returns
returns c = record {
  name = c.args.who;
  is_named = refl;
  answered = refl;
  only = rw (← c.self.view_is, c.from.ensures, c.new.ensures) refl;
}
