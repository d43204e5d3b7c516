use Rattle.bayou_text.specs.Said.{command_said}
use Rattle.bayou_script.specs.Script.{use_of}
use Rattle.bayou_script.proofs.Placed.{all_weaker}
use Rattle.bayou_script.proofs.draft.DraftFront.add.Goals as goal

pub invariant_of-self : goal.invariant_of-self
invariant_of-self c = record { served = all_weaker _ _ c.args.self.now.commands.items (λ asked. c.start.ensures.started (use_of (command_said asked)).servers) c.args.self.now.served }
