use Rattle.std.proofs.Common.{arith}
use Rattle.bayou_script.specs.NetworkSaid.{network_said}
use Rattle.bayou_script.specs.Script.{use_of}
use Rattle.bayou_script.proofs.Placed.{all_weaker}
use Rattle.bayou_script.proofs.network_draft.NetworkDraft.start.Goals as goal

pub invariant_of-self : goal.invariant_of-self
invariant_of-self c =
    let draft = c.args.self.now in
    record {
      served = all_weaker _ _ draft.commands.items (λ asked. c.start.ensures.started (use_of (network_said asked)).servers) draft.served;
      few = c.start.ensures.few draft.few (omega arith);
    }
