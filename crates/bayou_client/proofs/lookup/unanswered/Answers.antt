use Rattle.std.proofs.Common.{Ok}
use Rattle.bayou_client.proofs.lookup.unanswered.Goals as goal
use Rattle.bayou_wire.specs.declared.frame.Frame.TheVariants.{Refused}

pub returns-in-Err : goal.returns-in-Err
returns-in-Err c = λ refusal is. absurd (let other = c.in-Err.ensures.only (Ok (Refused refusal)) is.0 in cc)
