use Rattle.std.proofs.Common.{ap}
use Rattle.std.proofs.lemmas.Bool.Decides.{Decides-eqb}
use Rattle.bayou_wire.specs.declared.greeting.ServerCount.{ServerCount}
use Rattle.bayou_greeting.specs.Laws.Equality.{one_count}
use Rattle.bayou_greeting.proofs.stranger.is_same_count.Goals as goal

pub returns : goal.returns
returns c =
    let decides = Decides-eqb c.args.one.count c.args.other.count in
    (λ yes. one_count _ _ (decides.0 yes), λ same. decides.1 (ap (λ (s : ServerCount). s.count) same))
