use Rattle.std.proofs.Common.{ap}
use Rattle.std.proofs.lemmas.Bool.Decides.{Decides-eqb}
use Rattle.bayou_base.specs.declared.server.ServerId.{ServerId}
use Rattle.bayou_greeting.specs.Laws.Equality.{one_server}
use Rattle.bayou_greeting.proofs.stranger.is_same_server.Goals as goal

pub returns : goal.returns
returns c =
    let decides = Decides-eqb c.args.one.index c.args.other.index in
    (λ yes. one_server _ _ (decides.0 yes), λ same. decides.1 (ap (λ (s : ServerId). s.index) same))
