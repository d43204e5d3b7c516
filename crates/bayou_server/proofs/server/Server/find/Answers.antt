use Rattle.std.proofs.Common.{Option, None, Some}
use Rattle.std.specs.Prelude.{IfNone, IfSome, MatchOption}
use Rattle.bayou_server.proofs.server.Server.find.Goals as goal

-- what is true of both
both : {X : Type 0} (None_is : Type 0) (Some_is : X → Type 0) (o : Option X) → IfSome o Some_is → IfNone o None_is → MatchOption o None_is Some_is
both None_is Some_is None some none = none
both None_is Some_is (Some x) some none = some

pub returns : goal.returns
returns g c = rw (← c.self.view_is) (both _ _ c.find.result c.find.ensures.held c.find.ensures.missing)
