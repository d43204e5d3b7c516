use Rattle.std.proofs.Common.{refl}
use Rattle.bayou_world.proofs.world_session.WorldSession.answered.Goals as goal

pub returns : goal.returns
returns c = record {
  entry = _;
  session_is = c.id.ensures;
  place_is = c.place.ensures;
  asks_are = c.asks.ensures;
  server_is = refl;
  what_is = refl;
  session = refl;
  asked = refl;
  flight = refl;
  waiting = refl;
}
