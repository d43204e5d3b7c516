-- the rows so far are listed, and nothing but what is asked of servers changes
use Rattle.std.proofs.Common.{◌≡◌}
use Rattle.bayou_connect.specs.Desks.{IsSameSeat}
use Rattle.bayou_connect.specs.Listing.{AreListed}
use Rattle.bayou_connect.proofs.desk.PersonDesk.list_on.Given as goal

abbrev pub invariant-loop : goal.invariant-loop
invariant-loop g l = record {
  listed : AreListed l.prefix l.fn.rows.each.items → AreListed l.prefix l.rows.each.items;
  seat : IsSameSeat l.fn.self l.self;
  served : l.self.is_served ≡ l.fn.self.is_served;
}
