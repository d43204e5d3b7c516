-- what the own Writes that are left tell is what all of them do
use Rattle.std.proofs.Common.{◌≡◌, ◌≤◌, ◌-◌, Option}
use Rattle.bayou_connect.specs.Desks.{IsSameDesk}
use Rattle.bayou_connect.specs.Finals.{outlook_of}
use Rattle.bayou_connect.specs.Own.{TellsFrom}
use Rattle.bayou_outlook.specs.declared.outlook.Outlook.{Outlook}
use Rattle.bayou_base.specs.declared.limits.TheConstants.{MAX_OWN_WRITES}
use Rattle.bayou_streams.specs.Account.{Account, account}
use Rattle.bayou_connect.proofs.desk.PersonDesk.tell_each_own.Given as goal

abbrev pub invariant-loop : goal.invariant-loop
invariant-loop g l = record {
  same : IsSameDesk l.fn.self l.self;
  few : l.place ≤ l.counter;
  served : l.self.is_served ≡ l.fn.self.is_served;
  left : (new : Option Outlook) (after : Account)
      → TellsFrom (MAX_OWN_WRITES - l.counter) l.place l.telling (outlook_of l.self.store.views) new (account g.W.Write.contents l.output) after
      → TellsFrom MAX_OWN_WRITES 0 l.telling (outlook_of l.fn.self.store.views) new (account g.W.Write.contents l.fn.output) after;
}
