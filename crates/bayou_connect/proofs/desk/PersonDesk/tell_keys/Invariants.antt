-- what is told of the keys that are left is what is told of all of them
use Rattle.std.proofs.Common.{◌∷◌, drop, Bool}
use Rattle.bayou_connect.specs.Claiming.{TellsKeys}
use Rattle.bayou_connect.specs.Desks.{IsSameSeat}
use Rattle.bayou_connect.specs.declared.desk.PersonDesk.{PersonDesk}
use Rattle.bayou_streams.specs.Account.{Account, account}
use Rattle.bayou_connect.proofs.desk.PersonDesk.tell_keys.Given as goal

abbrev pub invariant-loop-key : goal.invariant-loop-key
invariant-loop-key g l = record {
  same : IsSameSeat l.fn.self l.self;
  left : (new : PersonDesk) (after : Account) (are_other : Bool)
      → TellsKeys l.who l.claim.value.now l.at (drop l.key-index l.claim.others.now) l.self new (account g.W.Write.contents l.output) after are_other
      → TellsKeys l.who l.claim.value.now l.at (l.claim.key.now ∷ l.claim.others.now) l.fn.self new (account g.W.Write.contents l.fn.output) after are_other;
}
