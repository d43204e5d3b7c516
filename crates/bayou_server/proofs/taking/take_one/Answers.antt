use Rattle.std.proofs.Common.{None, Ok, ap, subst}
use Rattle.bayou_server.specs.declared.answer.Took.TheVariants.{New}
use Rattle.bayou_server.specs.declared.storing.Stored.{Stored}
use Rattle.bayou_server.specs.declared.storing.Stored.TheVariants.{Held}
use Rattle.bayou_server.specs.Inner.Fields.{server_of}
use Rattle.bayou_server.specs.Inner.Storing.{Keeps, StaysStored, StoresEntry}
use Rattle.bayou_server.specs.Takes.{Takes}
use Rattle.bayou_server.proofs.Steps.{own_of_taking}
use Rattle.bayou_server.proofs.taking.take_one.Goals as goal

pub returns-in-Held-clause-takes : goal.returns-in-Held-clause-takes
returns-in-Held-clause-takes g c =
    let old = server_of c.args.journal.now c.args.holding.now c.args.id.index in
    let new = server_of c.store.new.journal c.store.new.holding c.args.id.index in
    let kept : Keeps old.core None c.args.write Held new.core = subst (λ (s : Stored). Keeps old.core None c.args.write s new.core) c.in-Held.is c.in_ok-store.ensures.keeps in
    let takes : Takes old.core c.args.write (Ok New) new.core = (c.in_default.ensures, kept.0, kept.1) in
    let stores : StoresEntry g.D.Device old Held new = subst (λ (s : Stored). StoresEntry g.D.Device old s new) c.in-Held.is c.in_ok-store.ensures.stores in
    record {
      takes = takes;
      own = own_of_taking old.core c.args.write (Ok New) new.core takes;
      sound = (c.requires.sound, c.store.ensures.together.sound);
      others = ap (λ t. t.items) c.store.ensures.others;
      stores = stores;
      stored = λ modelled. subst (λ (s : Stored). StaysStored g.D.Device old s new) c.in-Held.is (c.in_ok-store.ensures.stored modelled);
      safe = c.store.ensures.safe;
      calls = c.store.ensures.calls;
    }
