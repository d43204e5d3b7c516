use Rattle.std.proofs.Common.{arith, ◌≡◌, Option, ap, get_or, inr, refl, subst, sym}
use Rattle.std.specs.Global.{Vec}
use Rattle.bayou_client.specs.Operating.{Asking}
use Rattle.bayou_connect.specs.declared.reach.Access.{Access}
use Rattle.bayou_connect.proofs.Telling.{is_told, place_at, told_of}
use Rattle.bayou_connect.proofs.store.Store.attempt_at.Goals as goal

pub returns : goal.returns
returns g c =
    inr (told_of c.shorten.new.self.accesses.items c.args.self.now.accesses.items c.args.at c.args.attempt c.shorten.new.self.sessions.items c.args.self.now.sessions.items _ c.operate.new.state
    c.args.who.index c.in_ok-done.done.told (ap (λ (v : Vec Access). v.items) c.in_ok-shorten.ensures.1) (ap (λ (v : Vec (Option Asking)). v.items) c.in_ok-shorten.ensures.0)
    (is_told c.shorten.new.self.accesses.items c.args.at c.args.attempt c.shorten.new.self.sessions.items c.from.result c.args.who.index c.operate.new.state c.in_ok-done.done.told
    c.in-Some.access.now.place.id c.in-Some-index_mut.asker c.operate.new.asker
    (place_at c.shorten.new.self.accesses.items c.args.at c.in-Some.access.now (omega (arith, c.in-Some.ensures.variant.0 refl)) c.in-Some.ensures.value)
    (omega (arith, c.shorten.new.self.one_each, c.args.who.in_range)) c.from.ensures
    (subst (λ (o : Option Asking). get_or c.shorten.new.self.sessions.items c.from.result o ≡ o) c.in-Some-index_mut.is (sym c.index_mut.ensures.value))
    c.in_ok-done.ensures.done c.in_ok-done.ensures.kept))
