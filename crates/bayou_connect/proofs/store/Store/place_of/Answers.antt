use Rattle.std.proofs.Common.{◌≡◌, ◌≢◌, rules, tests}
use Rattle.std.proofs.lemmas.Iterator.{IsFirst-from_position, YieldsList-from_slice}
use Rattle.bayou_connect.specs.declared.reach.Access.{Access}
use Rattle.bayou_lang.specs.Laws.Equality.{server-ext}
use Rattle.bayou_connect.proofs.Picking.{place_found}
use Rattle.bayou_connect.proofs.store.Store.place_of.Goals as goal

pub returns : goal.returns
returns c =
    place_found (λ (access : Access). access.place.id.index ≡ c.args.server.index) (λ (access : Access). access.place.id ≢ c.args.server) (λ (access : Access). access.place.id ≡ c.args.server)
    (λ access same. server-ext access.place.id c.args.server same) c.args.self.now.accesses.items c.position.result
    (IsFirst-from_position _ _ c.position.result (λ (access : Access). access.place.id.index ≡ c.args.server.index) (λ (access : Access). access.place.id ≢ c.args.server) c.position.ensures.ran
    (YieldsList-from_slice c.args.self.now.accesses.items cc) (λ x q k. search (rules, tests)) (λ x q k. search (rules, tests)))
