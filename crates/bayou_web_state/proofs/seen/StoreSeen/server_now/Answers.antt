use Rattle.std.proofs.Common.{◌≡◌, ◌∙◌, Any, refl, subst, sym}
use Rattle.std.proofs.lemmas.List.Quantifiers.{Any-push, any-set}
use Rattle.bayou_web_state.specs.Asked.{IsAsked}
use Rattle.bayou_web_state.specs.declared.seen.ServerSeen.{ServerSeen}
use Rattle.bayou_web_state.proofs.seen.StoreSeen.server_now.Goals as goal

-- it is the last, as it was asked
pub returns-in_ok-push-in-None-clause-told : goal.returns-in_ok-push-in-None-clause-told
returns-in_ok-push-in-None-clause-told c =
    let now : ServerSeen = record { id = c.args.id; address = c.args.address; is_up = c.is_some.result; view = c.args.view; limit = c.args.limit }
    in subst (Any (IsAsked c.args.id c.args.address c.args.view)) (sym c.in_ok-push-in-None.ensures.items)
    (Any-push (IsAsked c.args.id c.args.address c.args.view) c.args.self.now.servers.items now (record { id = refl; address = refl; up = c.is_some.ensures }))

-- it stands where it stood
pub returns-in-Some-clause-told : goal.returns-in-Some-clause-told
returns-in-Some-clause-told c =
    any-set (IsAsked c.args.id c.args.address c.args.view) c.args.self.now.servers.items c.in-Some.at c.after.result c.in-Some.ensures
    (record { id = c.after.ensures.0; address = c.after.ensures.1; up = c.after.ensures.2 ∙ c.is_some.ensures })
