use Rattle.std.proofs.Common.{arith, ◌≡◌, ◌∙◌, ◌+◌, ◌-◌, ℕ, suc, rules, subst, sym}
use Rattle.bayou_connect.specs.Finals.{outlook_of}
use Rattle.bayou_connect.specs.Own.{TellsFrom}
use Rattle.bayou_base.specs.declared.limits.TheConstants.{MAX_OWN_WRITES}
use Rattle.bayou_streams.specs.Account.{account}
use Rattle.bayou_connect.proofs.Owned.{next_place, tells_all, tells_none, tells_one}
use Rattle.bayou_connect.proofs.desk.PersonDesk.tell_each_own.Goals as goal

pub loop-preserved : goal.loop-preserved
loop-preserved g c =
    let old = outlook_of c.loop.self.store.views in
    let middle = outlook_of c.tell_own.new.self.store.views in
    let before = account g.W.Write.contents c.loop.output in
    let line = account g.W.Write.contents c.tell_own.new.output in
    let left = MAX_OWN_WRITES - (c.loop.counter + 1) in
    let more : suc left ≡ MAX_OWN_WRITES - c.loop.counter = omega arith in
    let next : c.place_behind-next.result ≡ _ = c.place_behind-next.ensures ∙ next_place c.loop.place c.in_ok-is_gone.is_gone (omega arith) in
    record {
      same = search rules;
      few = grind arith;
      served = search rules;
      left = λ new after rest. c.loop.invariant.left new after
          (subst (λ n. TellsFrom n c.loop.place c.args.telling old new before after) more
          (tells_one left c.loop.place c.args.telling old middle new before line after c.in-Some.write c.in_ok-is_gone.is_gone (sym c.own_at.ensures ∙ c.in-Some.is) c.in_ok-is_gone.ensures.told
          (subst (λ (place : ℕ). TellsFrom left place c.args.telling middle new line after) next rest)));
    }

pub returns-in_default-clause-told : goal.returns-in_default-clause-told
returns-in_default-clause-told g c =
    c.loop.invariant.left _ _ (tells_none _ c.loop.place c.args.telling (outlook_of c.loop.self.store.views) (account g.W.Write.contents c.loop.output) (search rules))

pub returns-clause-told : goal.returns-clause-told
returns-clause-told g c =
    let none : 0 ≡ MAX_OWN_WRITES - c.loop.counter = omega arith in
    c.loop.invariant.left _ _
    (subst (λ n. TellsFrom n c.loop.place c.args.telling (outlook_of c.loop.self.store.views) (outlook_of c.loop.self.store.views) (account g.W.Write.contents c.loop.output) (account g.W.Write.contents c.loop.output))
    none (tells_all c.loop.place c.args.telling (outlook_of c.loop.self.store.views) (account g.W.Write.contents c.loop.output)))
