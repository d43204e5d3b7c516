use Rattle.std.proofs.Common.{◌≡◌, ◌<◌, ◌⊎◌, inl, inr, arith, ap, rules, sym, subst}
use Rattle.std.proofs.lemmas.Bool.{cases_lt}
use Rattle.bayou_base.specs.declared.server.ServerId.{ServerId}
use Rattle.bayou_lang.specs.Laws.Equality.{server-ext}
use Rattle.bayou_serve.specs.HeldDigests.{DifferFrom, HasRead}
use Rattle.bayou_serve.proofs.held_digests.HeldDigests.difference.Goals as goal
use Rattle.bayou_serve.proofs.held_digests.HeldDigests.difference.Goals.{in_default-via-in-None-1, in_default-via-in-Some+else-differs-2}

pub loop-index-preserved : goal.loop-index-preserved
loop-index-preserved c origin writes below has differ =
    elim c.in_default.branch as (λ _. ⊥) [
      | in_default-via-in-None-1 w ↦ search rules
      | in_default-via-in-Some+else-differs-2 w ↦
          elim (cases_lt origin.index c.loop-index.index) as (λ _. ⊥) [
            | inl before ↦ c.loop-index.invariant origin writes before has differ
            | inr here ↦
                let index : w.in-Some.origin.index ≡ c.loop-index.index = search rules in
                let same : origin ≡ w.in-Some.origin = server-ext origin w.in-Some.origin (omega (arith, below, here, index)) in
                let now_has : HasRead c.args.self.now w.in-Some.origin writes = subst (λ (one : ServerId). HasRead c.args.self.now one writes) same has in
                let now_differ : DifferFrom writes c.args.told.now w.in-Some.origin = subst (λ (one : ServerId). DifferFrom writes c.args.told.now one) same differ in
                let told = (w.differs-in-loop-index.ensures writes now_has).1 now_differ in
                search rules
          ]
    ]
