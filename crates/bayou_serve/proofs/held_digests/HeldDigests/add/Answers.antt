use Rattle.std.proofs.Common.{◌≡◌, ◌≢◌, ◌∙◌, ◌∷◌, ◌++◌, [], ℕ, List, ap, refl, rules, subst, sym}
use Rattle.bayou_greeting.specs.OriginDigests.{AreDigestsOf}
use Rattle.bayou_serve.proofs.Digesting.{on_err, read_at, read_other, read_own, read_still}
use Rattle.bayou_serve.specs.HeldDigests.{HasRead}
use Rattle.bayou_serve.proofs.held_digests.HeldDigests.add.Goals as goal

pub returns-in_err-extend-clause-others : goal.returns-in_err-extend-clause-others
returns-in_err-extend-clause-others c origin writes differ has =
    let from : c.from.result ≡ c.args.write.now.wid.origin.index = search rules in
    read_other c.args.self.now _ origin c.from.result _ writes (λ same. differ (same ∙ from)) refl has

pub returns-in_err-extend-clause-refused : goal.returns-in_err-extend-clause-refused
returns-in_err-extend-clause-refused c origin writes has =
    on_err {P = (c.args.self.now.read ≡ c.args.self.now.read) × HasRead _ origin writes} c.from_residual-in_err-extend.result (
      refl,
      read_still c.args.self.now _ origin c.from.result c.extend.new.self writes refl
          (λ same. c.in_err-extend.ensures.refused writes (read_at c.args.self.now origin c.from.result _ writes same has)) has,
    )

pub returns-clause-own : goal.returns-clause-own
returns-clause-own c writes has =
    let from : c.from.result ≡ c.args.write.now.wid.origin.index = search rules in
    let is_of = read_at c.args.self.now c.args.write.now.wid.origin c.from.result _ writes from has in
    let bytes = c.deref.ensures.value ∙ c.in_ok-bytes.ensures.spelling.spelled in
    read_own c.args.self.now _ c.args.write.now.wid.origin c.from.result _ writes _ from refl has
    (subst (λ (text : List ℕ). AreDigestsOf c.extend.new.self (writes ++ text ∷ [])) bytes (c.in_ok-extend.ensures.held writes is_of))

pub returns-clause-others : goal.returns-clause-others
returns-clause-others c origin writes differ has =
    let from : c.from.result ≡ c.args.write.now.wid.origin.index = search rules in
    read_other c.args.self.now _ origin c.from.result _ writes (λ same. differ (same ∙ from)) refl has
