use Rattle.std.proofs.Common.{◌≡◌, ◌∷◌, List, ℕ, Option, MatchBool, MatchOption, false, subst, sym}
use Rattle.bayou_base.specs.declared.session.SessionId.{SessionId}
use Rattle.bayou_connect.specs.Claiming.{ClaimsOne, MakesAddition}
use Rattle.bayou_connect.specs.Sessions.{own_session}
use Rattle.bayou_connect.specs.Wishing.{Makes}
use Rattle.bayou_lang.specs.declared.program.Program.{Program}
use Rattle.bayou_person.specs.Doing.{Does, is_write}
use Rattle.bayou_person.specs.declared.wish.Wish.{Wish}
use Rattle.bayou_connect.proofs.Claimed.{own_is}
use Rattle.bayou_connect.proofs.Going.{then_ok}
use Rattle.bayou_streams.specs.Account.{account}
use Rattle.bayou_connect.proofs.desk.PersonDesk.wish_write.Goals as goal

pub returns-in-Claim : goal.returns-in-Claim
returns-in-Claim g c =
    let old = c.args.self.now in
    let new = c.claim.new.self in
    let before = account g.W.Write.contents c.args.output.now in
    let after = account g.W.Write.contents c.claim.new.output in
    let program = c.in-Some.program in
    let does = subst (λ (o : Option Program). MatchOption o (is_write c.args.wish.now ≡ false) (Does c.args.wish.now)) c.in-Some.is c.in_ok-program.ensures in
    then_ok c.claim.result _ _ c.claim.ensures (λ claimed.
    subst (λ (w : Wish). MatchBool (is_write w) (Makes w old new before after) ((new ≡ old) × (c.claim.new.output ≡ c.args.output.now))) (sym c.in-Claim.is) (
      program,
      subst (λ (w : Wish). Does w program) c.in-Claim.is does,
      subst (λ (keys : List (List ℕ)). ClaimsOne own_session c.in-Claim.value (c.in-Claim.key ∷ keys) program old new before after) c.as_slice-others.ensures.value
          (subst (λ (who : SessionId). ClaimsOne who c.in-Claim.value (c.in-Claim.key ∷ c.as_slice-others.result.now) program old new before after) (own_is _) claimed),
    ))

pub returns-in-Add : goal.returns-in-Add
returns-in-Add g c =
    let old = c.args.self.now in
    let new = c.add.new.self in
    let before = account g.W.Write.contents c.args.output.now in
    let after = account g.W.Write.contents c.add.new.output in
    let program = c.in-Some.program in
    let does = subst (λ (o : Option Program). MatchOption o (is_write c.args.wish.now ≡ false) (Does c.args.wish.now)) c.in-Some.is c.in_ok-program.ensures in
    then_ok c.add.result _ _ c.add.ensures (λ added.
    subst (λ (w : Wish). MatchBool (is_write w) (Makes w old new before after) ((new ≡ old) × (c.add.new.output ≡ c.args.output.now))) (sym c.in-Add.is) (
      program,
      subst (λ (w : Wish). Does w program) c.in-Add.is does,
      subst (λ (who : SessionId). MakesAddition who program old new before after) (own_is _) added,
    ))
