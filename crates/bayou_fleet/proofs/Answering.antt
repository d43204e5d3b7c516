-- Operations and their answers, one for one.
use Rattle.std.proofs.Common.{◌≡◌, ◌∙◌, zero, suc, All, List, [], ◌∷◌, ◌++◌, ap, append_assoc, arith, sym, subst}
use Rattle.std.proofs.lemmas.List.Elements.{All-append}
use Rattle.std.specs.List.{AllZip}
use Rattle.bayou_answers.specs.declared.answer.Answer.{Answer}
use Rattle.bayou_base.specs.declared.session.SessionId.{SessionId}
use Rattle.bayou_client.specs.Operating.{Sharing}
use Rattle.bayou_fleet.specs.Operating.{AnswersAttempt, IsAnswerTo}
use Rattle.bayou_text.specs.declared.command.Operation.{Operation}

pub AllZip-push : {A B : Type 0} (R : A → B → Type 0) (xs : List A) (ys : List B) (x : A) (y : B) → AllZip R xs ys → R x y → AllZip R (xs ++ x ∷ []) (ys ++ y ∷ [])
AllZip-push R [] [] x y all one = (one, tt)
AllZip-push R [] (b ∷ ys) x y all one = absurd all
AllZip-push R (a ∷ xs) [] x y all one = absurd all
AllZip-push R (a ∷ xs) (b ∷ ys) x y (first, all) one = (first, AllZip-push R xs ys x y all one)

-- one operation more was answered
pub answered_more : (who now : SessionId) (all front rest left : List Operation) (operation : Operation) (before after : List Answer) (answer : Answer) (client : Sharing)
    → all ≡ front ++ left → left ≡ operation ∷ rest → AllZip (IsAnswerTo who) front before → after ≡ before ++ answer ∷ [] → now ≡ who
    → AnswersAttempt now client.session client.asked operation.attempt answer
    → (done : List Operation) × (all ≡ done ++ rest) × AllZip (IsAnswerTo who) done after
answered_more who now all front rest left operation before after answer client split cut told pushed same is = (
  front ++ operation ∷ [],
  split ∙ ap (λ (xs : List Operation). front ++ xs) cut ∙ sym (append_assoc front (operation ∷ []) rest),
  subst (λ (list : List Answer). AllZip (IsAnswerTo who) (front ++ operation ∷ []) list) (sym pushed)
      (AllZip-push (IsAnswerTo who) front before operation answer told
      (client.session, client.asked, subst (λ (w : SessionId). AnswersAttempt w client.session client.asked operation.attempt answer) same is)),
)

All-one : {X : Type 0} (P : X → Type 0) (x : X) → P x → All P (x ∷ [])
All-one P x is zero d within = is
All-one P x is (suc k) d within = absurd (omega arith)

-- what holds of each holds of each once one more was put behind them of which it holds
pub All-push : {X : Type 0} (P : X → Type 0) (before after : List X) (x : X) → after ≡ before ++ x ∷ [] → All P before → P x → All P after
All-push P before after x pushed all is = subst (All P) (sym pushed) (All-append P before (x ∷ []) all (All-one P x is))
