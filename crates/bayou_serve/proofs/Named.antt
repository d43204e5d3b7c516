-- Which servers words leave out, and that each other one is named.
use Rattle.std.proofs.Common.{◌≡◌, ◌≢◌, ◌⊎◌, inl, inr, ◌∙◌, ◌+◌, ◌<◌, ℕ, Bool, List, [], ◌∷◌, ◌++◌, All, Any, ap, arith, get_or, length, map, refl, subst, sym}
use Rattle.std.specs.List.{AllZip}
use Rattle.std.proofs.lemmas.List.Elements.{All-push}
use denote.Ref.{Bor}
use Rattle.bayou_base.specs.declared.server.ServerId.{ServerId}
use Rattle.bayou_serve.specs.Words.{AreNamed, IsApart, IsLeftOut, Refuses, RefusesBeginning, RefusesLeftOut, SaysNoneLeftOut, SaysPeer, SaysServer}
use Rattle.bayou_serve.specs.declared.plan.Beginning.{Beginning}
use Rattle.bayou_serve.specs.declared.plan.Peer.{Peer}
use Rattle.bayou_serve.specs.declared.plan.ServicePlanFault.{ServicePlanFault}
use Rattle.bayou_serve.specs.declared.plan.ServicePlanFault.TheVariants.{NoServer, NoAddress, OpenToAnyone, NoPeer, SamePeer, TwoBeginnings, NoOther, NothingRestored, Unnamed, OutOfMemory}
use Rattle.bayou_serve.proofs.Worded.{contains_text}

-- what is said of each word is said of each text
pub zip_texts : {B : Type 0} (R : List ℕ → B → Type 0) (words : List (Bor (List ℕ))) (ys : List B) → AllZip (λ word y. R word.now y) words ys → AllZip R (map (λ word. word.now) words) ys
zip_texts R [] [] all = tt
zip_texts R [] (y ∷ ys) all = absurd all
zip_texts R (word ∷ words) [] all = absurd all
zip_texts R (word ∷ words) (y ∷ ys) all = (all.0, zip_texts R words ys all.1)

-- one of the peers has that number
pub is_peer : (number : ℕ) (peers : List Peer) (left_out : List ServerId) → Any (λ (peer : Peer). peer.id.index ≡ number) peers → ¬ (IsApart peers left_out number)
is_peer number peers left_out (k, one, within, is, same) apart = apart.no_peer k one within (ap (λ (peer : Peer). peer.id.index) is ∙ same)

-- one of those that are left out has it
pub is_left_out : (number : ℕ) (peers : List Peer) (left_out : List ServerId) → Any (λ (left : ServerId). left.index ≡ number) left_out → ¬ (IsApart peers left_out number)
is_left_out number peers left_out (k, one, within, is, same) apart = apart.kept k one within (ap (λ (left : ServerId). left.index) is ∙ same)

-- a word that says a server which may not be left out says none that may be
pub says_none : (server servers : ℕ) (peers : List Peer) (word : List ℕ) (said : ServerId) → SaysServer word said → ¬ (IsLeftOut server servers peers said.index) → SaysNoneLeftOut server servers peers word
says_none server servers peers word said says isnt left left_says may =
    isnt (subst (IsLeftOut server servers peers) (left_says.number ∙ sym says.number) may)

-- and so it refuses the words
pub none_left : (server servers : ℕ) (peers : List Peer) (words : List (Bor (List ℕ))) (at : ℕ) (d : Bor (List ℕ)) → at < length words
    → SaysNoneLeftOut server servers peers (get_or words at d).now → RefusesLeftOut server servers peers (map (λ word. word.now) words) NoOther
none_left server servers peers words at d within none = ((get_or words at d).now, contains_text words at d within, none)

-- one more that may be left out
pub others_more : (server servers : ℕ) (peers : List Peer) (left more : List ServerId) (one : ServerId) → All (λ (s : ServerId). IsLeftOut server servers peers s.index) left → more ≡ left ++ one ∷ []
    → IsLeftOut server servers peers one.index → All (λ (s : ServerId). IsLeftOut server servers peers s.index) more
others_more server servers peers left more one all is may =
    let May : ServerId → Type 0 = λ s. IsLeftOut server servers peers s.index in
    subst (All May) (sym is) (All-push May left one all may)

-- one server more is named, or is the own one
pub named_more : (server at : ℕ) (peers : List Peer) (left_out : List ServerId) → AreNamed server at peers left_out → (at ≢ server → ¬ (IsApart peers left_out at))
    → AreNamed server (at + 1) peers left_out
named_more server at peers left_out before last number below other apart =
    elim (below_or number at below) as (λ _. ⊥) [
      | inl less ↦ before number less other apart
      | inr same ↦ last (λ is. other (same ∙ is)) (subst (IsApart peers left_out) same apart)
    ]
  where
    below_or : (number at : ℕ) → number < at + 1 → (number < at) ⊎ (number ≡ at)
    below_or number at below = grind (arith, below)

-- why words that leave servers out are refused
pub refuses_left : (server servers : ℕ) (listen : List ℕ) (anyone : Bool) (words left_words : List (List ℕ)) (beginning : Beginning) (peers : List Peer) (fault : ServicePlanFault)
    → AllZip SaysPeer words peers → RefusesLeftOut server servers peers left_words fault → Refuses server servers listen anyone words left_words beginning fault
refuses_left server servers listen anyone words left_words beginning peers NoServer said why = absurd why
refuses_left server servers listen anyone words left_words beginning peers NoAddress said why = absurd why
refuses_left server servers listen anyone words left_words beginning peers OpenToAnyone said why = absurd why
refuses_left server servers listen anyone words left_words beginning peers NoPeer said why = absurd why
refuses_left server servers listen anyone words left_words beginning peers SamePeer said why = absurd why
refuses_left server servers listen anyone words left_words beginning peers TwoBeginnings said why = absurd why
refuses_left server servers listen anyone words left_words beginning peers NoOther said why = (peers, said, why)
refuses_left server servers listen anyone words left_words beginning peers NothingRestored said why = absurd why
refuses_left server servers listen anyone words left_words beginning peers (Unnamed number) said why = absurd why
refuses_left server servers listen anyone words left_words beginning peers OutOfMemory said why = tt

some_words : (words : List (List ℕ)) (left_out : List ServerId) → AllZip SaysServer words left_out → left_out ≢ [] → words ≢ []
some_words [] [] said some = absurd (some refl)
some_words [] (one ∷ left_out) said some = absurd said
some_words (word ∷ words) left_out said some = λ none. absurd (cc)

-- why a way to begin is refused
pub refuses_begun : (server servers : ℕ) (listen : List ℕ) (anyone : Bool) (words left_words : List (List ℕ)) (beginning : Beginning) (peers : List Peer) (left_out : List ServerId) (fault : ServicePlanFault)
    → AllZip SaysPeer words peers → AllZip SaysServer left_words left_out → RefusesBeginning server servers peers left_out beginning fault
    → Refuses server servers listen anyone words left_words beginning fault
refuses_begun server servers listen anyone words left_words beginning peers left_out NoServer said left why = absurd why
refuses_begun server servers listen anyone words left_words beginning peers left_out NoAddress said left why = absurd why
refuses_begun server servers listen anyone words left_words beginning peers left_out OpenToAnyone said left why = absurd why
refuses_begun server servers listen anyone words left_words beginning peers left_out NoPeer said left why = absurd why
refuses_begun server servers listen anyone words left_words beginning peers left_out SamePeer said left why = absurd why
refuses_begun server servers listen anyone words left_words beginning peers left_out TwoBeginnings said left why = absurd why
refuses_begun server servers listen anyone words left_words beginning peers left_out NoOther said left why = absurd why
refuses_begun server servers listen anyone words left_words beginning peers left_out NothingRestored said left why = (why.0, some_words left_words left_out left why.1)
refuses_begun server servers listen anyone words left_words beginning peers left_out (Unnamed number) said left why =
    (why.0, (peers, left_out, record { peers_said = said; left_said = left }, why.1))
refuses_begun server servers listen anyone words left_words beginning peers left_out OutOfMemory said left why = absurd why
