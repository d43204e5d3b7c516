-- What is said of words that are lent is said of their texts.
use Rattle.std.proofs.Common.{◌≡◌, ◌∙◌, ℕ, zero, suc, ◌<◌, List, [], ◌∷◌, Any, Contains, ap, arith, get_or, length, map, refl, subst, sym, take}
use Rattle.std.specs.List.{AllZip}
use denote.Ref.{Bor}
use Rattle.bayou_serve.specs.Words.{IsAnother, SayOneTwice, SaysNoOther, SaysPeer}
use Rattle.bayou_serve.specs.declared.plan.Peer.{Peer}

abbrev texts : List (Bor (List ℕ)) → List (List ℕ)
texts words = map (λ word. word.now) words

length_texts : (words : List (Bor (List ℕ))) → length (texts words) ≡ length words
length_texts [] = refl
length_texts (word ∷ words) = ap suc (length_texts words)

text_at : (words : List (Bor (List ℕ))) (at : ℕ) (d : Bor (List ℕ)) (t : List ℕ) → at < length words → get_or (texts words) at t ≡ (get_or words at d).now
text_at [] at d t within = absurd (omega (arith, within))
text_at (word ∷ words) zero d t within = refl
text_at (word ∷ words) (suc at) d t within = text_at words at d t (omega (arith, within))

-- the word at a place is one of them
pub contains_text : (words : List (Bor (List ℕ))) (at : ℕ) (d : Bor (List ℕ)) → at < length words → Contains (texts words) (get_or words at d).now
contains_text words at d within = (at, subst (λ (n : ℕ). at < n) (sym (length_texts words)) within, text_at words at d (get_or words at d).now within)

said_at : (words : List (Bor (List ℕ))) (at k : ℕ) (d : Bor (List ℕ)) (peers : List Peer) (e : Peer) → AllZip (λ word peer. SaysPeer word.now peer) (take at words) peers → k < length peers
    → SaysPeer (get_or words k d).now (get_or peers k e)
said_at [] zero k d [] e all within = absurd (omega (arith, within))
said_at [] zero k d (peer ∷ peers) e all within = absurd all
said_at [] (suc at) k d [] e all within = absurd (omega (arith, within))
said_at [] (suc at) k d (peer ∷ peers) e all within = absurd all
said_at (word ∷ words) zero k d [] e all within = absurd (omega (arith, within))
said_at (word ∷ words) zero k d (peer ∷ peers) e all within = absurd all
said_at (word ∷ words) (suc at) k d [] e all within = absurd all
said_at (word ∷ words) (suc at) zero d (peer ∷ peers) e all within = all.0
said_at (word ∷ words) (suc at) (suc k) d (peer ∷ peers) e all within = said_at words at k d peers e all.1 (omega (arith, within))

-- a word that says a server which one of those before it says
pub twice : (words : List (Bor (List ℕ))) (at : ℕ) (d : Bor (List ℕ)) (peers : List Peer) (peer : Peer) → AllZip (λ word peer. SaysPeer word.now peer) (take at words) peers → length peers ≡ at
    → at < length words → SaysPeer (get_or words at d).now peer → Any (λ (one : Peer). one.id.index ≡ peer.id.index) peers → SayOneTwice (texts words)
twice words at d peers peer all number within says (k, one, before, is, same) = record {
  first = k;
  second = at;
  behind = omega (arith, before, number);
  among = omega (arith, within, length_texts words);
  one = one;
  other = peer;
  one_said = subst (λ (text : List ℕ). SaysPeer text one) (sym (text_at words k d [] (omega (arith, before, number, within))))
      (subst (SaysPeer (get_or words k d).now) is (said_at words at k d peers one all before));
  other_said = subst (λ (text : List ℕ). SaysPeer text peer) (sym (text_at words at d [] within)) says;
  same = same;
}

-- a word that says one server says no other
pub no_other : (server servers : ℕ) (word : List ℕ) (peer : Peer) → SaysPeer word peer → ¬ (IsAnother server servers peer) → SaysNoOther server servers word
no_other server servers word peer says isnt one one_says (among, other) =
    let same : one.id.index ≡ peer.id.index = one_says.number ∙ sym says.number in
    isnt (omega (arith, same, among), λ own. other (same ∙ own))

-- a word that says no other server
pub none_said : (server servers : ℕ) (words : List (Bor (List ℕ))) (at : ℕ) (d : Bor (List ℕ)) → at < length words → SaysNoOther server servers (get_or words at d).now
    → (word : List ℕ) × Contains (texts words) word × SaysNoOther server servers word
none_said server servers words at d within none = ((get_or words at d).now, contains_text words at d within, none)
