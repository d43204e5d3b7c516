-- The faults of the words of a line.
use Rattle.std.proofs.Common.{◌≡◌, ◌≢◌, ◌∙◌, ◌+◌, ◌-◌, Bool, ◌<◌, ◌≤◌, ◌&&◌, ◌||◌, ℕ, true, false, inr, List, [], ◌∷◌, ◌++◌, All, Some, Bor, ap, ap₂, arith, codes, drop, get_or, length, le-leb, lt-ltb, map, refl, subst, suc, sym, take, zero}
use Rattle.std.proofs.lemmas.List.{append_assoc, length-append, map-append, map_more, take_all, take_more}
use Rattle.std.proofs.lemmas.List.Elements.{All-cons, All-nil, All-push}
use Rattle.std.proofs.lemmas.Slice.Eq.{bytes_eq-Decides}
use Rattle.std.specs.Str.{bytes_eq}
use Rattle.bayou_base.specs.Key.{key_fault}
use Rattle.bayou_base.specs.declared.key.KeyFault.{KeyFault}
use Rattle.bayou_base.specs.declared.limits.TheConstants.{MAX_ALTERNATIVES}
use Rattle.bayou_lang.specs.Ranges.{IsKey}
use Rattle.bayou_person.specs.declared.wish.WishFault.{WishFault}
use Rattle.bayou_person.specs.declared.wish.WishFault.TheVariants as fault
use Rattle.bayou_person.specs.Inner.Values.{IsValueFault}
use Rattle.bayou_person.specs.Wishes.{Faults, Word, is_first, is_key_place, is_one_of, takes}

-- the word behind the first is no key
pub first_key : (first key : Word) (after : List Word) (why : KeyFault) → is_first first ≡ true → takes first (length (key ∷ after)) ≡ true
    → is_key_place first 0 (length after) ≡ true → key_fault key ≡ Some why → Faults (first ∷ key ∷ after) (fault.Key why)
first_key first key after why known fits place bad =
    (first, [], key, after, record { is = refl; known = known; fits = fits }, place, All-nil IsKey, bad)

-- so many words may stand behind `claim`
pub claim_takes : (key : Word) (others : List Word) (word : Word) → length others ≤ MAX_ALTERNATIVES → takes (codes "claim") (length (key ∷ others ++ word ∷ [])) ≡ true
claim_takes key others word within =
    let many = length-append others (word ∷ []) in
    ap₂ ◌&&◌ (le-leb 2 (length (key ∷ others ++ word ∷ [])) (omega (arith, many))) (le-leb (length (key ∷ others ++ word ∷ [])) (MAX_ALTERNATIVES + 2) (omega (arith, many, within)))

pub claim_key : (key : Word) (others : List Word) (word : Word) (why : KeyFault) → length others ≤ MAX_ALTERNATIVES → key_fault key ≡ Some why
    → Faults (codes "claim" ∷ key ∷ others ++ word ∷ []) (fault.Key why)
claim_key key others word why within bad =
    let many = length-append others (word ∷ []) in
    first_key (codes "claim") key (others ++ word ∷ []) why refl (claim_takes key others word within) (lt-ltb 0 (length (others ++ word ∷ [])) (omega (arith, many))) bad

pub claim_other : (key : Word) (others good : List Word) (other : Word) (after : List Word) (word : Word) (why : KeyFault) → length others ≤ MAX_ALTERNATIVES → IsKey key
    → others ≡ good ++ other ∷ after → All IsKey good → key_fault other ≡ Some why → Faults (codes "claim" ∷ key ∷ others ++ word ∷ []) (fault.Key why)
claim_other key others good other after word why within is split all bad =
    let many = length-append after (word ∷ []) in
    let same = ap (λ list. key ∷ list ++ word ∷ []) split ∙ ap (λ list. key ∷ list) (append_assoc good (other ∷ after) (word ∷ [])) in (
      codes "claim",
      key ∷ good,
      other,
      after ++ word ∷ [],
      record {
        is = ap (λ list. codes "claim" ∷ list) same;
        known = refl;
        fits = subst (λ (list : List Word). takes (codes "claim") (length list) ≡ true) same (claim_takes key others word within);
      },
      lt-ltb 0 (length (after ++ word ∷ [])) (omega (arith, many)),
      All-cons IsKey key good is all,
      bad,
    )

-- so many words may stand behind `get`
pub get_takes : (key : Word) (others : List Word) → length others ≤ MAX_ALTERNATIVES → takes (codes "get") (length (key ∷ others)) ≡ true
get_takes key others within =
    ap₂ ◌&&◌ (le-leb 1 (length (key ∷ others)) (omega arith)) (le-leb (length (key ∷ others)) (MAX_ALTERNATIVES + 1) (omega (arith, within)))

-- and one of the others is no key
pub get_other : (key : Word) (others good : List Word) (other : Word) (after : List Word) (why : KeyFault) → length others ≤ MAX_ALTERNATIVES → IsKey key
    → others ≡ good ++ other ∷ after → All IsKey good → key_fault other ≡ Some why → Faults (codes "get" ∷ key ∷ others) (fault.Key why)
get_other key others good other after why within is split all bad = (
  codes "get",
  key ∷ good,
  other,
  after,
  record {
    is = ap (λ list. codes "get" ∷ key ∷ list) split;
    known = refl;
    fits = subst (λ (list : List Word). takes (codes "get") (length list) ≡ true) (ap (λ list. key ∷ list) split) (get_takes key others within);
  },
  refl,
  All-cons IsKey key good is all,
  bad,
)

-- the last word is no value, for this reason
pub value_told : (first : Word) (keys : List Word) (word : Word) (told : WishFault) → is_first first ≡ true → takes first (length (keys ++ word ∷ [])) ≡ true
    → is_one_of (codes "put" ∷ codes "claim" ∷ []) first ≡ true → All IsKey keys → IsValueFault word told → Faults (first ∷ keys ++ word ∷ []) told
value_told first keys word fault.Word known fits one all why = absurd why
value_told first keys word fault.Count known fits one all why = absurd why
value_told first keys word (fault.Key bad) known fits one all why = absurd why
value_told first keys word (fault.Value reason) known fits one all (is, none) =
    (first, keys, word, record { is = refl; known = known; fits = fits }, one, all, is, none)
value_told first keys word fault.Number known fits one all why = absurd why
value_told first keys word fault.Server known fits one all why = absurd why
value_told first keys word fault.Name known fits one all why = absurd why
value_told first keys word fault.OutOfMemory known fits one all why = tt

pub claim_value : (key : Word) (others : List Word) (word : Word) (told : WishFault) → length others ≤ MAX_ALTERNATIVES → IsKey key → All IsKey others
    → IsValueFault word told → Faults (codes "claim" ∷ key ∷ others ++ word ∷ []) told
claim_value key others word told within is all why =
    value_told (codes "claim") (key ∷ others) word told refl (claim_takes key others word within) refl (All-cons IsKey key others is all) why

-- a list is what stands before a place, what stands there, and the rest
pub split_at : {A B : Type 0} (f : A → B) (xs : List A) (at : ℕ) (d : A) → at < length xs → map f xs ≡ map f (take at xs) ++ f (get_or xs at d) ∷ map f (drop (suc at) xs)
split_at f [] at d within = absurd (omega (arith, within))
split_at f (x ∷ xs) zero d within = refl
split_at f (x ∷ xs) (suc at) d within = ap (λ list. f x ∷ list) (split_at f xs at d (omega (arith, within)))

-- one more word is a key
pub keys_more : (new old : List Word) (key : Word) (words : List (Bor Word)) (at : ℕ) (d : Bor Word) → new ≡ old ++ key ∷ [] → old ≡ map (λ word. word.now) (take at words)
    → All IsKey old → at < length words → key ≡ (get_or words at d).now → IsKey (get_or words at d).now
    → (new ≡ map (λ word. word.now) (take (at + 1) words)) × All IsKey new
keys_more new old key words at d is was all within same here = (
  rw (is, was, same, map_more (λ word. word.now) words at d within) refl,
  subst (All IsKey) (sym is) (All-push IsKey old key all (rw same here)),
)

-- and one is none
pub keys_end : (old : List Word) (words : List (Bor Word)) (at : ℕ) (d : Bor Word) (why : KeyFault) (told : WishFault) → old ≡ map (λ word. word.now) (take at words)
    → All IsKey old → at < length words → told ≡ fault.Key why → key_fault (get_or words at d).now ≡ Some why
    → (good : List Word) × (key : Word) × (after : List Word) × (why : KeyFault) × (map (λ word. word.now) words ≡ good ++ key ∷ after) × All IsKey good × (key_fault key ≡ Some why) × (told ≡ fault.Key why)
keys_end old words at d why told was all within is bad =
    (old, (get_or words at d).now, map (λ word. word.now) (drop (suc at) words), why, rw was (split_at (λ word. word.now) words at d within), all, bad, is)

-- the bytes of words
abbrev pub bytes_of : List (Bor Word) → List Word
bytes_of words = map (λ word. word.now) words

pub two_words : (words : List (Bor Word)) (d : Bor Word) → 2 ≤ length words → length words < 3 → bytes_of words ≡ (get_or words 0 d).now ∷ (get_or words 1 d).now ∷ []
two_words [] d least most = absurd (omega (arith, least))
two_words (one ∷ []) d least most = absurd (omega (arith, least))
two_words (one ∷ other ∷ []) d least most = refl
two_words (one ∷ other ∷ third ∷ words) d least most = absurd (omega (arith, most))

-- the first word, and those behind it
pub first_word : (words : List (Bor Word)) (d : Bor Word) → 1 ≤ length words
    → bytes_of words ≡ (get_or words 0 d).now ∷ bytes_of (take (length words - 1) (drop 1 words))
first_word [] d least = absurd (omega (arith, least))
first_word (word ∷ words) d least =
    ap (λ list. word.now ∷ bytes_of list) (sym (take_all (length (word ∷ words) - 1) words (omega arith)))

-- the first word, the last, and those between
pub ends : (words : List (Bor Word)) (d : Bor Word) → 2 ≤ length words
    → bytes_of words ≡ (get_or words 0 d).now ∷ bytes_of (take (length words - 1 - 1) (drop 1 words)) ++ (get_or words (length words - 1) d).now ∷ []
ends [] d least = absurd (omega (arith, least))
ends (word ∷ words) d least =
    let last = length words - 1 in
    let whole : words ≡ take last words ++ get_or words last d ∷ [] =
    sym (take_all (last + 1) words (omega arith)) ∙ take_more words last d (omega (arith, least)) in
    let between : last ≡ length (word ∷ words) - 1 - 1 = omega arith in
    let end : suc last ≡ length (word ∷ words) - 1 = omega (arith, least) in
    ap (λ list. word.now ∷ bytes_of list) whole ∙ ap (λ list. word.now ∷ list) (map-append (λ (it : Bor Word). it.now) (take last words) (get_or words last d ∷ []))
    ∙ ap₂ (λ (many place : ℕ). word.now ∷ bytes_of (take many words) ++ (get_or (word ∷ words) place d).now ∷ []) between end

-- the word is none of these
abbrev Differs : Word → List Word → Type 0
Differs word [] = Unit {0}
Differs word (other ∷ words) = (word ≢ other) × Differs word words

not_so : (b : Bool) → ¬ (b ≡ true) → b ≡ false
not_so true never = absurd (never refl)
not_so false never = refl

apart : (word other : Word) → word ≢ other → bytes_eq word other ≡ false
apart word other differ = not_so (bytes_eq word other) (λ same. differ ((bytes_eq-Decides word other).0 same))

none_of : (word : Word) (words : List Word) → Differs word words → is_one_of words word ≡ false
none_of word [] differs = refl
none_of word (other ∷ words) (differ, differs) = ap₂ ◌||◌ (apart word other differ) (none_of word words differs)

-- what lines begin with
abbrev firsts : List Word
firsts =
    codes "put" ∷ codes "add" ∷ codes "del" ∷ codes "claim" ∷ codes "get" ∷ codes "at" ∷ codes "list" ∷ codes "became"
    ∷ codes "servers" ∷ codes "session" ∷ codes "dump" ∷ []

-- no line begins with the first word
pub unknown : (words : List Word) (first : Word) (behind : List Word) → words ≡ first ∷ behind → first ≢ codes "put" → first ≢ codes "add"
    → first ≢ codes "del" → first ≢ codes "claim" → first ≢ codes "get" → first ≢ codes "at" → first ≢ codes "list" → first ≢ codes "became"
    → first ≢ codes "servers" → first ≢ codes "session" → first ≢ codes "dump" → Faults words fault.Word
unknown words first behind is put add del claim get at list became servers session dump =
    let differs = none_of first firsts (put, (add, (del, (claim, (get, (at, (list, (became, (servers, (session, (dump, tt))))))))))) in
    inr (first, behind, is, differs)
