-- What says something has no fault.
use Rattle.std.proofs.Common.{◌≡◌, ◌∙◌, ◌<◌, ◌≤◌, ℤ, true, List, [], ◌∷◌, ◌++◌, All, Some, None, ap, ap₂, arith, eqb-true, ltb-true, codes, drop, get_or, length, refl, subst, sym, true≢false, inl, inr}
use Rattle.std.proofs.lemmas.List.{length-append}
use Rattle.std.proofs.lemmas.List.Elements.{All-cons, All-head, All-tail}
use Rattle.std.specs.Str.{bytes_eq}
use Rattle.bayou_base.specs.Key.{key_fault}
use Rattle.bayou_base.specs.declared.limits.TheConstants.{MAX_ALTERNATIVES}
use Rattle.bayou_base.specs.declared.server.ServerId.{ServerId}
use Rattle.bayou_base.specs.declared.value.Value.{Value}
use Rattle.bayou_base.specs.declared.wid.Wid.{Wid}
use Rattle.bayou_lang.specs.Ranges.{IsKey}
use Rattle.bayou_person.specs.declared.wish.Wish.{Wish}
use Rattle.bayou_person.specs.declared.wish.Wish.TheVariants.{Put, Add, Del, Claim, Get, At, List as Whole, Rows, Became, Servers, Session, Dump}
use Rattle.bayou_person.specs.declared.wish.WishFault.{WishFault}
use Rattle.bayou_person.specs.declared.wish.WishFault.TheVariants as fault
use Rattle.bayou_person.specs.Wishes.{Faults, IsValueOf, Reads, ReadsName, ReadsServer, Says, Word, is_first, is_key_place, is_one_of, takes}
use Rattle.bayou_person.proofs.Once.{same_ends}
use Rattle.bayou_person.proofs.Telling.{claim_takes, get_takes}

-- what stands where keys stand, and at the end, is as it must be
record IsGood (first : Word) (behind : List Word) : Type 0 where
  known : is_first first ≡ true
  fits : takes first (length behind) ≡ true
  keys : (good : List Word) (key : Word) (after : List Word) → behind ≡ good ++ key ∷ after → is_key_place first (length good) (length after) ≡ true → IsKey key
  value : (front : List Word) (word : Word) → behind ≡ front ++ word ∷ [] → is_one_of (codes "put" ∷ codes "claim" ∷ []) first ≡ true → (value : Value) × IsValueOf word value
  number : (key word : Word) → behind ≡ key ∷ word ∷ [] → bytes_eq first (codes "add") ≡ true → (number : ℤ) × Reads word number
  server : (word : Word) → behind ≡ word ∷ [] → bytes_eq first (codes "at") ≡ true → (server : ServerId) × ReadsServer word server
  name : (word : Word) → behind ≡ word ∷ [] → bytes_eq first (codes "became") ≡ true → (wid : Wid) × ReadsName word wid

-- the one before others is the first of them
at_front : (word : Word) (words good : List Word) (key : Word) (after : List Word) → word ∷ words ≡ good ++ key ∷ after → length good ≡ 0 → word ≡ key
at_front word words [] key after is none = ap (λ list. get_or list 0 word) is
at_front word words (one ∷ good) key after is none = absurd (omega (arith, none))

-- one that isn't the last is among those before the last
before_last : (front good : List Word) (last key : Word) (after : List Word) → All IsKey front → front ++ last ∷ [] ≡ good ++ key ∷ after → 0 < length after → IsKey key
before_last [] [] last key after all is some = absurd (omega (arith, ap length is, some))
before_last [] (one ∷ good) last key after all is some = absurd (omega (arith, ap length is, some, length-append good (key ∷ after)))
before_last (word ∷ front) [] last key after all is some = subst IsKey (ap (λ list. get_or list 0 word) is) (All-head IsKey word front all)
before_last (word ∷ front) (one ∷ good) last key after all is some = before_last front good last key after (All-tail IsKey word front all) (ap (drop 1) is) some

-- each of keys is one
one_of_keys : (keys good : List Word) (key : Word) (after : List Word) → All IsKey keys → keys ≡ good ++ key ∷ after → IsKey key
one_of_keys [] [] key after all is = absurd (omega (arith, ap length is))
one_of_keys [] (one ∷ good) key after all is = absurd (omega (arith, ap length is))
one_of_keys (word ∷ keys) [] key after all is = subst IsKey (ap (λ list. get_or list 0 word) is) (All-head IsKey word keys all)
one_of_keys (word ∷ keys) (one ∷ good) key after all is = one_of_keys keys good key after (All-tail IsKey word keys all) (ap (drop 1) is)

good_put : (key word : Word) (value : Value) → IsKey key → IsValueOf word value → IsGood (codes "put") (key ∷ word ∷ [])
good_put key word value key_is worth = record {
  known = refl;
  fits = refl;
  keys = λ good other after is place. subst IsKey (at_front key (word ∷ []) good other after is (eqb-true (length good) 0 place)) key_is;
  value = λ front last is one. (value, subst (λ it. IsValueOf it value) (same_ends (key ∷ []) front word last is).1 worth);
  number = λ key word is one. absurd (true≢false (sym one));
  server = λ word is one. absurd (true≢false (sym one));
  name = λ word is one. absurd (true≢false (sym one));
}

good_add : (key word : Word) (number : ℤ) → IsKey key → Reads word number → IsGood (codes "add") (key ∷ word ∷ [])
good_add key word number key_is reads = record {
  known = refl;
  fits = refl;
  keys = λ good other after is place. subst IsKey (at_front key (word ∷ []) good other after is (eqb-true (length good) 0 place)) key_is;
  value = λ front word is one. absurd (true≢false (sym one));
  number = λ other last is one. (number, subst (λ it. Reads it number) (ap (λ list. get_or list 1 []) is) reads);
  server = λ word is one. absurd (true≢false (sym one));
  name = λ word is one. absurd (true≢false (sym one));
}

good_del : (key : Word) → IsKey key → IsGood (codes "del") (key ∷ [])
good_del key key_is = record {
  known = refl;
  fits = refl;
  keys = λ good other after is place. subst IsKey (at_front key [] good other after is (eqb-true (length good) 0 place)) key_is;
  value = λ front word is one. absurd (true≢false (sym one));
  number = λ key word is one. absurd (true≢false (sym one));
  server = λ word is one. absurd (true≢false (sym one));
  name = λ word is one. absurd (true≢false (sym one));
}

good_get : (key : Word) (others : List Word) → length others ≤ MAX_ALTERNATIVES → IsKey key → All IsKey others → IsGood (codes "get") (key ∷ others)
good_get key others within key_is all = record {
  known = refl;
  fits = get_takes key others within;
  keys = λ good other after is place. one_of_keys (key ∷ others) good other after (All-cons IsKey key others key_is all) is;
  value = λ front word is one. absurd (true≢false (sym one));
  number = λ key word is one. absurd (true≢false (sym one));
  server = λ word is one. absurd (true≢false (sym one));
  name = λ word is one. absurd (true≢false (sym one));
}

good_at : (word : Word) (server : ServerId) → ReadsServer word server → IsGood (codes "at") (word ∷ [])
good_at word server reads = record {
  known = refl;
  fits = refl;
  keys = λ good key after is place. absurd (true≢false (sym place));
  value = λ front word is one. absurd (true≢false (sym one));
  number = λ key word is one. absurd (true≢false (sym one));
  server = λ last is one. (server, subst (λ it. ReadsServer it server) (ap (λ list. get_or list 0 []) is) reads);
  name = λ word is one. absurd (true≢false (sym one));
}

good_claim : (key : Word) (others : List Word) (word : Word) (value : Value) → length others ≤ MAX_ALTERNATIVES → IsKey key → All IsKey others → IsValueOf word value
    → IsGood (codes "claim") (key ∷ others ++ word ∷ [])
good_claim key others word value within key_is all worth = record {
  known = refl;
  fits = claim_takes key others word within;
  keys = λ good other after is place. before_last (key ∷ others) good word other after (All-cons IsKey key others key_is all) is (ltb-true 0 (length after) place);
  value = λ front last is one. (value, subst (λ it. IsValueOf it value) (same_ends (key ∷ others) front word last is).1 worth);
  number = λ key word is one. absurd (true≢false (sym one));
  server = λ word is one. absurd (true≢false (sym one));
  name = λ word is one. absurd (true≢false (sym one));
}

good_list : IsGood (codes "list") []
good_list = record {
  known = refl;
  fits = refl;
  keys = λ good key after is place. absurd (omega (arith, ap length is, length-append good (key ∷ after)));
  value = λ front word is one. absurd (true≢false (sym one));
  number = λ key word is one. absurd (true≢false (sym one));
  server = λ word is one. absurd (true≢false (sym one));
  name = λ word is one. absurd (true≢false (sym one));
}

good_rows : (prefix : Word) → IsKey prefix → IsGood (codes "list") (prefix ∷ [])
good_rows prefix prefix_is = record {
  known = refl;
  fits = refl;
  keys = λ good other after is place. subst IsKey (at_front prefix [] good other after is (eqb-true (length good) 0 place)) prefix_is;
  value = λ front word is one. absurd (true≢false (sym one));
  number = λ key word is one. absurd (true≢false (sym one));
  server = λ word is one. absurd (true≢false (sym one));
  name = λ word is one. absurd (true≢false (sym one));
}

good_became : (word : Word) (wid : Wid) → ReadsName word wid → IsGood (codes "became") (word ∷ [])
good_became word wid reads = record {
  known = refl;
  fits = refl;
  keys = λ good key after is place. absurd (true≢false (sym place));
  value = λ front word is one. absurd (true≢false (sym one));
  number = λ key word is one. absurd (true≢false (sym one));
  server = λ word is one. absurd (true≢false (sym one));
  name = λ last is one. (wid, subst (λ it. ReadsName it wid) (ap (λ list. get_or list 0 []) is) reads);
}

good_servers : IsGood (codes "servers") []
good_servers = record {
  known = refl;
  fits = refl;
  keys = λ good key after is place. absurd (true≢false (sym place));
  value = λ front word is one. absurd (true≢false (sym one));
  number = λ key word is one. absurd (true≢false (sym one));
  server = λ word is one. absurd (true≢false (sym one));
  name = λ word is one. absurd (true≢false (sym one));
}

good_session : IsGood (codes "session") []
good_session = record {
  known = refl;
  fits = refl;
  keys = λ good key after is place. absurd (true≢false (sym place));
  value = λ front word is one. absurd (true≢false (sym one));
  number = λ key word is one. absurd (true≢false (sym one));
  server = λ word is one. absurd (true≢false (sym one));
  name = λ word is one. absurd (true≢false (sym one));
}

good_dump : IsGood (codes "dump") []
good_dump = record {
  known = refl;
  fits = refl;
  keys = λ good key after is place. absurd (true≢false (sym place));
  value = λ front word is one. absurd (true≢false (sym one));
  number = λ key word is one. absurd (true≢false (sym one));
  server = λ word is one. absurd (true≢false (sym one));
  name = λ word is one. absurd (true≢false (sym one));
}

-- the words that say something begin so, and are good
said : (words : List Word) (wish : Wish) → Says words wish → (first : Word) × (behind : List Word) × (words ≡ first ∷ behind) × IsGood first behind
said words (Put key value) (word, is, key_is, worth) = (codes "put", key ∷ word ∷ [], is, good_put key word value key_is worth)
said words (Add key number) (word, is, key_is, reads) = (codes "add", key ∷ word ∷ [], is, good_add key word number key_is reads)
said words (Del key) (is, key_is) = (codes "del", key ∷ [], is, good_del key key_is)
said words (Claim key others value) (word, is, few, key_is, all, worth) =
    (codes "claim", key ∷ others.items ++ word ∷ [], is, good_claim key others.items word value few key_is all worth)
said words (Get key others) (is, few, key_is, all) = (codes "get", key ∷ others.items, is, good_get key others.items few key_is all)
said words (At server) (word, is, reads) = (codes "at", word ∷ [], is, good_at word server reads)
said words Whole is = (codes "list", [], is, good_list)
said words (Rows prefix) (is, prefix_is) = (codes "list", prefix ∷ [], is, good_rows prefix prefix_is)
said words (Became wid) (word, is, reads) = (codes "became", word ∷ [], is, good_became word wid reads)
said words Servers is = (codes "servers", [], is, good_servers)
said words Session is = (codes "session", [], is, good_session)
said words Dump is = (codes "dump", [], is, good_dump)

first_is : (words : List Word) (first other : Word) (behind rest : List Word) → words ≡ first ∷ behind → words ≡ other ∷ rest → first ≡ other
first_is words first other behind rest one two = ap (λ list. get_or list 0 []) (sym one ∙ two)

rest_is : (words : List Word) (first other : Word) (behind rest : List Word) → words ≡ first ∷ behind → words ≡ other ∷ rest → behind ≡ rest
rest_is words first other behind rest one two = ap (drop 1) (sym one ∙ two)

-- and so they have no fault
pub no_fault : (words : List Word) (wish : Wish) (why : WishFault) → Says words wish → Faults words why → why ≡ fault.OutOfMemory
no_fault words wish fault.Word says (inl none) =
    let (first, behind, is, good) = said words wish says in
    absurd (omega (arith, ap length (sym is ∙ none)))
no_fault words wish fault.Word says (inr (other, rest, other_is, unknown)) =
    let (first, behind, is, good) = said words wish says in
    absurd (true≢false (sym good.known ∙ ap is_first (first_is words first other behind rest is other_is) ∙ unknown))
no_fault words wish fault.Count says (other, rest, other_is, known, wrong) =
    let (first, behind, is, good) = said words wish says in
    let same = first_is words first other behind rest is other_is in
    let rests = rest_is words first other behind rest is other_is in
    absurd (true≢false (sym good.fits ∙ ap₂ (λ word list. takes word (length list)) same rests ∙ wrong))
no_fault words wish (fault.Key why) says (other, front, key, after, formed, place, all, bad) =
    let (first, behind, is, good) = said words wish says in
    let same = first_is words first other behind (front ++ key ∷ after) is formed.is in
    let rests = rest_is words first other behind (front ++ key ∷ after) is formed.is in
    let key_is : key_fault key ≡ None = good.keys front key after rests (subst (λ word. is_key_place word (length front) (length after) ≡ true) (sym same) place) in
    let both : None ≡ Some why = sym key_is ∙ bad in
    absurd (cc)
no_fault words wish (fault.Value why) says (other, keys, word, formed, one, all, reason, none) =
    let (first, behind, is, good) = said words wish says in
    let same = first_is words first other behind (keys ++ word ∷ []) is formed.is in
    let rests = rest_is words first other behind (keys ++ word ∷ []) is formed.is in
    let (value, worth) = good.value keys word rests (subst (λ it. is_one_of (codes "put" ∷ codes "claim" ∷ []) it ≡ true) (sym same) one) in
    absurd (none value worth)
no_fault words wish fault.Number says (key, word, other_is, key_is, none) =
    let (first, behind, is, good) = said words wish says in
    let same = first_is words first (codes "add") behind (key ∷ word ∷ []) is other_is in
    let rests = rest_is words first (codes "add") behind (key ∷ word ∷ []) is other_is in
    let (number, reads) = good.number key word rests (ap (λ it. bytes_eq it (codes "add")) same) in
    absurd (none number reads)
no_fault words wish fault.Server says (word, other_is, none) =
    let (first, behind, is, good) = said words wish says in
    let same = first_is words first (codes "at") behind (word ∷ []) is other_is in
    let rests = rest_is words first (codes "at") behind (word ∷ []) is other_is in
    let (server, reads) = good.server word rests (ap (λ it. bytes_eq it (codes "at")) same) in
    absurd (none server reads)
no_fault words wish fault.Name says (word, other_is, none) =
    let (first, behind, is, good) = said words wish says in
    let same = first_is words first (codes "became") behind (word ∷ []) is other_is in
    let rests = rest_is words first (codes "became") behind (word ∷ []) is other_is in
    let (wid, reads) = good.name word rests (ap (λ it. bytes_eq it (codes "became")) same) in
    absurd (none wid reads)
no_fault words wish fault.OutOfMemory says faulty = refl
