-- Which keys stand in a list that grows.
use Rattle.std.proofs.Common.{◌≡◌, ◌∙◌, ◌+◌, ◌<◌, ◌||◌, ℕ, Bool, true, false, List, [], ◌∷◌, ◌++◌, ap, cond, get_or, length, map, refl, sym, take}
use Rattle.std.specs.List.{flat_map}
use Rattle.std.proofs.lemmas.Grind.{flat_map-append}
use Rattle.std.proofs.lemmas.List.{append-nil, map-append, take_more}
use Rattle.std.proofs.lemmas.List.Concat.{flat_map-cons}
use Rattle.std.proofs.lemmas.List.Folds.{list_any-append}
use Rattle.bayou_connect.specs.Beyond.{is_among, is_key}

pub or_assoc : (a b c : Bool) → (a || (b || c)) ≡ ((a || b) || c)
or_assoc true b c = refl
or_assoc false b c = refl

pub or_false : (a : Bool) → (a || false) ≡ a
or_false true = refl
or_false false = refl

-- a key that is put among others is one of them from then on
pub put_among : (is had : Bool) → cond is true had ≡ (had || is)
put_among true true = refl
put_among true false = refl
put_among false true = refl
put_among false false = refl

among-append : (first second : List (List ℕ)) (key : List ℕ) → is_among (first ++ second) key ≡ (is_among first key || is_among second key)
among-append first second key = list_any-append (λ (one : List ℕ). is_key one key) first second

-- one element more
pub among_more : {X : Type 0} (key_in : X → List ℕ) (xs : List X) (at : ℕ) (d : X) → at < length xs → (key : List ℕ)
    → is_among (map key_in (take (at + 1) xs)) key ≡ (is_among (map key_in (take at xs)) key || is_key (key_in (get_or xs at d)) key)
among_more {X} key_in xs at d within key =
    let here = key_in (get_or xs at d) in
    let before = map key_in (take at xs) in
    let split : map key_in (take (at + 1) xs) ≡ before ++ here ∷ [] = ap (map key_in) (take_more xs at d within) ∙ map-append key_in (take at xs) (get_or xs at d ∷ []) in
    let alone : is_among (here ∷ []) key ≡ is_key here key = or_false (is_key here key) in
    let both : is_among (before ++ here ∷ []) key ≡ (is_among before key || is_among (here ∷ []) key) = among-append before (here ∷ []) key in
    let whole : is_among (map key_in (take (at + 1) xs)) key ≡ is_among (before ++ here ∷ []) key = ap (λ (l : List (List ℕ)). is_among l key) split in
    whole ∙ both ∙ ap (λ b. is_among before key || b) alone

-- the keys of one element more
pub among_all_more : {X : Type 0} (keys_in : X → List (List ℕ)) (first : List (List ℕ)) (xs : List X) (at : ℕ) (d : X) → at < length xs → (key : List ℕ)
    → is_among (first ++ flat_map keys_in (take (at + 1) xs)) key ≡ (is_among (first ++ flat_map keys_in (take at xs)) key || is_among (keys_in (get_or xs at d)) key)
among_all_more {X} keys_in first xs at d within key =
    let here = keys_in (get_or xs at d) in
    let before = flat_map keys_in (take at xs) in
    let split : flat_map keys_in (take (at + 1) xs) ≡ before ++ here =
    ap (flat_map keys_in) (take_more xs at d within) ∙ flat_map-append keys_in (take at xs) (get_or xs at d ∷ [])
    ∙ ap (λ (l : List (List ℕ)). before ++ l) (flat_map-cons keys_in (get_or xs at d) [] ∙ append-nil here) in
    let whole : is_among (first ++ flat_map keys_in (take (at + 1) xs)) key ≡ is_among (first ++ (before ++ here)) key = ap (λ (l : List (List ℕ)). is_among (first ++ l) key) split in
    let one : is_among (first ++ (before ++ here)) key ≡ (is_among first key || is_among (before ++ here) key) = among-append first (before ++ here) key in
    let two : (is_among first key || is_among (before ++ here) key) ≡ (is_among first key || (is_among before key || is_among here key)) = ap (λ b. is_among first key || b) (among-append before here key) in
    let three : (is_among (first ++ before) key || is_among here key) ≡ ((is_among first key || is_among before key) || is_among here key) = ap (λ b. b || is_among here key) (among-append first before key) in
    whole ∙ one ∙ two ∙ or_assoc (is_among first key) (is_among before key) (is_among here key) ∙ sym three
