-- The name of a Write: the number of its server, a colon and its own number.
use Rattle.std.proofs.Common.{◌≡◌, ◌≢◌, ◌∙◌, ◌<◌, ◌≤◌, ◌^◌, ℕ, ◌++◌, ◌∷◌, Bor, MatchOption, None, Option, Some, IsSome, IfSome, ◌↔◌, ap, arith, decimal, get_or, length, sym, subst, ap₂, Result, Ok, Err, [], drop, refl, suc, true≢false}
use Rattle.std.proofs.lemmas.Fmt.{decimal_injective, digits_decimal}
use Rattle.std.proofs.lemmas.Str.Parse.{IsNumeralModel, not_in_digits, numerals_by_value, tells_digits}
use Rattle.std.proofs.lemmas.Str.Pattern.{IsSplitOnceResult, split_after, split_parts}
use Rattle.std.specs.Result.{OkIff, result_ok}
use Rattle.std.specs.Str.Parse.{AllDigits, digits_value}
use Rattle.bayou_base.specs.declared.limits.TheConstants.{MAX_WRITES, SERVERS}
use Rattle.bayou_base.specs.declared.server.ServerId.{ServerId}
use Rattle.bayou_base.specs.declared.wid.Wid.{Wid}
use Rattle.bayou_lang.specs.Laws.Equality.{server-ext, wid-ext}
use Rattle.bayou_person.specs.Wishes.{ReadsName, Word}

abbrev number_or : ℕ → Option ℕ → ℕ
number_or n None = n
number_or n (Some m) = m

own : IsNumeralModel (AllDigits 10) (digits_value 10)
own = numerals_by_value (AllDigits 10) tells_digits

-- no byte is a colon
abbrev HasNoColon : Word → Type 0
HasNoColon word = (i : ℕ) → i < length word → get_or word i 0 ≢ 58

-- no digit is a colon
no_colon : (n : ℕ) → n < 2 ^ 64 → HasNoColon (decimal n)
no_colon n small = not_in_digits own (decimal n) 58 (digits_decimal own n small) (λ range. absurd (omega (arith, range.1)))

-- the numbers of servers and Writes are small
origin_small : (server : ServerId) → server.index < 2 ^ 64
origin_small server = omega (arith, server.in_range)

seq_small : (wid : Wid) → wid.seq < 2 ^ 64
seq_small wid = omega (arith, wid.in_range.1)

-- a word spells one number
pub count_once : (word : Word) (one other : ℕ) → one < 2 ^ 64 → other < 2 ^ 64 → word ≡ decimal one → word ≡ decimal other → one ≡ other
count_once word one other small few first second = decimal_injective one other small few (sym first ∙ second)

-- the first colon of a name stands between the number of the server and the Write's own
pub name_parts : (word : Word) (parts : Option (Bor Word × Bor Word)) (wid : Wid) → IsSplitOnceResult 58 word parts → ReadsName word wid
    → MatchOption parts ⊥ (λ two. (two.0.now ≡ decimal wid.origin.index) × (two.1.now ≡ decimal wid.seq))
name_parts word parts wid splits reads =
    split_after 58 word (decimal wid.origin.index) (decimal wid.seq) parts splits (omega arith) reads (no_colon wid.origin.index (origin_small wid.origin))

-- a number past those of servers is no server's
pub no_origin : (word : Word) (count : ℕ) → count < 2 ^ 32 → word ≡ decimal count → ¬ (count < SERVERS) → (server : ServerId) → word ≢ decimal server.index
no_origin word count small is past server spelled =
    past (subst (λ n. n < SERVERS) (sym (count_once word count server.index (omega (arith, small)) (origin_small server) is spelled)) server.in_range)

-- and one that no Write has is no Write's
pub no_seq : (word : Word) (count : ℕ) → count < 2 ^ 32 → word ≡ decimal count → ¬ ((0 < count) × (count ≤ MAX_WRITES)) → (wid : Wid) → word ≢ decimal wid.seq
no_seq word count small is past wid spelled =
    past (subst (λ n. (0 < n) × (n ≤ MAX_WRITES)) (sym (count_once word count wid.seq (omega (arith, small)) (seq_small wid) is spelled)) wid.in_range)

-- a number is a byte where it is small enough
pub past_byte : {E : Type 0} (tried : Result ℕ E) (count : ℕ) → OkIff tried (count < 256) count → None ≡ result_ok tried → ¬ (count < 256)
past_byte (Ok byte) count ok is = absurd (cc)
past_byte (Err why) count ok is = ok

pub same_byte : {E : Type 0} (tried : Result ℕ E) (count byte : ℕ) → OkIff tried (count < 256) count → Some byte ≡ result_ok tried → count ≡ byte
same_byte (Ok other) count byte ok is = sym ok.1 ∙ ap (number_or 0) (sym is)
same_byte (Err why) count byte ok is = absurd (cc)

-- the server of this number, if there can be one
pub origin_told : (word : Word) (count : ℕ) (server : Option ServerId) → count < 2 ^ 32 → word ≡ decimal count → IsSome server ↔ (count < SERVERS)
    → IfSome server (λ it. it.index ≡ count) → MatchOption server ((it : ServerId) → word ≢ decimal it.index) (λ it. word ≡ decimal it.index)
origin_told word count None small is within value = no_origin word count small is (λ few. absurd (true≢false (sym (within.1 few))))
origin_told word count (Some it) small is within value = is ∙ ap decimal (sym value)

-- the Write of this number, if there can be one
pub write_told : (word : Word) (count : ℕ) (origin : ServerId) (write : Option Wid) → count < 2 ^ 32 → word ≡ decimal count
    → IsSome write ↔ ((0 < count) × (count ≤ MAX_WRITES)) → IfSome write (λ it. (it.origin ≡ origin) × (it.seq ≡ count))
    → MatchOption write ((it : Wid) → word ≢ decimal it.seq) (λ it. (it.origin ≡ origin) × (word ≡ decimal it.seq))
write_told word count origin None small is within value = no_seq word count small is (λ few. absurd (true≢false (sym (within.1 few))))
write_told word count origin (Some it) small is within value = (value.0, is ∙ ap decimal (sym value.1))

-- without a colon it is no name
pub no_parts : (word : Word) (parts : Option (Bor Word × Bor Word)) → IsSplitOnceResult 58 word parts → parts ≡ None → (wid : Wid) → ¬ (ReadsName word wid)
no_parts word parts splits is wid reads =
    subst (λ it. MatchOption it ⊥ (λ two. (two.0.now ≡ decimal wid.origin.index) × (two.1.now ≡ decimal wid.seq))) is (name_parts word parts wid splits reads)

-- the parts of a name are the number of its server and its own
pub parts_are : (word : Word) (parts : Option (Bor Word × Bor Word)) (front back : Bor Word) (wid : Wid) → IsSplitOnceResult 58 word parts
    → parts ≡ Some (front, back) → ReadsName word wid → (front.now ≡ decimal wid.origin.index) × (back.now ≡ decimal wid.seq)
parts_are word parts front back wid splits is reads =
    subst (λ it. MatchOption it ⊥ (λ two. (two.0.now ≡ decimal wid.origin.index) × (two.1.now ≡ decimal wid.seq))) is (name_parts word parts wid splits reads)

-- and stand there with a colon between
halves_are : (word : Word) (parts : Option (Bor Word × Bor Word)) (front back : Bor Word) → IsSplitOnceResult 58 word parts → parts ≡ Some (front, back)
    → word ≡ front.now ++ (58 ∷ back.now)
halves_are word parts front back splits is =
    (subst (λ it. MatchOption it (HasNoColon word) (λ two. (word ≡ two.0.now ++ (58 ∷ two.1.now)) × HasNoColon two.0.now)) is
    (split_parts 58 word parts splits (omega arith))).0

-- two numbers with a colon between are a name
pub name_told : (word : Word) (parts : Option (Bor Word × Bor Word)) (front back : Bor Word) (origin : ServerId) (write : Option Wid)
    → IsSplitOnceResult 58 word parts → parts ≡ Some (front, back) → front.now ≡ decimal origin.index
    → MatchOption write ((it : Wid) → back.now ≢ decimal it.seq) (λ it. (it.origin ≡ origin) × (back.now ≡ decimal it.seq))
    → MatchOption write ((wid : Wid) → ¬ (ReadsName word wid)) (ReadsName word)
name_told word parts front back origin None splits is begins told = λ wid reads. told wid (parts_are word parts front back wid splits is reads).1
name_told word parts front back origin (Some it) splits is begins told =
    halves_are word parts front back splits is ∙ ap₂ (λ one other. one ++ (58 ∷ other)) (begins ∙ ap (λ (server : ServerId). decimal server.index) (sym told.0)) told.1

no_colon_behind : (byte : ℕ) (word : Word) → HasNoColon (byte ∷ word) → HasNoColon word
no_colon_behind byte word none i within = none (suc i) (omega (arith, within))

-- two words with one first colon are the same before it and behind it
halves_once : (front back other rest : Word) → HasNoColon front → HasNoColon other → front ++ (58 ∷ back) ≡ other ++ (58 ∷ rest)
    → (front ≡ other) × (back ≡ rest)
halves_once [] back [] rest none same is = (refl, ap (drop 1) is)
halves_once [] back (byte ∷ other) rest none same is = absurd (same 0 (omega arith) (sym (ap (λ list. get_or list 0 0) is)))
halves_once (byte ∷ front) back [] rest none same is = absurd (none 0 (omega arith) (ap (λ list. get_or list 0 0) is))
halves_once (byte ∷ front) back (one ∷ other) rest none same is =
    let halves = halves_once front back other rest (no_colon_behind byte front none) (no_colon_behind one other same) (ap (drop 1) is) in
    (ap₂ ◌∷◌ (ap (λ list. get_or list 0 byte) is) halves.0, halves.1)

-- a word is the name of one Write
pub name_once : (word : Word) (one other : Wid) → ReadsName word one → ReadsName word other → one ≡ other
name_once word one other first second =
    let halves = halves_once (decimal one.origin.index) (decimal one.seq) (decimal other.origin.index) (decimal other.seq)
    (no_colon one.origin.index (origin_small one.origin)) (no_colon other.origin.index (origin_small other.origin)) (sym first ∙ second) in
    wid-ext one other
    (server-ext one.origin other.origin (decimal_injective one.origin.index other.origin.index (origin_small one.origin) (origin_small other.origin) halves.0))
    (decimal_injective one.seq other.seq (seq_small one) (seq_small other) halves.1)
