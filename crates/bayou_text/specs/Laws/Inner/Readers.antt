-- What is read is so spelled, by the table; and what is so spelled is read.
use Rattle.std.proofs.Common.{◌≡◌, ◌⊎◌, inl, inr, ℕ, zero, suc, ◌<◌, ◌≤◌, ℤ, Bool, true, false, cond, ◌&&◌, ◌||◌, nat_le, List, [], ◌∷◌, length, get_or, Option, None, Some, option_map, option_and_then, Ok, Err, codes, refl, sym, ap, ◌∙◌, subst, arith, tests}
use Rattle.std.specs.List.{AllByRecursion, list_all, list_any, Contains}
use Rattle.std.specs.Option.{option_map_or, ok_or}
use Rattle.std.specs.Str.{bytes_eq}
use Rattle.std.proofs.lemmas.Slice.Eq.{bytes_eq-Decides}
use Rattle.serde_json.specs.Data.{Data, Num, null, boolean, number, unsigned, negative, float, string, array, object, Items, no_items, item, Members}
use Rattle.serde_json.specs.Find.{as_i64, as_u64, as_str, as_number, as_array, as_object}
use Rattle.serde_json.specs.View.{items_of}
use Rattle.bayou_base.specs.Key.{key_fault, prefix_fault}
use Rattle.bayou_base.specs.Text.{IsShort}
use Rattle.bayou_base.specs.declared.asks.Asks.{Asks}
use Rattle.bayou_base.specs.declared.key.KeyFault.{KeyFault}
use Rattle.bayou_base.specs.declared.limits.TheConstants.{MAX_TEXT_BYTES}
use Rattle.bayou_base.specs.declared.value.Value.{Value}
use Rattle.bayou_base.specs.declared.value.Value.TheVariants.{Num as Integer, Text}
use Rattle.bayou_text.specs.declared.line.LineFault.{LineFault}
use Rattle.bayou_text.specs.declared.line.LineFault.TheVariants as fault
use Rattle.bayou_text.specs.declared.line.Shape.TheVariants.{Name, Number, Word, Worth, Form}
use Rattle.bayou_text.specs.Asks.{is_ask, asked, asks_of, asks_in}
use Rattle.bayou_text.specs.Numbers.{number_in, integer_in, within}
use Rattle.bayou_text.specs.Reading.{Parsed, ◌>>=◌, listed, headed, worded, says}
use Rattle.bayou_text.specs.Spelling.{form}
use Rattle.bayou_text.specs.Table.{NumberIs, IntegerIs, ValueIs, KeyIs, PrefixIs, IsAsk, AsksAre}
use Rattle.bayou_text.specs.Values.{key_of, key_in, prefix_of, prefix_in, text_of, value_in}

-- ---- steps

pub bound : {A B : Type 0} (r : Parsed A) (f : A → Parsed B) (y : B) → (r >>= f) ≡ Ok y
    → (x : A) × (r ≡ Ok x) × (f x ≡ Ok y)
bound (Ok x) f y e = (x, refl, e)
bound (Err fault) f y e = absurd (cc)

pub chosen : {A : Type 0} (b : Bool) (x y z : A) → cond b x y ≡ z
    → ((b ≡ true) × (x ≡ z)) ⊎ ((b ≡ false) × (y ≡ z))
chosen true x y z e = inl (refl, e)
chosen false x y z e = inr (refl, e)

pub there : {A B : Type 0} (f : A → Parsed B) (o : Option A) (e : LineFault) (y : B) → (ok_or o e >>= f) ≡ Ok y
    → (x : A) × (o ≡ Some x) × (f x ≡ Ok y)
there f None e y given = absurd (cc)
there f (Some x) e y given = (x, refl, given)

pub same_word : (a b : List ℕ) → bytes_eq a b ≡ true → a ≡ b
same_word a b e = (bytes_eq-Decides a b).0 e

-- the word in front is this one, or what follows for others was read
pub word_or : {A : Type 0} (d : Data) (word name : List ℕ) (parts : List Data) (x y : Parsed A) (a : A)
    → d ≡ form word parts → cond (bytes_eq word name) x y ≡ Ok a
    → ((d ≡ form name parts) × (x ≡ Ok a)) ⊎ (y ≡ Ok a)
word_or d word name parts x y a is e = elim (chosen (bytes_eq word name) x y (Ok a) e) [
  | inl h ↦ inl (is ∙ ap (λ w. form w parts) (same_word word name h.0), h.1)
  | inr h ↦ inr h.1
]

pub own_word : (a : List ℕ) → bytes_eq a a ≡ true
own_word a = (bytes_eq-Decides a a).1 refl

-- ---- arrays

pub listed_items : (ds : List Data) → listed (items_of ds) ≡ ds
listed_items [] = refl
listed_items (d ∷ ds) = ap (λ es. d ∷ es) (listed_items ds)

pub items_listed : (items : Items) → items_of (listed items) ≡ items
items_listed no_items = refl
items_listed (item d items) = ap (item d) (items_listed items)

pub array_listed : (d : Data) (items : Items) → as_array d ≡ Some items → d ≡ array (items_of (listed items))
array_listed null items e = absurd (cc)
array_listed (boolean b) items e = absurd (cc)
array_listed (number n) items e = absurd (cc)
array_listed (string s) items e = absurd (cc)
array_listed (array found) items e = let same : found ≡ items = cc in ap array (same ∙ sym (items_listed items))
array_listed (object ms) items e = absurd (cc)

pub string_of : (d : Data) (text : List ℕ) → as_str d ≡ Some text → d ≡ string text
string_of null text e = absurd (cc)
string_of (boolean b) text e = absurd (cc)
string_of (number n) text e = absurd (cc)
string_of (string s) text e = let same : s ≡ text = cc in ap string same
string_of (array items) text e = absurd (cc)
string_of (object ms) text e = absurd (cc)

pub number_of : (d : Data) (n : Num) → as_number d ≡ Some n → d ≡ number n
number_of null n e = absurd (cc)
number_of (boolean b) n e = absurd (cc)
number_of (number m) n e = let same : m ≡ n = cc in ap number same
number_of (string s) n e = absurd (cc)
number_of (array items) n e = absurd (cc)
number_of (object ms) n e = absurd (cc)

pub object_of : (d : Data) (found : Members) → as_object d ≡ Some found → d ≡ object found
object_of null found e = absurd (cc)
object_of (boolean b) found e = absurd (cc)
object_of (number n) found e = absurd (cc)
object_of (string s) found e = absurd (cc)
object_of (array items) found e = absurd (cc)
object_of (object ms) found e = let same : ms ≡ found = cc in ap object same

head_of : (ds : List Data) (parts : List ℕ × List Data) → headed ds ≡ Some parts → ds ≡ string parts.0 ∷ parts.1
head_of [] parts e = absurd (cc)
head_of (d ∷ ds) parts e = word_of (as_str d) refl e where
  word_of : (o : Option (List ℕ)) → as_str d ≡ o
      → option_map {U = List ℕ × List Data} (λ word. (word, ds)) o ≡ Some parts
      → d ∷ ds ≡ string parts.0 ∷ parts.1
  word_of None was given = absurd (cc)
  word_of (Some word) was given = let same : (
    word,
    ds,
  ) ≡ parts = cc in subst (λ (p : List ℕ × List Data). d ∷ ds ≡ string p.0 ∷ p.1) same (ap
      (λ first. first ∷ ds) (string_of d word was))

form_of : (d : Data) (parts : List ℕ × List Data) (o : Option Items) → as_array d ≡ o
    → (option_map_or (λ items. headed (listed items)) o None) ≡ Some parts → d ≡ form parts.0 parts.1
form_of d parts None was e = absurd (cc)
form_of d parts (Some items) was e = array_listed d items was
    ∙ ap (λ ds. array (items_of ds)) (head_of (listed items) parts e)

and_then_is : {A B : Type 0} (f : A → Option B) (o : Option A) → option_and_then f o ≡ option_map_or f o None
and_then_is f None = refl
and_then_is f (Some x) = refl

pub worded_of : (d : Data) (parts : List ℕ × List Data) → worded d ≡ Some parts → d ≡ form parts.0 parts.1
worded_of d parts e = form_of d parts (as_array d) refl
    (sym (and_then_is (λ items. headed (listed items)) (as_array d)) ∙ e)

pub worded_form : (word : List ℕ) (parts : List Data) → worded (form word parts) ≡ Some (word, parts)
worded_form word parts = ap (λ ds. Some (word, ds)) (listed_items parts)

-- ---- numbers, keys, prefixes and values

within_of : (least most m n : ℕ) → within least most m ≡ Ok n → (m ≡ n) × ((least ≤ n) × (n ≤ most))
within_of least most m n e = elim
    (chosen (nat_le least m && nat_le m most) (Ok m) (Err (fault.BadShape Number)) (Ok n) e) [
      | inl h ↦ let same : m ≡ n = cc in (same, grind (arith, tests))
      | inr h ↦ absurd (cc)
    ]

unsigned_of : (d : Data) (o : Option Num) (n : ℕ) → as_number d ≡ o → option_and_then as_u64 o ≡ Some n
    → d ≡ number (unsigned n)
unsigned_of d None n was e = absurd (cc)
unsigned_of d (Some (unsigned m)) n was e = let same : m ≡ n = cc in number_of d (unsigned m) was
    ∙ ap (λ k. number (unsigned k)) same
unsigned_of d (Some (negative z)) n was e = absurd (cc)
unsigned_of d (Some (float x)) n was e = absurd (cc)

pub number_found : (least most : ℕ) (d : Data) (n : ℕ) → number_in least most d ≡ Ok n
    → NumberIs d n × ((least ≤ n) × (n ≤ most))
number_found least most d n e =
    let some = there (within least most) (option_and_then as_u64 (as_number d)) (fault.BadShape Number) n e in
    let ranged = within_of least most some.0 n some.2 in
    (unsigned_of d (as_number d) n refl (some.1 ∙ ap Some ranged.0), ranged.1)

pub number_read : (least most : ℕ) (d : Data) (n : ℕ) → NumberIs d n → least ≤ n → n ≤ most
    → number_in least most d ≡ Ok n
number_read least most d n is low high = rw is (grind (arith, tests))

some_of : {A : Type 0} (o : Option A) (e : LineFault) (x : A) → ok_or o e ≡ Ok x → o ≡ Some x
some_of None e x given = absurd (cc)
some_of (Some y) e x given = let same : y ≡ x = cc in ap Some same

integer_of : (d : Data) (o : Option Num) (n : ℤ) → as_number d ≡ o → option_and_then as_i64 o ≡ Some n
    → IntegerIs d n
integer_of d None n was e = absurd (cc)
integer_of d (Some m) n was e = (m, number_of d m was, e)

pub integer_found : (d : Data) (n : ℤ) → integer_in d ≡ Ok n → IntegerIs d n
integer_found d n e = integer_of d (as_number d) n refl (some_of _ _ n e)

pub integer_read : (d : Data) (n : ℤ) → IntegerIs d n → integer_in d ≡ Ok n
integer_read d n is = rw is.1 (rw is.2)

key_of_is : (name key : List ℕ) (o : Option KeyFault) → key_fault name ≡ o
    → option_map_or (λ why. Err (fault.Key why)) o (Ok name) ≡ Ok key → (name ≡ key) × (key_fault key ≡ None)
key_of_is name key None was e = let same : name ≡ key = cc in (same, sym (ap key_fault same) ∙ was)
key_of_is name key (Some why) was e = absurd (cc)

pub key_found : (d : Data) (key : List ℕ) → key_in d ≡ Ok key → KeyIs d key
key_found d key e =
    let some = there key_of (as_str d) (fault.BadShape Name) key e in
    let valid = key_of_is some.0 key (key_fault some.0) refl some.2 in
    (string_of d some.0 some.1 ∙ ap string valid.0, valid.1)

pub key_read : (d : Data) (key : List ℕ) → KeyIs d key → key_in d ≡ Ok key
key_read d key is = rw is.0 (rw is.1)

prefix_of_is : (text prefix : List ℕ) (o : Option KeyFault) → prefix_fault text ≡ o
    → option_map_or (λ why. Err (fault.Key why)) o (Ok text) ≡ Ok prefix → (text ≡ prefix) × (prefix_fault prefix ≡ None)
prefix_of_is text prefix None was e = let same : text ≡ prefix = cc in (same, sym (ap prefix_fault same) ∙ was)
prefix_of_is text prefix (Some why) was e = absurd (cc)

pub prefix_found : (d : Data) (prefix : List ℕ) → prefix_in d ≡ Ok prefix → PrefixIs d prefix
prefix_found d prefix e =
    let some = there prefix_of (as_str d) (fault.BadShape Name) prefix e in
    let valid = prefix_of_is some.0 prefix (prefix_fault some.0) refl some.2 in
    (string_of d some.0 some.1 ∙ ap string valid.0, valid.1)

pub prefix_read : (d : Data) (prefix : List ℕ) → PrefixIs d prefix → prefix_in d ≡ Ok prefix
prefix_read d prefix is = rw is.0 (rw is.1)

text_of_is : (text : List ℕ) (v : Value) → text_of text ≡ Ok v → (v ≡ Text text) × IsShort text
text_of_is text v e = elim
    (chosen (nat_le (length text) MAX_TEXT_BYTES) (Ok (Text text)) (Err (fault.BadShape Worth)) (Ok v) e) [
      | inl h ↦ let same : Text text ≡ v = cc in (sym same, grind (arith, tests))
      | inr h ↦ absurd (cc)
    ]

text_found : (d : Data) (v : Value) → (ok_or (as_str d) (fault.BadShape Worth) >>= text_of) ≡ Ok v
    → ValueIs d v
text_found d v e =
    let some = there text_of (as_str d) (fault.BadShape Worth) v e in
    let short = text_of_is some.0 v some.2 in
    subst (λ (w : Value). ValueIs d w) (sym short.0) (string_of d some.0 some.1, short.1)

integer_from : (d : Data) (m : Num) (o : Option ℤ) (v : Value) → as_number d ≡ Some m → as_i64 m ≡ o
    → option_map_or (λ n. Ok (Integer n)) o
    (ok_or (as_str d) (fault.BadShape Worth) >>= text_of) ≡ Ok v → ValueIs d v
integer_from d m None v was fits e = text_found d v e
integer_from d m (Some n) v was fits e =
    let same : Integer n ≡ v = cc in
    subst (λ (w : Value). ValueIs d w) same (m, number_of d m was, fits)

value_from : (d : Data) (o : Option Num) (v : Value) → as_number d ≡ o
    → option_map_or (λ n. Ok (Integer n)) (option_and_then as_i64 o)
    (ok_or (as_str d) (fault.BadShape Worth) >>= text_of) ≡ Ok v → ValueIs d v
value_from d None v was e = text_found d v e
value_from d (Some m) v was e = integer_from d m (as_i64 m) v was refl e

pub value_found : (d : Data) (v : Value) → value_in d ≡ Ok v → ValueIs d v
value_found d v e = value_from d (as_number d) v refl e

pub value_read : (d : Data) (v : Value) → ValueIs d v → value_in d ≡ Ok v
value_read d (Integer n) is = rw is.1 (rw is.2)
value_read d (Text text) is = rw is.0 (grind (arith, tests, is.1))

-- ---- asks

says_of : (word : List ℕ) (d : Data) (o : Option (List ℕ)) → as_str d ≡ o
    → option_map_or (λ text. bytes_eq text word) o false ≡ true → d ≡ string word
says_of word d None was e = absurd (cc)
says_of word d (Some text) was e = string_of d text was ∙ ap string (same_word text word e)

pub says_is : (word : List ℕ) (d : Data) → says word d ≡ true → d ≡ string word
says_is word d e = says_of word d (as_str d) refl e

pub is_said : (word : List ℕ) (d : Data) → d ≡ string word → says word d ≡ true
is_said word d e = rw e (own_word word)

pub or_true : (a b : Bool) → (a || b) ≡ true → (a ≡ true) ⊎ (b ≡ true)
or_true true b e = inl refl
or_true false b e = inr e

ask_of : (d : Data) → is_ask d ≡ true → IsAsk d
ask_of d e = elim (or_true _ _ e) [
  | inr mw ↦ inr (inr (inr (says_is _ d mw)))
  | inl abc ↦ elim (or_true _ _ abc) [
    | inr wfr ↦ inr (inr (inl (says_is _ d wfr)))
    | inl ab ↦ elim (or_true _ _ ab) [
      | inr mr ↦ inr (inl (says_is _ d mr))
      | inl ryw ↦ inl (says_is _ d ryw)
    ]
  ]
]

of_ask : (d : Data) → IsAsk d → is_ask d ≡ true
of_ask d (inl e) = rw e
of_ask d (inr (inl e)) = rw e
of_ask d (inr (inr (inl e))) = rw e
of_ask d (inr (inr (inr e))) = rw e

pub and_true : (a b : Bool) → (a && b) ≡ true → (a ≡ true) × (b ≡ true)
and_true true b e = (refl, e)
and_true false b e = absurd (cc)

or_right : (a b : Bool) → b ≡ true → (a || b) ≡ true
or_right true b e = refl
or_right false b e = e

pub all_of : {A : Type 0} (test : A → Bool) (Is : A → Type 0) → ((x : A) → test x ≡ true → Is x)
    → (xs : List A) → list_all test xs ≡ true → AllByRecursion Is xs
all_of test Is each [] e = tt
all_of test Is each (x ∷ xs) e = let parts = and_true (test x) (list_all test xs) e in (
  each x parts.0,
  all_of test Is each xs parts.1,
)

pub of_all : {A : Type 0} (test : A → Bool) (Is : A → Type 0) → ((x : A) → Is x → test x ≡ true)
    → (xs : List A) → AllByRecursion Is xs → list_all test xs ≡ true
of_all test Is each [] h = refl
of_all test Is each (x ∷ xs) h = rw (each x h.0, of_all test Is each xs h.1)

contained : (word : List ℕ) (ds : List Data) → list_any (says word) ds ≡ true → Contains ds (string word)
contained word [] e = absurd (cc)
contained word (d ∷ ds) e = elim (or_true (says word d) (list_any (says word) ds) e) [
  | inl first ↦ (0, omega arith, says_is word d first)
  | inr others ↦ let rest = contained word ds others in (suc rest.0, omega (arith, rest.1), rest.2)
]

containing_at : (word : List ℕ) (ds : List Data) (k : ℕ) → k < length ds
    → get_or ds k (string word) ≡ string word → list_any (says word) ds ≡ true
containing_at word [] k below here = absurd (omega arith)
containing_at word (d ∷ ds) zero below here = rw (is_said word d here)
containing_at word (d ∷ ds) (suc k) below here = or_right (says word d) _
    (containing_at word ds k (omega arith) here)

containing : (word : List ℕ) (ds : List Data) → Contains ds (string word) → list_any (says word) ds ≡ true
containing word ds h = containing_at word ds h.0 h.1 h.2

asks_of_is : (d : Data) (ds : List Data) (asks : Asks) → d ≡ array (items_of ds) → asks_of ds ≡ Ok asks
    → AsksAre d asks
asks_of_is d ds asks is e = elim
    (chosen (list_all is_ask ds) (Ok (asked ds)) (Err (fault.BadShape Word)) (Ok asks) e) [
      | inl h ↦
          let same : asked ds ≡ asks = cc in
          subst (λ (a : Asks). AsksAre d a) same (record {
            words = ds;
            array_is = is;
            known = all_of is_ask IsAsk ask_of ds h.0;
            ryw = (contained (codes "ryw") ds, containing (codes "ryw") ds);
            mr = (contained (codes "mr") ds, containing (codes "mr") ds);
            wfr = (contained (codes "wfr") ds, containing (codes "wfr") ds);
            mw = (contained (codes "mw") ds, containing (codes "mw") ds);
          })
      | inr h ↦ absurd (cc)
    ]

pub asks_found : (d : Data) (asks : Asks) → asks_in d ≡ Ok asks → AsksAre d asks
asks_found d asks e =
    let some = there (λ items. asks_of (listed items)) (as_array d) (fault.BadShape Form) asks e in
    asks_of_is d (listed some.0) asks (array_listed d some.0 some.1) some.2

same_bool : (a b : Bool) → (a ≡ true → b ≡ true) → (b ≡ true → a ≡ true) → a ≡ b
same_bool true b to from = sym (to refl)
same_bool false true to from = from refl
same_bool false false to from = refl

pub asks_read : (d : Data) (asks : Asks) → AsksAre d asks → asks_in d ≡ Ok asks
asks_read d asks is =
    let ryw : list_any (says (codes "ryw")) is.words ≡ asks.ryw = same_bool _ _
    (λ e. is.ryw.1 (contained _ _ e)) (λ e. containing _ _ (is.ryw.0 e)) in
    let mr : list_any (says (codes "mr")) is.words ≡ asks.mr = same_bool _ _ (λ e. is.mr.1 (contained _ _ e))
    (λ e. containing _ _ (is.mr.0 e)) in
    let wfr : list_any (says (codes "wfr")) is.words ≡ asks.wfr = same_bool _ _
    (λ e. is.wfr.1 (contained _ _ e)) (λ e. containing _ _ (is.wfr.0 e)) in
    let mw : list_any (says (codes "mw")) is.words ≡ asks.mw = same_bool _ _ (λ e. is.mw.1 (contained _ _ e))
    (λ e. containing _ _ (is.mw.0 e)) in
    let all : asks_of is.words ≡ Ok asks = rw (of_all is_ask IsAsk of_ask is.words is.known, ryw, mr, wfr, mw) in
    rw is.array_is (ap asks_of (listed_items is.words) ∙ all)
