-- Parts of programs that are read are so spelled, by the table; and those that are so spelled are read.
use Rattle.std.proofs.Common.{◌≡◌, inl, inr, ℕ, ◌-◌, ◌<◌, ◌^◌, List, [], ◌∷◌, Option, None, Some, Ok, Err, codes, subst, arith}
use Rattle.std.specs.Option.{option_map_or}
use Rattle.serde_json.specs.Data.{Data, Items}
use Rattle.serde_json.specs.Find.{as_array}
use Rattle.bayou_base.specs.declared.value.Value.{Value}
use Rattle.bayou_base.specs.declared.value.Value.TheVariants.{Num as Integer, Text}
use Rattle.bayou_lang.specs.declared.program.Term.{Term}
use Rattle.bayou_lang.specs.declared.program.Term.TheVariants.{Lit, Copy, Plus}
use Rattle.bayou_lang.specs.declared.program.Op.{Op}
use Rattle.bayou_lang.specs.declared.program.Op.TheVariants.{Put, Del}
use Rattle.bayou_lang.specs.declared.program.Cond.{Cond}
use Rattle.bayou_lang.specs.declared.program.Cond.TheVariants.{Equals, Absent, AtLeast, AtMost}
use Rattle.bayou_text.specs.declared.line.LineFault.TheVariants.{BadShape}
use Rattle.bayou_text.specs.declared.line.Shape.TheVariants.{Form, Word}
use Rattle.bayou_text.specs.Laws.Inner.Readers.{bound, there, word_or, worded_of, key_found, key_read, prefix_found, prefix_read, value_found, value_read, integer_found, integer_read, number_found, number_read}
use Rattle.bayou_text.specs.Numbers.{integer_in, most_in}
use Rattle.bayou_text.specs.Parts.{named_in, keyed_in, plus_in, term_of, array_term_in, term_in, put_in, op_of, op_in, equals_in, at_least_in, at_most_in, cond_of, cond_in}
use Rattle.bayou_text.specs.Reading.{◌>>=◌, worded}
use Rattle.bayou_text.specs.Spelling.{form}
use Rattle.bayou_text.specs.Table.{KeyIs, PrefixIs, NumberIs, IntegerIs, ValueIs, NamedIs, KeyedIs, TermIs, OpIs, CondIs}
use Rattle.bayou_text.specs.Values.{key_in, prefix_in, value_in}

-- ---- what stands after a word

named_found : (word : List ℕ) (d : Data) (parts : List Data) (key : List ℕ) → d ≡ form word parts
    → named_in parts ≡ Ok key → NamedIs word d key
unfolding named_in
named_found word d [] key is e = absurd (cc)
named_found word d (k ∷ []) key is e = record { key_data = k; form_is = is; key_is = key_found k key e }
named_found word d (k ∷ other ∷ more) key is e = absurd (cc)

keyed_found : (word : List ℕ) (Is : Data → Type 0) (d : Data) (parts : List Data) (named : List ℕ × Data)
    → d ≡ form word parts → keyed_in parts ≡ Ok named → Is named.1 → KeyedIs word Is d named.0
unfolding keyed_in
keyed_found word Is d [] named is e last = absurd (cc)
keyed_found word Is d (k ∷ []) named is e last = absurd (cc)
keyed_found word Is d (k ∷ l ∷ []) named is e last =
    let key = bound {B = List ℕ × Data} (key_in k) (λ name. Ok (name, l)) named e in
    let same : (key.0, l) ≡ named = cc in
    subst (λ (pair : List ℕ × Data). Is pair.1 → KeyedIs word Is d pair.0) same (λ here. record {
      key_data = k;
      last_data = l;
      form_is = is;
      key_is = key_found k key.0 key.1;
      last_is = here;
    }) last
keyed_found word Is d (k ∷ l ∷ other ∷ more) named is e last = absurd (cc)

named_read : (k : Data) (key : List ℕ) → KeyIs k key → named_in (k ∷ []) ≡ Ok key
unfolding named_in
named_read k key is = key_read k key is

keyed_read : (k l : Data) (key : List ℕ) → KeyIs k key → keyed_in (k ∷ l ∷ []) ≡ Ok (key, l)
unfolding keyed_in
keyed_read k l key is = rw (key_read k key is)

-- ---- terms

literal_found : (d : Data) (t : Term) → (value_in d >>= λ value. Ok (Lit value)) ≡ Ok t → TermIs d t
literal_found d t e =
    let some = bound (value_in d) (λ value. Ok (Lit value)) t e in
    let same : Lit some.0 ≡ t = cc in
    subst (λ (u : Term). TermIs d u) same (value_found d some.0 some.1)

copy_found : (d : Data) (parts : List Data) (t : Term) → d ≡ form (codes "copy") parts
    → (named_in parts >>= λ key. Ok (Copy key)) ≡ Ok t → TermIs d t
copy_found d parts t is e =
    let key = bound (named_in parts) (λ key. Ok (Copy key)) t e in
    let same : Copy key.0 ≡ t = cc in
    subst (λ (u : Term). TermIs d u) same (named_found (codes "copy") d parts key.0 is key.1)

plus_found : (d : Data) (parts : List Data) (t : Term) → d ≡ form (codes "plus") parts → plus_in parts ≡ Ok t
    → TermIs d t
plus_found d parts t is e =
    let named = bound (keyed_in parts) (λ named. integer_in named.1 >>= λ n. Ok (Plus named.0 n)) t e in
    let n = bound (integer_in named.0.1) (λ n. Ok (Plus named.0.0 n)) t named.2 in
    let same : Plus named.0.0 n.0 ≡ t = cc in
    subst (λ (u : Term). TermIs d u) same
    (keyed_found (codes "plus") (λ last. IntegerIs last n.0) d parts named.0 is named.1
    (integer_found named.0.1 n.0 n.1))

term_of_is : (d : Data) (word : List ℕ) (parts : List Data) (t : Term) → d ≡ form word parts
    → term_of word parts ≡ Ok t → TermIs d t
term_of_is d word parts t is e = elim
    (word_or d word (codes "copy") parts (named_in parts >>= λ key. Ok (Copy key)) _ t is e) [
      | inl h ↦ copy_found d parts t h.0 h.1
      | inr h ↦ elim (word_or d word (codes "plus") parts (plus_in parts) (Err (BadShape Word)) t is h) [
        | inl k ↦ plus_found d parts t k.0 k.1
        | inr k ↦ absurd (cc)
      ]
    ]

term_from : (d : Data) (o : Option Items) (t : Term)
    → option_map_or (λ _. array_term_in d) o (value_in d >>= λ value. Ok (Lit value)) ≡ Ok t → TermIs d t
term_from d None t e = literal_found d t e
term_from d (Some items) t e =
    let some = there (λ parts. term_of parts.0 parts.1) (worded d) (BadShape Form) t e in
    term_of_is d some.0.0 some.0.1 t (worded_of d some.0 some.1) some.2

pub term_found : (d : Data) (t : Term) → term_in d ≡ Ok t → TermIs d t
unfolding term_in
term_found d t e = term_from d (as_array d) t e

literal_read : (d : Data) (v : Value) → as_array d ≡ None → ValueIs d v → term_in d ≡ Ok (Lit v)
unfolding term_in
literal_read d v plain is = rw (plain, value_read d v is)

no_array : (d : Data) (v : Value) → ValueIs d v → as_array d ≡ None
no_array d (Integer n) is = rw is.1
no_array d (Text text) is = rw is.0

copy_read : (k : Data) (key : List ℕ) → KeyIs k key → term_in (form (codes "copy") (k ∷ [])) ≡ Ok (Copy key)
unfolding term_in
copy_read k key is = rw (named_read k key is)

plus_read : (k l : Data) (key : List ℕ) (t : Term) → KeyIs k key
    → (integer_in l >>= λ n. Ok (Plus key n)) ≡ Ok t → term_in (form (codes "plus") (k ∷ l ∷ [])) ≡ Ok t
unfolding term_in
plus_read k l key t is e = rw (keyed_read k l key is) e

pub term_read : (d : Data) (t : Term) → TermIs d t → term_in d ≡ Ok t
term_read d (Lit v) is = literal_read d v (no_array d v is) is
term_read d (Copy key) is = rw is.form_is (copy_read is.key_data key is.key_is)
term_read d (Plus key n) is = rw is.form_is (plus_read is.key_data is.last_data key (Plus key n) is.key_is
    (rw (integer_read is.last_data n is.last_is)))

-- ---- ops

put_found : (d : Data) (parts : List Data) (o : Op) → d ≡ form (codes "put") parts → put_in parts ≡ Ok o
    → OpIs d o
put_found d parts o is e =
    let named = bound (keyed_in parts) (λ named. term_in named.1 >>= λ term. Ok (Put named.0 term)) o e in
    let term = bound (term_in named.0.1) (λ term. Ok (Put named.0.0 term)) o named.2 in
    let same : Put named.0.0 term.0 ≡ o = cc in
    subst (λ (p : Op). OpIs d p) same
    (keyed_found (codes "put") (λ last. TermIs last term.0) d parts named.0 is named.1
    (term_found named.0.1 term.0 term.1))

del_found : (d : Data) (parts : List Data) (o : Op) → d ≡ form (codes "del") parts
    → (named_in parts >>= λ key. Ok (Del key)) ≡ Ok o → OpIs d o
del_found d parts o is e =
    let key = bound (named_in parts) (λ key. Ok (Del key)) o e in
    let same : Del key.0 ≡ o = cc in
    subst (λ (p : Op). OpIs d p) same (named_found (codes "del") d parts key.0 is key.1)

op_of_is : (d : Data) (word : List ℕ) (parts : List Data) (o : Op) → d ≡ form word parts
    → op_of word parts ≡ Ok o → OpIs d o
op_of_is d word parts o is e = elim (word_or d word (codes "put") parts (put_in parts) _ o is e) [
  | inl h ↦ put_found d parts o h.0 h.1
  | inr h ↦ elim (word_or d word (codes "del") parts (named_in parts >>= λ key. Ok (Del key))
      (Err (BadShape Word)) o is h) [
        | inl k ↦ del_found d parts o k.0 k.1
        | inr k ↦ absurd (cc)
      ]
]

pub op_found : (d : Data) (o : Op) → op_in d ≡ Ok o → OpIs d o
unfolding op_in
op_found d o e =
    let some = there (λ parts. op_of parts.0 parts.1) (worded d) (BadShape Form) o e in
    op_of_is d some.0.0 some.0.1 o (worded_of d some.0 some.1) some.2

put_read : (k l : Data) (key : List ℕ) (term : Term) → KeyIs k key → TermIs l term
    → op_in (form (codes "put") (k ∷ l ∷ [])) ≡ Ok (Put key term)
unfolding op_in
put_read k l key term is last = rw (keyed_read k l key is) (rw (term_read l term last))

del_read : (k : Data) (key : List ℕ) → KeyIs k key → op_in (form (codes "del") (k ∷ [])) ≡ Ok (Del key)
unfolding op_in
del_read k key is = rw (named_read k key is)

pub op_read : (d : Data) (o : Op) → OpIs d o → op_in d ≡ Ok o
op_read d (Put key term) is = rw is.form_is (put_read is.key_data is.last_data key term is.key_is is.last_is)
op_read d (Del key) is = rw is.form_is (del_read is.key_data key is.key_is)

-- ---- conditions

equals_found : (d : Data) (parts : List Data) (c : Cond) → d ≡ form (codes "equals") parts
    → equals_in parts ≡ Ok c → CondIs d c
equals_found d parts c is e =
    let named = bound (keyed_in parts) (λ named. value_in named.1 >>= λ value. Ok (Equals named.0 value)) c e in
    let value = bound (value_in named.0.1) (λ value. Ok (Equals named.0.0 value)) c named.2 in
    let same : Equals named.0.0 value.0 ≡ c = cc in
    subst (λ (condition : Cond). CondIs d condition) same
    (keyed_found (codes "equals") (λ last. ValueIs last value.0) d parts named.0 is named.1
    (value_found named.0.1 value.0 value.1))

absent_found : (d : Data) (parts : List Data) (c : Cond) → d ≡ form (codes "absent") parts
    → (named_in parts >>= λ key. Ok (Absent key)) ≡ Ok c → CondIs d c
absent_found d parts c is e =
    let key = bound (named_in parts) (λ key. Ok (Absent key)) c e in
    let same : Absent key.0 ≡ c = cc in
    subst (λ (condition : Cond). CondIs d condition) same (named_found (codes "absent") d parts key.0 is key.1)

at_least_found : (d : Data) (parts : List Data) (c : Cond) → d ≡ form (codes "atleast") parts
    → at_least_in parts ≡ Ok c → CondIs d c
at_least_found d parts c is e =
    let named = bound (keyed_in parts) (λ named. integer_in named.1 >>= λ n. Ok (AtLeast named.0 n)) c e in
    let n = bound (integer_in named.0.1) (λ n. Ok (AtLeast named.0.0 n)) c named.2 in
    let same : AtLeast named.0.0 n.0 ≡ c = cc in
    subst (λ (condition : Cond). CondIs d condition) same
    (keyed_found (codes "atleast") (λ last. IntegerIs last n.0) d parts named.0 is named.1
    (integer_found named.0.1 n.0 n.1))

at_most_found : (d : Data) (parts : List Data) (c : Cond) → d ≡ form (codes "atmost") parts
    → at_most_in parts ≡ Ok c → CondIs d c
unfolding at_most_in
at_most_found d [] c is e = absurd (cc)
at_most_found d (p ∷ []) c is e = absurd (cc)
at_most_found d (p ∷ l ∷ []) c is e =
    let prefix = bound (prefix_in p) (λ begin. most_in l >>= λ n. Ok (AtMost begin n)) c e in
    let n = bound (most_in l) (λ n. Ok (AtMost prefix.0 n)) c prefix.2 in
    let counted = number_found 0 (2 ^ 32 - 1) l n.0 n.1 in
    let same : AtMost prefix.0 n.0 ≡ c = cc in
    subst (λ (condition : Cond). CondIs d condition) same (record {
      prefix_data = p;
      number_data = l;
      form_is = is;
      prefix_is = prefix_found p prefix.0 prefix.1;
      number_is = counted.0;
      number_in_range = omega (arith, counted.1.1);
    })
at_most_found d (p ∷ l ∷ other ∷ more) c is e = absurd (cc)

cond_of_is : (d : Data) (word : List ℕ) (parts : List Data) (c : Cond) → d ≡ form word parts
    → cond_of word parts ≡ Ok c → CondIs d c
cond_of_is d word parts c is e = elim (word_or d word (codes "equals") parts (equals_in parts) _ c is e) [
  | inl h ↦ equals_found d parts c h.0 h.1
  | inr h ↦ elim (word_or d word (codes "absent") parts (named_in parts >>= λ key. Ok (Absent key)) _ c is h) [
    | inl k ↦ absent_found d parts c k.0 k.1
    | inr k ↦ elim (word_or d word (codes "atleast") parts (at_least_in parts) _ c is k) [
      | inl l ↦ at_least_found d parts c l.0 l.1
      | inr l ↦ elim (word_or d word (codes "atmost") parts (at_most_in parts) (Err (BadShape Word)) c is l) [
        | inl m ↦ at_most_found d parts c m.0 m.1
        | inr m ↦ absurd (cc)
      ]
    ]
  ]
]

pub cond_found : (d : Data) (c : Cond) → cond_in d ≡ Ok c → CondIs d c
unfolding cond_in
cond_found d c e =
    let some = there (λ parts. cond_of parts.0 parts.1) (worded d) (BadShape Form) c e in
    cond_of_is d some.0.0 some.0.1 c (worded_of d some.0 some.1) some.2

equals_read : (k l : Data) (key : List ℕ) (v : Value) → KeyIs k key → ValueIs l v
    → cond_in (form (codes "equals") (k ∷ l ∷ [])) ≡ Ok (Equals key v)
unfolding cond_in
equals_read k l key v is last = rw (keyed_read k l key is) (rw (value_read l v last))

absent_read : (k : Data) (key : List ℕ) → KeyIs k key → cond_in (form (codes "absent") (k ∷ [])) ≡ Ok (Absent key)
unfolding cond_in
absent_read k key is = rw (named_read k key is)

at_least_read : (k l : Data) (key : List ℕ) (c : Cond) → KeyIs k key
    → (integer_in l >>= λ n. Ok (AtLeast key n)) ≡ Ok c
    → cond_in (form (codes "atleast") (k ∷ l ∷ [])) ≡ Ok c
unfolding cond_in
at_least_read k l key c is e = rw (keyed_read k l key is) e

at_most_read : (p l : Data) (prefix : List ℕ) (n : ℕ) → PrefixIs p prefix → NumberIs l n → n < 2 ^ 32
    → cond_in (form (codes "atmost") (p ∷ l ∷ [])) ≡ Ok (AtMost prefix n)
unfolding cond_in at_most_in
at_most_read p l prefix n is last low = rw (
  prefix_read p prefix is,
  number_read 0 (2 ^ 32 - 1) l n last (omega arith) (omega (arith, low)),
)

pub cond_read : (d : Data) (c : Cond) → CondIs d c → cond_in d ≡ Ok c
cond_read d (Equals key v) is = rw is.form_is (equals_read is.key_data is.last_data key v is.key_is is.last_is)
cond_read d (Absent key) is = rw is.form_is (absent_read is.key_data key is.key_is)
cond_read d (AtLeast key n) is = rw is.form_is (at_least_read is.key_data is.last_data key (AtLeast key n)
    is.key_is (rw (integer_read is.last_data n is.last_is)))
cond_read d (AtMost prefix n) is =
    rw is.form_is (at_most_read is.prefix_data is.number_data prefix n is.prefix_is is.number_is is.number_in_range)
