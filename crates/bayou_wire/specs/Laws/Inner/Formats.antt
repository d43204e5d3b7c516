-- What is read is what was spelled, and what is spelled is read.
use Rattle.std.proofs.Common.{◌≡◌, ℕ, zero, suc, ◌+◌, ◌^◌, ◌<◌, ◌≤◌, ℤ, pos, negsuc, Bool, true, false, cond, ltb, List, [], ◌∷◌, ◌++◌, length, get_or, take, drop, All, Option, None, Some, refl, sym, ap, subst, ◌∙◌, append_assoc, arith, inl, inr}
use Rattle.std.specs.Prelude.{◌⊎◌, is_none, nat_le, nat_lt, ◌==◌}
use Rattle.std.specs.List.{flat_map, list_all, AllByRecursion}
use Rattle.std.specs.Int.{Width, w32, w64, byte_len, from_be_bytes, to_be_bytes, cast_signed, cast_unsigned}
use Rattle.std.specs.Str.{is_utf8}
use Rattle.std.proofs.Math.Facts.{sfits_to_z}
use Rattle.std.proofs.lemmas.Bool.{cases_lt, eqb-true, ltb-false, le-ltb, leb-true, le-leb}
use Rattle.std.proofs.lemmas.Int.{to_z-of_z, of_z-to_z}
use Rattle.std.proofs.lemmas.List.{take_at, drop_at, take-append-drop, length-append, length-take, get_or-drop, get_or-take, get_or_past}
use Rattle.std.proofs.lemmas.List.Sums.{AllPass-from_list_all, list_all-from_AllPass}
use Rattle.std.proofs.lemmas.Nat.{be_bytes_4, be_bytes_8, from_be_bytes-to_be_bytes_4, from_be_bytes-to_be_bytes_8}
use Rattle.std.proofs.lemmas.Option.{none-some, same_Some, option_and_then_some}
use Rattle.std.proofs.lemmas.Str.{IsUtf8-from_is_utf8, is_utf8-from_IsUtf8}
use Rattle.bayou_base.specs.Key.{key_fault, prefix_fault}
use Rattle.bayou_base.specs.Vector.{AreCounts}
use Rattle.bayou_base.specs.declared.answer.Accepted.{Accepted}
use Rattle.bayou_base.specs.declared.key.KeyFault.{KeyFault}
use Rattle.bayou_base.specs.declared.limits.TheConstants.{MAX_TEXT_BYTES, MAX_CONDITIONS, MAX_OPS, MAX_ALTERNATIVES, MAX_WRITES, SERVERS}
use Rattle.bayou_base.specs.declared.tag.Tag.{Tag}
use Rattle.bayou_base.specs.declared.value.Value.{Value}
use Rattle.bayou_base.specs.declared.value.Value.TheVariants.{Num, Text}
use Rattle.bayou_base.specs.declared.wid.Wid.{Wid}
use Rattle.bayou_lang.specs.declared.program.Alt.{Alt}
use Rattle.bayou_lang.specs.declared.program.Cond.{Cond}
use Rattle.bayou_lang.specs.declared.program.Cond.TheVariants.{Equals, Absent, AtLeast, AtMost}
use Rattle.bayou_lang.specs.declared.program.Op.{Op}
use Rattle.bayou_lang.specs.declared.program.Op.TheVariants.{Put, Del}
use Rattle.bayou_lang.specs.declared.program.Program.{Program}
use Rattle.bayou_lang.specs.declared.program.Term.{Term}
use Rattle.bayou_lang.specs.declared.program.Term.TheVariants.{Lit, Copy, Plus}
use Rattle.bayou_lang.specs.declared.write.Write.{Write}
use Rattle.bayou_wire.specs.declared.layout.TheConstants as layout
use Rattle.bayou_lang.specs.Ranges.{IsKey, IsPrefix, IsText, IsI64, IsValue, IsTerm, IsOp, IsCond, AreAtMost, IsAlt, IsProgram, IsWrite}
use Rattle.bayou_wire.specs.Laws.Inner.Vectors.{vector_bytes-is}
use Rattle.bayou_wire.specs.Spelling.{u32_bytes, i64_bytes, short_bytes, value_bytes, term_bytes, op_bytes, cond_bytes, list_bytes, alt_bytes, program_bytes, vector_bytes, wid_bytes, tag_bytes, accepted_bytes, write_bytes, IsTag}
use Rattle.bayou_wire.specs.Inner.Reading.{Read, ◌>>=◌, both, made, times, byte_at, number_at, i64_at, short_at, key_at, prefix_at, text_at, value_at, term_at, op_at, cond_at, list_at, alt_at, program_at, vector_of, vector_at, server_of, wid_of, wid_at, session_of, tag_of, tag_at, accepted_of, accepted_at, write_at}
use Rattle.bayou_wire.specs.Laws.Inner.Readers.{server_of-is, wid_of-is, accepted_of-is, server_of-from, wid_of-from, session_of-is, session_of-from, tag_of-is, tag_of-from, accepted_of-from}

abbrev pub IsBytes : List ℕ → Type 0
IsBytes bytes = (i : ℕ) → get_or bytes i 0 < 256

pub IsBytes-drop : (n : ℕ) (bytes : List ℕ) → IsBytes bytes → IsBytes (drop n bytes)
IsBytes-drop n bytes h i = rw get_or-drop (h (n + i))

pub IsBytes-take : (n : ℕ) (bytes : List ℕ) → IsBytes bytes → IsBytes (take n bytes)
IsBytes-take n bytes h i =
    elim (cases_lt i n) [
      | inl lt ↦ rw (get_or-take n bytes i 0 lt) (h i)
      | inr le ↦ rw (get_or_past (take n bytes) i 0 (omega (arith, length-take n bytes))) (omega arith)
    ]

pub IsBytes-behind : (bytes front rest : List ℕ) → IsBytes bytes → bytes ≡ front ++ rest → IsBytes rest
IsBytes-behind bytes front rest h e =
    let is : drop (length front) (front ++ rest) ≡ rest = drop_at front rest (length front) refl in
    subst IsBytes is (IsBytes-drop (length front) (front ++ rest) (subst IsBytes e h))

-- what is read of a kind of value is spelled so and is within the limits, and what is within them and spelled is read
pub record IsFormat {T : Type 0} (Is : T → Type 0) (spelling : T → List ℕ) (at : List ℕ → Read T) : Type 0 where
  pub takes : (bytes : List ℕ) (x : T × List ℕ) → IsBytes bytes → at bytes ≡ Some x → Is x.0 × (bytes ≡ spelling x.0 ++ x.1)
  pub again : (value : T) (rest : List ℕ) → Is value → at (spelling value ++ rest) ≡ Some (value, rest)

-- no spelling begins another one
pub begins_one : {T : Type 0} {Is : T → Type 0} {spelling : T → List ℕ} {at : List ℕ → Read T} → IsFormat Is spelling at
    → (a b : T) (x y : List ℕ) → Is a → Is b → spelling a ++ x ≡ spelling b ++ y → (a ≡ b) × (x ≡ y)
begins_one {T} {Is} {spelling} {at} format a b x y is_a is_b same =
    let pair : (a, x) ≡ (b, y) = same_Some (a, x) (b, y) (sym (format.again a x is_a) ∙ ap at same ∙ format.again b y is_b) in
    (ap (λ (p : T × List ℕ). p.0) pair, ap (λ (p : T × List ℕ). p.1) pair)

-- nothing is read only where nothing stands at the front
pub none_begins : {T : Type 0} {Is : T → Type 0} {spelling : T → List ℕ} {at : List ℕ → Read T} → IsFormat Is spelling at
    → (bytes : List ℕ) → at bytes ≡ None → (value : T) (rest : List ℕ) → Is value → bytes ≡ spelling value ++ rest → ⊥
none_begins {at = at} format bytes none value rest is e = none-some (value, rest) (sym none ∙ ap at e ∙ format.again value rest is)

-- ---- what formats are made of

pub both_format : {A B : Type 0} {IsA : A → Type 0} {a : A → List ℕ} {a_at : List ℕ → Read A} {IsB : B → Type 0} {b : B → List ℕ} {b_at : List ℕ → Read B}
    → IsFormat IsA a a_at → IsFormat IsB b b_at → IsFormat (λ (p : A × B). IsA p.0 × IsB p.1) (λ p. a p.0 ++ b p.1) (both a_at b_at)
both_format {A} {B} {IsA} {a} {a_at} {IsB} {b} {b_at} first second = record { takes = takes; again = again }
  where
    takes : (bytes : List ℕ) (x : (A × B) × List ℕ) → IsBytes bytes → both a_at b_at bytes ≡ Some x → (IsA x.0.0 × IsB x.0.1) × (bytes ≡ (a x.0.0 ++ b x.0.1) ++ x.1)
    takes bytes x fits e =
        option_and_then_some (λ y. b_at y.1 >>= λ z. Some ((y.0, z.0), z.1)) (a_at bytes) x e (λ y one others.
        option_and_then_some (λ z. Some ((y.0, z.0), z.1)) (b_at y.1) x others (λ z two same.
        let t = first.takes bytes y fits one in
        let u = second.takes y.1 z (IsBytes-behind bytes (a y.0) y.1 fits t.1) two in
        let whole : bytes ≡ (a y.0 ++ b z.0) ++ z.1 = t.1 ∙ ap (λ s. a y.0 ++ s) u.1 ∙ sym (append_assoc (a y.0) (b z.0) z.1) in
        subst (λ (v : (A × B) × List ℕ). (IsA v.0.0 × IsB v.0.1) × (bytes ≡ (a v.0.0 ++ b v.0.1) ++ v.1)) (same_Some ((y.0, z.0), z.1) x same) ((t.0, u.0), whole)))

    again : (p : A × B) (rest : List ℕ) → IsA p.0 × IsB p.1 → both a_at b_at ((a p.0 ++ b p.1) ++ rest) ≡ Some (p, rest)
    again p rest is =
        let regrouped : (a p.0 ++ b p.1) ++ rest ≡ a p.0 ++ (b p.1 ++ rest) = append_assoc (a p.0) (b p.1) rest in
        ap (both a_at b_at) regrouped ∙ rw (first.again p.0 (b p.1 ++ rest) is.0, second.again p.1 rest is.1) refl

-- what is made of one value of another kind, as a record is of its fields
pub made_takes : {A B : Type 0} {IsA : A → Type 0} {a : A → List ℕ} {at : List ℕ → Read A} (make : A → B) → IsFormat IsA a at
    → (bytes : List ℕ) (x : B × List ℕ) → IsBytes bytes → made make at bytes ≡ Some x → (y : A) × IsA y × (x.0 ≡ make y) × (bytes ≡ a y ++ x.1)
made_takes {A} {B} {IsA} {a} {at} make format bytes x fits e =
    option_and_then_some (λ y. Some (make y.0, y.1)) (at bytes) x e (λ y one same.
    let t = format.takes bytes y fits one in
    subst (λ (v : B × List ℕ). (y : A) × IsA y × (v.0 ≡ make y) × (bytes ≡ a y ++ v.1)) (same_Some (make y.0, y.1) x same) (y.0, t.0, refl, t.1))

pub made_again : {A B : Type 0} {IsA : A → Type 0} {a : A → List ℕ} {at : List ℕ → Read A} (make : A → B) → IsFormat IsA a at
    → (value : A) (rest : List ℕ) → IsA value → made make at (a value ++ rest) ≡ Some (make value, rest)
made_again make format value rest is = rw (format.again value rest is) refl

pub made_format : {A B : Type 0} {IsA : A → Type 0} {a : A → List ℕ} {at : List ℕ → Read A} (make : A → B) (parts : B → A)
    → ((x : B) → make (parts x) ≡ x) → ((x : A) → parts (make x) ≡ x) → IsFormat IsA a at → IsFormat (λ x. IsA (parts x)) (λ x. a (parts x)) (made make at)
made_format {A} {B} {IsA} {a} {at} make parts whole back format = record { takes = takes; again = again }
  where
    takes : (bytes : List ℕ) (x : B × List ℕ) → IsBytes bytes → made make at bytes ≡ Some x → IsA (parts x.0) × (bytes ≡ a (parts x.0) ++ x.1)
    takes bytes x fits e =
        let t = made_takes make format bytes x fits e in
        let is : t.0 ≡ parts x.0 = sym (back t.0) ∙ ap parts (sym t.2) in
        subst (λ (y : A). IsA y × (bytes ≡ a y ++ x.1)) is (t.1, t.3)

    again : (x : B) (rest : List ℕ) → IsA (parts x) → made make at (a (parts x) ++ rest) ≡ Some (x, rest)
    again x rest is = made_again make format (parts x) rest is ∙ ap (λ v. Some (v, rest)) (whole x)

-- which way a test went
pub chosen : {A : Type 0} (b : Bool) (x y z : A) → cond b x y ≡ z → ((b ≡ true) × (x ≡ z)) ⊎ ((b ≡ false) × (y ≡ z))
chosen true x y z e = inl (refl, e)
chosen false x y z e = inr (refl, e)

-- a case of a kind of value: its tag, and what follows
pub case_takes : {A T : Type 0} {IsA : A → Type 0} {a : A → List ℕ} {at : List ℕ → Read A} (Is : T → Type 0) (spelling : T → List ℕ) (tag : ℕ) (make : A → T)
    → IsFormat IsA a at → ((y : A) → IsA y → Is (make y)) → ((y : A) → spelling (make y) ≡ tag ∷ a y)
    → (first : ℕ) (bytes : List ℕ) (x : T × List ℕ) → IsBytes (first ∷ bytes) → (first == tag) ≡ true → made make at bytes ≡ Some x → Is x.0 × (first ∷ bytes ≡ spelling x.0 ++ x.1)
case_takes {T = T} {a = a} Is spelling tag make format is spells first bytes x fits same e =
    let t = made_takes make format bytes x (λ i. fits (suc i)) e in
    let whole : first ∷ bytes ≡ spelling (make t.0) ++ x.1 = rw (spells t.0, eqb-true first tag same) (ap (λ s. tag ∷ s) t.3) in
    subst (λ (v : T). Is v × (first ∷ bytes ≡ spelling v ++ x.1)) (sym t.2) (is t.0 t.1, whole)

-- ---- numbers

pub record IsWide (w : Width) (limit : ℕ) : Type 0 where
  pub len : (n : ℕ) → length (to_be_bytes w n) ≡ byte_len w
  pub back : (bytes : List ℕ) → length bytes ≡ byte_len w → IsBytes bytes → to_be_bytes w (from_be_bytes w bytes) ≡ bytes
  pub again : (n : ℕ) → n < limit → from_be_bytes w (to_be_bytes w n) ≡ n
  pub below : (bytes : List ℕ) → IsBytes bytes → from_be_bytes w bytes < limit

pub wide32 : IsWide w32 (2 ^ 32)
wide32 = record {
  len = λ n. refl;
  back = λ bytes len fits. be_bytes_4 bytes _ len fits refl;
  again = λ n lt. from_be_bytes-to_be_bytes_4 n lt;
  below = λ bytes fits. omega (arith, fits 0, fits 1, fits 2, fits 3);
}

pub wide64 : IsWide w64 (2 ^ 64)
wide64 = record {
  len = λ n. refl;
  back = λ bytes len fits. be_bytes_8 bytes _ len fits refl;
  again = λ n lt. from_be_bytes-to_be_bytes_8 n lt;
  below = λ bytes fits. omega (arith, fits 0, fits 1, fits 2, fits 3, fits 4, fits 5, fits 6, fits 7);
}

abbrev numbered : Bool → ℕ → List ℕ → Read ℕ
numbered short n rest = cond short None (Some (n, rest))

pub number_format : (w : Width) (limit : ℕ) → IsWide w limit → IsFormat (λ n. n < limit) (to_be_bytes w) (number_at w)
number_format w limit wide = record { takes = takes; again = again }
  where
    takes : (bytes : List ℕ) (x : ℕ × List ℕ) → IsBytes bytes → number_at w bytes ≡ Some x → (x.0 < limit) × (bytes ≡ to_be_bytes w x.0 ++ x.1)
    takes bytes x fits e =
        elim (chosen (nat_lt (length bytes) (byte_len w)) None (Some (from_be_bytes w (take (byte_len w) bytes), drop (byte_len w) bytes)) (Some x) e) [
          | inl h ↦ absurd (none-some x h.1)
          | inr h ↦
              let long : byte_len w ≤ length bytes = ltb-false _ _ h.0 in
              let front : to_be_bytes w (from_be_bytes w (take (byte_len w) bytes)) ≡ take (byte_len w) bytes = wide.back (take (byte_len w) bytes) (omega (arith, length-take (byte_len w) bytes)) (IsBytes-take (byte_len w) bytes fits) in
              let whole : bytes ≡ to_be_bytes w (from_be_bytes w (take (byte_len w) bytes)) ++ drop (byte_len w) bytes = rw front (sym (take-append-drop (byte_len w) bytes)) in
              subst (λ (v : ℕ × List ℕ). (v.0 < limit) × (bytes ≡ to_be_bytes w v.0 ++ v.1)) (same_Some (from_be_bytes w (take (byte_len w) bytes), drop (byte_len w) bytes) x h.1)
              (wide.below (take (byte_len w) bytes) (IsBytes-take (byte_len w) bytes fits), whole)
        ]

    again : (n : ℕ) (rest : List ℕ) → n < limit → number_at w (to_be_bytes w n ++ rest) ≡ Some (n, rest)
    again n rest lt =
        let len = wide.len n in
        let long : ltb (length (to_be_bytes w n ++ rest)) (byte_len w) ≡ false = le-ltb _ _ (omega (arith, length-append (to_be_bytes w n) rest)) in
        rw (long, take_at (to_be_bytes w n) rest (byte_len w) len, drop_at (to_be_bytes w n) rest (byte_len w) len, wide.again n lt) refl

pub u32_format : IsFormat (λ n. n < 2 ^ 32) u32_bytes (number_at w32)
u32_format = number_format w32 (2 ^ 32) wide32

signed_below : (z : ℤ) → IsI64 z → cast_unsigned w64 z < 2 ^ 64
signed_below (pos n) is = omega arith
signed_below (negsuc n) is = omega arith

pub i64_format : IsFormat IsI64 i64_bytes i64_at
unfolding i64_bytes
i64_format = record { takes = takes; again = again }
  where
    number : IsFormat (λ n. n < 2 ^ 64) (to_be_bytes w64) (number_at w64)
    number = number_format w64 (2 ^ 64) wide64

    takes : (bytes : List ℕ) (x : ℤ × List ℕ) → IsBytes bytes → i64_at bytes ≡ Some x → IsI64 x.0 × (bytes ≡ i64_bytes x.0 ++ x.1)
    takes bytes x fits e =
        option_and_then_some (λ n. Some (cast_signed w64 n.0, n.1)) (number_at w64 bytes) x e (λ n one same.
        let t = number.takes bytes n fits one in
        let whole : bytes ≡ i64_bytes (cast_signed w64 n.0) ++ n.1 = t.1 ∙ ap (λ m. to_be_bytes w64 m ++ n.1) (sym (of_z-to_z w64 n.0 t.0)) in
        subst (λ (v : ℤ × List ℕ). IsI64 v.0 × (bytes ≡ i64_bytes v.0 ++ v.1)) (same_Some (cast_signed w64 n.0, n.1) x same) (sfits_to_z {w = w64} {n = n.0} (record { fits = t.0 }), whole))

    again : (number : ℤ) (rest : List ℕ) → IsI64 number → i64_at (i64_bytes number ++ rest) ≡ Some (number, rest)
    again z rest is = rw (number.again (cast_unsigned w64 z) rest (signed_below z is), to_z-of_z w64 z is) refl

pub byte_format : IsFormat (λ n. n < 256) (λ n. n ∷ []) byte_at
byte_format = record { takes = takes; again = λ n rest is. refl }
  where
    takes : (bytes : List ℕ) (x : ℕ × List ℕ) → IsBytes bytes → byte_at bytes ≡ Some x → (x.0 < 256) × (bytes ≡ (x.0 ∷ []) ++ x.1)
    takes [] x fits e = absurd (none-some x e)
    takes (byte ∷ bytes) x fits e = subst (λ (v : ℕ × List ℕ). (v.0 < 256) × (byte ∷ bytes ≡ (v.0 ∷ []) ++ v.1)) (same_Some (byte, bytes) x e) (fits 0, refl)

-- ---- keys and texts

short_takes : (bytes : List ℕ) (x : List ℕ × List ℕ) → short_at bytes ≡ Some x → bytes ≡ short_bytes x.0 ++ x.1
short_takes [] x e = absurd (none-some x e)
short_takes (len ∷ bytes) x e =
    elim (chosen (nat_lt (length bytes) len) None (Some (take len bytes, drop len bytes)) (Some x) e) [
      | inl h ↦ absurd (none-some x h.1)
      | inr h ↦
          let long : len ≤ length bytes = ltb-false _ _ h.0 in
          let is : length (take len bytes) ≡ len = omega (arith, length-take len bytes) in
          let whole : len ∷ bytes ≡ short_bytes (take len bytes) ++ drop len bytes = rw is (ap (λ s. len ∷ s) (sym (take-append-drop len bytes))) in
          subst (λ (v : List ℕ × List ℕ). len ∷ bytes ≡ short_bytes v.0 ++ v.1) (same_Some (take len bytes, drop len bytes) x h.1) whole
    ]

short_again : (front rest : List ℕ) → short_at (short_bytes front ++ rest) ≡ Some (front, rest)
short_again front rest =
    let long : ltb (length (front ++ rest)) (length front) ≡ false = le-ltb _ _ (omega (arith, length-append front rest)) in
    rw (long, take_at front rest (length front) refl, drop_at front rest (length front) refl) refl

is_none-true : (fault : Option KeyFault) → is_none fault ≡ true → fault ≡ None
is_none-true None e = refl
is_none-true (Some f) e = absurd cc

-- what has no fault, and is read where it has none
faultless_format : (fault : List ℕ → Option KeyFault)
    → IsFormat (λ text. fault text ≡ None) short_bytes (λ bytes. short_at bytes >>= λ text. cond (is_none (fault text.0)) (Some text) None)
faultless_format fault = record { takes = takes; again = again }
  where
    at : List ℕ → Read (List ℕ)
    at bytes = short_at bytes >>= λ text. cond (is_none (fault text.0)) (Some text) None

    takes : (bytes : List ℕ) (x : List ℕ × List ℕ) → IsBytes bytes → at bytes ≡ Some x → (fault x.0 ≡ None) × (bytes ≡ short_bytes x.0 ++ x.1)
    takes bytes x fits e =
        option_and_then_some (λ (text : List ℕ × List ℕ). cond (is_none (fault text.0)) (Some text) None) (short_at bytes) x e (λ text one same.
        elim (chosen (is_none (fault text.0)) (Some text) None (Some x) same) [
          | inl h ↦ subst (λ (v : List ℕ × List ℕ). (fault v.0 ≡ None) × (bytes ≡ short_bytes v.0 ++ v.1)) (same_Some text x h.1) (is_none-true (fault text.0) h.0, short_takes bytes text one)
          | inr h ↦ absurd (none-some x h.1)
        ])

    again : (text rest : List ℕ) → fault text ≡ None → at (short_bytes text ++ rest) ≡ Some (text, rest)
    again text rest is = rw (short_again text rest, is) refl

pub key_format : IsFormat IsKey short_bytes key_at
unfolding key_at
key_format = record { takes = (faultless_format key_fault).takes; again = (faultless_format key_fault).again }

pub prefix_format : IsFormat IsPrefix short_bytes prefix_at
unfolding prefix_at
prefix_format = record { takes = (faultless_format prefix_fault).takes; again = (faultless_format prefix_fault).again }

text_test : List ℕ × List ℕ → Option (List ℕ × List ℕ)
text_test text = cond (nat_le (length text.0) MAX_TEXT_BYTES) (Some text) None

pub text_format : IsFormat IsText short_bytes text_at
unfolding text_at text_test
text_format = record { takes = takes; again = again }
  where
    takes : (bytes : List ℕ) (x : List ℕ × List ℕ) → IsBytes bytes → text_at bytes ≡ Some x → IsText x.0 × (bytes ≡ short_bytes x.0 ++ x.1)
    takes bytes x fits e =
        option_and_then_some (λ (text : List ℕ × List ℕ). cond (is_utf8 text.0) (text_test text) None) (short_at bytes) x e (λ text one same.
        elim (chosen (is_utf8 text.0) (text_test text) None (Some x) same) [
          | inl h ↦ elim (chosen (nat_le (length text.0) MAX_TEXT_BYTES) (Some text) None (Some x) h.1) [
            | inl k ↦ subst (λ (v : List ℕ × List ℕ). IsText v.0 × (bytes ≡ short_bytes v.0 ++ v.1)) (same_Some text x k.1)
                ((leb-true _ _ k.0, IsUtf8-from_is_utf8 text.0 h.0), short_takes bytes text one)
            | inr k ↦ absurd (none-some x k.1)
          ]
          | inr h ↦ absurd (none-some x h.1)
        ])

    again : (text rest : List ℕ) → IsText text → text_at (short_bytes text ++ rest) ≡ Some (text, rest)
    again text rest is =
        let yes : is_utf8 text ≡ true = is_utf8-from_IsUtf8 text is.1 in
        let within : nat_le (length text) MAX_TEXT_BYTES ≡ true = le-leb _ _ is.0 in
        rw (short_again text rest, yes, within) refl

-- ---- values, terms, ops and conditions, by their tags

pub value_format : IsFormat IsValue value_bytes value_at
unfolding value_at
value_format = record { takes = takes; again = again }
  where
    takes : (bytes : List ℕ) (x : Value × List ℕ) → IsBytes bytes → value_at bytes ≡ Some x → IsValue x.0 × (bytes ≡ value_bytes x.0 ++ x.1)
    takes [] x fits e = absurd (none-some x e)
    takes (tag ∷ bytes) x fits e =
        elim (chosen (tag == layout.VALUE_NUM) (made Num i64_at bytes) (cond (tag == layout.VALUE_TEXT) (made Text text_at bytes) None) (Some x) e) [
          | inl num ↦ case_takes IsValue value_bytes layout.VALUE_NUM Num i64_format (λ y is. is) (λ y. refl) tag bytes x fits num.0 num.1
          | inr h ↦ elim (chosen (tag == layout.VALUE_TEXT) (made Text text_at bytes) None (Some x) h.1) [
            | inl text ↦ case_takes IsValue value_bytes layout.VALUE_TEXT Text text_format (λ y is. is) (λ y. refl) tag bytes x fits text.0 text.1
            | inr other ↦ absurd (none-some x other.1)
          ]
        ]

    again : (value : Value) (rest : List ℕ) → IsValue value → value_at (value_bytes value ++ rest) ≡ Some (value, rest)
    again (Num number) rest is = made_again Num i64_format number rest is
    again (Text text) rest is = made_again Text text_format text rest is

pub term_format : IsFormat IsTerm term_bytes term_at
unfolding term_at
term_format = record { takes = takes; again = again }
  where
    plus : IsFormat (λ (p : List ℕ × ℤ). IsKey p.0 × IsI64 p.1) (λ p. short_bytes p.0 ++ i64_bytes p.1) (both key_at i64_at)
    plus = both_format key_format i64_format

    takes : (bytes : List ℕ) (x : Term × List ℕ) → IsBytes bytes → term_at bytes ≡ Some x → IsTerm x.0 × (bytes ≡ term_bytes x.0 ++ x.1)
    takes [] x fits e = absurd (none-some x e)
    takes (tag ∷ bytes) x fits e =
        let third : Read Term = cond (tag == layout.TERM_PLUS) (made (λ p. Plus p.0 p.1) (both key_at i64_at) bytes) None in
        let second : Read Term = cond (tag == layout.TERM_COPY) (made Copy key_at bytes) third in
        elim (chosen (tag == layout.TERM_LIT) (made Lit value_at bytes) second (Some x) e) [
          | inl lit ↦ case_takes IsTerm term_bytes layout.TERM_LIT Lit value_format (λ y is. is) (λ y. refl) tag bytes x fits lit.0 lit.1
          | inr h ↦ elim (chosen (tag == layout.TERM_COPY) (made Copy key_at bytes) third (Some x) h.1) [
            | inl copy ↦ case_takes IsTerm term_bytes layout.TERM_COPY Copy key_format (λ y is. is) (λ y. refl) tag bytes x fits copy.0 copy.1
            | inr k ↦ elim (chosen (tag == layout.TERM_PLUS) (made (λ p. Plus p.0 p.1) (both key_at i64_at) bytes) None (Some x) k.1) [
              | inl sum ↦ case_takes IsTerm term_bytes layout.TERM_PLUS (λ p. Plus p.0 p.1) plus (λ y is. is) (λ y. refl) tag bytes x fits sum.0 sum.1
              | inr other ↦ absurd (none-some x other.1)
            ]
          ]
        ]

    again : (term : Term) (rest : List ℕ) → IsTerm term → term_at (term_bytes term ++ rest) ≡ Some (term, rest)
    again (Lit value) rest is = made_again Lit value_format value rest is
    again (Copy key) rest is = made_again Copy key_format key rest is
    again (Plus key number) rest is = made_again (λ p. Plus p.0 p.1) plus (key, number) rest is

pub op_format : IsFormat IsOp op_bytes op_at
unfolding op_at
op_format = record { takes = takes; again = again }
  where
    put : IsFormat (λ (p : List ℕ × Term). IsKey p.0 × IsTerm p.1) (λ p. short_bytes p.0 ++ term_bytes p.1) (both key_at term_at)
    put = both_format key_format term_format

    takes : (bytes : List ℕ) (x : Op × List ℕ) → IsBytes bytes → op_at bytes ≡ Some x → IsOp x.0 × (bytes ≡ op_bytes x.0 ++ x.1)
    takes [] x fits e = absurd (none-some x e)
    takes (tag ∷ bytes) x fits e =
        elim (chosen (tag == layout.OP_PUT) (made (λ p. Put p.0 p.1) (both key_at term_at) bytes) (cond (tag == layout.OP_DEL) (made Del key_at bytes) None) (Some x) e) [
          | inl h ↦ case_takes IsOp op_bytes layout.OP_PUT (λ p. Put p.0 p.1) put (λ y is. is) (λ y. refl) tag bytes x fits h.0 h.1
          | inr k ↦ elim (chosen (tag == layout.OP_DEL) (made Del key_at bytes) None (Some x) k.1) [
            | inl del ↦ case_takes IsOp op_bytes layout.OP_DEL Del key_format (λ y is. is) (λ y. refl) tag bytes x fits del.0 del.1
            | inr other ↦ absurd (none-some x other.1)
          ]
        ]

    again : (op : Op) (rest : List ℕ) → IsOp op → op_at (op_bytes op ++ rest) ≡ Some (op, rest)
    again (Put key term) rest is = made_again (λ p. Put p.0 p.1) put (key, term) rest is
    again (Del key) rest is = made_again Del key_format key rest is

pub cond_format : IsFormat IsCond cond_bytes cond_at
unfolding cond_at
cond_format = record { takes = takes; again = again }
  where
    equals : IsFormat (λ (p : List ℕ × Value). IsKey p.0 × IsValue p.1) (λ p. short_bytes p.0 ++ value_bytes p.1) (both key_at value_at)
    equals = both_format key_format value_format

    least : IsFormat (λ (p : List ℕ × ℤ). IsKey p.0 × IsI64 p.1) (λ p. short_bytes p.0 ++ i64_bytes p.1) (both key_at i64_at)
    least = both_format key_format i64_format

    most : IsFormat (λ (p : List ℕ × ℕ). IsPrefix p.0 × (p.1 < 2 ^ 32)) (λ p. short_bytes p.0 ++ u32_bytes p.1) (both prefix_at (number_at w32))
    most = both_format prefix_format u32_format

    takes : (bytes : List ℕ) (x : Cond × List ℕ) → IsBytes bytes → cond_at bytes ≡ Some x → IsCond x.0 × (bytes ≡ cond_bytes x.0 ++ x.1)
    takes [] x fits e = absurd (none-some x e)
    takes (tag ∷ bytes) x fits e =
        let fourth : Read Cond = cond (tag == layout.COND_AT_MOST) (made (λ p. AtMost p.0 p.1) (both prefix_at (number_at w32)) bytes) None in
        let third : Read Cond = cond (tag == layout.COND_AT_LEAST) (made (λ p. AtLeast p.0 p.1) (both key_at i64_at) bytes) fourth in
        let second : Read Cond = cond (tag == layout.COND_ABSENT) (made Absent key_at bytes) third in
        elim (chosen (tag == layout.COND_EQUALS) (made (λ p. Equals p.0 p.1) (both key_at value_at) bytes) second (Some x) e) [
          | inl h ↦ case_takes IsCond cond_bytes layout.COND_EQUALS (λ p. Equals p.0 p.1) equals (λ y is. is) (λ y. refl) tag bytes x fits h.0 h.1
          | inr h ↦ elim (chosen (tag == layout.COND_ABSENT) (made Absent key_at bytes) third (Some x) h.1) [
            | inl absent ↦ case_takes IsCond cond_bytes layout.COND_ABSENT Absent key_format (λ y is. is) (λ y. refl) tag bytes x fits absent.0 absent.1
            | inr k ↦ elim (chosen (tag == layout.COND_AT_LEAST) (made (λ p. AtLeast p.0 p.1) (both key_at i64_at) bytes) fourth (Some x) k.1) [
              | inl more ↦ case_takes IsCond cond_bytes layout.COND_AT_LEAST (λ p. AtLeast p.0 p.1) least (λ y is. is) (λ y. refl) tag bytes x fits more.0 more.1
              | inr l ↦ elim (chosen (tag == layout.COND_AT_MOST) (made (λ p. AtMost p.0 p.1) (both prefix_at (number_at w32)) bytes) None (Some x) l.1) [
                | inl few ↦ case_takes IsCond cond_bytes layout.COND_AT_MOST (λ p. AtMost p.0 p.1) most (λ y is. is) (λ y. refl) tag bytes x fits few.0 few.1
                | inr other ↦ absurd (none-some x other.1)
              ]
            ]
          ]
        ]

    again : (condition : Cond) (rest : List ℕ) → IsCond condition → cond_at (cond_bytes condition ++ rest) ≡ Some (condition, rest)
    again (Equals key value) rest is = made_again (λ p. Equals p.0 p.1) equals (key, value) rest is
    again (Absent key) rest is = made_again Absent key_format key rest is
    again (AtLeast key number) rest is = made_again (λ p. AtLeast p.0 p.1) least (key, number) rest is
    again (AtMost prefix number) rest is = made_again (λ p. AtMost p.0 p.1) most (prefix, number) rest is

-- ---- lists

pub times_takes : {T : Type 0} {Is : T → Type 0} {spelling : T → List ℕ} {at : List ℕ → Read T} → IsFormat Is spelling at
    → (n : ℕ) (bytes : List ℕ) (x : List T × List ℕ) → IsBytes bytes → times n at bytes ≡ Some x → (length x.0 ≡ n) × AllByRecursion Is x.0 × (bytes ≡ flat_map spelling x.0 ++ x.1)
unfolding times
times_takes {T} {Is} {spelling} {at} format zero bytes x fits e =
    subst (λ (v : List T × List ℕ). (length v.0 ≡ 0) × AllByRecursion Is v.0 × (bytes ≡ flat_map spelling v.0 ++ v.1)) (same_Some ([], bytes) x e) (refl, tt, refl)
times_takes {T} {Is} {spelling} {at} format (suc n) bytes x fits e =
    option_and_then_some (λ y. times n at y.1 >>= λ z. Some (y.0 ∷ z.0, z.1)) (at bytes) x e (λ y first others.
    option_and_then_some (λ z. Some (y.0 ∷ z.0, z.1)) (times n at y.1) x others (λ z rest same.
    let t = format.takes bytes y fits first in
    let u = times_takes format n y.1 z (IsBytes-behind bytes (spelling y.0) y.1 fits t.1) rest in
    let whole : bytes ≡ flat_map spelling (y.0 ∷ z.0) ++ z.1 = t.1 ∙ ap (λ s. spelling y.0 ++ s) u.2 ∙ sym (append_assoc (spelling y.0) (flat_map spelling z.0) z.1) in
    subst (λ (v : List T × List ℕ). (length v.0 ≡ suc n) × AllByRecursion Is v.0 × (bytes ≡ flat_map spelling v.0 ++ v.1)) (same_Some (y.0 ∷ z.0, z.1) x same) (ap suc u.0, (t.0, u.1), whole)))

pub times_again : {T : Type 0} {Is : T → Type 0} {spelling : T → List ℕ} {at : List ℕ → Read T} → IsFormat Is spelling at
    → (members : List T) (rest : List ℕ) → AllByRecursion Is members → times (length members) at (flat_map spelling members ++ rest) ≡ Some (members, rest)
unfolding times
times_again format [] rest all = refl
times_again {spelling = spelling} {at = at} format (member ∷ members) rest all =
    let regrouped : flat_map spelling (member ∷ members) ++ rest ≡ spelling member ++ (flat_map spelling members ++ rest) = append_assoc (spelling member) (flat_map spelling members) rest in
    ap (times (suc (length members)) at) regrouped ∙ rw (format.again member (flat_map spelling members ++ rest) all.0, times_again format members rest all.1) refl

pub list_format : {T : Type 0} {Is : T → Type 0} {spelling : T → List ℕ} {at : List ℕ → Read T} (most : ℕ) → IsFormat Is spelling at → IsFormat (AreAtMost most Is) (list_bytes spelling) (list_at most at)
unfolding list_at
list_format {T} {Is} {spelling} {at} most format = record { takes = takes; again = again }
  where
    takes : (bytes : List ℕ) (x : List T × List ℕ) → IsBytes bytes → list_at most at bytes ≡ Some x → AreAtMost most Is x.0 × (bytes ≡ list_bytes spelling x.0 ++ x.1)
    takes [] x fits e = absurd (none-some x e)
    takes (count ∷ bytes) x fits e =
        elim (chosen (nat_lt most count) None (times count at bytes) (Some x) e) [
          | inl h ↦ absurd (none-some x h.1)
          | inr h ↦
              let within : count ≤ most = ltb-false _ _ h.0 in
              let t = times_takes format count bytes x (λ i. fits (suc i)) h.1 in
              ((omega (arith, t.0), t.1), rw t.0 (ap (λ s. count ∷ s) t.2))
        ]

    again : (members : List T) (rest : List ℕ) → AreAtMost most Is members → list_at most at (list_bytes spelling members ++ rest) ≡ Some (members, rest)
    again members rest are =
        let within : nat_lt most (length members) ≡ false = le-ltb _ _ are.0 in
        rw within (times_again format members rest are.1)

pub alt_format : IsFormat IsAlt alt_bytes alt_at
unfolding alt_at
alt_format = record { takes = parts.takes; again = parts.again }
  where
    parts : IsFormat IsAlt alt_bytes (made (λ (p : List Cond × List Op). record { when = record { items = p.0 }; ops = record { items = p.1 } }) (both (list_at MAX_CONDITIONS cond_at) (list_at MAX_OPS op_at)))
    parts = made_format _ (λ alt. (alt.when.items, alt.ops.items)) (λ x. refl) (λ x. refl) (both_format (list_format MAX_CONDITIONS cond_format) (list_format MAX_OPS op_format))

pub program_format : IsFormat IsProgram program_bytes program_at
unfolding program_at
program_format = record { takes = parts.takes; again = parts.again }
  where
    parts : IsFormat IsProgram program_bytes (made (λ (p : List Cond × (List Op × List Alt)). record { check = record { items = p.0 }; update = record { items = p.1.0 }; merge = record { items = p.1.1 } })
        (both (list_at MAX_CONDITIONS cond_at) (both (list_at MAX_OPS op_at) (list_at MAX_ALTERNATIVES alt_at))))
    parts = made_format _ (λ program. (program.check.items, (program.update.items, program.merge.items))) (λ x. refl) (λ x. refl)
        (both_format (list_format MAX_CONDITIONS cond_format) (both_format (list_format MAX_OPS op_format) (list_format MAX_ALTERNATIVES alt_format)))

-- ---- vectors

small_counts : (counts : List ℕ) → All (λ count. count ≤ MAX_WRITES) counts → AllByRecursion (λ n. n < 2 ^ 32) counts
small_counts [] all = tt
small_counts (count ∷ counts) all = (let here : count ≤ MAX_WRITES = all 0 0 (omega arith) in omega arith, small_counts counts (λ k d within. all (suc k) d (omega arith)))

vector_of-is : (counts : List ℕ) → All (λ count. count ≤ MAX_WRITES) counts → vector_of counts ≡ Some counts
unfolding vector_of
vector_of-is counts all =
    let yes : list_all (λ count. nat_le count MAX_WRITES) counts ≡ true = list_all-from_AllPass (λ count. nat_le count MAX_WRITES) counts (λ k d within. le-leb _ _ (all k d within)) in
    rw yes refl

vector_of-from : (counts vector : List ℕ) → vector_of counts ≡ Some vector → (vector ≡ counts) × All (λ count. count ≤ MAX_WRITES) counts
unfolding vector_of
vector_of-from counts vector e =
    elim (chosen (list_all (λ count. nat_le count MAX_WRITES) counts) (Some counts) None (Some vector) e) [
      | inl h ↦ (sym (same_Some counts vector h.1), λ k d within. leb-true _ _ (AllPass-from_list_all (λ count. nat_le count MAX_WRITES) counts h.0 k d within))
      | inr h ↦ absurd (none-some vector h.1)
    ]

-- each count of a list has its place
counts_format : IsFormat AreCounts (flat_map u32_bytes) vector_at
unfolding vector_at
counts_format = record { takes = takes; again = again }
  where
    takes : (bytes : List ℕ) (x : List ℕ × List ℕ) → IsBytes bytes → vector_at bytes ≡ Some x → AreCounts x.0 × (bytes ≡ flat_map u32_bytes x.0 ++ x.1)
    takes bytes x fits e =
        option_and_then_some (λ y. vector_of y.0 >>= λ vector. Some (vector, y.1)) (times SERVERS (number_at w32) bytes) x e (λ y read named.
        option_and_then_some (λ vector. Some (vector, y.1)) (vector_of y.0) x named (λ vector of same.
        let t = times_takes u32_format SERVERS bytes y fits read in
        let v = vector_of-from y.0 vector of in
        subst (λ (w : List ℕ × List ℕ). AreCounts w.0 × (bytes ≡ flat_map u32_bytes w.0 ++ w.1)) (same_Some (vector, y.1) x same)
        (rw v.0 (record { one_each = t.0; in_range = v.1 }, t.2))))

    again : (counts rest : List ℕ) → AreCounts counts → vector_at (flat_map u32_bytes counts ++ rest) ≡ Some (counts, rest)
    again counts rest are =
        let read : times SERVERS (number_at w32) (flat_map u32_bytes counts ++ rest) ≡ Some (counts, rest) =
        ap (λ n. times n (number_at w32) (flat_map u32_bytes counts ++ rest)) (sym are.one_each) ∙ times_again u32_format counts rest (small_counts counts are.in_range) in
        rw (read, vector_of-is counts are.in_range) refl

pub vector_format : IsFormat AreCounts vector_bytes vector_at
vector_format = record {
  takes = λ bytes x fits e.
      let took = counts_format.takes bytes x fits e in (took.0, took.1 ∙ ap (λ spelled. spelled ++ x.1) (sym (vector_bytes-is x.0 took.0)));
  again = λ counts rest are.
      ap (λ spelled. vector_at (spelled ++ rest)) (vector_bytes-is counts are) ∙ counts_format.again counts rest are;
}

-- ---- names

-- every name of a Write has a spelling
abbrev pub IsWid : Wid → Type 0
IsWid wid = Unit {0}

pub wid_format : IsFormat IsWid wid_bytes wid_at
unfolding wid_at
wid_format = record { takes = takes; again = again }
  where
    takes : (bytes : List ℕ) (x : Wid × List ℕ) → IsBytes bytes → wid_at bytes ≡ Some x → Unit {0} × (bytes ≡ wid_bytes x.0 ++ x.1)
    takes bytes x fits e =
        option_and_then_some (λ index. server_of index.0 >>= λ origin. number_at w32 index.1 >>= λ seq. wid_of origin seq.0 >>= λ wid. Some (wid, seq.1)) (byte_at bytes) x e (λ index first rest.
        option_and_then_some (λ origin. number_at w32 index.1 >>= λ seq. wid_of origin seq.0 >>= λ wid. Some (wid, seq.1)) (server_of index.0) x rest (λ origin is_server rest'.
        option_and_then_some (λ seq. wid_of origin seq.0 >>= λ wid. Some (wid, seq.1)) (number_at w32 index.1) x rest' (λ seq second rest''.
        option_and_then_some (λ wid. Some (wid, seq.1)) (wid_of origin seq.0) x rest'' (λ wid is_wid same.
        let t = byte_format.takes bytes index fits first in
        let u = u32_format.takes index.1 seq (IsBytes-behind bytes (index.0 ∷ []) index.1 fits t.1) second in
        let server : origin.index ≡ index.0 = server_of-from index.0 origin is_server in
        let named = wid_of-from origin seq.0 wid is_wid in
        let whole : bytes ≡ wid_bytes wid ++ seq.1 = rw (named.0, named.1, server) (t.1 ∙ ap (λ s. index.0 ∷ s) u.1) in
        subst (λ (v : Wid × List ℕ). Unit {0} × (bytes ≡ wid_bytes v.0 ++ v.1)) (same_Some (wid, seq.1) x same) (tt, whole)))))

    again : (wid : Wid) (rest : List ℕ) → Unit {0} → wid_at (wid_bytes wid ++ rest) ≡ Some (wid, rest)
    again wid rest is =
        let seq_fits : wid.seq < 2 ^ 32 = omega (arith, wid.in_range) in
        rw (server_of-is wid.origin, u32_format.again wid.seq rest seq_fits, wid_of-is wid) refl

-- the name of an asking has a spelling where its numbers have four bytes
pub tag_format : IsFormat IsTag tag_bytes tag_at
unfolding tag_at
tag_format = record { takes = takes; again = again }
  where
    takes : (bytes : List ℕ) (x : Tag × List ℕ) → IsBytes bytes → tag_at bytes ≡ Some x → IsTag x.0 × (bytes ≡ tag_bytes x.0 ++ x.1)
    takes bytes x fits e =
        option_and_then_some (λ index. session_of index.0 >>= λ session. number_at w32 index.1 >>= λ run. number_at w32 run.1 >>= λ number. tag_of session run.0 number.0 >>= λ tag. Some (tag, number.1)) (byte_at bytes) x e (λ index first rest.
        option_and_then_some (λ session. number_at w32 index.1 >>= λ run. number_at w32 run.1 >>= λ number. tag_of session run.0 number.0 >>= λ tag. Some (tag, number.1)) (session_of index.0) x rest (λ session is_session rest'.
        option_and_then_some (λ run. number_at w32 run.1 >>= λ number. tag_of session run.0 number.0 >>= λ tag. Some (tag, number.1)) (number_at w32 index.1) x rest' (λ run second rest''.
        option_and_then_some (λ number. tag_of session run.0 number.0 >>= λ tag. Some (tag, number.1)) (number_at w32 run.1) x rest'' (λ number third others.
        option_and_then_some (λ tag. Some (tag, number.1)) (tag_of session run.0 number.0) x others (λ tag is_tag same.
        let t = byte_format.takes bytes index fits first in
        let fits' = IsBytes-behind bytes (index.0 ∷ []) index.1 fits t.1 in
        let u = u32_format.takes index.1 run fits' second in
        let v = u32_format.takes run.1 number (IsBytes-behind index.1 (u32_bytes run.0) run.1 fits' u.1) third in
        let of_session : session.index ≡ index.0 = session_of-from index.0 session is_session in
        let named = tag_of-from session run.0 number.0 tag is_tag in
        let is : IsTag tag = rw (named.1, named.2) (u.0, v.0) in
        let whole : bytes ≡ tag_bytes tag ++ number.1 = rw (named.0, named.1, named.2, of_session) (t.1 ∙ ap (λ s. index.0 ∷ s) (u.1 ∙ ap (λ s. u32_bytes run.0 ++ s) v.1)) in
        subst (λ (w : Tag × List ℕ). IsTag w.0 × (bytes ≡ tag_bytes w.0 ++ w.1)) (same_Some (tag, number.1) x same) (is, whole))))))

    again : (tag : Tag) (rest : List ℕ) → IsTag tag → tag_at (tag_bytes tag ++ rest) ≡ Some (tag, rest)
    again tag rest is =
        rw (session_of-is tag.session, u32_format.again tag.run (u32_bytes tag.number ++ rest) is.0, u32_format.again tag.number rest is.1, tag_of-is tag) refl

-- ---- Writes

-- what a server gives has a spelling where its vector is one
abbrev pub IsAccepted : Accepted → Type 0
IsAccepted a = AreCounts a.deps

pub accepted_format : IsFormat IsAccepted (λ a. accepted_bytes a.wid a.stamp a.deps) accepted_at
unfolding accepted_at
accepted_format = record { takes = takes; again = again }
  where
    takes : (bytes : List ℕ) (x : Accepted × List ℕ) → IsBytes bytes → accepted_at bytes ≡ Some x → AreCounts x.0.deps × (bytes ≡ accepted_bytes x.0.wid x.0.stamp x.0.deps ++ x.1)
    takes bytes x fits e =
        option_and_then_some (λ wid. number_at w32 wid.1 >>= λ clock. vector_at clock.1 >>= λ deps. accepted_of wid.0 clock.0 deps.0 >>= λ a. Some (a, deps.1)) (wid_at bytes) x e (λ wid first rest.
        option_and_then_some (λ clock. vector_at clock.1 >>= λ deps. accepted_of wid.0 clock.0 deps.0 >>= λ a. Some (a, deps.1)) (number_at w32 wid.1) x rest (λ clock second rest'.
        option_and_then_some (λ deps. accepted_of wid.0 clock.0 deps.0 >>= λ a. Some (a, deps.1)) (vector_at clock.1) x rest' (λ deps third rest''.
        option_and_then_some (λ a. Some (a, deps.1)) (accepted_of wid.0 clock.0 deps.0) x rest'' (λ a is_accepted same.
        let t = wid_format.takes bytes wid fits first in
        let fits' = IsBytes-behind bytes (wid_bytes wid.0) wid.1 fits t.1 in
        let u = u32_format.takes wid.1 clock fits' second in
        let v = vector_format.takes clock.1 deps (IsBytes-behind wid.1 (u32_bytes clock.0) clock.1 fits' u.1) third in
        let named = accepted_of-from wid.0 clock.0 deps.0 a is_accepted in
        let whole : bytes ≡ accepted_bytes a.wid a.stamp a.deps ++ deps.1 = rw (named.0, named.1, named.2) (t.1 ∙ ap (λ s. wid_bytes wid.0 ++ s) (u.1 ∙ ap (λ s. u32_bytes clock.0 ++ s) v.1)) in
        subst (λ (w : Accepted × List ℕ). AreCounts w.0.deps × (bytes ≡ accepted_bytes w.0.wid w.0.stamp w.0.deps ++ w.1)) (same_Some (a, deps.1) x same) (subst AreCounts (sym named.2) v.0, whole)))))

    again : (a : Accepted) (rest : List ℕ) → AreCounts a.deps → accepted_at (accepted_bytes a.wid a.stamp a.deps ++ rest) ≡ Some (a, rest)
    again a rest are =
        let clock_fits : a.stamp.clock < 2 ^ 32 = omega (arith, a.stamp.in_range) in
        rw (wid_format.again a.wid ((u32_bytes a.stamp.clock ++ vector_bytes a.deps) ++ rest) tt, u32_format.again a.stamp.clock (vector_bytes a.deps ++ rest) clock_fits, vector_format.again a.deps rest are, accepted_of-is a) refl

pub write_format : IsFormat IsWrite write_bytes write_at
unfolding write_at
write_format = record { takes = takes; again = again }
  where
    format : IsFormat (λ (p : Accepted × Program). IsAccepted p.0 × IsProgram p.1) (λ p. accepted_bytes p.0.wid p.0.stamp p.0.deps ++ program_bytes p.1) (both accepted_at program_at)
    format = both_format accepted_format program_format

    takes : (bytes : List ℕ) (x : Write × List ℕ) → IsBytes bytes → made (λ p. record { wid = p.0.wid; stamp = p.0.stamp; deps = p.0.deps; program = p.1; one_origin = p.0.one_origin }) (both accepted_at program_at) bytes ≡ Some x → IsWrite x.0 × (bytes ≡ write_bytes x.0 ++ x.1)
    takes bytes x fits e =
        let t = made_takes (λ p. record { wid = p.0.wid; stamp = p.0.stamp; deps = p.0.deps; program = p.1; one_origin = p.0.one_origin }) format bytes x fits e in
        subst (λ (w : Write). IsWrite w × (bytes ≡ write_bytes w ++ x.1)) (sym t.2) (t.1, t.3)

    again : (w : Write) (rest : List ℕ) → IsWrite w → write_at (write_bytes w ++ rest) ≡ Some (w, rest)
    again w rest is = made_again (λ p. record { wid = p.0.wid; stamp = p.0.stamp; deps = p.0.deps; program = p.1; one_origin = p.0.one_origin }) format (record { wid = w.wid; stamp = w.stamp; deps = w.deps; one_origin = w.one_origin }, w.program) rest is
