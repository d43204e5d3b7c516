-- What stands at the front of bytes, as the readers find it.
use Rattle.std.proofs.Common.{◌≡◌, ℕ, zero, suc, ◌-◌, ◌+◌, ◌<◌, ◌≤◌, Bool, true, false, cond, List, [], ◌∷◌, ◌++◌, length, get_or, All, Option, None, Some, refl, sym, ap, subst, ◌∙◌, append_assoc, arith, inl, inr}
use Rattle.std.specs.Prelude.{◌==◌, ◌↔◌, is_none, nat_le, nat_lt, not, position, IsSome, IfSome, IsUtf8}
use Rattle.std.specs.Coded.{×_prop, le_prop}
use Rattle.std.specs.List.{list_all, prefix_len}
use Rattle.std.specs.Str.{IsAscii, is_utf8}
use Rattle.std.proofs.Math.Nat.{ℕ_set}
use Rattle.std.proofs.lemmas.Bool.{cases_lt, eqb-true, lt-ltb, ltb-true, ltb-false, leb-true, leb-false, le-leb}
use Rattle.std.proofs.lemmas.Bool.Decides.{nat_tests}
use Rattle.std.proofs.lemmas.List.{append-nil, get_or_past}
use Rattle.std.proofs.lemmas.List.Sums.{prefix_len_passes, AllPass-from_list_all, list_all-from_AllPass}
use Rattle.std.proofs.lemmas.Option.{none-some, same_Some, some_pair_parts, option_and_then_some}
use Rattle.std.proofs.lemmas.Str.{IsUtf8-from_ascii, IsUtf8-from_is_utf8, is_utf8-from_IsUtf8}
use Rattle.bayou_base.specs.Key.{key_fault, prefix_fault, is_key_byte}
use Rattle.bayou_base.specs.Text.{IsShort}
use Rattle.bayou_base.specs.declared.answer.Accepted.{Accepted}
use Rattle.bayou_base.specs.declared.limits.TheConstants.{MAX_TEXT_BYTES, MAX_WRITES, SERVERS, SESSIONS}
use Rattle.bayou_base.specs.declared.server.ServerId.{ServerId}
use Rattle.bayou_base.specs.declared.session.SessionId.{SessionId}
use Rattle.bayou_base.specs.declared.stamp.Stamp.{Stamp}
use Rattle.bayou_base.specs.declared.tag.Tag.{Tag}
use Rattle.bayou_base.specs.declared.wid.Wid.{Wid}
use Rattle.bayou_lang.specs.declared.program.Program.{Program}
use Rattle.bayou_lang.specs.declared.write.Write.{Write}
use Rattle.bayou_lang.specs.Laws.Equality.{server-ext, session-ext, stamp-ext}
use Rattle.bayou_wire.specs.Inner.Reading.{Read, ◌>>=◌, short_at, key_at, prefix_at, text_at, times, server_if, server_of, placed_if, placed, wid_of, session_if, session_of, counted_if, counted, tag_of, accepted_of, vector_of, accepted_at, program_at, write_at}

-- ---- keys and texts

key_byte_is_ascii : (b : ℕ) → not (not (is_key_byte b)) ≡ true → b < 128
key_byte_is_ascii b h = grind (arith, nat_tests)

position_none : (p : ℕ → Bool) (xs : List ℕ) → position p xs ≡ None → (i : ℕ) → i < length xs → not (p (get_or xs i 0)) ≡ true
position_none p xs none i within =
    elim (cases_lt (prefix_len (λ x. not (p x)) xs) (length xs)) [
      | inl lt ↦ let yes : nat_lt (prefix_len (λ x. not (p x)) xs) (length xs) ≡ true = lt-ltb _ _ lt in absurd (none-some (prefix_len (λ x. not (p x)) xs) (sym none ∙ ap (λ b. cond b (Some (prefix_len (λ x. not (p x)) xs)) None) yes))
      | inr le ↦ prefix_len_passes (λ x. not (p x)) xs i 0 (omega arith)
    ]

pub key_is_ascii : (key : List ℕ) → key_fault key ≡ None → IsAscii key
key_is_ascii key fault i =
    elim (cases_lt i (length key)) [
      | inl lt ↦ key_byte_is_ascii (get_or key i 0) (position_none (λ b. not (is_key_byte b)) key (grind (arith, nat_tests)) i lt)
      | inr le ↦ rw (get_or_past key i 0 le) (omega arith)
    ]

empty_is_ascii : (text : List ℕ) → length text ≡ 0 → IsAscii text
empty_is_ascii text none i = rw (get_or_past text i 0 (omega (arith, none))) (omega arith)

prefix_is_ascii : (prefix : List ℕ) → prefix_fault prefix ≡ None → IsAscii prefix
prefix_is_ascii prefix fault =
    elim (length prefix == 0) as (λ empty. (length prefix == 0) ≡ empty → cond empty None (key_fault prefix) ≡ None → IsAscii prefix) [
      | true ↦ λ empty _. empty_is_ascii prefix (eqb-true (length prefix) 0 empty)
      | false ↦ λ _ fault. key_is_ascii prefix fault
    ] refl fault

abbrev chosen : Bool → List ℕ → List ℕ → Read (List ℕ)
chosen test front rest = cond test (Some (front, rest)) None

pub key_at-not_utf8 : (bytes name rest : List ℕ) → short_at bytes ≡ Some (name, rest) → ¬ (IsUtf8 name) → key_at bytes ≡ None
unfolding key_at
key_at-not_utf8 bytes name rest read broken =
    rw read (elim (key_fault name) as (λ f. key_fault name ≡ f → chosen (is_none f) name rest ≡ None) [
      | None ↦ λ fault. absurd (broken (IsUtf8-from_ascii name (key_is_ascii name fault)))
      | Some f ↦ λ _. refl
    ] refl)

pub prefix_at-not_utf8 : (bytes text rest : List ℕ) → short_at bytes ≡ Some (text, rest) → ¬ (IsUtf8 text) → prefix_at bytes ≡ None
unfolding prefix_at
prefix_at-not_utf8 bytes text rest read broken =
    rw read (elim (prefix_fault text) as (λ f. prefix_fault text ≡ f → chosen (is_none f) text rest ≡ None) [
      | None ↦ λ fault. absurd (broken (IsUtf8-from_ascii text (prefix_is_ascii text fault)))
      | Some f ↦ λ _. refl
    ] refl)

pub text_at-not_utf8 : (bytes text rest : List ℕ) → short_at bytes ≡ Some (text, rest) → ¬ (IsUtf8 text) → text_at bytes ≡ None
unfolding text_at
text_at-not_utf8 bytes text rest read broken =
    rw read (elim (is_utf8 text) as (λ b. is_utf8 text ≡ b → cond b (chosen (nat_le (length text) MAX_TEXT_BYTES) text rest) None ≡ None) [
      | true ↦ λ e. absurd (broken (IsUtf8-from_is_utf8 text e))
      | false ↦ λ _. refl
    ] refl)

pub text_at-is : (bytes text rest : List ℕ) → short_at bytes ≡ Some (text, rest) → IsUtf8 text → IsShort text → text_at bytes ≡ Some (text, rest)
unfolding text_at
text_at-is bytes text rest read utf8 short =
    let yes : is_utf8 text ≡ true = is_utf8-from_IsUtf8 text utf8 in
    let within : nat_le (length text) MAX_TEXT_BYTES ≡ true = le-leb _ _ short in
    rw (read, yes, within) refl

pub text_is : (bytes front given text rest : List ℕ) → short_at bytes ≡ Some (front, rest) → IsUtf8 front → given ≡ front → IsShort given → text ≡ given → text_at bytes ≡ Some (text, rest)
text_is bytes front given text rest read utf8 same short is =
    let within : IsShort front = omega (arith, ap length same) in
    text_at-is bytes front rest read utf8 within ∙ ap (λ t. Some (t, rest)) (sym same ∙ sym is)

-- ---- names and stamps

pub server_set : IsSet ServerId
server_set = hlevel (ℕ_set, le_prop)

server_if-is : (n : ℕ) (below : Bool) (e : nat_lt n SERVERS ≡ below) (s : ServerId) → s.index ≡ n → server_if n below e ≡ Some s
server_if-is n true e s same = ap (λ x. Some x) (server-ext _ s (sym same))
server_if-is n false e s same = let out : SERVERS ≤ n = ltb-false n SERVERS e in absurd (omega (arith, s.in_range))

pub server_of-is : (s : ServerId) → server_of s.index ≡ Some s
unfolding server_of
server_of-is s = server_if-is s.index _ refl s refl

server_if-none : (n : ℕ) (below : Bool) (e : nat_lt n SERVERS ≡ below) → ¬ (n < SERVERS) → server_if n below e ≡ None
server_if-none n true e out = absurd (out (ltb-true n SERVERS e))
server_if-none n false e out = refl

pub server_of-given : (n : ℕ) (given : Option ServerId) → IsSome given ↔ (n < SERVERS) → IfSome given (λ s. s.index ≡ n) → given ≡ server_of n
unfolding server_of
server_of-given n (Some s) within same = sym (server_if-is n _ refl s same)
server_of-given n None within same = sym (server_if-none n _ refl (λ h. absurd (let e : false ≡ true = within.1 h in cc)))

placed_if-is : (n : ℕ) (above below : Bool) (a : nat_lt 0 n ≡ above) (b : nat_le n MAX_WRITES ≡ below) (h : (0 < n) × (n ≤ MAX_WRITES)) → placed_if n above below a b ≡ Some h
placed_if-is n true true a b h = ap (λ x. Some x) (×_prop le_prop le_prop _ h)
placed_if-is n true false a b h = let out : MAX_WRITES < n = leb-false _ _ b in absurd (omega (arith, h.1))
placed_if-is n false true a b h = let out : n ≤ 0 = ltb-false _ _ a in absurd (omega (arith, h.0))
placed_if-is n false false a b h = let out : n ≤ 0 = ltb-false _ _ a in absurd (omega (arith, h.0))

pub placed-is : (n : ℕ) (h : (0 < n) × (n ≤ MAX_WRITES)) → placed n ≡ Some h
unfolding placed
placed-is n h = placed_if-is n _ _ refl refl h

placed-none : (n : ℕ) → ¬ ((0 < n) × (n ≤ MAX_WRITES)) → placed n ≡ None
placed-none n out = elim (placed n) as (λ o. o ≡ None) [ None ↦ refl | Some h ↦ absurd (out h) ]

pub wid_of-is : (wid : Wid) → wid_of wid.origin wid.seq ≡ Some wid
unfolding wid_of
wid_of-is wid = rw (placed-is wid.seq wid.in_range) refl

pub wid_of-given : (origin : ServerId) (seq : ℕ) (given : Option Wid) → IsSome given ↔ ((0 < seq) × (seq ≤ MAX_WRITES)) → IfSome given (λ w. (w.origin ≡ origin) × (w.seq ≡ seq)) → given ≡ wid_of origin seq
unfolding wid_of
wid_of-given origin seq (Some wid) within same = sym (rw (← same.0, ← same.1) (wid_of-is wid))
wid_of-given origin seq None within same = rw (placed-none seq (λ h. absurd (let e : false ≡ true = within.1 h in cc))) refl

pub accepted_of-is : (a : Accepted) → accepted_of a.wid a.stamp.clock a.deps ≡ Some a
unfolding accepted_of
accepted_of-is a =
    let start : Stamp = record { clock = a.stamp.clock; origin = a.wid.origin; in_range = a.stamp.in_range } in
    let made : (s : Stamp) → a.wid.origin ≡ s.origin → Accepted = λ s p. record { wid = a.wid; stamp = s; deps = a.deps; one_origin = p } in
    let P : Stamp → Type 0 = λ s. (p : a.wid.origin ≡ s.origin) → made start refl ≡ made s p in
    let same : made start refl ≡ a = subst P (stamp-ext start a.stamp refl a.one_origin) (λ p. ap (made start) (server_set _ _ refl p)) a.one_origin in
    rw (placed-is a.stamp.clock a.stamp.in_range) (ap (λ x. Some x) same)

pub accepted_of-given : (wid : Wid) (clock : ℕ) (deps : List ℕ) (a : Accepted) → a.wid ≡ wid → a.stamp.clock ≡ clock → a.deps ≡ deps → accepted_of wid clock deps ≡ Some a
accepted_of-given wid clock deps a w c d = rw (← w, ← c, ← d) (accepted_of-is a)

pub accepted_of-none : (wid : Wid) (clock : ℕ) (deps : List ℕ) → ¬ ((0 < clock) × (clock ≤ MAX_WRITES)) → accepted_of wid clock deps ≡ None
unfolding accepted_of
accepted_of-none wid clock deps out = rw (placed-none clock out) refl

-- what was named is what the names were of
server_if-from : (n : ℕ) (below : Bool) (e : nat_lt n SERVERS ≡ below) (s : ServerId) → server_if n below e ≡ Some s → s.index ≡ n
server_if-from n true e s same = ap (λ (t : ServerId). t.index) (sym (same_Some _ s same))
server_if-from n false e s same = absurd (none-some s same)

pub server_of-from : (n : ℕ) (s : ServerId) → server_of n ≡ Some s → s.index ≡ n
unfolding server_of
server_of-from n s same = server_if-from n _ refl s same

pub wid_of-from : (origin : ServerId) (seq : ℕ) (wid : Wid) → wid_of origin seq ≡ Some wid → (wid.origin ≡ origin) × (wid.seq ≡ seq)
unfolding wid_of
wid_of-from origin seq wid e =
    option_and_then_some (λ within. Some (record { origin = origin; seq = seq; in_range = within })) (placed seq) wid e (λ within here same.
    (ap (λ (w : Wid). w.origin) (sym (same_Some _ wid same)), ap (λ (w : Wid). w.seq) (sym (same_Some _ wid same))))

pub accepted_of-from : (wid : Wid) (clock : ℕ) (deps : List ℕ) (a : Accepted) → accepted_of wid clock deps ≡ Some a → (a.wid ≡ wid) × (a.stamp.clock ≡ clock) × (a.deps ≡ deps)
unfolding accepted_of
accepted_of-from wid clock deps a e =
    let make : (0 < clock) × (clock ≤ MAX_WRITES) → Accepted = λ within. record { wid = wid; stamp = record { clock = clock; origin = wid.origin; in_range = within }; deps = deps; one_origin = refl } in
    option_and_then_some (λ within. Some (make within)) (placed clock) a e (λ within here same.
    let is : a ≡ make within = sym (same_Some (make within) a same) in
    (ap (λ (b : Accepted). b.wid) is, ap (λ (b : Accepted). b.stamp.clock) is, ap (λ (b : Accepted). b.deps) is))

-- ---- tags

session_if-is : (n : ℕ) (below : Bool) (e : nat_lt n SESSIONS ≡ below) (s : SessionId) → s.index ≡ n → session_if n below e ≡ Some s
session_if-is n true e s same = ap (λ x. Some x) (session-ext _ s (sym same))
session_if-is n false e s same = let out : SESSIONS ≤ n = ltb-false n SESSIONS e in absurd (omega (arith, s.in_range))

pub session_of-is : (s : SessionId) → session_of s.index ≡ Some s
unfolding session_of
session_of-is s = session_if-is s.index _ refl s refl

session_if-none : (n : ℕ) (below : Bool) (e : nat_lt n SESSIONS ≡ below) → ¬ (n < SESSIONS) → session_if n below e ≡ None
session_if-none n true e out = absurd (out (ltb-true n SESSIONS e))
session_if-none n false e out = refl

pub session_of-given : (n : ℕ) (given : Option SessionId) → IsSome given ↔ (n < SESSIONS) → IfSome given (λ s. s.index ≡ n) → given ≡ session_of n
unfolding session_of
session_of-given n (Some s) within same = sym (session_if-is n _ refl s same)
session_of-given n None within same = sym (session_if-none n _ refl (λ h. absurd (let e : false ≡ true = within.1 h in cc)))

session_if-from : (n : ℕ) (below : Bool) (e : nat_lt n SESSIONS ≡ below) (s : SessionId) → session_if n below e ≡ Some s → s.index ≡ n
session_if-from n true e s same = ap (λ (t : SessionId). t.index) (sym (same_Some _ s same))
session_if-from n false e s same = absurd (none-some s same)

pub session_of-from : (n : ℕ) (s : SessionId) → session_of n ≡ Some s → s.index ≡ n
unfolding session_of
session_of-from n s same = session_if-from n _ refl s same

counted_if-is : (run number : ℕ) (first second : Bool) (a : nat_lt 0 run ≡ first) (b : nat_lt 0 number ≡ second) (h : (0 < run) × (0 < number))
    → counted_if run number first second a b ≡ Some h
counted_if-is run number true true a b h = ap (λ x. Some x) (×_prop le_prop le_prop _ h)
counted_if-is run number true false a b h = let out : number ≤ 0 = ltb-false _ _ b in absurd (omega (arith, h.1))
counted_if-is run number false true a b h = let out : run ≤ 0 = ltb-false _ _ a in absurd (omega (arith, h.0))
counted_if-is run number false false a b h = let out : run ≤ 0 = ltb-false _ _ a in absurd (omega (arith, h.0))

counted-is : (run number : ℕ) (h : (0 < run) × (0 < number)) → counted run number ≡ Some h
unfolding counted
counted-is run number h = counted_if-is run number _ _ refl refl h

counted-none : (run number : ℕ) → ¬ ((0 < run) × (0 < number)) → counted run number ≡ None
counted-none run number out = elim (counted run number) as (λ o. o ≡ None) [ None ↦ refl | Some h ↦ absurd (out h) ]

pub tag_of-is : (tag : Tag) → tag_of tag.session tag.run tag.number ≡ Some tag
unfolding tag_of
tag_of-is tag = rw (counted-is tag.run tag.number tag.in_range) refl

pub tag_of-given : (session : SessionId) (run number : ℕ) (given : Option Tag) → IsSome given ↔ ((0 < run) × (0 < number))
    → IfSome given (λ t. (t.session ≡ session) × (t.run ≡ run) × (t.number ≡ number)) → given ≡ tag_of session run number
unfolding tag_of
tag_of-given session run number (Some tag) within same = sym (rw (← same.0, ← same.1, ← same.2) (tag_of-is tag))
tag_of-given session run number None within same = rw (counted-none run number (λ h. absurd (let e : false ≡ true = within.1 h in cc))) refl

pub tag_of-from : (session : SessionId) (run number : ℕ) (tag : Tag) → tag_of session run number ≡ Some tag
    → (tag.session ≡ session) × (tag.run ≡ run) × (tag.number ≡ number)
unfolding tag_of
tag_of-from session run number tag e =
    option_and_then_some (λ within. Some (record { session = session; run = run; number = number; in_range = within })) (counted run number) tag e (λ within here same.
    (ap (λ (t : Tag). t.session) (sym (same_Some _ tag same)), ap (λ (t : Tag). t.run) (sym (same_Some _ tag same)), ap (λ (t : Tag). t.number) (sym (same_Some _ tag same))))

-- ---- Writes

-- a Write is made of what its server gave it and of its program, whatever shows its one origin
pub write_at-made : (bytes middle rest : List ℕ) (a : Accepted) (program : Program) (one : a.wid.origin ≡ a.stamp.origin) → accepted_at bytes ≡ Some (a, middle) → program_at middle ≡ Some (program, rest)
    → write_at bytes ≡ Some (record { wid = a.wid; stamp = a.stamp; deps = a.deps; program = program; one_origin = one }, rest)
unfolding write_at
write_at-made bytes middle rest a program one head body =
    let write : a.wid.origin ≡ a.stamp.origin → Write = λ p. record { wid = a.wid; stamp = a.stamp; deps = a.deps; program = program; one_origin = p } in
    rw (head, body) (ap (λ p. Some (write p, rest)) (server_set _ _ a.one_origin one))

-- ---- vectors

pub vector_of-given : (counts : List ℕ) (given : Option (List ℕ)) → IsSome given ↔ All (λ count. count ≤ MAX_WRITES) counts → IfSome given (λ v. v ≡ counts) → given ≡ vector_of counts
unfolding vector_of
vector_of-given counts given within same =
    elim (list_all (λ count. nat_le count MAX_WRITES) counts) as (λ b. list_all (λ count. nat_le count MAX_WRITES) counts ≡ b → given ≡ cond b (Some counts) None) [
      | true ↦ λ e. yes given within same (λ k d lt. leb-true _ _ (AllPass-at counts e k d lt))
      | false ↦ λ e. no given within same (λ all. absurd (let f : true ≡ false = sym (list_all-passes counts all) ∙ e in cc))
    ] refl
  where
    yes : (given : Option (List ℕ)) → IsSome given ↔ All (λ count. count ≤ MAX_WRITES) counts → IfSome given (λ v. v ≡ counts) → All (λ count. count ≤ MAX_WRITES) counts → given ≡ Some counts
    yes (Some v) within same all = ap (λ x. Some x) same
    yes None within same all = absurd (let e : false ≡ true = within.1 all in cc)

    no : (given : Option (List ℕ)) → IsSome given ↔ All (λ count. count ≤ MAX_WRITES) counts → IfSome given (λ v. v ≡ counts) → ¬ (All (λ count. count ≤ MAX_WRITES) counts) → given ≡ None
    no (Some v) within same out = absurd (out (within.0 refl))
    no None within same out = refl

    AllPass-at : (counts : List ℕ) → list_all (λ count. nat_le count MAX_WRITES) counts ≡ true → (k d : ℕ) → k < length counts → nat_le (get_or counts k d) MAX_WRITES ≡ true
    AllPass-at counts e = AllPass-from_list_all (λ count. nat_le count MAX_WRITES) counts e

    list_all-passes : (counts : List ℕ) → All (λ count. count ≤ MAX_WRITES) counts → list_all (λ count. nat_le count MAX_WRITES) counts ≡ true
    list_all-passes counts all = list_all-from_AllPass (λ count. nat_le count MAX_WRITES) counts (λ k d lt. le-leb _ _ (all k d lt))

-- ---- lists

-- what was read before, and what is still read
abbrev pub with_front : {T : Type 0} → List T → Read (List T) → Read (List T)
with_front front read = read >>= λ x. Some (front ++ x.0, x.1)

regroup : {T : Type 0} (front : List T) (member : T) (read : Read (List T)) → with_front front (read >>= λ x. Some (member ∷ x.0, x.1)) ≡ with_front (front ++ member ∷ []) read
regroup front member (Some x) = ap (λ members. Some (members, x.1)) (simp append_assoc)
regroup front member None = refl

pub goes_on : {T : Type 0} (at : List ℕ → Read T) (front : List T) (count i : ℕ) (bytes : List ℕ) (member : T) (behind : List ℕ) (total : Read (List T)) → i < count → at bytes ≡ Some (member, behind)
    → with_front front (times (count - i) at bytes) ≡ total → with_front (front ++ member ∷ []) (times (count - (i + 1)) at behind) ≡ total
unfolding times
goes_on at front count i bytes member behind total lt h so_far =
    let k : count - i ≡ suc (count - (i + 1)) = omega arith in
    let one : with_front front (times (count - i) at bytes) ≡ with_front (front ++ member ∷ []) (times (count - (i + 1)) at behind) = rw (k, h) (regroup front member (times (count - (i + 1)) at behind)) in
    sym one ∙ so_far

pub ends : {T : Type 0} (at : List ℕ → Read T) (front : List T) (count i : ℕ) (bytes : List ℕ) (total : Read (List T)) → i < count → at bytes ≡ None
    → with_front front (times (count - i) at bytes) ≡ total → total ≡ None
unfolding times
ends at front count i bytes total lt h so_far =
    let k : count - i ≡ suc (count - (i + 1)) = omega arith in
    let one : with_front front (times (count - i) at bytes) ≡ None = rw (k, h) refl in
    sym so_far ∙ one

pub is_done : {T : Type 0} (at : List ℕ → Read T) (front : List T) (count i : ℕ) (bytes : List ℕ) (total : Read (List T)) → count ≤ i → with_front front (times (count - i) at bytes) ≡ total → total ≡ Some (front, bytes)
unfolding times
is_done at front count i bytes total le so_far =
    let k : count - i ≡ 0 = omega arith in
    let one : with_front front (times (count - i) at bytes) ≡ Some (front, bytes) = rw k (ap (λ members. Some (members, bytes)) (append-nil front)) in
    sym so_far ∙ one

pub length-times : {T : Type 0} (at : List ℕ → Read T) (n : ℕ) (bytes : List ℕ) (members : List T) (rest : List ℕ) → times n at bytes ≡ Some (members, rest) → length members ≡ n
unfolding times
length-times at zero bytes members rest e = sym (ap length (some_pair_parts [] members bytes rest e).0)
length-times at (suc n) bytes members rest e =
    option_and_then_some (λ x. times n at x.1 >>= λ y. Some (x.0 ∷ y.0, y.1)) (at bytes) (members, rest) e (λ x first others.
    option_and_then_some (λ y. Some (x.0 ∷ y.0, y.1)) (times n at x.1) (members, rest) others (λ y read same.
    sym (ap length (some_pair_parts (x.0 ∷ y.0) members y.1 rest same).0) ∙ ap suc (length-times at n x.1 y.0 y.1 read)))
