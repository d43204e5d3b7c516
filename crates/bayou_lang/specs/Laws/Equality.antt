-- `==` decides: what it says of values, programs and Writes is whether they are one.
use Rattle.std.proofs.Common.{◌≡◌, ℕ, ◌<◌, ◌≤◌, Bool, true, false, ◌&&◌, Decides, List, ap, subst, ◌∙◌, refl}
use Rattle.std.specs.Coded.{×_prop, le_prop}
use Rattle.std.proofs.Math.Nat.{ℕ_set}
use Rattle.std.proofs.lemmas.Bool.Decides.{Decides-eqb, Decides-int_eq}
use Rattle.std.proofs.lemmas.Slice.Eq.{slice_eq-Decides}
use Rattle.std.specs.Cmp.Lexicographic.{bytes_decides}
use Rattle.bayou_base.specs.declared.limits.TheConstants.{SERVERS, SESSIONS, MAX_WRITES}
use Rattle.bayou_base.specs.declared.server.ServerId.{ServerId}
use Rattle.bayou_base.specs.declared.session.SessionId.{SessionId}
use Rattle.bayou_base.specs.declared.stamp.Stamp.{Stamp}
use Rattle.bayou_base.specs.declared.tag.Tag.{Tag}
use Rattle.bayou_base.specs.declared.wid.Wid.{Wid}
use Rattle.bayou_base.specs.contracts.stamp.StampPartialEq.TheImpl as stamp_eq
use Rattle.bayou_base.specs.contracts.tag.TagPartialEq.TheImpl as tag_eq
use Rattle.bayou_base.specs.contracts.wid.WidPartialEq.TheImpl as wid_eq
use Rattle.bayou_base.specs.declared.value.Value.{Value}
use Rattle.bayou_base.specs.declared.value.Value.TheVariants.{Num, Text}
use Rattle.bayou_base.specs.contracts.value.ValuePartialEq.TheImpl as value_eq
use Rattle.bayou_lang.specs.declared.program.Term.{Term}
use Rattle.bayou_lang.specs.declared.program.Term.TheVariants.{Lit, Copy, Plus}
use Rattle.bayou_lang.specs.declared.program.Op.{Op}
use Rattle.bayou_lang.specs.declared.program.Op.TheVariants.{Put, Del}
use Rattle.bayou_lang.specs.declared.program.Cond.{Cond}
use Rattle.bayou_lang.specs.declared.program.Cond.TheVariants.{Equals, Absent, AtLeast, AtMost}
use Rattle.bayou_lang.specs.declared.program.Alt.{Alt}
use Rattle.bayou_lang.specs.declared.program.Program.{Program}
use Rattle.bayou_lang.specs.declared.write.Write.{Write}
use Rattle.bayou_lang.specs.contracts.program.TermPartialEq.TheImpl as term_eq
use Rattle.bayou_lang.specs.contracts.program.OpPartialEq.TheImpl as op_eq
use Rattle.bayou_lang.specs.contracts.program.CondPartialEq.TheImpl as cond_eq
use Rattle.bayou_lang.specs.Equality.{same_alternative, same_program, same_write}

-- both of two tests
both : {P Q R : Type 0} → (r s : Bool) → Decides r P → Decides s Q → (P → Q → R) → (R → P × Q) → Decides (r && s) R
both true s p q join split = (λ e. join (p.0 refl) (q.0 e), λ both. q.1 (split both).1)
both false s p q join split = (λ e. cc, λ both. p.1 (split both).0)

value-decides : (a b : Value) → Decides ((value_eq.ghosts).eq a b) (a ≡ b)
value-decides (Num a) (Num b) = (λ e. ap Num ((Decides-int_eq a b).0 e), λ e. let one : a ≡ b = cc in (Decides-int_eq a b).1 one)
value-decides (Text a) (Text b) = (λ e. ap Text ((bytes_decides a b).0 e), λ e. let one : a ≡ b = cc in (bytes_decides a b).1 one)
value-decides (Num a) (Text b) = (λ e. cc, λ e. cc)
value-decides (Text a) (Num b) = (λ e. cc, λ e. cc)

term-decides : (a b : Term) → Decides ((term_eq.ghosts).eq a b) (a ≡ b)
term-decides (Lit a) (Lit b) = (λ e. ap Lit ((value-decides a b).0 e), λ e. let one : a ≡ b = cc in (value-decides a b).1 one)
term-decides (Lit a) (Copy b) = (λ e. cc, λ e. cc)
term-decides (Lit a) (Plus b n) = (λ e. cc, λ e. cc)
term-decides (Copy a) (Lit b) = (λ e. cc, λ e. cc)
term-decides (Copy a) (Copy b) = (λ e. ap Copy ((bytes_decides a b).0 e), λ e. let one : a ≡ b = cc in (bytes_decides a b).1 one)
term-decides (Copy a) (Plus b n) = (λ e. cc, λ e. cc)
term-decides (Plus a m) (Lit b) = (λ e. cc, λ e. cc)
term-decides (Plus a m) (Copy b) = (λ e. cc, λ e. cc)
term-decides (Plus a m) (Plus b n) = both _ _ (bytes_decides a b) (Decides-int_eq m n) (λ keys numbers. cc) (λ one. (cc, cc))

op-decides : (a b : Op) → Decides ((op_eq.ghosts).eq a b) (a ≡ b)
op-decides (Put a s) (Put b t) = both _ _ (bytes_decides a b) (term-decides s t) (λ keys terms. cc) (λ one. (cc, cc))
op-decides (Put a s) (Del b) = (λ e. cc, λ e. cc)
op-decides (Del a) (Put b t) = (λ e. cc, λ e. cc)
op-decides (Del a) (Del b) = (λ e. ap Del ((bytes_decides a b).0 e), λ e. let one : a ≡ b = cc in (bytes_decides a b).1 one)

cond-decides : (a b : Cond) → Decides ((cond_eq.ghosts).eq a b) (a ≡ b)
cond-decides (Equals a v) (Equals b w) = both _ _ (bytes_decides a b) (value-decides v w) (λ keys values. cc) (λ one. (cc, cc))
cond-decides (Equals a v) (Absent b) = (λ e. cc, λ e. cc)
cond-decides (Equals a v) (AtLeast b n) = (λ e. cc, λ e. cc)
cond-decides (Equals a v) (AtMost b n) = (λ e. cc, λ e. cc)
cond-decides (Absent a) (Equals b w) = (λ e. cc, λ e. cc)
cond-decides (Absent a) (Absent b) = (λ e. ap Absent ((bytes_decides a b).0 e), λ e. let one : a ≡ b = cc in (bytes_decides a b).1 one)
cond-decides (Absent a) (AtLeast b n) = (λ e. cc, λ e. cc)
cond-decides (Absent a) (AtMost b n) = (λ e. cc, λ e. cc)
cond-decides (AtLeast a m) (Equals b w) = (λ e. cc, λ e. cc)
cond-decides (AtLeast a m) (Absent b) = (λ e. cc, λ e. cc)
cond-decides (AtLeast a m) (AtLeast b n) = both _ _ (bytes_decides a b) (Decides-int_eq m n) (λ keys numbers. cc) (λ one. (cc, cc))
cond-decides (AtLeast a m) (AtMost b n) = (λ e. cc, λ e. cc)
cond-decides (AtMost a m) (Equals b w) = (λ e. cc, λ e. cc)
cond-decides (AtMost a m) (Absent b) = (λ e. cc, λ e. cc)
cond-decides (AtMost a m) (AtLeast b n) = (λ e. cc, λ e. cc)
cond-decides (AtMost a m) (AtMost b n) = both _ _ (bytes_decides a b) (Decides-eqb m n) (λ prefixes numbers. cc) (λ one. (cc, cc))

-- of two alternatives
pub same_alternative-decides : (a b : Alt) → Decides (same_alternative a b) (a ≡ b)
same_alternative-decides a b =
    let made : List Cond → List Op → Alt = λ when ops. record { when = record { items = when }; ops = record { items = ops } } in
    both _ _ (slice_eq-Decides cond-decides a.when.items b.when.items _ refl) (slice_eq-Decides op-decides a.ops.items b.ops.items _ refl)
    (λ when ops. ap (λ list. made list a.ops.items) when ∙ ap (made b.when.items) ops)
    (λ one. (ap (λ (alt : Alt). alt.when.items) one, ap (λ (alt : Alt). alt.ops.items) one))

-- of two programs
pub same_program-decides : (a b : Program) → Decides (same_program a b) (a ≡ b)
same_program-decides a b =
    let made : List Cond → List Op → List Alt → Program =
    λ check update merge. record { check = record { items = check }; update = record { items = update }; merge = record { items = merge } } in
    both _ _ (slice_eq-Decides cond-decides a.check.items b.check.items _ refl)
    (both _ _ (slice_eq-Decides op-decides a.update.items b.update.items _ refl) (slice_eq-Decides same_alternative-decides a.merge.items b.merge.items _ refl)
    (λ update merge. (update, merge)) (λ rest. rest))
    (λ check rest. ap (λ list. made list a.update.items a.merge.items) check
    ∙ ap (λ list. made b.check.items list a.merge.items) rest.0 ∙ ap (made b.check.items b.update.items) rest.1)
    (λ one. (
      ap (λ (program : Program). program.check.items) one,
      (ap (λ (program : Program). program.update.items) one, ap (λ (program : Program). program.merge.items) one),
    ))

-- a server is its index, a name its origin and its seq, and a stamp its clock and its origin
pub server-ext : (a b : ServerId) → a.index ≡ b.index → a ≡ b
server-ext a b same =
    let made : (n : ℕ) → n < SERVERS → ServerId = λ n h. record { index = n; in_range = h } in
    let P : ℕ → Type 0 = λ n. (h : n < SERVERS) → made a.index a.in_range ≡ made n h in
    subst P same (λ h. ap (made a.index) (le_prop a.in_range h)) b.in_range

pub wid-ext : (a b : Wid) → a.origin ≡ b.origin → a.seq ≡ b.seq → a ≡ b
wid-ext a b same_origin same_seq =
    let made : (n : ℕ) → (0 < n) × (n ≤ MAX_WRITES) → ServerId → Wid = λ n h o. record { origin = o; seq = n; in_range = h } in
    let P : ℕ → Type 0 = λ n. (h : (0 < n) × (n ≤ MAX_WRITES)) → made a.seq a.in_range a.origin ≡ made n h b.origin in
    subst P same_seq (λ h. ap (λ o. made a.seq a.in_range o) same_origin ∙ ap (λ p. made a.seq p b.origin) (×_prop le_prop le_prop a.in_range h)) b.in_range

pub stamp-ext : (a b : Stamp) → a.clock ≡ b.clock → a.origin ≡ b.origin → a ≡ b
stamp-ext a b same_clock same_origin =
    let made : (n : ℕ) → (0 < n) × (n ≤ MAX_WRITES) → ServerId → Stamp = λ n h o. record { clock = n; origin = o; in_range = h } in
    let P : ℕ → Type 0 = λ n. (h : (0 < n) × (n ≤ MAX_WRITES)) → made a.clock a.in_range a.origin ≡ made n h b.origin in
    subst P same_clock (λ h. ap (λ o. made a.clock a.in_range o) same_origin ∙ ap (λ p. made a.clock p b.origin) (×_prop le_prop le_prop a.in_range h)) b.in_range

-- a session is its index, and a tag its session, its run and its number
pub session-ext : (a b : SessionId) → a.index ≡ b.index → a ≡ b
session-ext a b same =
    let made : (n : ℕ) → n < SESSIONS → SessionId = λ n h. record { index = n; in_range = h } in
    let P : ℕ → Type 0 = λ n. (h : n < SESSIONS) → made a.index a.in_range ≡ made n h in
    subst P same (λ h. ap (made a.index) (le_prop a.in_range h)) b.in_range

pub tag-ext : (a b : Tag) → a.session ≡ b.session → a.run ≡ b.run → a.number ≡ b.number → a ≡ b
tag-ext a b same_session same_run same_number =
    let made : (r n : ℕ) → (0 < r) × (0 < n) → SessionId → Tag = λ r n h s. record { session = s; run = r; number = n; in_range = h } in
    let P : ℕ → Type 0 = λ r. (h : (0 < r) × (0 < b.number)) → a ≡ made r b.number h b.session in
    let Q : ℕ → Type 0 = λ n. (h : (0 < a.run) × (0 < n)) → a ≡ made a.run n h b.session in
    let numbered : Q b.number = subst Q same_number
    (λ h. ap (λ s. made a.run a.number a.in_range s) same_session ∙ ap (λ p. made a.run a.number p b.session) (×_prop le_prop le_prop a.in_range h)) in
    subst P same_run numbered b.in_range

pub server_set : IsSet ServerId
server_set = hlevel (ℕ_set, le_prop)

-- a Write is its name, its stamp, its past and its program
pub write-ext : (a b : Write) → a.wid ≡ b.wid → a.stamp ≡ b.stamp → a.deps ≡ b.deps → a.program ≡ b.program → a ≡ b
write-ext a b same_wid same_stamp same_deps same_program =
    let made : (wid : Wid) (stamp : Stamp) → wid.origin ≡ stamp.origin → List ℕ → Program → Write =
    λ wid stamp one deps program. record { wid = wid; stamp = stamp; deps = deps; program = program; one_origin = one } in
    let Named : Wid → Type 0 = λ wid. (one : wid.origin ≡ a.stamp.origin) → a ≡ made wid a.stamp one a.deps a.program in
    let Stamped : Stamp → Type 0 = λ stamp. (one : b.wid.origin ≡ stamp.origin) → a ≡ made b.wid stamp one a.deps a.program in
    let named : Named b.wid = subst Named same_wid (λ one. ap (λ o. made a.wid a.stamp o a.deps a.program) (server_set _ _ a.one_origin one)) in
    subst Stamped same_stamp named b.one_origin
    ∙ ap (λ deps. made b.wid b.stamp b.one_origin deps a.program) same_deps
    ∙ ap (made b.wid b.stamp b.one_origin b.deps) same_program

wid-decides : (a b : Wid) → Decides ((wid_eq.ghosts).eq a b) (a ≡ b)
wid-decides a b =
    both _ _ (Decides-eqb a.origin.index b.origin.index) (Decides-eqb a.seq b.seq)
    (λ origin seq. wid-ext a b (server-ext a.origin b.origin origin) seq)
    (λ one. (ap (λ (wid : Wid). wid.origin.index) one, ap (λ (wid : Wid). wid.seq) one))

stamp-decides : (a b : Stamp) → Decides ((stamp_eq.ghosts).eq a b) (a ≡ b)
stamp-decides a b =
    both _ _ (Decides-eqb a.clock b.clock) (Decides-eqb a.origin.index b.origin.index)
    (λ clock origin. stamp-ext a b clock (server-ext a.origin b.origin origin))
    (λ one. (ap (λ (stamp : Stamp). stamp.clock) one, ap (λ (stamp : Stamp). stamp.origin.index) one))

-- of two tags
pub tag-decides : (a b : Tag) → Decides ((tag_eq.ghosts).eq a b) (a ≡ b)
tag-decides a b =
    both _ _ (Decides-eqb a.session.index b.session.index) (both _ _ (Decides-eqb a.run b.run) (Decides-eqb a.number b.number)
    (λ run number. (run, number)) (λ rest. rest))
    (λ session rest. tag-ext a b (session-ext a.session b.session session) rest.0 rest.1)
    (λ one. (ap (λ (tag : Tag). tag.session.index) one, (ap (λ (tag : Tag). tag.run) one, ap (λ (tag : Tag). tag.number) one)))

-- of two Writes
pub same_write-decides : (a b : Write) → Decides (same_write a b) (a ≡ b)
same_write-decides a b =
    both _ _ (wid-decides a.wid b.wid)
    (both _ _ (stamp-decides a.stamp b.stamp)
    (both _ _ (bytes_decides a.deps b.deps) (same_program-decides a.program b.program) (λ deps program. (deps, program)) (λ rest. rest))
    (λ stamp rest. (stamp, rest)) (λ rest. rest))
    (λ wid rest. write-ext a b wid rest.0 rest.1.0 rest.1.1)
    (λ one. (
      ap (λ (write : Write). write.wid) one,
      (
        ap (λ (write : Write). write.stamp) one,
        (ap (λ (write : Write). write.deps) one, ap (λ (write : Write). write.program) one),
      ),
    ))
