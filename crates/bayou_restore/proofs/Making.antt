-- The own Write that a server makes again.
use Rattle.std.proofs.Common.{◌≡◌, ◌≢◌, ℕ, ◌+◌, ◌-◌, ◌<◌, ◌≤◌, List, [], ◌∷◌, ◌++◌, Option, None, Some, Ok, Err, IsSome, get_or, replicate, zero, suc, length, length-append, slice_index, All, Contains, ap, sym, ◌∙◌, refl, subst, arith}
use Rattle.std.proofs.lemmas.List.{get_or-append_right}
use Rattle.std.proofs.lemmas.List.Elements.{All-contains, All-push}
use Rattle.bayou_base.specs.declared.limits.TheConstants.{SERVERS}
use Rattle.bayou_base.specs.declared.tag.Tag.{Tag}
use Rattle.bayou_base.specs.Vector.{Dominates}
use Rattle.bayou_lang.specs.declared.program.Program.{Program}
use Rattle.bayou_lang.specs.declared.write.Write.{Write}
use Rattle.bayou_lang.specs.Laws.Equality.{server-ext, stamp-ext, wid-ext, write-ext}
use Rattle.bayou_lang.specs.Laws.Fitting.{count_of-push, covered_by-fitting}
use Rattle.bayou_lang.specs.Writes.{AreFitting, Fits, IsNextWrite, count_of, counted, covered_by, greatest_clock}
use Rattle.bayou_restore.specs.Gathering.{Gathering}
use Rattle.bayou_restore.specs.Inner.Steps.{AreTagsUpTo, IsSameServer, MakesAgain, Stands, unmade_as}
use Rattle.bayou_restore.specs.Restoring.{IsOwnAmong}
use Rattle.bayou_restore.proofs.Parts.{clock_again, split_of}
use Rattle.bayou_base.specs.declared.answer.Accepted.{Accepted}
use Rattle.bayou_wire.specs.declared.record.Record.{Record}
use Rattle.bayou_server.specs.Server.{Core, own_count, records}
use Rattle.bayou_server.specs.Writes.{HoldsUnder, Writes}
use Rattle.bayou_server.specs.declared.answer.Written.TheVariants.{New, Known}
use Rattle.bayou_server.specs.declared.fault.WriteFault.{WriteFault}
use Rattle.bayou_server.specs.declared.fault.WriteFault.TheVariants.{TagUsed, Down, Behind, LogFull, OutOfMemory, Journal}

-- Of a program there is one next Write.
pub one_next : (held : List Write) (server : ℕ) (program : Program) (a b : Write) → IsNextWrite held server program a → IsNextWrite held server program b → a ≡ b
one_next held server program a b first second =
    let origin = server-ext a.wid.origin b.wid.origin (first.origin ∙ sym second.origin) in
    let stamped = sym a.one_origin ∙ origin ∙ b.one_origin in
    write-ext a b
    (wid-ext a.wid b.wid origin (first.seq ∙ sym second.seq))
    (stamp-ext a.stamp b.stamp (first.clock ∙ sym second.clock) stamped)
    (first.deps ∙ sym second.deps)
    (first.program ∙ sym second.program)

-- Where just what an own Write of the list counts is held, it is the server's next Write of its program.
pub own_is_next : (gathering : Gathering) (core : Core) (own : Write) → Stands gathering core → AreFitting core.count core.held → IsOwnAmong core.id gathering.writes own → count_of core.held ≡ own.deps
    → IsNextWrite core.held core.id own.program own
own_is_next gathering core own stands fitting among whole =
    let writes = gathering.writes in
    let held_fits = subst (λ (n : ℕ). AreFitting n core.held) stands.count fitting in
    let split = split_of writes own among.0 in
    let fits : Fits gathering.count split.before own = stands.fitting split.before own split.after split.is in
    let reaches : Dominates (count_of core.held) own.deps = λ server known. omega (arith, ap (λ (l : List ℕ). slice_index l server) whole) in
    let clock = clock_again gathering.count writes core.held own stands.fitting held_fits stands.others among.0 reaches in
    let all : covered_by own.deps core.held ≡ core.held = covered_by-fitting gathering.count core.held own.deps held_fits (λ server known. omega (arith, ap (λ (l : List ℕ). slice_index l server) whole)) in
    record {
      origin = among.1;
      seq = omega (arith, fits.1.own, ap (λ (l : List ℕ). slice_index l own.wid.origin.index) whole, ap (slice_index (count_of core.held)) among.1);
      clock = clock ∙ ap (λ (l : List Write). greatest_clock l + 1) all;
      deps = sym whole;
      program = refl;
    }

-- the last of a list that a Write was put behind
pub last_pushed : (held : List Write) (made other : Write) → get_or (held ++ made ∷ []) (length (held ++ made ∷ []) - 1) other ≡ made
last_pushed held made other =
    let long = length-append held (made ∷ []) in
    let at : length (held ++ made ∷ []) - 1 ≡ length held = omega (arith, long) in
    let none : length held - length held ≡ 0 = omega arith in
    ap (λ (k : ℕ). get_or (held ++ made ∷ []) k other) at
    ∙ get_or-append_right held (made ∷ []) (length held) (length held) other refl (omega arith)
    ∙ ap (λ (k : ℕ). get_or (made ∷ []) k other) none

-- how the server stands behind a Write that it made
pub stands_behind : (gathering : Gathering) (old new : Core) (own made : Write) (tag : Tag) → Stands gathering old → IsOwnAmong old.id gathering.writes own → made ≡ own
    → tag.number ≡ own_count old + 1 → own_count new ≡ own_count old + 1 → new ≡ record old { held = old.held ++ made ∷ []; tags = old.tags ++ Some tag ∷ [] } → Stands gathering new
stands_behind gathering old new own made tag stands among one number more is =
    let UpTo : ℕ → Option Tag → Type 0 = λ most given. (t : Tag) → given ≡ Some t → t.number ≤ most in
    let inside : All (λ w. Contains gathering.writes w) (old.held ++ made ∷ []) =
    All-push (λ w. Contains gathering.writes w) old.held made stands.others (subst (λ (w : Write). Contains gathering.writes w) (sym one) among.0) in
    let before : All (UpTo (own_count new)) old.tags = λ k d within t same. omega (arith, more, stands.tags k d within t same) in
    let last : UpTo (own_count new) (Some tag) = λ t same. (let equal : tag ≡ t = cc in omega (arith, number, more, ap (λ (g : Tag). g.number) equal)) in
    let tags : All (UpTo (own_count new)) (old.tags ++ Some tag ∷ []) = All-push (UpTo (own_count new)) old.tags (Some tag) before last in
    record {
      up = ap (λ (c : Core). c.doubt) is ∙ stands.up;
      count = ap (λ (c : Core). c.count) is ∙ stands.count;
      others = subst (λ (l : List Write). All (λ w. Contains gathering.writes w) l) (sym (ap (λ (c : Core). c.held) is)) inside;
      fitting = stands.fitting;
      tags = subst (λ (l : List (Option Tag)). AreTagsUpTo (own_count new) l) (sym (ap (λ (c : Core). c.tags) is)) tags;
    }

-- no tag is of the Write that comes next
tag_is_new : (core : Core) (tag : Tag) → AreTagsUpTo (own_count core) core.tags → tag.number ≡ own_count core + 1 → Contains core.tags (Some tag) → ⊥
tag_is_new core tag upto number among =
    let below = All-contains (λ given. (t : Tag) → given ≡ Some t → t.number ≤ own_count core) core.tags (Some tag) upto among tag refl in
    omega (arith, number, below)

-- a record that is held has its tag among the tags
tag_of_record : (held : List Write) (tags : List (Option Tag)) (write : Write) (tag : Option Tag) (k : ℕ) → k < length (records held tags)
    → get_or (records held tags) k (record { write = write; tag = tag }) ≡ record { write = write; tag = tag } → Contains tags tag
tag_of_record [] tags write tag k within is = absurd (omega (arith, within))
tag_of_record (first ∷ held) [] write tag k within is = absurd (omega (arith, within))
tag_of_record (first ∷ held) (given ∷ tags) write tag zero within is = (0, omega arith, ap (λ (r : Record). r.tag) is)
tag_of_record (first ∷ held) (given ∷ tags) write tag (suc k) within is =
    let rest = tag_of_record held tags write tag k (omega (arith, within)) is in
    (suc rest.0, omega (arith, rest.1), rest.2)

none_under : (core : Core) (tag : Tag) (write : Write) → AreTagsUpTo (own_count core) core.tags → tag.number ≡ own_count core + 1 → HoldsUnder core tag write → ⊥
none_under core tag write upto number under =
    tag_is_new core tag upto number (tag_of_record core.held core.tags write (Some tag) under.0 under.1 under.2)

zeros : (n s : ℕ) → let none : ℕ = 0 in get_or (replicate n none) s none ≡ none
zeros zero s = refl
zeros (suc n) zero = refl
zeros (suc n) (suc s) = zeros n s

-- no vector is below one that counts nothing
above_zero : (counts : List ℕ) → Dominates counts (replicate SERVERS 0)
above_zero counts server known = omega (arith, zeros SERVERS server)

-- The server that the own Write comes to, where just what it counts is held
pub record IsReadyFor (gathering : Gathering) (core : Core) (own : Write) (tag : Tag) (program : Program) : Type 0 where
  pub stands : Stands gathering core
  pub fitting : AreFitting core.count core.held
  pub among : IsOwnAmong core.id gathering.writes own
  pub program_is : program ≡ own.program
  pub number : tag.number ≡ own.wid.seq

-- where just that is held, its number is the next one
number_next : (gathering : Gathering) (core : Core) (own : Write) (tag : Tag) (program : Program) → IsReadyFor gathering core own tag program → count_of core.held ≡ own.deps
    → tag.number ≡ own_count core + 1
number_next gathering core own tag program ready whole =
    let next = own_is_next gathering core own ready.stands ready.fitting ready.among whole in
    omega (arith, ready.number, next.seq)

-- a Write that is refused
pub refused_write : (gathering : Gathering) (old new : Core) (own : Write) (tag : Tag) (need : List ℕ) (program : Program) (fault : WriteFault) (number : ℕ) → IsReadyFor gathering old own tag program → need ≡ replicate SERVERS 0
    → Writes old tag need program (Err fault) new → MakesAgain gathering old own (Err (unmade_as fault number)) new
refused_write gathering old new own tag need program TagUsed number ready nothing writes = λ whole.
    none_under old tag writes.0.write ready.stands.tags (number_next gathering old own tag program ready whole) writes.0.held
refused_write gathering old new own tag need program Down number ready nothing writes = λ whole.
    let down : IsSome {T = Write} None = subst IsSome ready.stands.up writes.1 in
    absurd (cc)
refused_write gathering old new own tag need program (Behind vector) number ready nothing writes = λ whole. writes.2.not_covered (subst (Dominates (count_of old.held)) (sym nothing) (above_zero (count_of old.held)))
refused_write gathering old new own tag need program LogFull number ready nothing writes =
    ap (λ (c : Core). length c.held) writes.3 ∙ writes.2 ∙ sym (ap (λ (c : Core). c.limit) writes.3)
refused_write gathering old new own tag need program OutOfMemory number ready nothing writes = tt
refused_write gathering old new own tag need program Journal number ready nothing writes =
    subst IsSome (sym (ap (λ (c : Core). c.doubt) writes.1.is)) refl

-- one under whose tag another is held
pub known_write : (gathering : Gathering) (old new : Core) (own : Write) (tag : Tag) (need : List ℕ) (program : Program) (accepted : Accepted) → IsReadyFor gathering old own tag program
    → Writes old tag need program (Ok (Known accepted)) new → count_of old.held ≡ own.deps → ⊥
known_write gathering old new own tag need program accepted ready writes whole =
    none_under old tag writes.0.write ready.stands.tags (number_next gathering old own tag program ready whole) writes.0.held

-- one that was made, and isn't the own Write
pub other_write : (gathering : Gathering) (old new : Core) (own : Write) (tag : Tag) (need : List ℕ) (program : Program) (accepted : Accepted) → IsReadyFor gathering old own tag program
    → Writes old tag need program (Ok (New accepted)) new → get_or new.held (length new.held - 1) own ≢ own → count_of old.held ≡ own.deps → ⊥
other_write gathering old new own tag need program accepted ready writes other whole =
    let made = writes.1.made in
    let next = own_is_next gathering old own ready.stands ready.fitting ready.among whole in
    let first = subst (λ (p : Program). IsNextWrite old.held old.id p made) ready.program_is writes.1.makes.next in
    let one = one_next old.held old.id own.program made own first next in
    let held : new.held ≡ old.held ++ made ∷ [] = ap (λ (c : Core). c.held) writes.1.is in
    other (ap (λ (l : List Write). get_or l (length l - 1) own) held ∙ last_pushed old.held made own ∙ one)

-- one that was made, and is the own Write
pub same_write_made : (gathering : Gathering) (old new : Core) (own : Write) (tag : Tag) (need : List ℕ) (program : Program) (accepted : Accepted) → IsReadyFor gathering old own tag program
    → Writes old tag need program (Ok (New accepted)) new → own_count new ≡ own_count old + 1 → get_or new.held (length new.held - 1) own ≡ own
    → MakesAgain gathering old own (Ok tt) new × IsSameServer old new
same_write_made gathering old new own tag need program accepted ready writes more last =
    let made = writes.1.made in
    let is = writes.1.is in
    let held : new.held ≡ old.held ++ made ∷ [] = ap (λ (c : Core). c.held) is in
    let one : made ≡ own = sym (last_pushed old.held made own) ∙ sym (ap (λ (l : List Write). get_or l (length l - 1) own) held) ∙ last in
    let whole : count_of old.held ≡ own.deps = sym writes.1.makes.next.deps ∙ ap (λ (w : Write). w.deps) one in
    let number = number_next gathering old own tag program ready whole in
    let now : new.held ≡ old.held ++ own ∷ [] = held ∙ ap (λ (w : Write). old.held ++ w ∷ []) one in (
      (
        stands_behind gathering old new own made tag ready.stands ready.among one number more is,
        now,
        ap count_of now ∙ count_of-push old.held own ∙ ap (λ (l : List ℕ). counted l own.wid) whole,
      ),
      record { id = ap (λ (c : Core). c.id) is; count = ap (λ (c : Core). c.count) is; limit = ap (λ (c : Core). c.limit) is },
    )
