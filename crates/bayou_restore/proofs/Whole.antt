-- How a server stands behind the first so many of the gathered Writes, its own among which it made again.
use Rattle.std.proofs.Common.{◌≡◌, ◌≢◌, ◌==◌, ℕ, zero, suc, ◌+◌, ◌<◌, ◌≤◌, inl, inr, Bool, true, false, List, [], ◌∷◌, ◌++◌, Option, None, Err, drop, get_or, length, replicate, slice_index, take, All, Contains, ap, sym, ◌∙◌, refl, subst, arith}
use Rattle.std.specs.List.{filter}
use Rattle.std.proofs.lemmas.Bool.{cases_eq}
use Rattle.std.proofs.lemmas.List.{get_or-set_same, length-set}
use Rattle.std.proofs.lemmas.List.Elements.{filter-append}
use Rattle.bayou_base.specs.declared.limits.TheConstants.{SERVERS}
use Rattle.bayou_base.specs.declared.tag.Tag.{Tag}
use Rattle.bayou_base.specs.Vector.{Dominates}
use Rattle.bayou_lang.specs.declared.write.Write.{Write}
use Rattle.bayou_lang.specs.Laws.Fitting.{counted-other, length-count_of}
use Rattle.bayou_lang.specs.Writes.{AreFitting, Fits, count_of, counted}
use Rattle.bayou_restore.specs.Gathering.{Gathering}
use Rattle.bayou_restore.specs.Inner.Steps.{AreTagsUpTo, IsSameServer, MakesAgain, MayComeNext, Stands, TakesBefore}
use Rattle.bayou_restore.specs.Restoring.{FailsToRestore, IsHistory, IsOwnAmong, Restores, own_of}
use Rattle.bayou_restore.specs.declared.fault.RestoreFault.{RestoreFault}
use Rattle.bayou_restore.specs.declared.fault.RestoreFault.TheVariants.{NotEmpty, Misfit, LogFull, Device, OutOfMemory}
use Rattle.bayou_restore.proofs.Parts.{split_of}
use Rattle.bayou_restore.proofs.Taking.{own_of-other}
use Rattle.bayou_server.specs.Server.{AreTags, Core, IsSoundServer, own_count}

-- a count is the number of a server's Writes
abbrev pub IsNumber : Type 0
IsNumber = (writes : List Write) (server : ℕ) → server < SERVERS → slice_index (count_of writes) server ≡ length (filter (λ write. write.wid.origin.index == server) writes)

-- what is so behind the first of the Writes
pub record Behind (gathering : Gathering) (old now : Core) (made : List Write) : Type 0 where
  pub stands : Stands gathering now
  pub same : IsSameServer old now
  pub own : own_of old.id now.held ≡ own_of old.id made
  pub reaches : IsHistory old.id gathering.writes → (other : Write) → IsOwnAmong old.id gathering.writes other → own_count now < other.wid.seq → Dominates other.deps (count_of now.held)

zeros : (n s : ℕ) → let none : ℕ = 0 in get_or (replicate n none) s none ≡ none
zeros zero s = refl
zeros (suc n) zero = refl
zeros (suc n) (suc s) = zeros n s

-- no Write, no tag
no_tags : (server : ℕ) (tags : List (Option Tag)) → AreTags server [] tags → tags ≡ []
no_tags server [] are = refl
no_tags server (tag ∷ tags) are = absurd are.own

-- at the beginning
pub begins : (gathering : Gathering) (core : Core) → AreFitting gathering.count gathering.writes → IsSoundServer core → core.doubt ≡ None → core.count ≡ gathering.count → core.held ≡ []
    → Behind gathering core core []
begins gathering core fitting sound up count empty =
    let none = no_tags core.id core.tags (subst (λ (l : List Write). AreTags core.id l core.tags) empty sound.tagged) in
    record {
      stands = record {
        up = up;
        count = count;
        others = subst (λ (l : List Write). All (λ w. Contains gathering.writes w) l) (sym empty) (λ k e within. absurd (omega (arith, within)));
        fitting = fitting;
        tags = subst (λ (l : List (Option Tag)). AreTagsUpTo (own_count core) l) (sym none) (λ k e within. absurd (omega (arith, within)));
      };
      same = record { id = refl; count = refl; limit = refl };
      own = ap (own_of core.id) empty;
      reaches = λ history other among later server known.
          let nothing : slice_index (count_of core.held) server ≡ 0 = ap (λ (l : List Write). slice_index (count_of l) server) empty ∙ zeros SERVERS server in
          omega (arith, nothing);
    }

own_of-own : (server : ℕ) (made : List Write) (write : Write) → write.wid.origin.index ≡ server → own_of server (made ++ write ∷ []) ≡ own_of server made ++ write ∷ []
own_of-own server made write own =
    let IsOwn : Write → Bool = λ w. w.wid.origin.index == server in
    let one : filter IsOwn (write ∷ []) ≡ write ∷ [] = elim (write.wid.origin.index == server) as (λ t. write.wid.origin.index == server ≡ t → filter IsOwn (write ∷ []) ≡ write ∷ []) [
      | true ↦ λ is. rw is refl
      | false ↦ λ isnt. absurd (grind (arith, own))
    ] refl in
    filter-append IsOwn made (write ∷ []) ∙ ap (λ l. own_of server made ++ l) one

-- the own Write behind those may come next
pub comes_next : IsNumber → (gathering : Gathering) (old now : Core) (made : List Write) (write : Write) (after : List Write) → old.id < SERVERS → Behind gathering old now made
    → gathering.writes ≡ made ++ write ∷ after → IsOwnAmong old.id gathering.writes write → IsHistory old.id gathering.writes → MayComeNext gathering.writes now write
comes_next law gathering old now made write after known behind split among history =
    let fits : Fits gathering.count made write = behind.stands.fitting made write after split in
    let id = old.id in
    let numbers : slice_index (count_of now.held) id ≡ slice_index (count_of made) id =
    law now.held id known ∙ ap (λ (l : List Write). length l) behind.own ∙ sym (law made id known) in
    let deps_at = ap (λ (s : ℕ). slice_index write.deps s) among.1 in
    let made_at = ap (λ (s : ℕ). slice_index (count_of made) s) among.1 in
    let now_at = ap (λ (s : ℕ). slice_index (count_of now.held) s) behind.same.id in
    let deps_now = ap (λ (s : ℕ). slice_index write.deps s) behind.same.id in
    let next : slice_index write.deps now.id ≡ own_count now = omega (arith, fits.0.next, fits.1.own, deps_at, made_at, numbers, now_at, deps_now) in
    record {
      among = (among.0, among.1 ∙ sym behind.same.id);
      next = next;
      reaches = behind.reaches history write among (omega (arith, fits.1.own, next, deps_at, deps_now));
      closed = λ other there covered. history.closed write other among there covered;
    }

-- and behind it, once it was made again
pub goes_behind : (gathering : Gathering) (old mid now new : Core) (made : List Write) (write : Write) (after : List Write) → Behind gathering old mid made
    → gathering.writes ≡ made ++ write ∷ after → IsOwnAmong old.id gathering.writes write
    → own_of mid.id now.held ≡ own_of mid.id mid.held → IsSameServer mid now → IsSameServer now new
    → Stands gathering new → new.held ≡ now.held ++ write ∷ [] → count_of new.held ≡ counted write.deps write.wid
    → Behind gathering old new (made ++ write ∷ [])
goes_behind gathering old mid now new made write after behind split among kept first second stands held counts =
    let fits : Fits gathering.count made write = behind.stands.fitting made write after split in
    let id = old.id in
    let same : IsSameServer old new = record {
      id = second.id ∙ first.id ∙ behind.same.id;
      count = second.count ∙ first.count ∙ behind.same.count;
      limit = second.limit ∙ first.limit ∙ behind.same.limit;
    } in
    let kept_at : own_of id now.held ≡ own_of id mid.held = subst (λ (s : ℕ). own_of s now.held ≡ own_of s mid.held) behind.same.id kept in
    let own : own_of id new.held ≡ own_of id made ++ write ∷ [] =
    ap (own_of id) held ∙ own_of-own id now.held write among.1 ∙ ap (λ (l : List Write). l ++ write ∷ []) (kept_at ∙ behind.own) in
    record {
      stands = stands;
      same = same;
      own = own ∙ sym (own_of-own id made write among.1);
      reaches = λ history other there later server known.
          let new_at = ap (λ (s : ℕ). slice_index (count_of new.held) s) same.id in
          let here : slice_index (count_of new.held) write.wid.origin.index ≡ slice_index write.deps write.wid.origin.index + 1 =
          ap (λ (l : List ℕ). slice_index l write.wid.origin.index) counts ∙ counted_own write.deps write (deps_each write.deps (sym counts)) in
          let own_is = ap (λ (s : ℕ). slice_index (count_of new.held) s) among.1 in
          let earlier : write.wid.seq < other.wid.seq = omega (arith, later, new_at, here, own_is, fits.1.own) in
          elim (cases_eq write.wid.origin.index server) as (λ _. slice_index (count_of new.held) server ≤ slice_index other.deps server) [
            | inl at ↦
                let other_split = split_of gathering.writes other there.0 in
                let other_fits : Fits gathering.count other_split.before other = behind.stands.fitting other_split.before other other_split.after other_split.is in
                let other_at : other.wid.origin.index ≡ server = there.1 ∙ sym among.1 ∙ at in
                let other_own = ap (λ (s : ℕ). slice_index other.deps s) other_at in
                let write_own = ap (λ (s : ℕ). slice_index (count_of new.held) s) at in
                omega (arith, other_fits.1.own, other_own, write_own, here, fits.1.own, earlier)
            | inr away ↦
                let apart : slice_index (count_of new.held) server ≡ slice_index write.deps server =
                ap (λ (l : List ℕ). slice_index l server) counts ∙ counted-other write.deps write.wid server away in
                omega (arith, apart, history.rising write other among there earlier server known)
          ];
    }
  where
    deps_each : (deps : List ℕ) → counted deps write.wid ≡ count_of new.held → length deps ≡ SERVERS
    deps_each deps is = sym (length-set deps write.wid.origin.index (slice_index deps write.wid.origin.index + 1)) ∙ ap (λ (l : List ℕ). length l) is ∙ length-count_of new.held

    counted_own : (deps : List ℕ) (w : Write) → length deps ≡ SERVERS → slice_index (counted deps w.wid) w.wid.origin.index ≡ slice_index deps w.wid.origin.index + 1
    counted_own deps w each = get_or-set_same deps w.wid.origin.index (slice_index deps w.wid.origin.index + 1) 0 (omega (arith, each, w.wid.origin.in_range))

-- another server's Write is passed over
pub goes_past : (gathering : Gathering) (old now : Core) (made : List Write) (write : Write) → Behind gathering old now made → write.wid.origin.index ≢ old.id
    → Behind gathering old now (made ++ write ∷ [])
goes_past gathering old now made write behind other = record {
  stands = behind.stands;
  same = behind.same;
  own = behind.own ∙ sym (own_of-other old.id made write other);
  reaches = behind.reaches;
}

-- at the end
pub ends_whole : (gathering : Gathering) (old now : Core) → old.held ≡ [] → Behind gathering old now gathering.writes → Restores old gathering.writes now
ends_whole gathering old now empty behind = record {
  empty = empty;
  own = behind.own;
  others = behind.stands.others;
  up = behind.stands.up;
  id = behind.same.id;
  count = behind.same.count;
  limit = behind.same.limit;
}

-- the Writes up to one of them, and it
pub split_at : (writes : List Write) (k : ℕ) (e : Write) → k < length writes → writes ≡ take k writes ++ get_or writes k e ∷ drop (suc k) writes
split_at [] k e within = absurd (omega (arith, within))
split_at (write ∷ writes) zero e within = refl
split_at (write ∷ writes) (suc k) e within = ap (λ (l : List Write). write ∷ l) (split_at writes k e (omega (arith, within)))

-- where what an own Write counts wasn't taken
pub untaken_fails : (gathering : Gathering) (old mid new : Core) (write : Write) (fault : RestoreFault) → (IsHistory old.id gathering.writes → MayComeNext gathering.writes mid write)
    → TakesBefore gathering mid write (Err fault) new → FailsToRestore old gathering.writes fault new
untaken_fails gathering old mid new write NotEmpty next takes = absurd takes
untaken_fails gathering old mid new write (Misfit number) next takes = λ history. takes (next history)
untaken_fails gathering old mid new write LogFull next takes = takes
untaken_fails gathering old mid new write Device next takes = takes
untaken_fails gathering old mid new write OutOfMemory next takes = tt

-- where it wasn't made again
pub unmade_fails : (gathering : Gathering) (old mid new : Core) (write : Write) (fault : RestoreFault) → (IsHistory old.id gathering.writes → count_of mid.held ≡ write.deps)
    → MakesAgain gathering mid write (Err fault) new → FailsToRestore old gathering.writes fault new
unmade_fails gathering old mid new write NotEmpty whole makes = absurd makes
unmade_fails gathering old mid new write (Misfit number) whole makes = λ history. makes (whole history)
unmade_fails gathering old mid new write LogFull whole makes = makes
unmade_fails gathering old mid new write Device whole makes = makes
unmade_fails gathering old mid new write OutOfMemory whole makes = tt
