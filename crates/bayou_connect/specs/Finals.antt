-- What servers tell of what they hold, and what a person learns of what is final: this project's own.
use Rattle.std.specs.Prelude.{◌≡◌, ◌+◌, ◌-◌, ◌<◌, ◌≤◌, ◌==◌, ◌↔◌, ◌⊎◌, ◌++◌, ◌∷◌, [], if◌then◌else◌, ℕ, Bool, false, true, IfSome, IsSomeAnd, List, MatchBool, Option, None, Some, drop, length, nat_lt, replicate, slice_get, sum, take}
use Rattle.std.specs.Option.{option_map}
use Rattle.bayou_base.specs.declared.refusal.Refusal.TheVariants as refusals
use Rattle.bayou_base.specs.Vector.{Covers, Dominates, joined, raised}
use Rattle.bayou_base.specs.declared.limits.TheConstants.{MAX_WRITES, SERVERS}
use Rattle.bayou_connect.specs.declared.finals.Telling.{Telling}
use Rattle.bayou_connect.specs.declared.finals.Telling.TheVariants as telling
use Rattle.bayou_connect.specs.Beyond.{AreKeysOf}
use Rattle.bayou_connect.specs.declared.looking.Beyond.{Beyond}
use Rattle.bayou_base.specs.declared.limits.TheConstants.{MAX_BEYOND_FINAL, MAX_OWN_WRITES}
use Rattle.bayou_connect.specs.declared.views_file.ViewsFile.{ViewsFile}
use Rattle.bayou_connect.specs.declared.told.ServerTold.{ServerTold}
use Rattle.bayou_connect.specs.declared.told.ServerTold.TheVariants as told
use Rattle.bayou_final.specs.declared.standing.Standing.{Standing}
use Rattle.bayou_final.specs.declared.standing.Standing.TheVariants.{Tentative, Final, Changed}
use Rattle.bayou_final.specs.Known.{AreRising}
use Rattle.bayou_final.specs.Views.{heard_with}
use Rattle.bayou_lang.specs.declared.write.Write.{Write}
use Rattle.bayou_lang.specs.Writes.{raised_by}
use Rattle.bayou_outlook.specs.declared.outlook.Outlook.{Outlook}
use Rattle.bayou_outlook.specs.declared.outlook.OwnWrite.{OwnWrite}
use Rattle.bayou_outlook.specs.Own.{IsKeptAs, IsNews}
use Rattle.bayou_wire.specs.declared.lookup.Became.{Became}
use Rattle.bayou_wire.specs.declared.lookup.Became.TheVariants.{Updated, Merged, Nothing}

-- what a server held, by what it told of an operation, if it told that
abbrev pub view_told : ServerTold → Option (List ℕ)
view_told (told.Seen seen) = Some seen.vector
view_told (told.Rows page) = Some page.vector
view_told (told.Fate fate) = Some fate.vector
view_told (told.Accepted accepted) = Some (raised accepted.deps accepted.wid)
view_told (told.Refused (refusals.Behind vector)) = Some vector
view_told (told.Refused refusals.Down) = None
view_told (told.Refused refusals.LogFull) = None
view_told (told.Refused refusals.Journal) = None
view_told (told.Refused refusals.NotDown) = None
view_told (told.Refused (refusals.BadRecord place)) = None
view_told (told.Refused refusals.Lost) = None
view_told (told.Refused refusals.OutOfMemory) = None
view_told (told.Refused refusals.TagUsed) = None
view_told told.Away = None
view_told told.Lost = None

-- what a server held that answered a read of a key
abbrev pub vector_read : ServerTold → Option (List ℕ)
vector_read (told.Seen seen) = Some seen.vector
vector_read (told.Rows page) = None
vector_read (told.Fate fate) = None
vector_read (told.Accepted accepted) = None
vector_read (told.Refused refusal) = None
vector_read told.Away = None
vector_read told.Lost = None

-- a Write was refused, since a log is full
abbrev pub is_refused_as_full : ServerTold → Bool
is_refused_as_full (told.Refused refusals.LogFull) = true
is_refused_as_full (told.Refused (refusals.Behind vector)) = false
is_refused_as_full (told.Refused refusals.Down) = false
is_refused_as_full (told.Refused refusals.Journal) = false
is_refused_as_full (told.Refused refusals.NotDown) = false
is_refused_as_full (told.Refused (refusals.BadRecord place)) = false
is_refused_as_full (told.Refused refusals.Lost) = false
is_refused_as_full (told.Refused refusals.OutOfMemory) = false
is_refused_as_full (told.Refused refusals.TagUsed) = false
is_refused_as_full (told.Seen seen) = false
is_refused_as_full (told.Rows page) = false
is_refused_as_full (told.Fate fate) = false
is_refused_as_full (told.Accepted accepted) = false
is_refused_as_full told.Away = false
is_refused_as_full told.Lost = false

-- how an own Write is reported to stand by what is news of it: where all are reported, one without news may change
abbrev pub told_as : Telling → Option Standing → Option Standing
told_as telling.News news = news
told_as telling.All None = Some Tentative
told_as telling.All (Some standing) = Some standing
told_as telling.Objects None = Some Tentative
told_as telling.Objects (Some standing) = Some standing

-- whether a Write came to nothing, for good
abbrev pub is_void_for_good : Standing → Became → Bool
is_void_for_good Final Nothing = true
is_void_for_good Final Updated = false
is_void_for_good Final (Merged alternative) = false
is_void_for_good Tentative became = false
is_void_for_good Changed became = false

-- ---- what a file keeps of what is final, and how that goes on

-- nothing is known of a store of so many servers
pub record IsNothing (servers : ℕ) (known : Outlook) : Type 0 where
  pub count : known.finality.count ≡ servers
  pub none_final : known.finality.finals ≡ replicate SERVERS 0
  pub none_own : known.own.items ≡ []

-- At a store of so many servers it is gone on from what was known of as many; where that is of another number, or nothing was known, it begins anew.
abbrev pub IsOfStore : (old : Option Outlook) → (count : ℕ) → (new : Option Outlook) → Type 0
IsOfStore None count new = IsSomeAnd new (IsNothing count)
IsOfStore (Some known) count new = MatchBool (known.finality.count == count) (new ≡ Some known) (IsSomeAnd new (IsNothing count))

-- A server told what it holds: that is a view of it more. What is final stays, and so do the own Writes.
pub record HasHeard (old : Outlook) (server : ℕ) (view : List ℕ) (new : Outlook) : Type 0 where
  pub heard : new.finality.views ≡ heard_with old.finality.views server view
  pub finals : new.finality.finals ≡ old.finality.finals
  pub own : new.own ≡ old.own

-- Where all is final that a server holds, which holds what is known to be final, that is known from then on; else nothing more is.
abbrev pub HasSettled : (old : Option Outlook) → (view : List ℕ) → Bool → (new : Option Outlook) → Type 0
HasSettled None view settled new = (settled ≡ false) × (new ≡ None)
HasSettled (Some old) view settled new = IsSomeAnd new (λ known. (known.own ≡ old.own) × MatchBool settled
    (Dominates view old.finality.finals × (known.finality.finals ≡ joined old.finality.finals view))
    (known.finality ≡ old.finality))

-- So many of the Writes, from the first on, are final too: none where they aren't in stamp order.
abbrev pub HasGoneOn : (old : Option Outlook) → List Write → Option ℕ → (new : Option Outlook) → Type 0
HasGoneOn None writes number new = (number ≡ None) × (new ≡ None)
HasGoneOn (Some old) writes None new = ⊥
HasGoneOn (Some old) writes (Some number) new = (number ≤ length writes) × (0 < number → AreRising writes)
    × IsSomeAnd new (λ known. (known.own ≡ old.own) × (known.finality.finals ≡ raised_by old.finality.finals (take number writes)))

-- the own Writes with one more, which is the last: the oldest goes where there are as many as may be
abbrev pub own_with : List OwnWrite → OwnWrite → List OwnWrite
own_with own write = drop (length own + 1 - MAX_OWN_WRITES) own ++ write ∷ []

-- the one that goes for it
abbrev pub gone_for : List OwnWrite → Option OwnWrite
gone_for own = if nat_lt (length own) MAX_OWN_WRITES then None else slice_get own 0

-- an own Write more is kept
abbrev pub HasMade : (old : Option Outlook) → OwnWrite → (gone : Option OwnWrite) → (new : Option Outlook) → Type 0
HasMade None write gone new = (gone ≡ None) × (new ≡ None)
HasMade (Some old) write gone new = (gone ≡ gone_for old.own.items)
    × IsSomeAnd new (λ known. (known.finality ≡ old.finality) × (known.own.items ≡ own_with old.own.items write))

-- what is news of an own Write that became this, by what is known to be final and what was reported of it last
abbrev pub IsNewsOf : (finals : List ℕ) → OwnWrite → Became → Option Standing → Type 0
IsNewsOf finals write became news = (is_final : Bool) × (is_final ≡ true ↔ Covers finals write.wid.origin.index write.wid.seq) × IsNews is_final write.told became news

-- The own Write of a place became this, which is reported as far as it is news, and kept so; one that is final is kept no longer.
abbrev pub HasTold : (old : Option Outlook) → (place : ℕ) → Became → (news : Option Standing) → (new : Option Outlook) → Type 0
HasTold None place became news new = (news ≡ None) × (new ≡ None)
HasTold (Some old) place became news new = (length old.own.items ≤ place → news ≡ None)
    × IfSome (slice_get old.own.items place) (λ write. IsNewsOf old.finality.finals write became news)
    × IsSomeAnd new (λ known. (known.finality ≡ old.finality)
    × IfSome (slice_get old.own.items place) (λ write. IsKeptAs old.own.items place write became news known.own.items))

-- the own Write of a place is kept no longer
abbrev pub HasForgotten : (old : Option Outlook) → (place : ℕ) → (new : Option Outlook) → Type 0
HasForgotten None place new = new ≡ None
HasForgotten (Some old) place new = IsSomeAnd new (λ known. (known.finality ≡ old.finality)
    × (place < length old.own.items → known.own.items ≡ take place old.own.items ++ drop (place + 1) old.own.items)
    × (length old.own.items ≤ place → known.own ≡ old.own))

-- ---- how far it is gone at a server

-- what is known, where a file keeps it
abbrev pub outlook_of : Option ViewsFile → Option Outlook
outlook_of None = None
outlook_of (Some file) = file.outlook

-- which counts are known to be final, where anything is known
abbrev pub finals_in : Option Outlook → Option (List ℕ)
finals_in known = option_map (λ (outlook : Outlook). outlook.finality.finals) known

-- the own Writes that weren't reported as final yet
abbrev pub own_in : Option Outlook → List OwnWrite
own_in None = []
own_in (Some known) = known.own.items

-- it is kept what is final: of a store with several servers
abbrev pub keeps_finals : Option Outlook → Bool
keeps_finals None = false
keeps_finals (Some known) = nat_lt 1 known.finality.count

-- how many Writes are fetched at the most that may not be final: all, as long as nothing is known to be
abbrev pub most_beyond : (finals : List ℕ) → ℕ
most_beyond finals = if sum finals == 0 then MAX_WRITES else MAX_BEYOND_FINAL

-- a server that holds this has what is final, and not too much beyond
pub record IsNear (finals view : List ℕ) : Type 0 where
  pub holds : Dominates view finals
  pub few : sum view - sum finals ≤ most_beyond finals

-- By what a server told that it holds, more is known to be final, if anything: all of that, and no key may change yet; or what so many of its Writes raise,
-- and the keys may change yet that the Writes after those may change.
abbrev pub IsLearnt : (old : Option Outlook) → (view : List ℕ) → (new : Option Outlook) → Beyond → Type 0
IsLearnt old view new beyond = (HasSettled old view true new × AreKeysOf [] beyond.keys)
    ⊎ ((writes : List Write) × (number : ℕ) × IfSome (finals_in old) (λ finals. IsNear finals view) × HasGoneOn old writes (Some number) new
    × AreKeysOf (drop number writes) beyond.keys)
