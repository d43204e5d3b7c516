-- What a person learns of own Writes: this project's own.
use Rattle.std.specs.Prelude.{◌≡◌, ◌==◌, ◌+◌, if◌then◌else◌, ℕ, zero, suc, Bool, true, false, List, MatchBool, MatchOption, Option, None, Some, slice_get}
use Rattle.std.specs.Option.{option_map}
use Rattle.bayou_base.specs.declared.limits.TheConstants.{MAX_OWN_WRITES}
use Rattle.bayou_base.specs.declared.wid.Wid.{Wid}
use Rattle.bayou_connect.specs.Finals.{HasForgotten, HasMade, HasTold, keeps_finals, own_in, told_as}
use Rattle.bayou_connect.specs.Objects.{forgotten_json, own_json}
use Rattle.bayou_connect.specs.declared.desk.MadeWrite.{MadeWrite}
use Rattle.bayou_connect.specs.declared.finals.Telling.{Telling}
use Rattle.bayou_connect.specs.declared.finals.Telling.TheVariants as tellings
use Rattle.bayou_final.specs.declared.standing.Standing.{Standing}
use Rattle.bayou_final.specs.declared.standing.Standing.TheVariants.{Tentative, Final, Changed}
use Rattle.bayou_outlook.specs.declared.outlook.Outlook.{Outlook}
use Rattle.bayou_outlook.specs.declared.outlook.OwnWrite.{OwnWrite}
use Rattle.bayou_print.specs.Standing.{forgotten_text, standing_text}
use Rattle.bayou_streams.specs.Account.{Account, TakesBytes}
use Rattle.bayou_wire.specs.declared.lookup.Placed.{Placed}

-- a Write that was accepted, as an own one, with what was reported of it
abbrev pub own_write : MadeWrite → Option Placed → OwnWrite
own_write made placed = record { wid = made.wid; clock = made.clock; told = option_map (λ (one : Placed). one.became) placed }

-- that one goes is reported
abbrev pub TellsGone : (gone : Option OwnWrite) → (before after : Account) → Type 0
TellsGone None before after = after ≡ before
TellsGone (Some gone) before after = TakesBytes before after (forgotten_text 0 gone.wid)

-- an own Write is kept, where it is kept what is final, and the one that goes for it is reported
abbrev pub KeepsOwn : (old : Option Outlook) → OwnWrite → (new : Option Outlook) → (before after : Account) → Type 0
KeepsOwn old write new before after = MatchBool (keeps_finals old)
    ((gone : Option OwnWrite) × HasMade old write gone new × TellsGone gone before after)
    ((new ≡ old) × (after ≡ before))

-- all own Writes are reported: an object each, or a line each
abbrev pub telling_all : (is_json : Bool) → Telling
telling_all is_json = if is_json then tellings.Objects else tellings.All

-- what is printed of how an own Write stands, and of what became of it: a line, or an object
abbrev pub own_told : Telling → Standing → Wid → Placed → List ℕ
own_told tellings.News standing wid placed = standing_text 0 standing wid (Some placed)
own_told tellings.All standing wid placed = standing_text 0 standing wid (Some placed)
own_told tellings.Objects standing wid placed = own_json 0 standing wid placed.became

-- what is printed of one that is kept no longer: a line, or an object
abbrev pub forgotten_told : Telling → Wid → List ℕ
forgotten_told tellings.News wid = forgotten_text 0 wid
forgotten_told tellings.All wid = forgotten_text 0 wid
forgotten_told tellings.Objects wid = forgotten_json 0 wid

-- it stays as it is
abbrev pub is_final : Standing → Bool
is_final Tentative = false
is_final Final = true
is_final Changed = false

-- Of an own Write that a server told to have become this: how it stands, where that is news or all are reported. Whether it is kept no longer.
abbrev pub TellsStanding : (old : Option Outlook) → (place : ℕ) → OwnWrite → Telling → Placed → (gone : Bool) → (new : Option Outlook) → (before after : Account) → Type 0
TellsStanding old place write telling placed gone new before after = (news : Option Standing) × HasTold old place placed.became news new
    × MatchOption (told_as telling news) ((gone ≡ false) × (after ≡ before))
    (λ standing. (gone ≡ is_final standing) × TakesBytes before after (own_told telling standing write.wid placed))

-- An own Write: nothing where no server tells what became of it. Where another Write has its name by now, its server lost it: then it is reported as forgotten.
abbrev pub TellsOwn : (old : Option Outlook) → (place : ℕ) → OwnWrite → Telling → (gone : Bool) → (new : Option Outlook) → (before after : Account) → Type 0
TellsOwn old place write telling gone new before after = (placed : Option Placed) × MatchOption placed ((gone ≡ false) × (new ≡ old) × (after ≡ before))
    (λ placed. MatchBool (placed.clock == write.clock)
    (TellsStanding old place write telling placed gone new before after)
    ((gone ≡ true) × HasForgotten old place new × TakesBytes before after (forgotten_told telling write.wid)))

-- Own Writes, from a place on, so many at the most, one after another: the next is at the same place where one is kept no longer.
unfoldable pub TellsFrom : (most : ℕ) → (place : ℕ) → Telling → (old new : Option Outlook) → (before after : Account) → Type 0
TellsFrom zero place telling old new before after = (new ≡ old) × (after ≡ before)
TellsFrom (suc most) place telling old new before after = MatchOption (slice_get (own_in old) place) ((new ≡ old) × (after ≡ before))
    (λ write. (gone : Bool) × (middle : Option Outlook) × (line : Account) × TellsOwn old place write telling gone middle before line
    × TellsFrom most (if gone then place else place + 1) telling middle new line after)

-- How own Writes stand, by what servers told before of what they hold.
abbrev pub TellsAsLooked : Telling → (new : Option Outlook) → (before after : Account) → Type 0
TellsAsLooked telling new before after = (looked : Option Outlook) × TellsFrom MAX_OWN_WRITES 0 telling looked new before after
