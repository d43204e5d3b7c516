-- Own Writes that are told one after another.
use Rattle.std.proofs.Common.{arith, ◌≡◌, ◌+◌, ◌-◌, ◌<◌, ◌^◌, ℕ, zero, suc, Bool, true, false, if◌then◌else◌, MatchOption, Option, None, Some, min, refl, subst, sym}
use Rattle.std.specs.List.{slice_get}
use Rattle.bayou_connect.specs.Finals.{own_in}
use Rattle.bayou_connect.specs.Own.{TellsFrom, TellsOwn}
use Rattle.bayou_connect.specs.declared.finals.Telling.{Telling}
use Rattle.bayou_outlook.specs.declared.outlook.Outlook.{Outlook}
use Rattle.bayou_outlook.specs.declared.outlook.OwnWrite.{OwnWrite}
use Rattle.bayou_streams.specs.Account.{Account}

-- as many as may be were told
pub tells_all : (place : ℕ) (telling : Telling) (known : Option Outlook) (account : Account) → TellsFrom 0 place telling known known account account
unfolding TellsFrom
tells_all place telling known account = (refl, refl)

-- there is none at this place
pub tells_none : (most place : ℕ) (telling : Telling) (known : Option Outlook) (account : Account) → slice_get (own_in known) place ≡ None → TellsFrom most place telling known known account account
unfolding TellsFrom
tells_none zero place telling known account none = (refl, refl)
tells_none (suc most) place telling known account none =
    subst (λ (own : Option OwnWrite). MatchOption own ((known ≡ known) × (account ≡ account))
    (λ write. (gone : Bool) × (middle : Option Outlook) × (line : Account) × TellsOwn known place write telling gone middle account line
    × TellsFrom most (if gone then place else place + 1) telling middle known line account)) (sym none) (refl, refl)

-- one is told, and then those behind it
pub tells_one : (most place : ℕ) (telling : Telling) (old middle new : Option Outlook) (before line after : Account) (write : OwnWrite) (gone : Bool) → slice_get (own_in old) place ≡ Some write
    → TellsOwn old place write telling gone middle before line → TellsFrom most (if gone then place else place + 1) telling middle new line after
    → TellsFrom (suc most) place telling old new before after
unfolding TellsFrom
tells_one most place telling old middle new before line after write gone is told rest =
    subst (λ (own : Option OwnWrite). MatchOption own ((new ≡ old) × (after ≡ before))
    (λ write. (gone : Bool) × (middle : Option Outlook) × (line : Account) × TellsOwn old place write telling gone middle before line
    × TellsFrom most (if gone then place else place + 1) telling middle new line after)) (sym is) (gone, middle, line, told, rest)

-- the next place is no count's greatest
pub next_place : (place : ℕ) (gone : Bool) → place < 65 → (if gone then place else min (place + 1) (2 ^ 64 - 1)) ≡ (if gone then place else place + 1)
next_place place true few = refl
next_place place false few = omega (arith, few)
