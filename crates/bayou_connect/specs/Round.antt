-- One server after another is asked the same, until one serves it or may have done it: this project's own.
use Rattle.std.specs.Prelude.{◌≡◌, ◌⊎◌, ℕ, zero, suc, ◌-◌, Bool, true, false, List, [], ◌∷◌, ◌++◌, filter, not, slice_index_or}
use Rattle.std.specs.List.{range_with_len}
use Rattle.bayou_connect.specs.declared.told.ServerTold.{ServerTold}
use Rattle.bayou_connect.specs.declared.told.ServerTold.TheVariants as told
use Rattle.bayou_base.specs.declared.refusal.Refusal.TheVariants as refusals

-- Another server may be asked: this one wasn't reached, or it refused, or it was asked for a read, which changes nothing. A Write is in doubt that
-- was refused for a journal that failed, or whose reply was lost.
abbrev pub may_ask_another : (is_read : Bool) → ServerTold → Bool
may_ask_another is_read told.Away = true
may_ask_another is_read (told.Seen seen) = false
may_ask_another is_read (told.Rows page) = false
may_ask_another is_read (told.Fate fate) = false
may_ask_another is_read (told.Accepted accepted) = false
may_ask_another is_read (told.Refused refusals.Journal) = is_read
may_ask_another is_read (told.Refused _) = true
may_ask_another is_read told.Lost = is_read

-- the last refusal or lost reply, where there was one
abbrev pub after_refusal : (before told : ServerTold) → ServerTold
after_refusal before told.Away = before
after_refusal before (told.Seen seen) = told.Seen seen
after_refusal before (told.Rows page) = told.Rows page
after_refusal before (told.Fate fate) = told.Fate fate
after_refusal before (told.Accepted accepted) = told.Accepted accepted
after_refusal before (told.Refused fault) = told.Refused fault
after_refusal before told.Lost = told.Lost

-- so many servers, from this one on, and then those before it
abbrev pub turns : (first count : ℕ) → List ℕ
turns first count = range_with_len first (count - first) ++ range_with_len 0 first

-- whether the place is among those that are last
abbrev pub is_last : List Bool → ℕ → Bool
is_last last at = slice_index_or last at false

-- those that aren't last, in this order, and then those that are
abbrev pub but_last : List Bool → List ℕ → List ℕ
but_last last order = filter (λ at. not (is_last last at)) order ++ filter (is_last last) order

-- all of them from this one on, but those that are last after all others
abbrev pub turns_but_last : List Bool → (first count : ℕ) → List ℕ
turns_but_last last first count = but_last last (turns first count)

-- The servers are asked in this order, each of them once at the most: up to the first after which no other may be asked, and its answer is
-- given. Where there is none, the last refusal or lost reply is reported, or what stood before.
abbrev pub AsksInTurn : {S : Type 0} → (S → ℕ → S → ServerTold → Type 0) → (is_read : Bool) → List ℕ → (before : ServerTold) → (old new : S) → ServerTold → Type 0
AsksInTurn asks is_read [] before old new result = (new ≡ old) × (result ≡ before)
AsksInTurn {S} asks is_read (at ∷ order) before old new result =
    (middle : S) × (answer : ServerTold) × asks old at middle answer
    × (((may_ask_another is_read answer ≡ false) × (new ≡ middle) × (result ≡ answer))
    ⊎ ((may_ask_another is_read answer ≡ true) × AsksInTurn asks is_read order (after_refusal before answer) middle new result))

-- so many rounds more at the most, each only where another server may be asked after the one before
abbrev pub GoesRound : {S : Type 0} → (S → ℕ → S → ServerTold → Type 0) → (is_read : Bool) → List ℕ → (more : ℕ) → (now : S) → (answer : ServerTold) → (new : S) → ServerTold → Type 0
GoesRound asks is_read order zero now answer new result = (new ≡ now) × (result ≡ answer)
GoesRound {S} asks is_read order (suc more) now answer new result =
    ((may_ask_another is_read answer ≡ false) × (new ≡ now) × (result ≡ answer))
    ⊎ ((may_ask_another is_read answer ≡ true)
    × ((next : S) × (later : ServerTold) × AsksInTurn asks is_read order told.Away now next later × GoesRound asks is_read order more next later new result))

-- a round at these servers, and so many more at the most
abbrev pub AsksInRounds : {S : Type 0} → (S → ℕ → S → ServerTold → Type 0) → (is_read : Bool) → List ℕ → (more : ℕ) → (old new : S) → ServerTold → Type 0
AsksInRounds {S} asks is_read order more old new result =
    (now : S) × (answer : ServerTold) × AsksInTurn asks is_read order told.Away old now answer × GoesRound asks is_read order more now answer new result
