-- The book of a run, and its shares: callers don't see it.
use Rattle.std.specs.Prelude.{◌≡◌, ℕ, List, ◌∷◌, Option, None, Some, length}
use Rattle.std.specs.List.{slice_get}
use Rattle.bayou_audit.specs.Totals.{Shared}
use Rattle.bayou_base.specs.declared.entry.Entry.{Entry}
use Rattle.bayou_base.specs.declared.limits.TheConstants.{SESSIONS}
use Rattle.bayou_world.specs.declared.state.State.{State}
use Rattle.bayou_world.specs.Inner.Good.{IsGoodMachine}
use Rattle.bayou_world.specs.Inner.Tie.{IsOf}
use Rattle.bayou_world.specs.Machine.{Machine, SessionSets, with_session}
use Rattle.bayou_world.specs.Tags.{AreTagged}

-- a book: how many entries it may have, and what was entered, in that order
pub record Booking : Type 0 where
  pub capacity : ℕ
  pub entries : List Entry

-- one share for each session that there may be, in their order
pub record AreOfSessions (shares : List Shared) : Type 0 where
  pub one_each : length shares ≡ SESSIONS
  pub in_order : (at : ℕ) (share : Shared) → slice_get shares at ≡ Some share → share.session.index ≡ at

-- the book is the machine's
pub record IsBookOf (booking : Booking) (machine : Machine) : Type 0 where
  pub capacity : booking.capacity ≡ machine.capacity
  pub entries : booking.entries ≡ machine.filed

-- the session's oldest entry that waits is taken off, if one does
abbrev pub TakesOldest : State → ℕ → Option Entry → State → Type 0
TakesOldest old who None new = (machine : Machine) → IsGoodMachine machine → IsOf old machine
    → ((session : SessionSets) (entry : Entry) (later : List Entry) → machine.sessions who ≡ Some session → ¬ (session.waiting ≡ entry ∷ later)) × IsOf new machine
TakesOldest old who (Some entry) new = (machine : Machine) → IsGoodMachine machine → IsOf old machine
    → (session : SessionSets) × (later : List Entry) × (machine.sessions who ≡ Some session) × (session.waiting ≡ entry ∷ later) × (entry.session.index ≡ who)
    × IsOf new (with_session machine who (record session { waiting = later }))

-- Whatever good machine the old state and book are tied to, in which a tag is of one Write: what is done to the machine leaves one that the
-- new ones are tied to.
abbrev pub FollowsInBook : State → Booking → (Machine → Machine → Type 0) → State → Booking → Type 0
FollowsInBook old booking Does new new_booking = (machine : Machine) → IsGoodMachine machine → AreTagged machine → IsOf old machine → IsBookOf booking machine
    → (next : Machine) × Does machine next × IsOf new next × IsBookOf new_booking next
