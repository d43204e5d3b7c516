-- When nothing can come before a Write any more, as far as servers told what they held: this project's own. Of messages the same is known as
-- stability (Birman), and the least of all views as the minimum of a matrix clock (Wuu and Bernstein 1984).
use Rattle.std.specs.Prelude.{◌≡◌, ℕ, ◌<◌, ◌≤◌, ◌++◌, false, not, List, ◌∷◌, Result, Ok, Err, All, Contains, filter, slice_index}
use Rattle.bayou_base.specs.declared.answer.Seen.{Seen}
use Rattle.bayou_base.specs.declared.stamp.Stamp.{Stamp}
use Rattle.bayou_base.specs.declared.wid.Wid.{Wid}
use Rattle.bayou_base.specs.Order.{is_before}
use Rattle.bayou_final.specs.Known.{HasOwn, IsKnown}
use Rattle.bayou_lang.specs.declared.write.Write.{Write}
use Rattle.bayou_lang.specs.Database.{empty}
use Rattle.bayou_lang.specs.Writes.{count_of, in_stamp_order}
use Rattle.bayou_log.specs.declared.listing.Listed.{Listed}
use Rattle.bayou_log.specs.Listing.{listed_after, listing_of}
use Rattle.bayou_log.specs.Replay.{after_writes, replay}
use Rattle.bayou_server.specs.declared.answer.Written.{Written}
use Rattle.bayou_server.specs.declared.answer.Written.TheVariants.{New, Known}
use Rattle.bayou_server.specs.declared.fault.Behind.{Behind}
use Rattle.bayou_server.specs.declared.fault.WriteFault.{WriteFault}
use Rattle.bayou_server.specs.declared.fault.WriteFault.TheVariants as writing
use Rattle.bayou_world.specs.declared.event.Event.{Event}
use Rattle.bayou_world.specs.declared.reply.Reply.{Reply}
use Rattle.bayou_world.specs.Machine.{Machine}
use Rattle.bayou_world.specs.Runs.{Run}

-- Some events with some replies lead from the one machine to the other.
abbrev pub Leads : Machine → Machine → Type 0
Leads old new = (events : List Event) × (replies : List Reply) × Run old events replies new

-- The server had the database, now or at some time before.
abbrev pub Had : Machine → (place : ℕ) → List Write → Type 0
Had machine place database = Contains (machine.servers place).had database

-- The vector is a view of the server: it counts a database that the server had.
pub record IsView (machine : Machine) (place : ℕ) (view : List ℕ) : Type 0 where
  pub database : List Write
  pub had : Had machine place database
  pub is : view ≡ count_of database

-- There is a view of each server. Each may be of another time.
abbrev pub AreViews : Machine → (ℕ → List ℕ) → Type 0
AreViews machine views = (place : ℕ) → place < machine.count → IsView machine place (views place)

-- the vector that an answer to a read tells
abbrev pub TellsRead : Result Seen Behind → List ℕ → Type 0
TellsRead (Ok seen) view = view ≡ seen.vector
TellsRead (Err behind) view = view ≡ behind.vector

-- the vector that an answer to a program tells, where it tells one
abbrev pub TellsWrite : Result Written WriteFault → List ℕ → Type 0
TellsWrite (Ok (New accepted)) view = view ≡ accepted.deps
TellsWrite (Ok (Known accepted)) view = view ≡ accepted.deps
TellsWrite (Err (writing.Behind vector)) view = view ≡ vector
TellsWrite (Err writing.TagUsed) view = ⊥
TellsWrite (Err writing.Down) view = ⊥
TellsWrite (Err writing.LogFull) view = ⊥
TellsWrite (Err writing.OutOfMemory) view = ⊥
TellsWrite (Err writing.Journal) view = ⊥

-- The stamp is of a Write of the database that each server is known to hold.
pub record IsKnownStamp (count : ℕ) (views : ℕ → List ℕ) (database : List Write) (stamp : Stamp) : Type 0 where
  pub write : Write
  pub there : Contains database write
  pub known : IsKnown count views write.wid
  pub is : write.stamp ≡ stamp

-- A Write of the database is final: it doesn't come after one of it that each server is known to hold, and the database has what each server
-- had made.
pub record IsFinal (count : ℕ) (views : ℕ → List ℕ) (database : List Write) (write : Write) : Type 0 where
  pub there : Contains database write
  pub own : HasOwn count views database
  pub stamp : Stamp
  pub known : IsKnownStamp count views database stamp
  pub not_later : is_before stamp write.stamp ≡ false

-- In stamp order, the Writes of the database that don't come after the stamp.
abbrev pub up_to : Stamp → List Write → List Write
up_to stamp database = filter (λ write. not (is_before stamp write.stamp)) (in_stamp_order database)

-- In stamp order the database begins with these Writes. They have the outcomes that they have alone, and the later ones are applied to what
-- these leave.
pub record BeginsWith (first database : List Write) : Type 0 where
  pub later : List Write
  pub order : in_stamp_order database ≡ first ++ later
  pub outcomes : (others : List Listed) × (listing_of database ≡ listed_after first empty ++ others)
  pub left : replay database ≡ after_writes later (after_writes first empty)
