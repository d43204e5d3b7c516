-- What is true of all servers together, over every run.
use Rattle.std.specs.Prelude.{◌≡◌, ℕ, ◌+◌, ◌<◌, ◌==◌, ◌↔◌, ◌⊎◌, List, ◌++◌, Some, Ok, Err, Contains, filter, length}
use Rattle.std.specs.List.{slice_get}
use Rattle.bayou_base.specs.declared.wid.Wid.{Wid}
use Rattle.bayou_base.specs.Vector.{Covers, Dominates}
use Rattle.bayou_lang.specs.declared.write.Write.{Write}
use Rattle.bayou_lang.specs.Writes.{IsPrefixClosed, IsSound, count_of}
use Rattle.bayou_server.specs.declared.answer.Written.TheVariants.{New, Known}
use Rattle.bayou_server.specs.declared.fault.JournalFault.TheVariants.{Device, NotAJournal, OtherServer}
use Rattle.bayou_server.specs.declared.fault.ReopenFault.TheVariants as reopening
use Rattle.bayou_server.specs.declared.fault.StartFault.TheVariants as starting
use Rattle.bayou_server.specs.declared.fault.TakeFault.TheVariants as taking
use Rattle.bayou_server.specs.declared.fault.WriteFault.TheVariants as writing
use Rattle.bayou_world.specs.declared.event.Event.{Event}
use Rattle.bayou_world.specs.declared.reply.Reply.{Reply}
use Rattle.bayou_world.specs.declared.reply.Reply.TheVariants as replies
use Rattle.bayou_world.specs.Machine.{IsWithin, Machine, Made, names, writes}
use Rattle.bayou_world.specs.Runs.{Run}
use Rattle.bayou_world.specs.Steps.{CollectStep, HoldsName}

-- the Write stands somewhere: it is held by a server, or in doubt at one, or an item in flight
abbrev pub Stands : Machine → Made → Type 0
Stands machine made = ((server : ℕ) × Contains (machine.servers server).held made)
    ⊎ ((server : ℕ) × ((machine.servers server).doubt ≡ Some made))
    ⊎ Contains machine.items made

-- those of the Writes that the server made, in the order of the list
abbrev pub made_by : ℕ → List Write → List Write
made_by server list = filter (λ write. write.wid.origin.index == server) list

-- Equal names are equal Writes; what each server holds is sound, and so prefix-closed; of another's Writes a server holds the first ones,
-- in order; and what a Write says that its server held covers just its past.
pub record IsConsistent (machine : Machine) : Type 0 where
  pub one : (made other : Made) → Stands machine made → Stands machine other → made.write.wid ≡ other.write.wid → made ≡ other
  pub sound : (server : ℕ) → IsSound server machine.count (writes (machine.servers server).held)
  pub closed : (server : ℕ) → IsPrefixClosed (writes (machine.servers server).held)
  pub prefix : (server other : ℕ) → (later : List Write)
      × (made_by other (writes (machine.servers other).held) ≡ made_by other (writes (machine.servers server).held) ++ later)
  pub deps : (made : Made) → Stands machine made → (name : Wid) → Covers made.write.deps name.origin.index name.seq ↔ Contains (names made.past) name

-- a vector stands for the set: of each server it has the greatest of the names in the set, and one of the set has it
pub record IsVectorOf (vector : List ℕ) (set : List Wid) : Type 0 where
  pub each : (name : Wid) → Contains set name → Covers vector name.origin.index name.seq
  pub least : (other : List ℕ) → ((name : Wid) → Contains set name → Covers other name.origin.index name.seq) → Dominates other vector

-- the set test and the vector test agree
abbrev pub TestsAgree : Machine → Type 0
TestsAgree machine = (server : ℕ) (vector : List ℕ) (set : List Wid) → IsVectorOf vector set
    → IsWithin set (names (writes (machine.servers server).held)) ↔ Dominates (count_of (writes (machine.servers server).held)) vector

-- A server refuses an item because it holds another Write of that name, because it made it itself and doesn't hold it, or because its
-- stamp is wrong; or its journal has lost a Write that it held, or has something else than what it held and the Write in doubt; or a Write
-- is held already under the tag of a Write that is asked for the first time, or something else under that of one that is asked again.
abbrev pub IsImpossible : Reply → Type 0
IsImpossible (replies.Took (Err taking.Conflict)) = Unit {0}
IsImpossible (replies.Took (Err taking.OwnLost)) = Unit {0}
IsImpossible (replies.Took (Err taking.BadStamp)) = Unit {0}
IsImpossible (replies.Took (Err taking.Down)) = ⊥
IsImpossible (replies.Took (Err taking.Gap)) = ⊥
IsImpossible (replies.Took (Err taking.LogFull)) = ⊥
IsImpossible (replies.Took (Err taking.OutOfMemory)) = ⊥
IsImpossible (replies.Took (Err taking.Journal)) = ⊥
IsImpossible (replies.Took (Ok took)) = ⊥
IsImpossible (replies.Reopened (Err reopening.Lost)) = Unit {0}
IsImpossible (replies.Reopened (Err (reopening.BadRecord at))) = Unit {0}
IsImpossible (replies.Reopened (Err (reopening.Journal NotAJournal))) = Unit {0}
IsImpossible (replies.Reopened (Err (reopening.Journal OtherServer))) = Unit {0}
IsImpossible (replies.Reopened (Err (reopening.Journal Device))) = ⊥
IsImpossible (replies.Reopened (Err reopening.NotDown)) = ⊥
IsImpossible (replies.Reopened (Err reopening.OutOfMemory)) = ⊥
IsImpossible (replies.Reopened (Ok reopened)) = ⊥
IsImpossible (replies.Restarted (Err (starting.Journal NotAJournal))) = Unit {0}
IsImpossible (replies.Restarted (Err (starting.Journal OtherServer))) = Unit {0}
IsImpossible (replies.Restarted (Err (starting.BadRecord at))) = Unit {0}
IsImpossible (replies.Restarted (Err (starting.Gap at))) = Unit {0}
IsImpossible (replies.Restarted (Err starting.LogFull)) = Unit {0}
IsImpossible (replies.Restarted (Err (starting.Journal Device))) = ⊥
IsImpossible (replies.Restarted (Err starting.OutOfMemory)) = ⊥
IsImpossible (replies.Restarted (Ok holds)) = ⊥
IsImpossible (replies.Read answer) = ⊥
IsImpossible (replies.Wrote (Err writing.TagUsed)) = Unit {0}
IsImpossible (replies.Wrote (Ok (Known accepted))) = Unit {0}
IsImpossible (replies.Wrote (Ok (New accepted))) = ⊥
IsImpossible (replies.Wrote (Err writing.Down)) = ⊥
IsImpossible (replies.Wrote (Err (writing.Behind vector))) = ⊥
IsImpossible (replies.Wrote (Err writing.LogFull)) = ⊥
IsImpossible (replies.Wrote (Err writing.OutOfMemory)) = ⊥
IsImpossible (replies.Wrote (Err writing.Journal)) = ⊥
IsImpossible (replies.AskedAgain server (Err writing.TagUsed)) = Unit {0}
IsImpossible (replies.AskedAgain server (Err writing.Down)) = ⊥
IsImpossible (replies.AskedAgain server (Err (writing.Behind vector))) = ⊥
IsImpossible (replies.AskedAgain server (Err writing.LogFull)) = ⊥
IsImpossible (replies.AskedAgain server (Err writing.OutOfMemory)) = ⊥
IsImpossible (replies.AskedAgain server (Err writing.Journal)) = ⊥
IsImpossible (replies.AskedAgain server (Ok written)) = ⊥
IsImpossible (replies.Kept offer) = ⊥
IsImpossible (replies.Flown first number) = ⊥
IsImpossible replies.Delivered = ⊥
IsImpossible replies.Dropped = ⊥
IsImpossible replies.Fused = ⊥
IsImpossible replies.Filed = ⊥
IsImpossible replies.NoMemory = ⊥
IsImpossible replies.Skipped = ⊥

-- By a Collect of an offer that this server made, so many items went in flight, and after other events the server holds those of them
-- that come before one.
pub record IsTakenUpTo (old now : Machine) (server offer number at : ℕ) : Type 0 where
  pub database : List Write
  pub offered : slice_get old.offers offer ≡ Some (record { server = server; database = database })
  pub from : ℕ
  pub next : Machine
  pub collects : CollectStep old from offer (replies.Flown (length old.items) number) next
  pub events : List Event
  pub replies_are : List Reply
  pub run : Run next events replies_are now
  pub among : at < number
  pub taken : (earlier : ℕ) (made : Made) → earlier < at → slice_get now.items (length old.items + earlier) ≡ Some made → HoldsName (now.servers server) made
