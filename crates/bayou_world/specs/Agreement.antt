-- That the machine's tests of sets are the code's tests of vectors (version vectors, Terry et al. 1994).
use Rattle.std.specs.Prelude.{◌≡◌, ◌↔◌, ◌⊎◌, ℕ, List, [], ◌∷◌, Contains, length}
use Rattle.bayou_base.specs.declared.answer.Accepted.{Accepted}
use Rattle.bayou_base.specs.declared.answer.Seen.{Seen}
use Rattle.bayou_base.specs.declared.entry.What.{What}
use Rattle.bayou_base.specs.declared.entry.What.TheVariants as whats
use Rattle.bayou_base.specs.declared.limits.TheConstants.{SERVERS}
use Rattle.bayou_base.specs.declared.wid.Wid.{Wid}
use Rattle.bayou_base.specs.Vector.{Covers, Dominates}
use Rattle.bayou_lang.specs.Writes.{HasNoGap, count_of}
use Rattle.bayou_session.specs.Needs.{Told, after_read, after_write, read_need, write_need}
use Rattle.bayou_world.specs.declared.event.Event.{Event}
use Rattle.bayou_world.specs.declared.event.Event.TheVariants as events
use Rattle.bayou_world.specs.declared.reply.Reply.{Reply}
use Rattle.bayou_world.specs.Invariant.{IsVectorOf}
use Rattle.bayou_world.specs.Machine.{Answered, IsWithin, Machine, Made, Offered, SessionSets, names, writes}
use Rattle.bayou_world.specs.Steps.{HoldsName, IsInFlight, MayRead, MayWrite, Step}

-- Of an item that isn't held, all of its past is held where it leaves no gap by the counts, and only there; and an offer has a Write where
-- its vector covers it, and only there.
pub record ItemTestsAgree (machine : Machine) : Type 0 where
  pub taken : (place : ℕ) (made : Made) → Contains machine.items made → (¬ HoldsName (machine.servers place) made)
      → IsWithin (names made.past) (names (writes (machine.servers place).held)) ↔ HasNoGap machine.count (writes (machine.servers place).held) made.write
  pub collected : (offer : Offered) (name : Wid) → Contains machine.offers offer
      → Contains (names offer.database) name ↔ Covers (count_of offer.database) name.origin.index name.seq

-- the session of the code, by its two vectors, stands for the machine's, by its two sets
pub record StandsFor (told : Told) (session : SessionSets) : Type 0 where
  pub asks : told.asks ≡ session.asks
  pub long : (length told.reads ≡ SERVERS) × (length told.writes ≡ SERVERS)
  pub reads : IsVectorOf told.reads session.reads
  pub writes : IsVectorOf told.writes session.writes

-- the session of the code learns of the answer
abbrev pub IsToldOf : What → Told → Told → Type 0
IsToldOf (whats.Read key vector) old new = (seen : Seen) × (seen.vector ≡ vector) × (new ≡ after_read old seen)
IsToldOf (whats.Write wid stamp deps) old new = (accepted : Accepted) × (accepted.wid ≡ wid) × (new ≡ after_write old accepted)
IsToldOf whats.Refused old new = new ≡ old

-- A server holds what the session needs, as sets, where its vector dominates the session's need, and only there.
pub record NeedsAgree (machine : Machine) (session : SessionSets) (told : Told) : Type 0 where
  pub read : (place : ℕ) → MayRead session (machine.servers place).held ↔ Dominates (count_of (writes (machine.servers place).held)) (read_need told)
  pub write : (place : ℕ) → MayWrite session (machine.servers place).held ↔ Dominates (count_of (writes (machine.servers place).held)) (write_need told)

-- by this event the answer in flight to the session reaches it
abbrev pub Reaches : Machine → Event → (who : ℕ) → Answered → Type 0
Reaches machine (events.Deliver session) who answered = (session.index ≡ who) × ((found : SessionSets) × IsInFlight machine who found answered)
Reaches machine (events.Read session server key) who answered = ⊥
Reaches machine (events.Write session server program) who answered = ⊥
Reaches machine (events.Again session) who answered = ⊥
Reaches machine (events.Lose session) who answered = ⊥
Reaches machine (events.Offer server) who answered = ⊥
Reaches machine (events.Collect server offer) who answered = ⊥
Reaches machine (events.Take server item) who answered = ⊥
Reaches machine (events.Fuse server call front) who answered = ⊥
Reaches machine (events.Reopen server) who answered = ⊥
Reaches machine (events.Restart server) who answered = ⊥
Reaches machine (events.File session) who answered = ⊥

-- over an event the session of the code learns of the answer that reaches it, and else of nothing
abbrev pub TellsOver : Machine → Event → (who : ℕ) → Told → Told → Type 0
TellsOver machine event who old new = ((answered : Answered) × Reaches machine event who answered × IsToldOf answered.entry.what old new)
    ⊎ (((answered : Answered) → ¬ Reaches machine event who answered) × (new ≡ old))

-- a run, and what the session of the code has over it
abbrev pub RunTelling : (who : ℕ) → Machine → Told → List Event → List Reply → Machine → Told → Type 0
RunTelling who old told [] [] new last = (new ≡ old) × (last ≡ told)
RunTelling who old told (event ∷ events) (reply ∷ replies) new last =
    (mid : Machine) × (next : Told) × Step old event reply mid × TellsOver old event who told next × RunTelling who mid next events replies new last
RunTelling who old told [] (reply ∷ replies) new last = ⊥
RunTelling who old told (event ∷ events) [] new last = ⊥
