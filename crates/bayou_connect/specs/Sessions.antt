-- Which sessions are open, and what they ask for: this project's own (sessions by Terry et al. 1994).
use Rattle.std.specs.Prelude.{◌≡◌, ◌+◌, ◌<◌, ◌≤◌, ℕ, List, Option, None, Some, replicate, slice_index_or, slice_set}
use Rattle.std.proofs.Common.{lit<}
use Rattle.bayou_base.specs.declared.asks.Asks.{Asks}
use Rattle.bayou_base.specs.declared.limits.TheConstants.{SERVERS, SESSIONS}
use Rattle.bayou_base.specs.declared.session.SessionId.{SessionId}
use Rattle.bayou_client.specs.Operating.{Asking}
use Rattle.bayou_session.specs.Needs.{new_session, read_need}

-- the session of short lines
abbrev pub own_session : SessionId
own_session = record { index = 0; in_range = lit< tt }

-- what is kept of the session of this number, if anything
abbrev pub kept_of : List (Option Asking) → SessionId → Option Asking
kept_of sessions who = slice_index_or sessions who.index None

-- The number that a session has in tags and in a book, where lines call session 0 what is `first` there: so many further on, and 0 comes after the last.
abbrev pub IsNumbered : (first who number : SessionId) → Type 0
IsNumbered first who number =
    (who.index + first.index < SESSIONS → number.index ≡ who.index + first.index)
    × (SESSIONS ≤ who.index + first.index → number.index + SESSIONS ≡ who.index + first.index)

-- A session that is opened asks for this from then on. It begins anew, in this run, or goes on from where it was kept.
abbrev pub opened : (number : SessionId) → (run : ℕ) → Asks → Option Asking → Asking
opened number run asks None = record { session = new_session number run asks; asked = None }
opened number run asks (Some kept) = record { session = record kept.session { id = number; asks = asks }; asked = kept.asked }

-- the session that lines call so is opened, under this number, and each other stays as it was
abbrev pub IsOpened : (who number : SessionId) → (run : ℕ) → Asks → (old new : List (Option Asking)) → Type 0
IsOpened who number run asks old new = new ≡ slice_set old who.index (Some (opened number run asks (kept_of old who)))

-- the same, under the number that it has where lines call session 0 what is `first` there
abbrev pub IsOpenedFrom : (first who : SessionId) → (run : ℕ) → Asks → (old new : List (Option Asking)) → Type 0
IsOpenedFrom first who run asks old new = (number : SessionId) × IsNumbered first who number × IsOpened who number run asks old new

-- what a server has to hold that may serve it a read
abbrev pub need_of : Option Asking → List ℕ
need_of None = replicate SERVERS 0
need_of (Some kept) = read_need kept.session
