-- The four session guarantees (Terry et al. 1994) of one session of a history. "Before" within a session is by place; in
-- place of a read's relevant Writes stands the whole database that it was served from, which asks for no less.
use Rattle.std.specs.Prelude.{◌≡◌, ℕ, ◌<◌, true, List, Contains}
use Rattle.bayou_base.specs.declared.asks.Asks.{Asks}
use Rattle.bayou_base.specs.Order.{is_before}
use Rattle.bayou_lang.specs.declared.write.Write.{Write}
use Rattle.bayou_judge.specs.History.{History}

-- Read Your Writes: if a read follows a Write in the session, the read was served from a database that has the Write.
abbrev pub ReadYourWrites : History → ℕ → Type 0
ReadYourWrites history session = (first second server : ℕ) (write : Write) (database : List Write) → first < second
    → history.Wrote session first write → history.Read session second server database → Contains database write

-- Monotonic Reads: if a read follows another in the session, it was served from a database that has each Write that the
-- other's had.
abbrev pub MonotonicReads : History → ℕ → Type 0
MonotonicReads history session = (first second other server : ℕ) (earlier later : List Write) → first < second
    → history.Read session first other earlier → history.Read session second server later
    → (write : Write) → Contains earlier write → Contains later write

-- in this database the one Write stands if the other does, and is before it in the order of Writes
abbrev pub PrecedesIn : List Write → Write → Write → Type 0
PrecedesIn database earlier later = Contains database later → Contains database earlier × (is_before earlier.stamp later.stamp ≡ true)

-- in each database of any server, at any time, that has the later Write, the earlier one stands, and is before it
abbrev pub Precedes : History → Write → Write → Type 0
Precedes history earlier later = (server : ℕ) (database : List Write) → history.Had server database → PrecedesIn database earlier later

-- Writes Follow Reads: if a Write follows a read in the session, each Write of the database that the read was served from
-- precedes it everywhere.
abbrev pub WritesFollowReads : History → ℕ → Type 0
WritesFollowReads history session = (first second server : ℕ) (database : List Write) (write : Write) → first < second
    → history.Read session first server database → history.Wrote session second write
    → (earlier : Write) → Contains database earlier → Precedes history earlier write

-- Monotonic Writes: if a Write follows another in the session, the other precedes it everywhere.
abbrev pub MonotonicWrites : History → ℕ → Type 0
MonotonicWrites history session = (first second : ℕ) (earlier later : Write) → first < second
    → history.Wrote session first earlier → history.Wrote session second later → Precedes history earlier later

-- the session has each of the guarantees that are asked for
pub record Keeps (history : History) (asks : Asks) (session : ℕ) : Type 0 where
  pub ryw : asks.ryw ≡ true → ReadYourWrites history session
  pub mr : asks.mr ≡ true → MonotonicReads history session
  pub wfr : asks.wfr ≡ true → WritesFollowReads history session
  pub mw : asks.mw ≡ true → MonotonicWrites history session
