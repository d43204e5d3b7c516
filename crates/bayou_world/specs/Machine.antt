-- All servers and all sessions as one machine (Terry et al. 1994, 1995). It speaks of lists and sets of Writes, and counts none. That a
-- Write may be asked again, and has a tag for that, is this project's own.
use Rattle.std.specs.Prelude.{ℕ, ◌==◌, Bool, List, Option, None, Some, Contains, map, if◌then◌else◌}
use Rattle.bayou_base.specs.declared.asks.Asks.{Asks}
use Rattle.bayou_base.specs.declared.entry.Entry.{Entry}
use Rattle.bayou_base.specs.declared.tag.Tag.{Tag}
use Rattle.bayou_base.specs.declared.wid.Wid.{Wid}
use Rattle.bayou_lang.specs.declared.program.Program.{Program}
use Rattle.bayou_lang.specs.declared.write.Write.{Write}

-- A Write with its past, what its own server held as it made it, and with the tag of its asking. The two stand beside the Write, and are
-- no part of it.
pub record Made : Type 0 where
  pub write : Write
  pub past : List Write
  pub tag : Tag

-- without their pasts and tags
abbrev pub writes : List Made → List Write
writes list = map (λ (made : Made). made.write) list

-- a server knows the tags of the Writes that it made, and of no other
abbrev pub tag_at : (place : ℕ) → Made → Option Tag
tag_at place made = if made.write.wid.origin.index == place then Some made.tag else None

-- the names of Writes (WID, Terry et al. 1994)
abbrev pub names : List Write → List Wid
names list = map (λ (write : Write). write.wid) list

-- each name of the one set is in the other
abbrev pub IsWithin : List Wid → List Wid → Type 0
IsWithin set other = (name : Wid) → Contains set name → Contains other name

-- A server: the Writes that it holds, in order of receipt; the Write in doubt, where there is one; whether it is stopped, as its last
-- start was refused; and every database that it ever had. It is up where it isn't stopped and no Write is in doubt, and down where one is.
pub record ServerSets : Type 0 where
  pub held : List Made
  pub doubt : Option Made
  pub stopped : Bool
  pub had : List (List Write)

-- What a session's operation was answered: the entry that tells of it, the database that it was answered from, and the Write that
-- was accepted, if one was.
pub record Answered : Type 0 where
  pub entry : Entry
  pub database : List Write
  pub made : Option Made

-- A Write that was asked for: the place of its first asking, which is the number of its tag; the server that was asked; and the program.
pub record Asking : Type 0 where
  pub number : ℕ
  pub server : ℕ
  pub program : Program

-- A session: what it asks for; how many places it has begun; the Write that it may ask again, if there is one; its read-set and its
-- write-set (Terry et al. 1994); the answer in flight to it; and the entries of its delivered operations that aren't in the book yet, the
-- oldest first.
pub record SessionSets : Type 0 where
  pub asks : Asks
  pub begun : ℕ
  pub asked : Option Asking
  pub reads : List Wid
  pub writes : List Wid
  pub flight : Option Answered
  pub waiting : List Entry

-- An offer: which server made it, and what that server held.
pub record Offered : Type 0 where
  pub server : ℕ
  pub database : List Write

-- The machine: how many servers there are, how many Writes each may hold, and how many entries the book may have; each server and each
-- session; the offers, and the items in flight, by their numbers; what was served, in order of delivery; and the entries of the book.
pub record Machine : Type 0 where
  pub count : ℕ
  pub limit : ℕ
  pub capacity : ℕ
  pub servers : ℕ → ServerSets
  pub sessions : ℕ → Option SessionSets
  pub offers : List Offered
  pub items : List Made
  pub served : List Answered
  pub filed : List Entry

-- the same, but for one number
abbrev pub changed : {A : Type 0} → (ℕ → A) → ℕ → A → ℕ → A
changed each number new other = if other == number then new else each other

abbrev pub with_server : Machine → ℕ → ServerSets → Machine
with_server machine place server = record machine { servers = changed machine.servers place server }

abbrev pub with_session : Machine → ℕ → SessionSets → Machine
with_session machine who session = record machine { sessions = changed machine.sessions who (Some session) }
