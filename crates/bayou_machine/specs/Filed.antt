-- What is filed of the operations of a script.
use Rattle.std.specs.Prelude.{◌≡◌, ℕ, ◌+◌, List, [], ◌∷◌, Option, None, Some}
use Rattle.bayou_audit.specs.declared.totals.Totals.{Totals}
use Rattle.bayou_audit.specs.Totals.{is_read, is_refusal, is_write, number_of, totals_of}
use Rattle.bayou_base.specs.declared.entry.Entry.{Entry}
use Rattle.bayou_base.specs.declared.entry.What.{What}
use Rattle.bayou_base.specs.declared.entry.What.TheVariants as whats
use Rattle.bayou_session.specs.Needs.{Told}
use Rattle.bayou_answers.specs.declared.answer.Answer.{Answer}
use Rattle.bayou_answers.specs.declared.answer.Answer.TheVariants.{Wrote, Read, Refused}

-- the book of a script: how many entries it may have, and what was filed, in that order
pub record Filings : Type 0 where
  pub capacity : ℕ
  pub entries : List Entry

-- what a session's operation was served, or that it was refused; nothing where no reply reached the session
abbrev pub what_told : Answer → Option What
what_told (Wrote who accepted) = Some (whats.Write accepted.wid accepted.stamp accepted.deps)
what_told (Read who key seen) = Some (whats.Read key seen.vector)
what_told (Refused who refusal) = Some whats.Refused
what_told _ = None

-- an entry of an operation that this session tried at this server, as its next place
pub record IsEntryOf (who place : ℕ) (told : Told) (what : What) (entry : Entry) : Type 0 where
  pub session_is : entry.session.index ≡ who
  pub place_is : entry.place ≡ told.begun + 1
  pub asks_are : entry.asks ≡ told.asks
  pub server_is : entry.server.index ≡ place
  pub what_is : entry.what ≡ what

-- Just the entry of what the session heard is filed, or nothing where it heard nothing.
abbrev pub Files : (who place : ℕ) → Told → Option What → List Entry → Type 0
Files who place told None filed = filed ≡ []
Files who place told (Some what) filed = (entry : Entry) × (filed ≡ entry ∷ []) × IsEntryOf who place told what entry

-- the totals of what was filed, where no slip is out
abbrev pub totals_filed : List Entry → Totals
totals_filed filed = totals_of 0 (number_of is_read filed) (number_of is_write filed) (number_of is_refusal filed)
