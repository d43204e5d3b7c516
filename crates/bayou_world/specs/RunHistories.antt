-- What a run of real servers and sessions leaves.
use Rattle.std.specs.Prelude.{◌≡◌, ℕ, ◌<◌, List, length, map}
use Rattle.std.specs.List.{slice_index_or}
use Rattle.std.specs.Global.{Vec}
use Rattle.bayou_audit.specs.Totals.{is_read, is_refusal, is_write, number_of, totals_of}
use Rattle.bayou_lang.specs.declared.write.Write.{Write}
use Rattle.bayou_session.specs.Needs.{Told}
use Rattle.bayou_world.specs.declared.event.Event.{Event}
use Rattle.bayou_world.specs.declared.run_history.RunHistory.{RunHistory}
use Rattle.bayou_world.specs.Machine.{Answered, Machine, writes}
use Rattle.bayou_world.specs.Runs.{Run, asks_of, first_machine, capacity_for}

-- Servers and sessions to which nothing has happened yet: how many servers there are, how many Writes each may hold, and the sessions,
-- of which the first of a name counts.
pub record Begun : Type 0 where
  pub count : ℕ
  pub limit : ℕ
  pub sessions : List Told

-- The history is of a run of the machine: one reply for each event, what was served in order of delivery, what each server holds, and
-- the totals of what was entered in the book.
pub record IsRunHistory (begun : Begun) (events : List Event) (history : RunHistory) : Type 0 where
  pub last : Machine
  pub run : Run (first_machine begun.count begun.limit (capacity_for events) (asks_of begun.sessions)) events history.replies.items last
  pub served : history.served.items ≡ map (λ (answered : Answered). answered.entry) last.served
  pub one_each : length history.dumps.items ≡ begun.count
  pub dumps : (place : ℕ) (d : Vec Write) → place < begun.count → (slice_index_or history.dumps.items place d).items ≡ writes (last.servers place).held
  pub totals : history.totals ≡ totals_of 0 (number_of is_read last.filed) (number_of is_write last.filed) (number_of is_refusal last.filed)
