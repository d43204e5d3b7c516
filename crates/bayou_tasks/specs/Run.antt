-- What is read and printed of a run.
use Rattle.std.specs.Prelude.{◌≡◌, ℕ, ◌⊎◌, List, ◌++◌, Option, Result, Ok, Err, take, flat_map}
use Rattle.std.specs.Io.KnownBytes.{Appends, Keeps}
use Rattle.bayou_answers.specs.declared.answer.Answer.{Answer}
use Rattle.bayou_answers.specs.declared.fault.BeginFault.TheVariants as beginning
use Rattle.bayou_base.specs.declared.entry.Entry.{Entry}
use Rattle.bayou_lang.specs.declared.write.Write.{Write}
use Rattle.bayou_machine.specs.Standing.{FailsToBegin}
use Rattle.bayou_machine.specs.Run.{IsNewRun, ScriptRun, ScriptState}
use Rattle.bayou_runs.specs.Runs.{RestartsWhole, ToldByRun}
use Rattle.bayou_script.specs.Script.{IsRefused, IsScript, Plan, lines_of}
use Rattle.bayou_text.specs.Said.{Said}
use Rattle.bayou_print.specs.declared.ended.Ended.{Ended}
use Rattle.bayou_print.specs.declared.ended.Ended.TheVariants.{Clean}
use Rattle.bayou_print.specs.declared.fault.RunFault.{RunFault}
use Rattle.bayou_print.specs.declared.fault.RunFault.TheVariants.{Line, Device, Network, Input, Output}
use Rattle.bayou_print.specs.declared.fault.RunFault.TheVariants as fault
use Rattle.bayou_print.specs.Booked.{book_text}
use Rattle.bayou_print.specs.Printed.{answer_text}
use Rattle.bayou_objects.specs.Objects.{answer_json, book_json}
use Rattle.bayou_tasks.specs.declared.form.AnswerForm.{AnswerForm}
use Rattle.bayou_tasks.specs.declared.form.AnswerForm.TheVariants.{Lines, Objects}
use Rattle.bayou_print.specs.Fault.{answers_status, ended_status}

-- what is printed for an answer where there are so many servers, in this form
abbrev pub answer_told : AnswerForm → ℕ → Answer → List ℕ
answer_told Lines count answer = answer_text count answer
answer_told Objects count answer = answer_json count answer

-- what is printed of a book so
abbrev pub book_told : AnswerForm → ℕ → List Entry → List (List Write) → List ℕ
book_told Lines count entries dumps = book_text count entries dumps
book_told Objects count entries dumps = book_json count entries dumps

-- and for answers, in their order
abbrev pub answers_told : AnswerForm → ℕ → List Answer → List ℕ
answers_told form count answers = flat_map (answer_told form count) answers

-- the text is what is printed for the answers of some run of all commands, and the verdicts among them come to this
pub record Prints (form : AnswerForm) (plan : Plan) (ended : Ended) (text : List ℕ) : Type 0 where
  pub answers : List Answer
  pub first : ScriptState
  pub last : ScriptState
  pub begun : IsNewRun plan first
  pub run : ScriptRun first plan.commands answers last
  pub lines : text ≡ answers_told form plan.count answers
  pub verdicts : ended_status ended ≡ answers_status answers

-- the text is a front of what is printed for the answers of some run of the first commands
pub record PrintsPart (form : AnswerForm) (plan : Plan) (text : List ℕ) : Type 0 where
  pub number : ℕ
  pub answers : List Answer
  pub first : ScriptState
  pub last : ScriptState
  pub begun : IsNewRun plan first
  pub run : ScriptRun first (take number plan.commands) answers last
  pub missing : List ℕ
  pub lines : answers_told form plan.count answers ≡ text ++ missing

-- What the first lines are answered comes of a run of the machine of all servers and sessions (Terry et al. 1994, 1995), where none of them restarts a
-- server whose device lost bytes before: so each session had what it asked for.
abbrev pub AreTold : Plan → (first : ScriptState) → List Said → List Answer → Type 0
AreTold plan first commands answers = (number : ℕ) → RestartsWhole (take number commands)
    → (mid : ScriptState) × ScriptRun first (take number commands) (take number answers) mid × ToldByRun plan (take number commands) (take number answers) mid

-- the text is what is printed for answers that come so, and where the whole script restarts no such server, each verdict among them is clean
pub record PrintsTold (form : AnswerForm) (plan : Plan) (ended : Ended) (text : List ℕ) : Type 0 where
  pub prints : Prints form plan ended text
  pub told : AreTold plan prints.first plan.commands prints.answers
  pub clean : RestartsWhole plan.commands → ended ≡ Clean

-- the text is a front of what is printed for answers that come so
pub record PrintsPartTold (form : AnswerForm) (plan : Plan) (text : List ℕ) : Type 0 where
  pub prints : PrintsPart form plan text
  pub told : AreTold plan prints.first (take prints.number plan.commands) prints.answers

-- What is read and written from an input, with answers printed in this form. A script is run whole, or a fault is reported of a run with a part of its lines
-- printed; another input is refused for its least line with a fault, with nothing printed. Want of memory and of the
-- input may come before anything is printed, and so may a server whose start was refused for something else.
abbrev pub RunsAs : AnswerForm → List ℕ → Result Ended RunFault → Option (List ℕ) → Option (List ℕ) → Type 0
RunsAs form input (Ok ended) old new = (plan : Plan) × IsScript (lines_of input) plan × (text : List ℕ) × PrintsTold form plan ended text × Appends old new text
RunsAs form input (Err (Line number fault)) old new = IsRefused (lines_of input) number fault × Keeps old new
RunsAs form input (Err fault.Memory) old new = Keeps old new ⊎ ((plan : Plan) × IsScript (lines_of input) plan × (text : List ℕ) × PrintsPartTold form plan text × Appends old new text)
RunsAs form input (Err Device) old new = (plan : Plan) × IsScript (lines_of input) plan × FailsToBegin plan.count plan.limit beginning.Device × Keeps old new
RunsAs form input (Err Network) old new = ⊥
RunsAs form input (Err Input) old new = Keeps old new
RunsAs form input (Err Output) old new = (plan : Plan) × IsScript (lines_of input) plan × (text : List ℕ) × PrintsPartTold form plan text × Appends old new text
