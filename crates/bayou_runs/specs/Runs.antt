-- A script's answers, as a run of the machine of all servers (Terry et al. 1994, 1995; Petersen et al. 1997).
use Rattle.std.specs.Prelude.{◌≡◌, ℕ, ◌==◌, ◌<◌, ◌≤◌, Bool, true, false, List, [], ◌∷◌, ◌++◌, Option, None, Some, Ok, All, if◌then◌else◌}
use Rattle.std.specs.Global.{Vec}
use Rattle.bayou_base.specs.declared.asks.Asks.{Asks}
use Rattle.bayou_base.specs.declared.limits.TheConstants.{MAX_WRITES, SERVERS}
use Rattle.bayou_judge.specs.declared.verdict.Surveyed.{Surveyed as SurveyedSession}
use Rattle.bayou_judge.specs.declared.verdict.Verdict.TheVariants.{Clean}
use Rattle.bayou_judge.specs.Guarantees.{Keeps}
use Rattle.bayou_judge.specs.History.{history_of}
use Rattle.bayou_text.specs.Said.{Said, session, restart, judge, survey}
use Rattle.bayou_script.specs.Capacity.{capacity_for}
use Rattle.bayou_script.specs.Script.{Plan}
use Rattle.bayou_answers.specs.declared.answer.Answer.{Answer}
use Rattle.bayou_answers.specs.declared.answer.Answer.TheVariants.{Judged, Surveyed}
use Rattle.bayou_machine.specs.Run.{ScriptState}
use Rattle.bayou_machine.specs.Standing.{dumps_of}
use Rattle.bayou_world.specs.Judged.{AreDumpsOf, AreOneHistory}
use Rattle.bayou_world.specs.Machine.{Machine}
use Rattle.bayou_world.specs.Runs.{first_machine, history_of_machine}
use Rattle.bayou_runs.specs.Lines.{IsTurn, has_lost}

-- after these lines the others, one after another, each with its answer
abbrev pub IsRunOf : (front : List Said) → Machine → List Said → List Answer → Machine → Type 0
IsRunOf front old [] [] new = new ≡ old
IsRunOf front old (said ∷ others) (answer ∷ answers) new = (mid : Machine) × IsTurn front old said answer mid × IsRunOf (front ++ said ∷ []) mid others answers new
IsRunOf front old [] (answer ∷ answers) new = ⊥
IsRunOf front old (said ∷ others) [] new = ⊥

-- what a line says that its session, of this number, asks for
abbrev pub asks_said : ℕ → Said → Option Asks
asks_said who (session name asks) = if name == who then Some asks else None
asks_said who _ = None

-- the first of the two that is there
abbrev pub first_of : Option Asks → Option Asks → Option Asks
first_of (Some asks) others = Some asks
first_of None others = others

-- what each session asks for: the line that opens it says that, and there is one of it at the most
abbrev pub asks_in : List Said → ℕ → Option Asks
asks_in [] who = None
asks_in (said ∷ others) who = first_of (asks_said who said) (asks_in others who)

-- as a script begins everything is empty, and server 0 has made an offer of that
abbrev pub begun : Plan → Machine
begun plan = record (first_machine plan.count plan.limit (capacity_for plan.commands) (asks_in plan.commands)) { offers = record { server = 0; database = [] } ∷ [] }

-- of a session that asks so, the survey names no breach of a guarantee that it asks for
pub record IsUnbroken (wants : Asks) (surveyed : SurveyedSession) : Type 0 where
  pub ryw : wants.ryw ≡ true → surveyed.ryw ≡ None
  pub mr : wants.mr ≡ true → surveyed.mr ≡ None
  pub wfr : wants.wfr ≡ true → surveyed.wfr ≡ None
  pub mw : wants.mw ≡ true → surveyed.mw ≡ None

abbrev pub HasWhatItAsked : (ℕ → Option Asks) → SurveyedSession → Type 0
HasWhatItAsked asks surveyed = (wants : Asks) → asks surveyed.session.index ≡ Some wants → IsUnbroken wants surveyed

-- the answer is no verdict and no survey
abbrev pub IsPlain : Answer → Type 0
IsPlain (Judged verdict) = ⊥
IsPlain (Surveyed list) = ⊥
IsPlain _ = Unit {0}

-- a line that asks for one of the two
abbrev pub asks_judge : Said → Bool
asks_judge judge = true
asks_judge survey = true
asks_judge _ = false

-- A line that asks for the verdict is answered that each session had what it asked for, and one that asks for the survey tells of no breach of
-- that; no other line is answered by one of the two.
abbrev pub TellsClean : (ℕ → Option Asks) → Said → Answer → Type 0
TellsClean asks judge answer = answer ≡ Judged (Ok Clean)
TellsClean asks survey answer = (list : Vec SurveyedSession) × (answer ≡ Surveyed (Ok list)) × All (HasWhatItAsked asks) list.items
TellsClean asks _ answer = IsPlain answer

abbrev pub AreClean : (ℕ → Option Asks) → List Said → List Answer → Type 0
AreClean asks (said ∷ others) (answer ∷ answers) = TellsClean asks said answer × AreClean asks others answers
AreClean asks _ _ = Unit {0}

-- The answers are those of a run of the machine of all servers, and so each session had what it asked for.
pub record ToldByRun (plan : Plan) (commands : List Said) (answers : List Answer) (state : ScriptState) : Type 0 where
  pub last : Machine
  pub run : IsRunOf [] (begun plan) commands answers last
  pub filed : state.book.entries ≡ last.filed
  pub dumps : AreDumpsOf last (dumps_of state.standing)
  pub kept : (who : ℕ) (wants : Asks) → asks_in plan.commands who ≡ Some wants → Keeps (history_of_machine last) wants who
  pub history : AreOneHistory (history_of state.book.entries (dumps_of state.standing)) (history_of_machine last)
  pub clean : AreClean (asks_in plan.commands) commands answers

-- no server is restarted whose device lost bytes before
abbrev pub RestartsWhole : List Said → Type 0
RestartsWhole commands = (front behind : List Said) (place : ℕ) → commands ≡ front ++ restart place ∷ behind → has_lost place front ≡ false

-- so many servers and Writes as there may be
pub record IsInRange (plan : Plan) : Type 0 where
  pub some : 0 < plan.count
  pub count : plan.count ≤ SERVERS
  pub limit : plan.limit ≤ MAX_WRITES
