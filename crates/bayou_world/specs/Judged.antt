-- What the judge (bayou_judge) answers on what a run leaves.
use Rattle.std.specs.Prelude.{◌≡◌, ℕ, ◌<◌, ◌↔◌, List, Result, Ok, length, map}
use Rattle.bayou_base.specs.declared.entry.Entry.{Entry}
use Rattle.bayou_lang.specs.declared.write.Write.{Write}
use Rattle.bayou_judge.specs.declared.verdict.BadEvidence.{BadEvidence}
use Rattle.bayou_judge.specs.declared.verdict.Verdict.{Verdict}
use Rattle.bayou_judge.specs.declared.verdict.Verdict.TheVariants.{Clean}
use Rattle.bayou_judge.specs.Answers.{Judges}
use Rattle.bayou_judge.specs.History.{History, dump_of}
use Rattle.bayou_world.specs.Machine.{Answered, Machine, writes}

-- what was served, in order of delivery
abbrev pub entries_of : Machine → List Entry
entries_of machine = map (λ (answered : Answered). answered.entry) machine.served

-- the dumps are what each server holds, in order of receipt
pub record AreDumpsOf (machine : Machine) (dumps : List (List Write)) : Type 0 where
  pub one_each : length dumps ≡ machine.count
  pub each : (place : ℕ) → place < machine.count → dump_of dumps place ≡ writes (machine.servers place).held

-- The judge may answer this alone: each session had what it asked for. So no dump is bad, and no entry is forged.
abbrev pub IsJudgedClean : ℕ → List Entry → List (List Write) → Type 0
IsJudgedClean count entries dumps = (answer : Result Verdict BadEvidence) → Judges count entries dumps answer ↔ (answer ≡ Ok Clean)

-- the two have the same operations of sessions, and the same databases of servers
pub record AreOneHistory (one other : History) : Type 0 where
  pub Wrote : (session place : ℕ) (write : Write) → one.Wrote session place write ↔ other.Wrote session place write
  pub Read : (session place server : ℕ) (database : List Write) → one.Read session place server database ↔ other.Read session place server database
  pub Had : (server : ℕ) (database : List Write) → one.Had server database ↔ other.Had server database
