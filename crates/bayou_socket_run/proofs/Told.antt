-- What is told of a run over a network, one text behind another.
use Rattle.std.proofs.Common.{◌≡◌, ◌⊎◌, ℕ, Bool, List, [], ◌++◌, Result, Ok, Err, IfErr, inl, inr, refl, subst, sym}
use Rattle.bayou_streams.specs.Account.{Account, TakesBytes, TakesFront}
use Rattle.bayou_streams.specs.Laws.Taken.{TakesBytes-nil, TakesBytes-trans}
use Rattle.bayou_print.specs.declared.ended.Ended.{Ended}
use Rattle.bayou_print.specs.declared.fault.RunFault.{RunFault}
use Rattle.bayou_print.specs.declared.fault.RunFault.TheVariants.{Line, Memory, Device, Network, Input, Output}
use Rattle.bayou_print.specs.Faults.{IsRunFault}
use Rattle.bayou_socket_run.specs.Inner.Faults.{IsPhaseFault, IsStartFault}
use Rattle.bayou_print.specs.Waiting.{Gathers, Stage}
use Rattle.bayou_socket_run.specs.Inner.Telling.{Tells}
use Rattle.bayou_socket_run.specs.Faults.{IsNetFault, KeepsUnstarted}
use Rattle.bayou_print.specs.Turns.{EndsWriting}
use Rattle.bayou_print.specs.Laws.Gathered.{Gathers-nil, Gathers-trans, TakesBytes-rest}

-- some text was taken or waits
abbrev pub Whole : Stage → Stage → Type 0
Whole a b = (text : List ℕ) × Gathers a b text []

-- or a part of it
abbrev pub Part : Stage → Stage → Type 0
Part a b = (text missing : List ℕ) × Gathers a b text missing

pub nothing_told : (a : Stage) → Whole a a
nothing_told a = ([], Gathers-nil a)

pub part_of_whole : (a b : Stage) → Whole a b → Part a b
part_of_whole a b (text, one) = (text, [], one)

pub some_of : (a b : Stage) (text : List ℕ) → (missing : List ℕ) × Gathers a b text missing → Part a b
some_of a b text (missing, some) = (text, missing, some)

pub whole_behind : (a b c : Stage) → Whole a b → Whole b c → Whole a c
whole_behind a b c (first, one) (second, two) = (first ++ second, Gathers-trans a b c first second [] one two)

pub part_behind : (a b c : Stage) → Whole a b → Part b c → Part a c
part_behind a b c (first, one) (second, missing, two) = (first ++ second, missing, Gathers-trans a b c first second missing one two)

-- a fault, and a part of what was told before it
pub fault_told : (fault : RunFault) (a b : Stage) → IsPhaseFault fault → Part a b → Tells {A = Unit {0}} (Err fault) a b
fault_told fault a b is (text, missing, some) = (is, text, missing, some)

-- a whole text, and a fault behind it
pub fault_behind : (fault : RunFault) (a b c : Stage) → Whole a b → Tells {A = Unit {0}} (Err fault) b c → Tells {A = Unit {0}} (Err fault) a c
fault_behind fault a b c (first, one) (is, second, missing, two) = (is, first ++ second, missing, Gathers-trans a b c first second missing one two)

pub phase_fault : (fault : RunFault) → IsRunFault fault → IsPhaseFault fault
phase_fault (Line number why) is = absurd is
phase_fault Memory is = tt
phase_fault Device is = absurd is
phase_fault Network is = absurd is
phase_fault Input is = absurd is
phase_fault Output is = tt

pub start_writes : (fails : Bool) (turns : ℕ) (fault : RunFault) → IsStartFault fault → EndsWriting fails turns fault
start_writes fails turns (Line number why) is = absurd is
start_writes fails turns Memory is = tt
start_writes fails turns Device is = tt
start_writes fails turns Network is = absurd is
start_writes fails turns Input is = absurd is
start_writes fails turns Output is = absurd is

-- what waited at the end was written too, or a part of it
pub took_part : (a b : Stage) (c : Account) → a.waiting ≡ [] → Part a b → TakesFront b.output c b.waiting → (text : List ℕ) × TakesBytes a.output c text
took_part a b c none (text, missing, some) more = let (front, rest, split, took) = TakesBytes-rest a b c text missing none some more in (front, took)

pub took_nothing : (a : Account) → (text : List ℕ) × TakesBytes a a text
took_nothing a = ([], TakesBytes-nil a)

pub tells_part : (result : Result Ended RunFault) (a b : Stage) → Tells result a b → Part a b
tells_part (Ok ended) a b told = part_of_whole a b told
tells_part (Err fault) a b (is, text, missing, some) = (text, missing, some)

-- what was told was written, as far as it was
pub took_told : (result : Result Ended RunFault) (a b : Stage) (c : Account) → a.waiting ≡ [] → Tells result a b → TakesFront b.output c b.waiting → (text : List ℕ) × TakesBytes a.output c text
took_told result a b c none told more = took_part a b c none (tells_part result a b told) more

-- an end that is told in other words
pub took_same : (a c d : Account) → c ≡ d → (text : List ℕ) × TakesBytes a c text → (text : List ℕ) × TakesBytes a d text
took_same a c d same told = subst (λ end. (text : List ℕ) × TakesBytes a end text) same told

-- one text behind another
pub took_both : (a b c : Account) → (text : List ℕ) × TakesBytes a b text → (text : List ℕ) × TakesBytes b c text → (text : List ℕ) × TakesBytes a c text
took_both a b c (first, one) (second, two) = (first ++ second, TakesBytes-trans a b c first second one two)

-- what may end a start may end a run
pub start_net : (fault : RunFault) → IsStartFault fault → IsNetFault fault
start_net (Line number why) is = absurd is
start_net Memory is = tt
start_net Device is = tt
start_net Network is = absurd is
start_net Input is = absurd is
start_net Output is = absurd is

pub start_unstarted : (fault : RunFault) (a : Account) → KeepsUnstarted {A = Ended} (Err fault) a a
start_unstarted (Line number why) a = tt
start_unstarted Memory a = tt
start_unstarted Device a = refl
start_unstarted Network a = tt
start_unstarted Input a = tt
start_unstarted Output a = tt

-- and so may what ends a phase, which is no fault of a start
pub phase_net : (result : Result Ended RunFault) → IfErr result IsPhaseFault → IfErr result IsNetFault
phase_net (Ok ended) is = tt
phase_net (Err (Line number why)) is = absurd is
phase_net (Err Memory) is = tt
phase_net (Err Device) is = absurd is
phase_net (Err Network) is = tt
phase_net (Err Input) is = absurd is
phase_net (Err Output) is = tt

pub phase_unstarted : (result : Result Ended RunFault) (a b : Account) → IfErr result IsPhaseFault → KeepsUnstarted result a b
phase_unstarted (Ok ended) a b is = tt
phase_unstarted (Err (Line number why)) a b is = absurd is
phase_unstarted (Err Memory) a b is = tt
phase_unstarted (Err Device) a b is = absurd is
phase_unstarted (Err Network) a b is = tt
phase_unstarted (Err Input) a b is = absurd is
phase_unstarted (Err Output) a b is = tt

-- a fault of what was told is one of a phase
pub tells_phase : (result : Result Ended RunFault) (a b : Stage) → Tells result a b → IfErr result IsPhaseFault
tells_phase (Ok ended) a b told = tt
tells_phase (Err fault) a b told = told.0

-- and stays one once what waited was written, or where the output is at fault
pub phase_kept : (told result : Result Ended RunFault) → IfErr told IsPhaseFault → IfErr result (λ fault. (told ≡ Err fault) ⊎ (fault ≡ Output)) → IfErr result IsPhaseFault
phase_kept told (Ok ended) is cause = tt
phase_kept told (Err fault) is (inl same) = subst (λ (r : Result Ended RunFault). IfErr r IsPhaseFault) same is
phase_kept told (Err fault) is (inr output) = subst IsPhaseFault (sym output) tt
