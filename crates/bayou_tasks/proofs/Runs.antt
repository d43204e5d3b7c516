-- Runs, one turn after another, and what is printed for them.
use Rattle.std.proofs.Common.{◌≡◌, ℕ, zero, suc, Bool, true, false, ◌&&◌, List, [], ◌∷◌, ◌++◌, Option, None, Some, IfSome, IfErr, IfOk, Result, Ok, Err, OnOk, inl, inr, IsTrue, map, take, length, ap, ap₂, max, sym, ◌∙◌, refl, subst, append_assoc, arith, ◌+◌, ◌≤◌}
use Rattle.std.proofs.lemmas.List.{append-nil, take_all}
use Rattle.std.proofs.lemmas.Grind.{flat_map-append}
use Rattle.std.proofs.KnownBytes.{Keeps-refl}
use Rattle.std.proofs.Math.Seq.{take-append_seam}
use Rattle.std.specs.List.{list_all}
use Rattle.bayou_answers.specs.declared.answer.Answer.{Answer}
use Rattle.bayou_answers.specs.declared.fault.BeginFault.{BeginFault}
use Rattle.bayou_answers.specs.declared.fault.BeginFault.TheVariants as beginning
use Rattle.bayou_script.specs.Capacity.{operations}
use Rattle.bayou_machine.specs.Laws.Runs.{Run-more, Turn-moves, operations-first}
use Rattle.bayou_machine.specs.Standing.{FailsToBegin}
use Rattle.bayou_machine.specs.Run.{IsNewRun, ScriptRun, ScriptState, Turn}
use Rattle.bayou_script.specs.Script.{IsScript, Plan, is_served, lines_of, script_order}
use Rattle.bayou_base.specs.declared.limits.TheConstants.{MAX_TURNS}
use Rattle.bayou_streams.specs.Account.{Account, Pays, TakesBytes}
use Rattle.bayou_streams.specs.Laws.Taken.{Pays-part, Pays-whole}
use Rattle.bayou_text.specs.declared.command.Command.{Command}
use Rattle.bayou_text.specs.Said.{Said, command_said}
use Rattle.bayou_print.specs.declared.fault.RunFault.{RunFault}
use Rattle.bayou_print.specs.declared.fault.RunFault.TheVariants.{Line, Device, Network, Input, Output}
use Rattle.bayou_print.specs.declared.fault.RunFault.TheVariants as faults
use Rattle.std.proofs.Math.Nat.{max-zero, suc-max-suc, zero-max}
use Rattle.bayou_print.specs.declared.ended.Ended.{Ended}
use Rattle.bayou_print.specs.Fault.{answer_status, answers_status, ended_status, exit_status, fault_of_begin, status_of}
use Rattle.bayou_print.specs.Faults.{IsRunFault}
use Rattle.bayou_tasks.specs.Faults.{IsReadFault}
use Rattle.bayou_print.specs.Waiting.{Gathers, Stage}
use Rattle.bayou_runs.specs.Runs.{IsInRange}
use Rattle.bayou_tasks.specs.Run.{Prints, PrintsPart, RunsAs, answer_told, answers_told}
use Rattle.bayou_tasks.specs.declared.form.AnswerForm.{AnswerForm}
use Rattle.bayou_tasks.proofs.Tied.{IsLaw, part_told, whole_told}
use Rattle.bayou_print.specs.Turns.{EndsReading, EndsWriting, cut_lines}
use Rattle.bayou_print.specs.Laws.Gathered.{Gathers-trans}

and_right : (a b : Bool) → IsTrue (a && b) → IsTrue b
and_right true b both = both
and_right false b both = absurd (cc)

answers_more : (form : AnswerForm) (count : ℕ) (answers : List Answer) (answer : Answer) → answers_told form count (answers ++ answer ∷ []) ≡ answers_told form count answers ++ answer_told form count answer
answers_more form count answers answer =
    flat_map-append (answer_told form count) answers (answer ∷ []) ∙ ap (λ line. answers_told form count answers ++ line) (append-nil (answer_told form count answer))

max-assoc : (a b c : ℕ) → max (max a b) c ≡ max a (max b c)
max-assoc zero b c = ap (λ n. max n c) (zero-max b) ∙ sym (zero-max (max b c))
max-assoc (suc a) zero c = ap (λ n. max n c) (max-zero (suc a)) ∙ ap (max (suc a)) (sym (zero-max c))
max-assoc (suc a) (suc b) zero = max-zero (max (suc a) (suc b)) ∙ ap (max (suc a)) (sym (max-zero (suc b)))
max-assoc (suc a) (suc b) (suc c) =
    ap (λ n. max n (suc c)) (suc-max-suc a b) ∙ suc-max-suc (max a b) c ∙ ap (λ n. suc n) (max-assoc a b c) ∙ sym (suc-max-suc a (max b c))
    ∙ ap (max (suc a)) (sym (suc-max-suc b c))

statuses_more : (answers : List Answer) (answer : Answer) → answers_status (answers ++ answer ∷ []) ≡ max (answers_status answers) (answer_status answer)
statuses_more [] answer = max-zero (answer_status answer) ∙ sym (zero-max (answer_status answer))
statuses_more (first ∷ answers) answer =
    ap (max (answer_status first)) (statuses_more answers answer) ∙ sym (max-assoc (answer_status first) (answers_status answers) (answer_status answer))

-- what was answered so far, and what is left
pub record SoFar (form : AnswerForm) (plan : Plan) (ended : Ended) (state : ScriptState) (rest : List Command) (old new : Stage) : Type 0 where
  pub done : List Said
  pub answers : List Answer
  pub first : ScriptState
  pub begun : IsNewRun plan first
  pub whole : plan.commands ≡ done ++ map command_said rest
  pub run : ScriptRun first done answers state
  pub count : state.standing.count ≡ plan.count
  pub room : length state.book.entries + operations (map command_said rest) ≤ state.book.capacity
  pub served : IsTrue (list_all (λ command. is_served plan.count (command_said command)) rest)
  pub written : Gathers old new (answers_told form plan.count answers) []
  pub verdicts : ended_status ended ≡ answers_status answers

-- one command more was answered
pub SoFar-more : (form : AnswerForm) (plan : Plan) (ended told now : Ended) (state after : ScriptState) (command : Command) (rest : List Command) (answer : Answer) (old mid new : Stage)
    → SoFar form plan ended state (command ∷ rest) old mid → Turn state (command_said command) answer after → Gathers mid new (answer_told form plan.count answer) []
    → ended_status told ≡ answer_status answer → ended_status now ≡ max (ended_status ended) (ended_status told)
    → SoFar form plan now after rest old new
SoFar-more form plan ended told now state after command rest answer old mid new so_far step written of both =
    let said = command_said command in
    let moves = Turn-moves state after said answer step in
    record {
      done = so_far.done ++ said ∷ [];
      answers = so_far.answers ++ answer ∷ [];
      first = so_far.first;
      begun = so_far.begun;
      whole = so_far.whole ∙ sym (append_assoc so_far.done (said ∷ []) (map command_said rest));
      run = Run-more so_far.first state after so_far.done so_far.answers said answer so_far.run step;
      count = moves.count ∙ so_far.count;
      room = omega (arith, so_far.room, moves.capacity, moves.filed, operations-first said (map command_said rest));
      served = and_right (is_served plan.count said) _ so_far.served;
      written = subst (λ text. Gathers old new text []) (sym (answers_more form plan.count so_far.answers answer))
          (Gathers-trans old mid new (answers_told form plan.count so_far.answers) (answer_told form plan.count answer) [] so_far.written written);
      verdicts = both ∙ ap₂ max so_far.verdicts of ∙ sym (statuses_more so_far.answers answer);
    }

-- all commands were answered
pub SoFar-all : (form : AnswerForm) (plan : Plan) (ended : Ended) (state : ScriptState) (old new : Stage) → SoFar form plan ended state [] old new
    → (text : List ℕ) × Prints form plan ended text × Gathers old new text []
SoFar-all form plan ended state old new so_far =
    let all : plan.commands ≡ so_far.done = so_far.whole ∙ append-nil so_far.done in (
      answers_told form plan.count so_far.answers,
      record {
        answers = so_far.answers;
        first = so_far.first;
        last = state;
        begun = so_far.begun;
        run = subst (λ commands. ScriptRun so_far.first commands so_far.answers state) (sym all) so_far.run;
        lines = refl;
        verdicts = so_far.verdicts;
      },
      so_far.written,
    )

-- one command more was answered, and a part of what is printed for it is missing
pub SoFar-part : (form : AnswerForm) (plan : Plan) (ended : Ended) (state after : ScriptState) (command : Command) (rest : List Command) (answer : Answer) (old mid new : Stage) (missing : List ℕ)
    → SoFar form plan ended state (command ∷ rest) old mid → Turn state (command_said command) answer after → Gathers mid new (answer_told form plan.count answer) missing
    → (text : List ℕ) × (missing : List ℕ) × PrintsPart form plan text × Gathers old new text missing
SoFar-part form plan ended state after command rest answer old mid new missing so_far step some =
    let said = command_said command in
    let before = answers_told form plan.count so_far.answers in
    let done = so_far.done ++ said ∷ [] in
    let first : take (length done) plan.commands ≡ done =
    ap (take (length done)) (so_far.whole ∙ sym (append_assoc so_far.done (said ∷ []) (map command_said rest)))
    ∙ take-append_seam done (map command_said rest) in (
      before ++ answer_told form plan.count answer,
      missing,
      record {
        number = length done;
        answers = so_far.answers ++ answer ∷ [];
        first = so_far.first;
        last = after;
        begun = so_far.begun;
        run = subst (λ commands. ScriptRun so_far.first commands (so_far.answers ++ answer ∷ []) after) (sym first)
            (Run-more so_far.first state after so_far.done so_far.answers said answer so_far.run step);
        missing = [];
        lines = answers_more form plan.count so_far.answers answer ∙ sym (append-nil (before ++ answer_told form plan.count answer));
      },
      Gathers-trans old mid new before (answer_told form plan.count answer) missing so_far.written some,
    )

-- nothing was written for one command more
pub SoFar-stopped : (form : AnswerForm) (plan : Plan) (ended : Ended) (state : ScriptState) (rest : List Command) (old mid new : Stage)
    → SoFar form plan ended state rest old mid → new ≡ mid → (text : List ℕ) × (missing : List ℕ) × PrintsPart form plan text × Gathers old new text missing
SoFar-stopped form plan ended state rest old mid new so_far same =
    let before = answers_told form plan.count so_far.answers in
    let first : take (length so_far.done) plan.commands ≡ so_far.done =
    ap (take (length so_far.done)) so_far.whole ∙ take-append_seam so_far.done (map command_said rest) in (
      before,
      [],
      record {
        number = length so_far.done;
        answers = so_far.answers;
        first = so_far.first;
        last = state;
        begun = so_far.begun;
        run = subst (λ commands. ScriptRun so_far.first commands so_far.answers state) (sym first) so_far.run;
        missing = [];
        lines = sym (append-nil before);
      },
      subst (λ stands. Gathers old stands before []) (sym same) so_far.written,
    )

-- what is a front of a front is one
pub PrintsPart-front : (form : AnswerForm) (plan : Plan) (text front rest : List ℕ) → text ≡ front ++ rest → PrintsPart form plan text → PrintsPart form plan front
PrintsPart-front form plan text front rest split part = record {
  number = part.number;
  answers = part.answers;
  first = part.first;
  last = part.last;
  begun = part.begun;
  run = part.run;
  missing = rest ++ part.missing;
  lines = part.lines ∙ ap (λ l. l ++ part.missing) split ∙ append_assoc front rest part.missing;
}

-- the whole is a front
pub PrintsPart-whole : (form : AnswerForm) (plan : Plan) (ended : Ended) (text : List ℕ) → Prints form plan ended text → PrintsPart form plan text
PrintsPart-whole form plan ended text all = record {
  number = length plan.commands;
  answers = all.answers;
  first = all.first;
  last = all.last;
  begun = all.begun;
  run = subst (λ commands. ScriptRun all.first commands all.answers all.last) (sym (take_all (length plan.commands) plan.commands (omega arith))) all.run;
  missing = [];
  lines = sym all.lines ∙ sym (append-nil text);
}

-- where the input isn't taken as a script, nothing is answered
pub RunsAs-unread : (form : AnswerForm) (known contents : Option (List ℕ)) (fault : RunFault) → IsReadFault script_order known fault → IfSome known (λ input. RunsAs form input (Err fault) contents contents)
RunsAs-unread form None contents fault is = tt
RunsAs-unread form (Some input) contents (Line number why) refused = (refused, Keeps-refl contents)
RunsAs-unread form (Some input) contents faults.Memory is = inl (Keeps-refl contents)
RunsAs-unread form (Some input) contents Device is = absurd is
RunsAs-unread form (Some input) contents Network is = absurd is
RunsAs-unread form (Some input) contents Input is = Keeps-refl contents
RunsAs-unread form (Some input) contents Output is = absurd is

-- want of memory before anything was read is an end of a run
pub RunsAs-memory : (form : AnswerForm) (known contents : Option (List ℕ)) (status : ℕ) (read_fails write_fails : Bool) (reads writes : ℕ) → status ≡ status_of faults.Memory
    → IfSome known (λ input. (ended : Result Ended RunFault) × RunsAs form input ended contents contents × (status ≡ exit_status ended)
    × IfErr ended (EndsReading read_fails reads) × IfErr ended (EndsWriting write_fails writes))
RunsAs-memory form None contents status read_fails write_fails reads writes is = tt
RunsAs-memory form (Some input) contents status read_fails write_fails reads writes is = (Err faults.Memory, inl (Keeps-refl contents), is, tt, tt)

-- a script that was read runs as it is told
pub RunsAs-script : IsLaw → (form : AnswerForm) (known : Option (List ℕ)) (old new : Account) (plan : Plan) → IsInRange plan → (result : Result Ended RunFault)
    → IfSome known (λ text. IsScript (lines_of text) plan)
    → IfOk result (λ ended. (text : List ℕ) × Prints form plan ended text × TakesBytes old new text)
    → IfErr result (λ fault. IsRunFault fault × (text : List ℕ) × PrintsPart form plan text × TakesBytes old new text)
    → IfSome known (λ input. RunsAs form input result old.contents new.contents)
RunsAs-script law form None old new plan in_range result script ok err = tt
RunsAs-script law form (Some input) old new plan in_range (Ok done) script (text, prints, took) err = (plan, script, text, whole_told law form (lines_of input) plan script in_range done text prints, took.bytes)
RunsAs-script law form (Some input) old new plan in_range (Err (Line number why)) script ok (is, text, prints, took) = absurd is
RunsAs-script law form (Some input) old new plan in_range (Err faults.Memory) script ok (is, text, prints, took) = inr (plan, script, text, part_told law form (lines_of input) plan script in_range text prints, took.bytes)
RunsAs-script law form (Some input) old new plan in_range (Err Device) script ok (is, text, prints, took) = absurd is
RunsAs-script law form (Some input) old new plan in_range (Err Network) script ok (is, text, prints, took) = absurd is
RunsAs-script law form (Some input) old new plan in_range (Err Input) script ok (is, text, prints, took) = absurd is
RunsAs-script law form (Some input) old new plan in_range (Err Output) script ok (is, text, prints, took) = (plan, script, text, part_told law form (lines_of input) plan script in_range text prints, took.bytes)

-- where the servers of a script don't begin, nothing is answered
pub RunsAs-unbegun : (form : AnswerForm) (known contents : Option (List ℕ)) (plan : Plan) (fault : BeginFault) → IfSome known (λ text. IsScript (lines_of text) plan)
    → FailsToBegin plan.count plan.limit fault → IfSome known (λ input. RunsAs form input (Err (fault_of_begin fault)) contents contents)
RunsAs-unbegun form None contents plan fault script fails = tt
RunsAs-unbegun form (Some input) contents plan beginning.OutOfMemory script fails = inl (Keeps-refl contents)
RunsAs-unbegun form (Some input) contents plan beginning.Device script fails = (plan, script, fails, Keeps-refl contents)

-- and no stream is told to be at fault
pub unbegun_reads : (fails : Bool) (turns : ℕ) (fault : BeginFault) → EndsReading fails turns (fault_of_begin fault)
unbegun_reads fails turns beginning.OutOfMemory = tt
unbegun_reads fails turns beginning.Device = tt

pub unbegun_writes : (fails : Bool) (turns : ℕ) (fault : BeginFault) → EndsWriting fails turns (fault_of_begin fault)
unbegun_writes fails turns beginning.OutOfMemory = tt
unbegun_writes fails turns beginning.Device = tt

-- what was written is paid for
pub run_paid : (form : AnswerForm) (plan : Plan) (old new : Account) (result : Result Ended RunFault) → old.turns_left ≤ MAX_TURNS
    → IfOk result (λ ended. (text : List ℕ) × Prints form plan ended text × TakesBytes old new text)
    → IfErr result (λ fault. IsRunFault fault × (text : List ℕ) × PrintsPart form plan text × TakesBytes old new text)
    → OnOk result (old.turns_left ≤ new.turns_left) → Pays old new (cut_lines result)
run_paid form plan old new (Ok ended) within (text, prints, took) err ready = Pays-whole old new text took ready
run_paid form plan old new (Err fault) within ok (is, text, part, took) ready = Pays-part old new text within took

-- a fault of a run tells of no input
pub run_reads : (form : AnswerForm) (fails : Bool) (turns : ℕ) (plan : Plan) (old new : Account) (result : Result Ended RunFault)
    → IfErr result (λ fault. IsRunFault fault × (text : List ℕ) × PrintsPart form plan text × TakesBytes old new text) → IfErr result (EndsReading fails turns)
run_reads form fails turns plan old new (Ok ended) err = tt
run_reads form fails turns plan old new (Err (Line number why)) (is, text, part, took) = absurd is
run_reads form fails turns plan old new (Err faults.Memory) (is, text, part, took) = tt
run_reads form fails turns plan old new (Err Device) (is, text, part, took) = absurd is
run_reads form fails turns plan old new (Err Network) (is, text, part, took) = absurd is
run_reads form fails turns plan old new (Err Input) (is, text, part, took) = absurd is
run_reads form fails turns plan old new (Err Output) (is, text, part, took) = tt
