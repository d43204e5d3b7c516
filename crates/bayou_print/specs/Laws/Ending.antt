-- Laws of a run's end, for proofs of the crates above: what waited when the run ended was written, or a front of it.
use Rattle.std.proofs.Common.{◌≡◌, ◌⊎◌, ℕ, List, [], ◌++◌, Result, Ok, Err, IfErr, IfOk, OnOk, inl, inr, sym, subst}
use Rattle.bayou_streams.specs.Account.{Account, TakesBytes, TakesFront}
use Rattle.bayou_print.specs.declared.fault.RunFault.{RunFault}
use Rattle.bayou_print.specs.declared.fault.RunFault.TheVariants.{Output}
use Rattle.bayou_print.specs.Faults.{IsRunFault}
use Rattle.bayou_print.specs.Waiting.{Gathers, Stage}
use Rattle.bayou_print.specs.Laws.Gathered.{TakesBytes-all, TakesBytes-rest}

-- a run that ended well ended so before what waited was written
pub ends_well : {A : Type 0} (P : A → List ℕ → Type 0) (answered result : Result A RunFault) (a b : Stage) (c : Account) → a.waiting ≡ []
    → IfOk answered (λ told. (text : List ℕ) × P told text × Gathers a b text []) → OnOk result (TakesBytes b.output c b.waiting) → IfOk result (λ told. answered ≡ Ok told)
    → IfOk result (λ told. (text : List ℕ) × P told text × TakesBytes a.output c text)
ends_well {A} P answered (Err fault) a b c none printed took same = tt
ends_well {A} P answered (Ok told) a b c none printed took same =
    let (text, is, gathered) = subst (λ (r : Result A RunFault). IfOk r (λ told. (text : List ℕ) × P told text × Gathers a b text [])) same printed in
    (text, is, TakesBytes-all a b c text none gathered took)

abbrev fails : (A : Type 0) → RunFault → Result A RunFault
fails A fault = Err fault

-- a fault that one fault is reported as, or that of the output
fault_is : {A : Type 0} (why fault : RunFault) → IsRunFault why → (fails A why ≡ Err fault) ⊎ (fault ≡ Output) → IsRunFault fault
fault_is {A} why fault is (inl same) = subst of_result same is
  where
    of_result : Result A RunFault → Type 0
    of_result (Ok told) = Unit {0}
    of_result (Err fault) = IsRunFault fault
fault_is {A} why fault is (inr output) = subst IsRunFault (sym output) tt

output_is : {A : Type 0} (told : A) (fault : RunFault) → (Ok told ≡ Err fault) ⊎ (fault ≡ Output) → IsRunFault fault
output_is {A} told fault (inl same) = absurd (subst is_ok same tt)
  where
    is_ok : Result A RunFault → Type 0
    is_ok (Ok told) = Unit {0}
    is_ok (Err fault) = ⊥
output_is {A} told fault (inr output) = subst IsRunFault (sym output) tt

-- One that ended in a fault wrote a front of what it was to print, where a front of such a text is one too.
pub ends_short : {A : Type 0} (P : A → List ℕ → Type 0) (Q : List ℕ → Type 0) → ((text front rest : List ℕ) → text ≡ front ++ rest → Q text → Q front)
    → ((told : A) (text : List ℕ) → P told text → Q text) → (answered result : Result A RunFault) (a b : Stage) (c : Account) → a.waiting ≡ []
    → IfOk answered (λ told. (text : List ℕ) × P told text × Gathers a b text [])
    → IfErr answered (λ fault. IsRunFault fault × (text missing : List ℕ) × Q text × Gathers a b text missing)
    → TakesFront b.output c b.waiting → IfErr result (λ fault. (answered ≡ Err fault) ⊎ (fault ≡ Output))
    → IfErr result (λ fault. IsRunFault fault × (text : List ℕ) × Q text × TakesBytes a.output c text)
ends_short {A} P Q front_is whole_is answered (Ok told) a b c none printed part more cause = tt
ends_short {A} P Q front_is whole_is (Ok told) (Err fault) a b c none (text, is, gathered) part more cause =
    let (front, rest, split, took) = TakesBytes-rest a b c text [] none gathered more in
    (output_is told fault cause, front, front_is text front rest split (whole_is told text is), took)
ends_short {A} P Q front_is whole_is (Err why) (Err fault) a b c none printed (is, text, missing, part, gathered) more cause =
    let (front, rest, split, took) = TakesBytes-rest a b c text missing none gathered more in
    (fault_is {A = A} why fault is cause, front, front_is text front rest split part, took)
