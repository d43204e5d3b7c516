-- What words ask for, and what becomes of it.
use Rattle.std.proofs.Common.{◌≡◌, ◌<◌, ◌≤◌, ◌∙◌, ℕ, Bool, List, [], Option, None, Some, IfSome, IfErr, Result, Ok, Err, ap, arith, inl, refl, subst, sym}
use Rattle.std.proofs.KnownBytes.{Keeps-refl}
use Rattle.bayou_command.specs.Words.{AreMistaken, AskFor, AskForText, Asked, Input as Named, a_check, a_connect, a_json_run, a_key, a_net, a_renewal, a_run, a_serve, a_web, an_audit, an_explanation, an_export, an_import, file, standard}
use Rattle.bayou_print.specs.declared.ended.Ended.{Ended}
use Rattle.bayou_print.specs.declared.fault.RunFault.{RunFault}
use Rattle.bayou_print.specs.declared.fault.RunFault.TheVariants.{Line, Memory, Device, Network, Input, Output}
use Rattle.bayou_print.specs.Fault.{status_of}
use Rattle.bayou_print.specs.Telling.{TellsEnd, TellsFault}
use Rattle.bayou_print.specs.Turns.{EndsReading, EndsWriting, cut_lines}
use Rattle.bayou_shell.specs.declared.errand.Errand.{Errand}
use Rattle.bayou_shell.specs.declared.errand.Errand.TheVariants.{Done}
use Rattle.bayou_shell.specs.Program.{Ends, IsWell, Works, done_of, errand_of}
use Rattle.bayou_streams.specs.Account.{Account, Pays}

-- words ask for one thing
pub asked_once : (words : List (List ℕ)) (one other : Asked) → AskFor words one → AskFor words other → one ≡ other
asked_once words one other first second = sym first.entered ∙ second.entered

-- what ended so is done
pub ends : (runs : List ℕ → Result Ended RunFault → Option (List ℕ) → Option (List ℕ) → Type 0) (known : Option (List ℕ)) (ended : Result Ended RunFault) (came : Result Errand RunFault) (old new : Option (List ℕ))
    → IfSome known (λ text. runs text ended old new) → came ≡ done_of ended → IfSome known (λ text. Ends (runs text) came old new)
ends runs None ended came old new ran is = tt
ends runs (Some text) ended came old new ran is = (ended, ran, is)

-- a fault that ends what is done is its own
pub fault_of_done : (P : RunFault → Type 0) (ended : Result Ended RunFault) (came : Result Errand RunFault) → came ≡ done_of ended → IfErr ended P → IfErr came P
fault_of_done P (Ok ended) came is holds = subst (λ (r : Result Errand RunFault). IfErr r P) (sym is) tt
fault_of_done P (Err fault) came is holds = subst (λ (r : Result Errand RunFault). IfErr r P) (sym is) holds

pub pays_of_done : (a b : Account) (ended : Result Ended RunFault) (came : Result Errand RunFault) → came ≡ done_of ended → Pays a b (cut_lines ended) → Pays a b (cut_lines came)
pays_of_done a b (Ok ended) came is paid = subst (λ (r : Result Errand RunFault). Pays a b (cut_lines r)) (sym is) paid
pays_of_done a b (Err fault) came is paid = subst (λ (r : Result Errand RunFault). Pays a b (cut_lines r)) (sym is) paid

-- it came to this
pub works_so : (known : Option (List ℕ)) (asked : Asked) (came : Result Errand RunFault) (errand : Errand) (old new : Option (List ℕ)) (read_fails write_fails : Bool) (reads writes : ℕ) (told telling : Account) (has_failed : Bool)
    → IfSome known (λ text. Works asked text came old new) → errand ≡ errand_of came → IfErr came (EndsReading read_fails reads) → IfErr came (EndsWriting write_fails writes)
    → TellsEnd came told telling has_failed
    → IfSome known (λ text. (came : Result Errand RunFault) × Works asked text came old new × (errand ≡ errand_of came)
    × IfErr came (EndsReading read_fails reads) × IfErr came (EndsWriting write_fails writes) × TellsEnd came told telling has_failed)
works_so None asked came errand old new read_fails write_fails reads writes told telling has_failed works is read written tells = tt
works_so (Some text) asked came errand old new read_fails write_fails reads writes told telling has_failed works is read written tells =
    (came, works, is, read, written, tells)

pub kept : (asked : Asked) (text : List ℕ) (contents : Option (List ℕ)) → Works asked text (Err Memory) contents contents
kept (a_run source) text contents = (Err Memory, inl (Keeps-refl contents), refl)
kept (a_json_run source) text contents = (Err Memory, inl (Keeps-refl contents), refl)
kept (an_audit source) text contents = (Err Memory, inl (Keeps-refl contents), refl)
kept (a_net folder source) text contents = (tt, Keeps-refl contents)
kept (a_serve service) text contents = (refl, Keeps-refl contents)
kept (a_connect connection) text contents = (refl, Keeps-refl contents)
kept (a_key name at) text contents = (refl, Keeps-refl contents)
kept (a_renewal wanted) text contents = (refl, Keeps-refl contents)
kept (an_export wanted) text contents = (refl, Keeps-refl contents)
kept (an_import wanted) text contents = (refl, Keeps-refl contents)
kept (a_web wanted) text contents = (refl, Keeps-refl contents)
kept (a_check wanted) text contents = (refl, Keeps-refl contents)
kept (an_explanation wanted) text contents = (refl, Keeps-refl contents)

-- want of memory before anything was read is an end of each task
pub works_unread : (known : Option (List ℕ)) (asked : Asked) (status : ℕ) (contents : Option (List ℕ)) (read_fails write_fails : Bool) (reads writes : ℕ) (told telling : Account) (has_failed : Bool)
    → status ≡ status_of Memory → TellsFault told telling has_failed
    → IfSome known (λ text. (came : Result Errand RunFault) × Works asked text came contents contents × (Done status ≡ errand_of came)
    × IfErr came (EndsReading read_fails reads) × IfErr came (EndsWriting write_fails writes) × TellsEnd came told telling has_failed)
works_unread None asked status contents read_fails write_fails reads writes told telling has_failed is tells = tt
works_unread (Some text) asked status contents read_fails write_fails reads writes told telling has_failed is tells =
    (Err Memory, kept asked text contents, ap Done is, tt, tt, tells)

abbrev name_in : Named → List ℕ
name_in standard = []
name_in (file name) = name

-- a file has one name
pub same_name : (one other : List ℕ) → file one ≡ file other → one ≡ other
same_name one other is = ap name_in is

-- words that ask for a text, or are a mistake, ask for nothing else
pub no_text : (words : List (List ℕ)) (asked : Asked) → AskForText words → AskFor words asked → ⊥
no_text words asked text is = rw is.good at text.among

pub no_mistake : (words : List (List ℕ)) (asked : Asked) → AreMistaken words → AskFor words asked → ⊥
no_mistake words asked why is = rw is.good at why.among

-- at most one line is cut short
pub pays_one : (a b : Account) (came : Result Errand RunFault) → Pays a b (cut_lines came) → Pays a b 1
pays_one a b (Ok errand) paid = record { text = paid.text; written = paid.written; lines = paid.lines; turns = omega (arith, paid.turns) }
pays_one a b (Err fault) paid = paid

at_least_two : (fault : RunFault) → 2 ≤ status_of fault
at_least_two (Line number why) = omega arith
at_least_two Memory = omega arith
at_least_two Device = omega arith
at_least_two Network = omega arith
at_least_two Input = omega arith
at_least_two Output = omega arith

-- and none where no fault was told
pub pays_none : (a b : Account) (came : Result Errand RunFault) (errand : Errand) → errand ≡ errand_of came → IsWell errand → Pays a b (cut_lines came) → Pays a b 0
pays_none a b (Ok ended) errand is well paid = paid
pays_none a b (Err fault) errand is well paid =
    let low : status_of fault < 2 = subst IsWell is well in
    absurd (omega (arith, low, at_least_two fault))
