-- What waits at the end is written too.
use Rattle.std.proofs.Common.{◌≡◌, ℕ, List, [], Result, Ok, Err, IfOk, OnOk, subst}
use Rattle.bayou_print.specs.declared.fault.RunFault.{RunFault}
use Rattle.bayou_print.specs.Waiting.{Gathers, Stage}
use Rattle.bayou_print.specs.Laws.Gathered.{TakesBytes-all}
use Rattle.bayou_streams.specs.Account.{Account, TakesBytes}

pub all_written : (text : List ℕ) (answered result : Result (Unit {0}) RunFault) (a b : Stage) (c : Account) → a.waiting ≡ [] → OnOk answered (Gathers a b text [])
    → OnOk result (TakesBytes b.output c b.waiting) → IfOk result (λ told. answered ≡ Ok told) → OnOk result (TakesBytes a.output c text)
all_written text answered (Err fault) a b c none printed took same = tt
all_written text answered (Ok told) a b c none printed took same =
    TakesBytes-all a b c text none (subst (λ (r : Result (Unit {0}) RunFault). OnOk r (Gathers a b text [])) same printed) took
