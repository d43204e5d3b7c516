-- The lines of a server that lives, one behind another.
use Rattle.std.proofs.Common.{◌≡◌, ℕ, List, ◌++◌, IfErr, Result, Ok, Err, OnOk, subst, sym}
use Rattle.bayou_node.specs.declared.node_settled.NodeSettled.{NodeSettled}
use Rattle.bayou_print.specs.Living.{held_text, serving_text}
use Rattle.bayou_print.specs.Printed.{settled_text}
use Rattle.bayou_serve.specs.Lived.{PrintsLife}
use Rattle.bayou_streams.specs.Account.{Account, TakesBytes}
use Rattle.bayou_streams.specs.Laws.Taken.{TakesBytes-trans}

-- what follows from success, where that is what came about
pub came_about : {A E P : Type 0} (result : Result A E) {value : A} → result ≡ Ok value → OnOk result P → P
came_about {P = P} result is follows = subst (λ r. OnOk r P) is follows

pub three_lines : {T E : Type 0} (server servers : ℕ) (a b c d : Account) (address counts : List ℕ) (settled : NodeSettled) (second third : List ℕ) (result : Result T E)
    → TakesBytes a b (serving_text server address servers counts)
    → second ≡ settled_text server settled → TakesBytes b c second
    → third ≡ held_text server servers settled.vector → OnOk result (TakesBytes c d third)
    → OnOk result (PrintsLife server servers a d)
three_lines server servers a b c d address counts settled second third (Ok value) one is_second two is_third rest =
    let behind = TakesBytes-trans b c d second third two rest in
    let texts = subst (λ (l : List ℕ). TakesBytes b d (settled_text server settled ++ l)) is_third (subst (λ (l : List ℕ). TakesBytes b d (l ++ third)) is_second behind) in
    (address, counts, settled, TakesBytes-trans a b d (serving_text server address servers counts) (settled_text server settled ++ held_text server servers settled.vector) one texts)
three_lines server servers a b c d address counts settled second third (Err fault) one is_second two is_third rest = tt

-- what holds of a fault that was told holds of the same one that is passed on
pub passed_on : {T U F : Type 0} (P : F → Type 0) (ended : Result T F) (told : Result U F) (fault : F) → ended ≡ Err fault → (one : F) → told ≡ Err one → one ≡ fault → IfErr ended P
    → IfErr told P
passed_on {T} {U} {F} P ended told fault was one is same holds =
    subst (λ (r : Result U F). IfErr r P) (sym is) (subst P (sym same) (subst (λ (r : Result T F). IfErr r P) was holds))
