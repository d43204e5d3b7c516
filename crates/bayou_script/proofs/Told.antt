-- Scripts that were told whole.
use Rattle.std.proofs.Common.{◌≡◌, ℕ, ◌&&◌, List, [], ◌∷◌, ◌++◌, Option, None, Some, IsTrue, Bool, true, false, refl, sym, ◌∙◌, subst}
use Rattle.std.specs.List.{list_all}
use Rattle.std.proofs.lemmas.Bool.{le-leb, leb-true}
use Rattle.std.proofs.lemmas.List.Folds.{list_all-append}
use Rattle.bayou_text.specs.Said.{Said, servers}
use Rattle.bayou_script.specs.declared.fault.ScriptFault.TheVariants.{OutOfPlace}
use Rattle.bayou_script.specs.declared.script.Servers.{Servers}
use Rattle.bayou_script.specs.Inner.Stage.{Begins}
use Rattle.bayou_script.specs.Inner.Started.{are_few}
use Rattle.bayou_script.specs.Network.{IsNetworkScript, RunsOverNetwork, network_order, runs_over_network}
use Rattle.bayou_script.specs.Order.{InOrderBy, IsRefusedBy, Order, added, at_end, nothing, skipped}
use Rattle.bayou_script.specs.Script.{IsScript, Plan, script_order}

-- lines that said nothing are refused
pub none_told : (order : Order) (lines : List (List ℕ)) (front others : List Said) (begun : Option Servers) → begun ≡ None → InOrderBy order lines front → Begins begun others front
    → IsRefusedBy order lines 1 OutOfPlace
none_told order lines front others begun is in_order starts =
    let (none, rest) = subst (λ (told : Option Servers). Begins told others front) is starts in
    at_end (subst (InOrderBy order lines) none in_order) refl refl

-- what is said behind the line that starts these servers
abbrev pub plan_behind : Servers → List Said → Plan
plan_behind started others = record { count = started.count; limit = started.limit; commands = others }

pub script_told : (lines : List (List ℕ)) (front others : List Said) (begun : Option Servers) (started : Servers) → begun ≡ Some started → InOrderBy script_order lines front
    → Begins begun others front → IsScript lines (plan_behind started others)
script_told lines front others begun started is in_order starts =
    let (most, all, limit) = subst (λ (told : Option Servers). Begins told others front) is starts in
    record { most = most; in_order = subst (InOrderBy script_order lines) all in_order; limit = limit }

-- ---- over a network

pub both_left : (a b : Bool) → IsTrue (a && b) → IsTrue a
both_left true b is = refl
both_left false b is = is

pub both_right : (a b : Bool) → IsTrue (a && b) → IsTrue b
both_right true b is = is
both_right false b is = absurd (cc)

pub both_true : (a b : Bool) → IsTrue a → IsTrue b → IsTrue (a && b)
both_true true b left right = right
both_true false b left right = left

all_snoc : (front : List Said) (said : Said) → IsTrue (list_all runs_over_network (front ++ said ∷ [])) → IsTrue (list_all runs_over_network front) × IsTrue (runs_over_network said)
all_snoc front said runs =
    let both = sym (list_all-append runs_over_network front (said ∷ [])) ∙ runs in
    (both_left _ _ both, both_left _ _ (both_right _ _ both))

-- lines in the order of a network are in a script's order
pub as_script : (lines : List (List ℕ)) (front : List Said) → InOrderBy network_order lines front → InOrderBy script_order lines front
as_script lines front nothing = nothing
as_script lines front (skipped before same in_order) = skipped before same (as_script before same in_order)
as_script lines front (added before same line said in_order some spells place) =
    added before same line said (as_script before same in_order) some spells (both_right _ _ place)

-- and the other way round, where they run there
pub over_network : (lines : List (List ℕ)) (front : List Said) → InOrderBy script_order lines front → IsTrue (list_all runs_over_network front) → InOrderBy network_order lines front
over_network lines front nothing runs = nothing
over_network lines front (skipped before same in_order) runs = skipped before same (over_network before same in_order runs)
over_network lines front (added before same line said in_order some spells place) runs =
    let both = all_snoc same said runs in
    added before same line said (over_network before same in_order both.0) some spells (both_true _ _ both.1 place)

pub runs_told : (begun : Option Servers) (started : Servers) (others : List Said) → begun ≡ Some started → IsTrue (are_few begun)
    → IsTrue (list_all runs_over_network others) → RunsOverNetwork (plan_behind started others)
runs_told begun started others is few runs = record { few = leb-true _ _ (subst (λ (told : Option Servers). IsTrue (are_few told)) is few); commands = runs }

pub network_told : (lines : List (List ℕ)) (front others : List Said) (begun : Option Servers) (started : Servers) → begun ≡ Some started → InOrderBy network_order lines front
    → Begins begun others front → IsTrue (are_few begun) → IsTrue (list_all runs_over_network others) → IsNetworkScript lines (plan_behind started others)
network_told lines front others begun started is in_order starts few runs = record {
  script = script_told lines front others begun started is (as_script lines front in_order) starts;
  runs = runs_told begun started others is few runs;
}

-- a script over a network is in its order
pub network_in_order : (lines : List (List ℕ)) (plan : Plan) (is : IsNetworkScript lines plan) → InOrderBy network_order lines (servers plan.count is.script.most ∷ plan.commands)
network_in_order lines plan is = over_network lines _ is.script.in_order (both_true _ _ (le-leb _ _ is.runs.few) is.runs.commands)
