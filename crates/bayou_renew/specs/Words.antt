-- What words ask for that say how a server is renewed: this project's own.
use Rattle.std.specs.Prelude.{◌≡◌, ◌≢◌, ◌/◌, ◌<◌, ◌≤◌, ◌⊎◌, [], ℕ, Bool, Contains, List, None, if◌then◌else◌}
use Rattle.bayou_base.specs.declared.limits.TheConstants.{MAX_WRITES}
use Rattle.bayou_base.specs.Key.{prefix_fault}
use Rattle.bayou_renew.specs.declared.plan.RenewalPlanFault.{RenewalPlanFault}
use Rattle.bayou_renew.specs.declared.plan.RenewalPlanFault.TheVariants.{NoServer, LeftOut, NoCounts, NoPrefix, SameFolder, OutOfMemory}

-- the word is of a prefix, and not empty
abbrev pub SaysPrefix : (word prefix : List ℕ) → Type 0
SaysPrefix word prefix = (word ≢ []) × (prefix_fault word ≡ None) × (prefix ≡ word)

abbrev pub SaysNoPrefix : (word : List ℕ) → Type 0
SaysNoPrefix word = (word ≡ []) ⊎ (prefix_fault word ≢ None)

-- as how many Writes a database may be made again: as half of those that a log has room for, or as all
abbrev pub most_of : Bool → ℕ
most_of is_full = if is_full then MAX_WRITES else MAX_WRITES / 2

-- why words say no prefixes: one of them says none
abbrev pub RefusesPrefixes : List (List ℕ) → RenewalPlanFault → Type 0
RefusesPrefixes words NoPrefix = (word : List ℕ) × Contains words word × SaysNoPrefix word
RefusesPrefixes words OutOfMemory = Unit {0}
RefusesPrefixes words _ = ⊥

-- why the words make no plan, where memory sufficed and a folder isn't named twice
abbrev pub Refuses : (id servers servers_then : ℕ) → (without : List (List ℕ)) → RenewalPlanFault → Type 0
Refuses id servers servers_then without NoServer = servers ≤ id
Refuses id servers servers_then without LeftOut = servers_then ≤ id
Refuses id servers servers_then without NoCounts = (id < servers) × (id < servers_then)
Refuses id servers servers_then without NoPrefix = RefusesPrefixes without NoPrefix
Refuses id servers servers_then without SameFolder = ⊥
Refuses id servers servers_then without OutOfMemory = Unit {0}
