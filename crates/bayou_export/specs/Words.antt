-- What words ask for that say whose rows are exported: this project's own.
use Rattle.std.specs.Prelude.{◌≡◌, ◌≢◌, ◌≤◌, ℕ, List, [], IsSome, IsSomeAnd, MatchOption, Option, None, Some, is_some, nat_lt, unwrap_or}
use Rattle.bayou_base.specs.declared.limits.TheConstants.{SERVERS}
use Rattle.bayou_base.specs.Key.{prefix_fault}
use Rattle.bayou_export.specs.declared.whose.Whose.{Whose}
use Rattle.bayou_export.specs.declared.plan.ExportPlan.{ExportPlan}
use Rattle.bayou_export.specs.declared.plan.ExportPlanFault.{ExportPlanFault}
use Rattle.bayou_export.specs.declared.plan.ExportPlanFault.TheVariants.{NotTogether, NotOne, KeyOfJournal, NoServer, NoPrefix}

-- the word is of a prefix; where there is none, each key begins so
abbrev pub SaysPrefix : (word : Option (List ℕ)) → (prefix : List ℕ) → Type 0
SaysPrefix None prefix = prefix ≡ []
SaysPrefix (Some word) prefix = (prefix_fault word ≡ None) × (prefix ≡ word)

abbrev pub SaysNoPrefix : (word : Option (List ℕ)) → Type 0
SaysNoPrefix None = ⊥
SaysNoPrefix (Some word) = prefix_fault word ≢ None

-- of how many servers it is one: of so many as is said, else of as many as there may be
abbrev pub among : Option ℕ → ℕ
among count = unwrap_or count SERVERS

-- the journal is that of this server, and no key is said
pub record IsWhose (id : ℕ) (count : Option ℕ) (key : Option (List ℕ)) (whose : Whose) : Type 0 where
  pub id_is : whose.id.index ≡ id
  pub count_is : whose.count ≡ among count
  pub no_key : key ≡ None

abbrev pub RefusesWhose : (id : ℕ) → (count : Option ℕ) → (key : Option (List ℕ)) → ExportPlanFault → Type 0
RefusesWhose id count key KeyOfJournal = IsSome key
RefusesWhose id count key NoServer = among count ≤ id
RefusesWhose id count key _ = ⊥

-- The plan is to read the journal of the server whose number is said, with the folder that it is in; or else to ask servers, some of which are named.
pub record IsPlanOf (servers : ℕ) (count : Option ℕ) (key folder : Option (List ℕ)) (id : Option ℕ) (prefix : Option (List ℕ)) (plan : ExportPlan) : Type 0 where
  pub one : is_some folder ≢ nat_lt 0 servers
  pub together : is_some folder ≡ is_some id
  pub whose : MatchOption id (plan.whose ≡ None) (λ id. IsSomeAnd plan.whose (IsWhose id count key))
  pub begins : SaysPrefix prefix plan.prefix

-- why the words make no plan
abbrev pub Refuses : (servers : ℕ) → (count : Option ℕ) → (key folder : Option (List ℕ)) → (id : Option ℕ) → (prefix : Option (List ℕ)) → ExportPlanFault → Type 0
Refuses servers count key folder id prefix NotTogether = is_some folder ≢ is_some id
Refuses servers count key folder id prefix NotOne = is_some folder ≡ nat_lt 0 servers
Refuses servers count key folder id prefix NoPrefix = SaysNoPrefix prefix
Refuses servers count key folder id prefix KeyOfJournal = IsSomeAnd id (λ id. RefusesWhose id count key KeyOfJournal)
Refuses servers count key folder id prefix NoServer = IsSomeAnd id (λ id. RefusesWhose id count key NoServer)
