-- The plans that are made of the words that ask for a server, or for a session at servers: this project's own.
use Rattle.std.specs.Prelude.{◌≡◌, ◌≢◌, ◌↔◌, ◌++◌, ℕ, List, MatchOption, MatchResult, Option, None, Some, codes, decimal, option_map, string_bytes, true}
use Rattle.std.specs.List.{AllZip}
use Rattle.bayou_base.specs.Key.{key_fault}
use Rattle.bayou_command.specs.Connect.{Connection}
use Rattle.bayou_command.specs.Options.{Input, file, standard}
use Rattle.bayou_command.specs.Serve.{Service}
use Rattle.bayou_connect.specs.Plans.{AskedBy, IsLeast, IsWrong, SaysPlace}
use Rattle.bayou_connect.specs.declared.plan.SessionPlan.{SessionPlan as Places}
use Rattle.bayou_connect.specs.declared.plan.SessionPlanFault.{SessionPlanFault as Wrong}
use Rattle.bayou_serve.specs.Beginnings.{beginning_of}
use Rattle.bayou_serve.specs.Words.{Refuses, SaysListen, SaysPeer, SaysServer}
use Rattle.bayou_serve.specs.declared.plan.ServicePlan.{ServicePlan}
use Rattle.bayou_serve.specs.declared.plan.ServicePlanFault.{ServicePlanFault}
use Rattle.bayou_errands.specs.declared.connected.Call.{Call}
use Rattle.bayou_errands.specs.declared.keyed.NewKey.{NewKey}
use Rattle.bayou_errands.specs.declared.served.Service.{Service as Living}
use Rattle.bayou_socket_run.specs.Damage.{journal_name}
use Rattle.bayou_serve.specs.declared.plan.ServicePlanFault.TheVariants.{NoServer, NoAddress, OpenToAnyone, NoPeer, SamePeer, TwoBeginnings, NoOther, NothingRestored, Unnamed, OutOfMemory}
use Rattle.bayou_serve.specs.declared.plan.Beginning.{Beginning}

-- the plan is the server that the words ask for, and all that they say of it
pub record IsPlanOf (service : Service) (plan : ServicePlan) : Type 0 where
  pub id : plan.id.index ≡ service.id
  pub servers : plan.servers ≡ service.servers
  pub listens : SaysListen service.listen service.serves_anyone plan.listen
  pub peers : AllZip SaysPeer service.peers plan.peers.items
  pub left_out : AllZip SaysServer service.left_out plan.left_out.items
  pub limit : plan.habits.limit ≡ service.limit
  pub every : plan.habits.every_seconds ≡ service.every_seconds
  pub connections : plan.habits.connections ≡ service.connections
  pub idle : plan.habits.idle_seconds ≡ service.idle_seconds
  pub until : plan.habits.until_input_ends ≡ service.until_input_ends
  pub beginning : Some plan.habits.beginning ≡ beginning_of service.is_new service.is_restored

-- one of the words says what can't be done, by the way to begin that they ask for
abbrev pub RefusesWords : Service → ServicePlanFault → Type 0
RefusesWords service fault =
    (beginning : Beginning) × (Some beginning ≡ beginning_of service.is_new service.is_restored)
    × Refuses service.id service.servers service.listen service.serves_anyone service.peers service.left_out beginning fault

-- why the words make no plan: they ask for two ways to begin, or else one of them says what can't be done
abbrev pub RefusesService : Service → ServicePlanFault → Type 0
RefusesService service NoServer = RefusesWords service NoServer
RefusesService service NoAddress = RefusesWords service NoAddress
RefusesService service OpenToAnyone = RefusesWords service OpenToAnyone
RefusesService service NoPeer = RefusesWords service NoPeer
RefusesService service SamePeer = RefusesWords service SamePeer
RefusesService service TwoBeginnings = beginning_of service.is_new service.is_restored ≡ None
RefusesService service NoOther = RefusesWords service NoOther
RefusesService service NothingRestored = RefusesWords service NothingRestored
RefusesService service (Unnamed number) = RefusesWords service (Unnamed number)
RefusesService service OutOfMemory = ⊥

-- the plan asks the servers that the words name, in their order, for what they say; it waits as long as they say, gives each server as much time, and
-- prints as many counts as they say, or as are needed, and rows as they say
pub record IsPlanOfPlaces (connection : Connection) (plan : Places) : Type 0 where
  pub places : AllZip SaysPlace connection.servers plan.places.items
  pub wait : plan.wait_seconds ≡ connection.wait_seconds
  pub timeout : plan.timeout_seconds ≡ connection.timeout_seconds
  pub count : MatchOption connection.count (IsLeast plan.servers plan.places.items) (λ number. plan.servers ≡ number)
  pub asks : AskedBy connection.asks plan.asks
  pub json : plan.is_json ≡ connection.is_json

-- why the words make no plan
abbrev pub RefusesConnection : Connection → Wrong → Type 0
RefusesConnection connection wrong = IsWrong connection.servers connection.count connection.asks wrong

-- the name of the file that is read, if it has one
abbrev pub input_name : Input → Option (List ℕ)
input_name standard = None
input_name (file name) = Some name

-- the name of the file that says of which store a server's journal is
abbrev pub label_name : (folder : List ℕ) (server : ℕ) → List ℕ
label_name folder server = folder ++ (codes "/server-" ++ (decimal server ++ codes ".store"))

-- strangers may reach the server, and its store has no key
abbrev pub IsUnguarded : Service → Type 0
IsUnguarded service = (service.serves_anyone ≡ true) × (service.key ≡ None)

-- The server that is to live is the one that is asked for: its journal and the file that says of which store that is are those of its number in the
-- folder, its key is in the file that is named, and its plan is made of the words, or refused for one of them.
pub record IsServiceOf (asked : Service) (service : Living) : Type 0 where
  pub path : string_bytes service.path ≡ journal_name asked.folder asked.id
  pub label : string_bytes service.label ≡ label_name asked.folder asked.id
  pub key : option_map (λ name. string_bytes name) service.key ≡ asked.key
  pub unguarded : service.is_unguarded ≡ true ↔ IsUnguarded asked
  pub plan : MatchResult service.plan (IsPlanOf asked) (RefusesService asked)

-- A person's session is the one that is asked for: its plan is made of the words, or refused for one of them, and its files are those that are named.
pub record IsCallOf (asked : Connection) (call : Call) : Type 0 where
  pub key : option_map (λ name. string_bytes name) call.key ≡ asked.key
  pub plan : MatchResult call.plan (IsPlanOfPlaces asked) (RefusesConnection asked)
  pub state : option_map (λ name. string_bytes name) call.state ≡ asked.state
  pub book : option_map (λ name. string_bytes name) call.book ≡ asked.book
  pub log : option_map (λ name. string_bytes name) call.log ≡ asked.log
  pub input : option_map (λ name. string_bytes name) call.input ≡ input_name asked.input

-- the name of a store is the one that a word says, if it says one
abbrev pub SaysName : (word : List ℕ) → (name : Option (List ℕ)) → Type 0
SaysName word None = key_fault word ≢ None
SaysName word (Some name) = (key_fault word ≡ None) × (name ≡ word)

-- A key is to be made as the words ask for: for the store of that name, in that file.
pub record IsKeyOf (name file : List ℕ) (wish : NewKey) : Type 0 where
  pub path : string_bytes wish.path ≡ file
  pub said : SaysName name wish.name
