-- What plans say of the words that they are made of.
use Rattle.std.proofs.Common.{◌≡◌, ◌≢◌, ◌∙◌, ℕ, List, [], ◌∷◌, Option, None, Some, Result, Ok, Err, IfErr, IfOk, MatchOption, MatchResult, option_map, ap, false, length, map, refl, subst, sym}
use Rattle.std.specs.List.{AllZip}
use Rattle.std.specs.Option.{option_copied}
use denote.Ref.{Bor}
use Rattle.bayou_command.specs.Connect.{Connection}
use Rattle.bayou_command.specs.Renew.{Renewal as Asking}
use Rattle.bayou_command.specs.Serve.{Service}
use Rattle.bayou_connect.specs.Plans.{AskedBy, IsLeast, IsWrong, SaysPlace}
use Rattle.bayou_connect.specs.declared.plan.SessionPlan.{SessionPlan as Places}
use Rattle.bayou_connect.specs.declared.plan.SessionPlanFault.{SessionPlanFault as Wrong}
use Rattle.bayou_renew.specs.Words.{Refuses as RefusesPlan, SaysPrefix, most_of}
use Rattle.bayou_renew.specs.declared.plan.RenewalPlan.{RenewalPlan as Renewing}
use Rattle.bayou_renew.specs.declared.plan.RenewalPlanFault.{RenewalPlanFault as Unfit}
use Rattle.bayou_renew.specs.declared.plan.RenewalPlanFault.TheVariants as unfit
use Rattle.bayou_serve.specs.Beginnings.{beginning_of}
use Rattle.bayou_serve.specs.Words.{Refuses, SaysListen, SaysPeer, SaysServer}
use Rattle.bayou_serve.specs.declared.plan.ServiceHabits.{ServiceHabits}
use Rattle.bayou_serve.specs.declared.plan.ServicePlan.{ServicePlan}
use Rattle.bayou_serve.specs.declared.plan.ServicePlanFault.{ServicePlanFault}
use Rattle.bayou_serve.specs.declared.plan.ServicePlanFault.TheVariants.{NoServer, NoAddress, OpenToAnyone, NoPeer, SamePeer, TwoBeginnings, NoOther, NothingRestored, Unnamed, OutOfMemory}
use Rattle.bayou_errands.specs.Plans.{IsPlanOf, IsPlanOfPlaces, RefusesConnection, RefusesService, RefusesWords}
use Rattle.bayou_errands.specs.Renewals.{IsWishOf, RefusesRenewal}

-- what is said of each word is said of each text
pub zip_seen : {B : Type 0} (R : List ℕ → B → Type 0) (words : List (Bor (List ℕ))) (ys : List B) → AllZip (λ word y. R word.now y) words ys → AllZip R (map (λ word. word.now) words) ys
zip_seen R [] [] all = tt
zip_seen R [] (y ∷ ys) all = absurd all
zip_seen R (word ∷ words) [] all = absurd all
zip_seen R (word ∷ words) (y ∷ ys) all = (all.0, zip_seen R words ys all.1)

-- how long, how many and how it begins
pub record AreHabitsOf (service : Service) (habits : ServiceHabits) : Type 0 where
  pub limit : habits.limit ≡ service.limit
  pub every : habits.every_seconds ≡ service.every_seconds
  pub connections : habits.connections ≡ service.connections
  pub idle : habits.idle_seconds ≡ service.idle_seconds
  pub until : habits.until_input_ends ≡ service.until_input_ends
  pub beginning : Some habits.beginning ≡ beginning_of service.is_new service.is_restored

-- what refuses the words refuses what they ask for
refused : (service : Service) (fault : ServicePlanFault) → RefusesWords service fault → fault ≢ OutOfMemory → RefusesService service fault
refused service NoServer is known = is
refused service NoAddress is known = is
refused service OpenToAnyone is known = is
refused service NoPeer is known = is
refused service SamePeer is known = is
refused service TwoBeginnings is known = absurd is.2
refused service NoOther is known = is
refused service NothingRestored is known = is
refused service (Unnamed number) is known = is
refused service OutOfMemory is known = absurd (known refl)

pub plan_of : (service : Service) (words left_words : List (Bor (List ℕ))) (habits : ServiceHabits) (result kept : Result ServicePlan ServicePlanFault) → service.peers ≡ map (λ word. word.now) words
    → service.left_out ≡ map (λ word. word.now) left_words → AreHabitsOf service habits
    → IfOk result (λ plan. (plan.id.index ≡ service.id) × (plan.servers ≡ service.servers) × (plan.habits ≡ habits) × (length plan.peers.items ≡ length words))
    → IfOk result (λ plan. SaysListen service.listen service.serves_anyone plan.listen)
    → IfOk result (λ plan. AllZip (λ word peer. SaysPeer word.now peer) words plan.peers.items)
    → IfOk result (λ plan. AllZip (λ word server. SaysServer word.now server) left_words plan.left_out.items)
    → IfErr result (Refuses service.id service.servers service.listen service.serves_anyone (map (λ word. word.now) words) (map (λ word. word.now) left_words) habits.beginning)
    → kept ≡ result → IfErr kept (λ fault. fault ≢ OutOfMemory)
    → MatchResult kept (IsPlanOf service) (RefusesService service)
plan_of service words left_words habits result kept named left_named of same listens said left why is known =
    subst (λ (r : Result ServicePlan ServicePlanFault). MatchResult r (IsPlanOf service) (RefusesService service)) (sym is)
    (of_result result same listens said left why (subst (λ (r : Result ServicePlan ServicePlanFault). IfErr r (λ fault. fault ≢ OutOfMemory)) is known))
  where
    of_result : (result : Result ServicePlan ServicePlanFault)
        → IfOk result (λ plan. (plan.id.index ≡ service.id) × (plan.servers ≡ service.servers) × (plan.habits ≡ habits) × (length plan.peers.items ≡ length words))
        → IfOk result (λ plan. SaysListen service.listen service.serves_anyone plan.listen)
        → IfOk result (λ plan. AllZip (λ word peer. SaysPeer word.now peer) words plan.peers.items)
        → IfOk result (λ plan. AllZip (λ word server. SaysServer word.now server) left_words plan.left_out.items)
        → IfErr result (Refuses service.id service.servers service.listen service.serves_anyone (map (λ word. word.now) words) (map (λ word. word.now) left_words) habits.beginning)
        → IfErr result (λ fault. fault ≢ OutOfMemory) → MatchResult result (IsPlanOf service) (RefusesService service)
    of_result (Ok plan) same listens said left why known = record {
      id = same.0;
      servers = same.1;
      listens = listens;
      peers = subst (λ (peers : List (List ℕ)). AllZip SaysPeer peers plan.peers.items) (sym named) (zip_seen SaysPeer words plan.peers.items said);
      left_out = subst (λ (servers : List (List ℕ)). AllZip SaysServer servers plan.left_out.items) (sym left_named) (zip_seen SaysServer left_words plan.left_out.items left);
      limit = ap (λ (h : ServiceHabits). h.limit) same.2 ∙ of.limit;
      every = ap (λ (h : ServiceHabits). h.every_seconds) same.2 ∙ of.every;
      connections = ap (λ (h : ServiceHabits). h.connections) same.2 ∙ of.connections;
      idle = ap (λ (h : ServiceHabits). h.idle_seconds) same.2 ∙ of.idle;
      until = ap (λ (h : ServiceHabits). h.until_input_ends) same.2 ∙ of.until;
      beginning = ap (λ (h : ServiceHabits). Some h.beginning) same.2 ∙ of.beginning;
    }
    of_result (Err fault) same listens said left why known =
        let words_refused : Refuses service.id service.servers service.listen service.serves_anyone service.peers service.left_out habits.beginning fault =
        subst (λ (peers : List (List ℕ)). Refuses service.id service.servers service.listen service.serves_anyone peers service.left_out habits.beginning fault) (sym named)
        (subst (λ (servers : List (List ℕ)). Refuses service.id service.servers service.listen service.serves_anyone (map (λ word. word.now) words) servers habits.beginning fault) (sym left_named) why) in
        refused service fault (habits.beginning, of.beginning, words_refused) known

-- what is seen of a text that there may be
copied : (text : Option (Bor (List ℕ))) → option_copied text ≡ option_map (λ text. text.now) text
copied None = refl
copied (Some text) = refl

-- the plan of a session at servers, or why there is none
pub places_of : (connection : Connection) (words : List (Bor (List ℕ))) (asks : Option (Bor (List ℕ))) (result kept : Result Places Wrong) → connection.servers ≡ map (λ word. word.now) words
    → connection.asks ≡ option_map (λ text. text.now) asks
    → IfOk result (λ plan. AllZip (λ word place. SaysPlace word.now place) words plan.places.items)
    → IfOk result (λ plan. (plan.wait_seconds ≡ connection.wait_seconds) × (plan.timeout_seconds ≡ connection.timeout_seconds) × (length plan.places.items ≡ length words))
    → IfOk result (λ plan. MatchOption connection.count (IsLeast plan.servers plan.places.items) (λ number. plan.servers ≡ number))
    → IfOk result (λ plan. AskedBy (option_copied asks) plan.asks)
    → IfOk result (λ plan. plan.is_json ≡ connection.is_json)
    → IfErr result (IsWrong (map (λ word. word.now) words) connection.count (option_copied asks))
    → kept ≡ result → MatchResult kept (IsPlanOfPlaces connection) (RefusesConnection connection)
places_of connection words asks result kept named asked said same counts wants json wrong is =
    subst (λ (r : Result Places Wrong). MatchResult r (IsPlanOfPlaces connection) (RefusesConnection connection)) (sym is) (of_result result said same counts wants json wrong)
  where
    of_result : (result : Result Places Wrong) → IfOk result (λ plan. AllZip (λ word place. SaysPlace word.now place) words plan.places.items)
        → IfOk result (λ plan. (plan.wait_seconds ≡ connection.wait_seconds) × (plan.timeout_seconds ≡ connection.timeout_seconds) × (length plan.places.items ≡ length words))
        → IfOk result (λ plan. MatchOption connection.count (IsLeast plan.servers plan.places.items) (λ number. plan.servers ≡ number))
        → IfOk result (λ plan. AskedBy (option_copied asks) plan.asks)
        → IfOk result (λ plan. plan.is_json ≡ connection.is_json)
        → IfErr result (IsWrong (map (λ word. word.now) words) connection.count (option_copied asks))
        → MatchResult result (IsPlanOfPlaces connection) (RefusesConnection connection)
    of_result (Err fault) said same counts wants json wrong =
        subst (λ (servers : List (List ℕ)). IsWrong servers connection.count connection.asks fault) (sym named)
        (subst (λ (text : Option (List ℕ)). IsWrong (map (λ word. word.now) words) connection.count text fault) (copied asks ∙ sym asked) wrong)
    of_result (Ok plan) said same counts wants json wrong = record {
      places = subst (λ (servers : List (List ℕ)). AllZip SaysPlace servers plan.places.items) (sym named) (zip_seen SaysPlace words plan.places.items said);
      wait = same.0;
      timeout = same.1;
      count = counts;
      asks = subst (λ (text : Option (List ℕ)). AskedBy text plan.asks) (copied asks ∙ sym asked) wants;
      json = json;
    }

-- a plan whose rows are printed otherwise is that of words which ask for that
pub printed_so : (connection : Connection) (plan : Places) → IsPlanOfPlaces (record connection { is_json = false }) plan → IsPlanOfPlaces connection (record plan { is_json = connection.is_json })
printed_so connection plan is = record {
  places = is.places;
  wait = is.wait;
  timeout = is.timeout;
  count = is.count;
  asks = is.asks;
  json = refl;
}

-- ---- journals of new stores

refused_wish : (asked : Asking) (fault : Unfit) → RefusesPlan asked.id asked.servers asked.servers_then asked.without fault → fault ≢ unfit.OutOfMemory → RefusesRenewal asked fault
refused_wish asked unfit.NoServer is known = is
refused_wish asked unfit.LeftOut is known = is
refused_wish asked unfit.NoCounts is known = is
refused_wish asked unfit.NoPrefix is known = is
refused_wish asked unfit.SameFolder is known = absurd is
refused_wish asked unfit.OutOfMemory is known = absurd (known refl)

pub wish_of : (asked : Asking) (words : List (Bor (List ℕ))) (result kept : Result Renewing Unfit) → asked.without ≡ map (λ word. word.now) words
    → IfOk result (λ plan. (plan.id.index ≡ asked.id) × (plan.servers ≡ asked.servers) × (plan.servers_then ≡ asked.servers_then))
    → IfOk result (λ plan. AllZip (λ word prefix. SaysPrefix word.now prefix) words plan.wish.without.items)
    → IfOk result (λ plan. plan.wish.most ≡ most_of asked.is_full)
    → IfErr result (RefusesPlan asked.id asked.servers asked.servers_then (map (λ word. word.now) words))
    → kept ≡ result → IfErr kept (λ fault. fault ≢ unfit.OutOfMemory)
    → MatchResult kept (IsWishOf asked) (RefusesRenewal asked)
wish_of asked words result kept named whose said most why is known =
    subst (λ (r : Result Renewing Unfit). MatchResult r (IsWishOf asked) (RefusesRenewal asked)) (sym is)
    (of_result result whose said most why (subst (λ (r : Result Renewing Unfit). IfErr r (λ fault. fault ≢ unfit.OutOfMemory)) is known))
  where
    of_result : (result : Result Renewing Unfit) → IfOk result (λ plan. (plan.id.index ≡ asked.id) × (plan.servers ≡ asked.servers) × (plan.servers_then ≡ asked.servers_then))
        → IfOk result (λ plan. AllZip (λ word prefix. SaysPrefix word.now prefix) words plan.wish.without.items)
        → IfOk result (λ plan. plan.wish.most ≡ most_of asked.is_full)
        → IfErr result (RefusesPlan asked.id asked.servers asked.servers_then (map (λ word. word.now) words))
        → IfErr result (λ fault. fault ≢ unfit.OutOfMemory) → MatchResult result (IsWishOf asked) (RefusesRenewal asked)
    of_result (Ok plan) whose said most why known = record {
      id = whose.0;
      servers = whose.1;
      servers_then = whose.2;
      without = subst (λ (prefixes : List (List ℕ)). AllZip SaysPrefix prefixes plan.wish.without.items) (sym named) (zip_seen SaysPrefix words plan.wish.without.items said);
      most = most;
    }
    of_result (Err fault) whose said most why known =
        refused_wish asked fault (subst (λ (prefixes : List (List ℕ)). RefusesPlan asked.id asked.servers asked.servers_then prefixes fault) (sym named) why) known
