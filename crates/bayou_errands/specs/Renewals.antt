-- The journals that are made of others, as words ask for them, and what is printed of one: this project's own.
use Rattle.std.specs.Prelude.{◌≡◌, ◌++◌, ℕ, List, MatchResult, codes, decimal, length, string_bytes}
use Rattle.std.specs.List.{AllZip}
use Rattle.bayou_command.specs.Renew.{Renewal as Asking}
use Rattle.bayou_print.specs.Printed.{counts_text}
use Rattle.bayou_renew.specs.Words.{Refuses, SaysPrefix, most_of}
use Rattle.bayou_renew.specs.declared.plan.RenewalPlan.{RenewalPlan}
use Rattle.bayou_renew.specs.declared.plan.RenewalPlanFault.{RenewalPlanFault}
use Rattle.bayou_renew.specs.declared.plan.RenewalPlanFault.TheVariants.{NoServer, LeftOut, NoCounts, NoPrefix, SameFolder, OutOfMemory}
use Rattle.bayou_renew.specs.declared.renewing.Renewed.{Renewed}
use Rattle.bayou_errands.specs.declared.renewed.Renewal.{Renewal}
use Rattle.bayou_socket_run.specs.Damage.{journal_name}
use Rattle.bayou_streams.specs.Account.{Account, TakesBytes}

-- the plan is what the words ask for; what counts the word after --at says, no clause says
pub record IsWishOf (asked : Asking) (plan : RenewalPlan) : Type 0 where
  pub id : plan.id.index ≡ asked.id
  pub servers : plan.servers ≡ asked.servers
  pub servers_then : plan.servers_then ≡ asked.servers_then
  pub without : AllZip SaysPrefix asked.without plan.wish.without.items
  pub most : plan.wish.most ≡ most_of asked.is_full

-- why the words make no plan: they name one folder twice, or else one of them says what can't be done
abbrev pub RefusesRenewal : Asking → RenewalPlanFault → Type 0
RefusesRenewal asked SameFolder = asked.folder ≡ asked.to
RefusesRenewal asked NoServer = Refuses asked.id asked.servers asked.servers_then asked.without NoServer
RefusesRenewal asked LeftOut = Refuses asked.id asked.servers asked.servers_then asked.without LeftOut
RefusesRenewal asked NoCounts = Refuses asked.id asked.servers asked.servers_then asked.without NoCounts
RefusesRenewal asked NoPrefix = Refuses asked.id asked.servers asked.servers_then asked.without NoPrefix
RefusesRenewal asked OutOfMemory = ⊥

-- The journal that is to be made is the one that is asked for, of the one that is: each that of its server's number in its folder. The plan is made of the
-- words, or refused for one of them.
pub record IsRenewalOf (asked : Asking) (renewal : Renewal) : Type 0 where
  pub old : string_bytes renewal.old ≡ journal_name asked.folder asked.id
  pub new : string_bytes renewal.new ≡ journal_name asked.to asked.id
  pub plan : MatchResult renewal.plan (IsWishOf asked) (RefusesRenewal asked)

-- the line that tells that the new journal is there, with these digits for the digest
abbrev pub renewed_text : RenewalPlan → Renewed → (digits : List ℕ) → List ℕ
renewed_text plan renewed digits =
    codes "renewed " ++ (decimal plan.id.index ++ (codes " at " ++ (counts_text plan.servers plan.wish.at ++ (codes " keys " ++ (decimal renewed.keys
    ++ (codes " writes " ++ (decimal (length renewed.server.core.held) ++ (codes " digest " ++ (digits ++ codes "\n")))))))))

-- the report of a server that holds this in the place of what it must hold
abbrev pub elsewhere_text : RenewalPlan → (held : List ℕ) → List ℕ
elsewhere_text plan held = codes "it holds " ++ (counts_text plan.servers held ++ (codes ", and not " ++ (counts_text plan.servers plan.wish.at ++ codes " as --at says")))

-- and of a database that takes so many Writes
abbrev pub too_many_text : RenewalPlan → (number : ℕ) → List ℕ
too_many_text plan number =
    codes "its database takes " ++ (decimal number ++ (codes " Writes, more than " ++ (decimal plan.wish.most ++ codes ": leave keys out by --without, or call it with --full")))

-- that line is printed, of some server that was made as the plan says, and of some digits
pub record PrintsRenewed (plan : RenewalPlan) (old new : Account) : Type 0 where
  pub renewed : Renewed
  pub digits : List ℕ
  pub takes : TakesBytes old new (renewed_text plan renewed digits)
