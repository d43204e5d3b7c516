-- Scripts: what their lines say, each in its place.
use Rattle.std.specs.Prelude.{◌≡◌, if◌then◌else◌, ℕ, ◌==◌, Bool, true, false, not, ◌&&◌, List, [], ◌∷◌, Option, None, Some, length, nat_le, nat_lt, unwrap_or}
use Rattle.std.specs.List.{list_all, list_any}
use Rattle.std.specs.Option.{is_some}
use Rattle.bayou_base.specs.declared.limits.TheConstants.{DEFAULT_LIMIT, MAX_LINES}
use Rattle.bayou_text.specs.Said.{Said, servers, session, write, read, again, drop, log, fuse, lose, reopen, restart, pull, resend, totals, judge, survey, book, phase, entry, held}
use Rattle.bayou_script.specs.declared.fault.InputRefusal.{InputRefusal}
use Rattle.bayou_script.specs.declared.fault.ScriptFault.{ScriptFault}
use Rattle.bayou_script.specs.Order.{InOrderBy, IsRefusedBy, Order, RefusedBy}
pub use Rattle.bayou_script.specs.Order.{lines_of}

-- What a line uses: how many servers it starts, which sessions it opens, for which of those that are open it speaks, and which
-- servers it speaks to.
pub record Use : Type 0 where
  pub starts : Option ℕ
  pub opens : List ℕ
  pub sessions : List ℕ
  pub servers : List ℕ

abbrev pub at_server : ℕ → Use
at_server place = record { starts = None; opens = []; sessions = []; servers = place ∷ [] }

abbrev pub of_session : ℕ → Use
of_session who = record { starts = None; opens = []; sessions = who ∷ []; servers = [] }

abbrev pub of_session_at : ℕ → ℕ → Use
of_session_at who place = record { starts = None; opens = []; sessions = who ∷ []; servers = place ∷ [] }

abbrev pub of_servers : ℕ → ℕ → Use
of_servers to source = record { starts = None; opens = []; sessions = []; servers = to ∷ source ∷ [] }

abbrev pub of_none : Use
of_none = record { starts = None; opens = []; sessions = []; servers = [] }

abbrev pub use_of : Said → Use
use_of (servers count limit) = record { starts = Some count; opens = []; sessions = []; servers = [] }
use_of (session who asks) = record { starts = None; opens = who ∷ []; sessions = []; servers = [] }
use_of (write who place program) = of_session_at who place
use_of (read who place key) = of_session_at who place
use_of (again who) = of_session who
use_of (drop who) = of_session who
use_of (log place) = at_server place
use_of (fuse place calls kept) = at_server place
use_of (lose place count) = at_server place
use_of (reopen place) = at_server place
use_of (restart place) = at_server place
use_of (pull to source cut) = of_servers to source
use_of (resend to source) = of_servers to source
use_of totals = of_none
use_of judge = of_none
use_of survey = of_none
use_of book = of_none
use_of phase = of_none
use_of (entry told counts) = of_none
use_of (held place item counts) = of_none

-- whether no two of these are one
abbrev pub are_distinct : List ℕ → Bool
are_distinct [] = true
are_distinct (place ∷ places) = list_all (λ other. not (other == place)) places && are_distinct places

-- whether these are servers that there are, none of them twice
unfoldable pub are_servers : ℕ → List ℕ → Bool
are_servers count places = list_all (λ place. nat_lt place count) places && are_distinct places

-- whether what a line says is said to servers that there are, none of them twice
abbrev pub is_served : ℕ → Said → Bool
is_served count said = are_servers count (use_of said).servers

-- what a script says: how many servers it starts, how many Writes each may hold, and what its other lines say
pub record Plan : Type 0 where
  pub count : ℕ
  pub limit : ℕ
  pub commands : List Said

-- whether what is said opens this session
abbrev pub opens : ℕ → Said → Bool
opens who said = list_any (λ opened. opened == who) (use_of said).opens

abbrev pub is_open : ℕ → List Said → Bool
is_open who front = list_any (opens who) front

-- how many servers are started by what is said first
abbrev pub started : List Said → ℕ
started [] = 0
started (first ∷ others) = unwrap_or (use_of first).starts 0

-- whether a line that starts no servers may stand after this: something was said before, a session is opened once, and before it
-- is used, and servers are used that were started, none of them twice
abbrev pub is_behind : List Said → Use → Bool
is_behind front used = nat_lt 0 (length front) && (list_all (λ who. not (is_open who front)) used.opens
    && (list_all (λ who. is_open who front) used.sessions && are_servers (started front) used.servers))

-- whether it is what a line of an audit file says after its first line
abbrev pub is_audit : Said → Bool
is_audit (entry told counts) = true
is_audit (held place item counts) = true
is_audit _ = false

-- Whether a line may say this after what was said before: `servers` comes first, and once, and a script says nothing of what an
-- audit file says after it.
abbrev pub has_place : List Said → Said → Bool
has_place front said =
    if is_audit said then false
    else (if is_some (use_of said).starts then length front == 0 else is_behind front (use_of said))

-- the order of a script's lines, of which there are so many at the most
abbrev pub script_order : Order
script_order number front said = nat_le number MAX_LINES && has_place front said

-- the lines of a script are in order, and say this
abbrev pub InOrder : List (List ℕ) → List Said → Type 0
InOrder lines front = InOrderBy script_order lines front

-- the lines are no script: this one is the least with a fault
abbrev pub IsRefused : List (List ℕ) → ℕ → ScriptFault → Type 0
IsRefused lines number fault = IsRefusedBy script_order lines number fault

-- the lines are a script that says this
pub record IsScript (lines : List (List ℕ)) (plan : Plan) : Type 0 where
  pub most : Option ℕ
  pub in_order : InOrder lines (servers plan.count most ∷ plan.commands)
  pub limit : plan.limit ≡ unwrap_or most DEFAULT_LIMIT

-- why the lines aren't taken as a script, where memory didn't run out
abbrev pub RefusedFor : List (List ℕ) → InputRefusal → Type 0
RefusedFor lines refusal = RefusedBy script_order lines refusal
