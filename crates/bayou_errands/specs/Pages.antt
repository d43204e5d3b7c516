-- The page that words ask for: this project's own.
use Rattle.std.specs.Prelude.{◌≡◌, ℕ, List, MatchResult, IfOk, Option, None, Some, option_map, string_bytes, false}
use Rattle.bayou_command.specs.Connect.{Connection}
use Rattle.bayou_command.specs.Options.{standard}
use Rattle.bayou_command.specs.Web.{Web as Asking}
use Rattle.bayou_errands.specs.Plans.{IsPlanOfPlaces, RefusesConnection}
use Rattle.bayou_errands.specs.declared.shown.Window.{Window}
use Rattle.bayou_web_serve.specs.declared.page.SitePage.{SitePage}

-- who is met: as by a person who doesn't wait
abbrev pub places_shown : Asking → Connection
places_shown asked = record {
  servers = asked.servers;
  count = asked.count;
  asks = asked.asks;
  key = asked.key;
  state = Some asked.state;
  book = None;
  log = None;
  wait_seconds = 0;
  timeout_seconds = asked.timeout_seconds;
  is_json = false;
  input = standard;
}

-- the page is for who has this name
abbrev pub IsNamed : Option (List ℕ) → SitePage → Type 0
IsNamed name page = option_map (λ text. string_bytes text) page.name ≡ name

-- The page is the one that is asked for, with its state, at whom the words say, or what of them can't be done.
pub record IsWindowOf (asked : Asking) (window : Window) : Type 0 where
  pub plan : MatchResult window.plan (IsPlanOfPlaces (places_shown asked)) (RefusesConnection (places_shown asked))
  pub page : IfOk window.page (IsNamed asked.name)
  pub key : option_map (λ name. string_bytes name) window.key ≡ asked.key
  pub state : string_bytes window.state ≡ asked.state
