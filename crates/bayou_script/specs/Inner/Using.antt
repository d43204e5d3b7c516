-- What a command uses, as it is noted while a script is checked.
use Rattle.std.specs.Prelude.{◌≡◌, ℕ, List, [], ◌∷◌, map}
use Rattle.std.specs.Option.{option_to_list}
use Rattle.bayou_script.specs.declared.uses.UsedServers.{UsedServers}
use Rattle.bayou_script.specs.declared.uses.UsedServers.TheVariants.{Nowhere, At, Between}
use Rattle.bayou_script.specs.declared.uses.Uses.{Uses}
use Rattle.bayou_script.specs.Script.{Use}

-- the servers, by their numbers
abbrev pub server_numbers : UsedServers → List ℕ
server_numbers Nowhere = []
server_numbers (At server) = server.index ∷ []
server_numbers (Between to source) = to.index ∷ source.index ∷ []

-- the same sessions and servers
pub record AreUses (uses : Uses) (used : Use) : Type 0 where
  pub opens : map (λ session. session.index) (option_to_list uses.opens) ≡ used.opens
  pub session : map (λ session. session.index) (option_to_list uses.session) ≡ used.sessions
  pub servers : server_numbers uses.servers ≡ used.servers
