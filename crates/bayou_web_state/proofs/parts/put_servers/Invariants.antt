-- those so far, and of what is left
use Rattle.std.proofs.Common.{◌≡◌, ◌++◌, ◌∷◌, [], drop, flat_map}
use Rattle.json.specs.Token.{begin_array}
use Rattle.bayou_web_state.specs.Parts.{server_tokens}
use Rattle.bayou_web_state.proofs.parts.put_servers.Given as goal

abbrev pub invariant-loop-server : goal.invariant-loop-server
invariant-loop-server l =
    (l.out.tokens ++ flat_map (server_tokens l.servers) (drop l.server-index l.all) ≡ (l.fn.out.tokens ++ begin_array ∷ []) ++ flat_map (server_tokens l.servers) l.all)
    × (l.out.before ≡ l.fn.out.before)
