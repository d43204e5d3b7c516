-- a link for each address so far
use Rattle.std.proofs.Common.{◌≡◌, vec_len}
use Rattle.bayou_fleet.proofs.links.links_to.Given as goal

abbrev pub invariant-loop-address : goal.invariant-loop-address
invariant-loop-address g l = vec_len l.links ≡ l.address-index
