-- The order of Writes (WriteOrder, Terry et al. 1994; ordering by timestamps, then servers, Terry et al. 1995).
use Rattle.std.specs.Prelude.{Bool, ◌==◌, ◌&&◌, ◌||◌, nat_lt}
use Rattle.bayou_base.specs.declared.stamp.Stamp.{Stamp}

-- by clock, then by origin
abbrev pub is_before : Stamp → Stamp → Bool
is_before a b = nat_lt a.clock b.clock || ((a.clock == b.clock) && nat_lt a.origin.index b.origin.index)
