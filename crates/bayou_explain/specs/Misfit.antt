-- Which condition a Write fails that can't stand in a dump.
use Rattle.std.specs.Prelude.{◌≡◌, ◌≢◌, ◌+◌, ◌<◌, ℕ, List, Some, Option, None, All, Any, ◌++◌, codes, decimal, slice_get, slice_index, take}
use Rattle.bayou_base.specs.declared.limits.TheConstants.{SERVERS}
use Rattle.bayou_base.specs.declared.wid.Wid.{Wid}
use Rattle.bayou_judge.specs.History.{dump_of}
use Rattle.bayou_lang.specs.Writes.{count_of, covered_by, greatest_clock}
use Rattle.bayou_lang.specs.declared.write.Write.{Write}
use Rattle.bayou_explain.specs.declared.misfit.DumpMisfit.{DumpMisfit}
use Rattle.bayou_explain.specs.declared.misfit.DumpMisfit.TheVariants as misfit

-- no Write of this name in the dump is another than this one
abbrev pub AreSame : List Write → Write → Type 0
AreSame dump write = All (λ held. held.wid ≡ write.wid → held ≡ write) dump

-- one is
abbrev pub HasOther : List Write → Write → Type 0
HasOther dump write = Any (λ held. (held.wid ≡ write.wid) × (held ≢ write)) dump

-- So many Writes of the server are counted by the Write, and so many stand before it.
abbrev pub AreCounted : List Write → Write → (server counted held : ℕ) → Type 0
AreCounted before write server counted held = (server < SERVERS) × (counted ≡ slice_index write.deps server) × (held ≡ slice_index (count_of before) server)

-- The condition that the Write fails after these, of so many servers: its origin is none of them; it isn't the next of its server's; it counts more of a server's
-- Writes than there are; it doesn't count just those of its own server before it; or its clock isn't one more than the greatest that it counts.
abbrev pub IsUnfit : ℕ → List Write → Write → DumpMisfit → Type 0
IsUnfit count before write (misfit.Origin origin) = (origin ≡ write.wid.origin) × ¬ (origin.index < count)
IsUnfit count before write (misfit.Number wid held) = (wid ≡ write.wid) × (held ≡ slice_index (count_of before) wid.origin.index) × (wid.seq ≢ held + 1)
IsUnfit count before write (misfit.Counts server counted held) = AreCounted before write server counted held × (held < counted)
IsUnfit count before write (misfit.Own wid counted) = (wid ≡ write.wid) × (counted ≡ slice_index write.deps wid.origin.index) × (counted + 1 ≢ wid.seq)
IsUnfit count before write (misfit.Clock found expected) =
    (found ≡ write.stamp.clock) × (expected ≡ greatest_clock (covered_by write.deps before) + 1) × (found ≢ expected)
IsUnfit count before write other = ⊥

-- it counts another number of a server's Writes than stand before it
abbrev pub IsPast : List Write → Write → DumpMisfit → Type 0
IsPast before write (misfit.Past other counted held) = AreCounted before write other counted held × (counted ≢ held)
IsPast before write other = ⊥

-- The condition that it fails after these in this server's dump: one of those; it is the server's own, and doesn't count all that stand before it; or a smaller server
-- has another Write of its name.
abbrev pub IsMisfit : ℕ → List (List Write) → ℕ → List Write → Write → DumpMisfit → Type 0
IsMisfit count dumps server before write (misfit.Past other counted held) =
    (write.wid.origin.index ≡ server) × IsPast before write (misfit.Past other counted held)
IsMisfit count dumps server before write (misfit.Other other wid) = (other.index < server) × (wid ≡ write.wid) × HasOther (dump_of dumps other.index) write
IsMisfit count dumps server before write found = IsUnfit count before write found

-- the condition that the Write at this place of the server's dump fails
abbrev pub IsMisfitAt : ℕ → List (List Write) → (server place : ℕ) → DumpMisfit → Type 0
IsMisfitAt count dumps server place found = (write : Write) × (slice_get (dump_of dumps server) place ≡ Some write)
    × IsMisfit count dumps server (take place (dump_of dumps server)) write found

abbrev pub wid_text : Wid → List ℕ
wid_text wid = decimal wid.origin.index ++ (codes ":" ++ decimal wid.seq)

-- a condition, with what is found and what is expected
abbrev pub misfit_line : DumpMisfit → List ℕ
misfit_line (misfit.Origin origin) = codes "  its origin: found server " ++ (decimal origin.index ++ codes ", expected one of the file's\n")
misfit_line (misfit.Number wid held) =
    codes "  its number: found " ++ (decimal wid.seq ++ (codes ", expected one more than the " ++ (decimal held ++ (codes " of server " ++ (decimal wid.origin.index ++ codes "'s before it\n")))))
misfit_line (misfit.Counts server counted held) =
    codes "  its past: found " ++ (decimal counted ++ (codes " Writes of server " ++ (decimal server ++ (codes ", expected " ++ (decimal held ++ codes " at most, those before it\n")))))
misfit_line (misfit.Own wid counted) =
    codes "  its past: found " ++ (decimal counted ++ (codes " Writes of its own server, expected one less than its number " ++ (decimal wid.seq ++ codes "\n")))
misfit_line (misfit.Clock found expected) =
    codes "  its clock: found " ++ (decimal found ++ (codes ", expected " ++ (decimal expected ++ codes ", one more than the greatest of its past\n")))
misfit_line (misfit.Past server counted held) =
    codes "  its past: found " ++ (decimal counted ++ (codes " Writes of server " ++ (decimal server ++ (codes ", expected " ++ (decimal held ++ codes ", all those before it\n")))))
misfit_line (misfit.Other server wid) = codes "  its content: found another Write of its name at server " ++ (decimal server.index ++ codes "\n")
