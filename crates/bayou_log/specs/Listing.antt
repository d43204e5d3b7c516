-- What became of each Write of a log (Terry et al. 1995): its outcome as the Writes are applied in stamp order.
use Rattle.std.specs.Prelude.{◌≡◌, ◌≢◌, List, [], ◌∷◌, All, Contains, Option, None, Some}
use Rattle.bayou_base.specs.declared.wid.Wid.{Wid}
use Rattle.bayou_lang.specs.declared.write.Write.{Write}
use Rattle.bayou_lang.specs.Database.{Database, empty}
use Rattle.bayou_lang.specs.Meaning.{mean}
use Rattle.bayou_lang.specs.Writes.{in_stamp_order}
use Rattle.bayou_log.specs.declared.listing.Listed.{Listed}

-- the Write, with the outcome that its program has where the database is such
abbrev pub listed_at : Database → Write → Listed
listed_at database write = record { wid = write.wid; stamp = write.stamp; outcome = (mean write.program database).0 }

-- each of the Writes as it is listed, where the first of the list is applied first
abbrev pub listed_after : List Write → Database → List Listed
listed_after [] database = []
listed_after (write ∷ writes) database = listed_at database write ∷ listed_after writes (mean write.program database).1

-- the Writes in stamp order, each with the outcome that it has in the replay
abbrev pub listing_of : List Write → List Listed
listing_of writes = listed_after (in_stamp_order writes) empty

-- what a listing tells of the Write of a name: as what it is listed, or that it isn't listed
abbrev pub TellsOf : List Listed → Wid → Option Listed → Type 0
TellsOf listing wid (Some listed) = Contains listing listed × (listed.wid ≡ wid)
TellsOf listing wid None = All (λ listed. listed.wid ≢ wid) listing
