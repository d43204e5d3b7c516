-- A list of Writes after another: its outcomes are listed after those of the other, on the database that the other leaves.
use Rattle.std.proofs.Common.{◌≡◌, List, [], ◌∷◌, ◌++◌, ap, refl}
use Rattle.bayou_lang.specs.declared.write.Write.{Write}
use Rattle.bayou_lang.specs.Database.{Database}
use Rattle.bayou_lang.specs.Meaning.{mean}
use Rattle.bayou_log.specs.Listing.{listed_after, listed_at}
use Rattle.bayou_log.specs.Replay.{after_writes}

pub listed_after-append : (first others : List Write) (database : Database)
    → listed_after (first ++ others) database ≡ listed_after first database ++ listed_after others (after_writes first database)
listed_after-append [] others database = refl
listed_after-append (write ∷ first) others database = ap (λ list. listed_at database write ∷ list) (listed_after-append first others (mean write.program database).1)

pub after_writes-append : (first others : List Write) (database : Database) → after_writes (first ++ others) database ≡ after_writes others (after_writes first database)
after_writes-append [] others database = refl
after_writes-append (write ∷ first) others database = after_writes-append first others (mean write.program database).1
