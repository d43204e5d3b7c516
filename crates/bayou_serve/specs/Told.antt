-- The lines that a server that lives tells beside what it prints: this project's own.
use Rattle.std.specs.Prelude.{ℕ, List, ◌++◌, Option, None, Some, codes, decimal}
use Rattle.std.specs.Net.Text.{socket_text}
use Rattle.bayou_base.specs.declared.wid.Wid.{Wid}
use Rattle.bayou_journal.specs.Careful.{entry_text}
use Rattle.bayou_journal.specs.declared.careful.DamagedEntry.{DamagedEntry}
use Rattle.bayou_peer.specs.declared.pulling.Pulled.{Pulled as Counts}
use Rattle.bayou_print.specs.Printed.{pulling_text}
use Rattle.bayou_serve.specs.declared.plan.Peer.{Peer}
use Rattle.bayou_serve.specs.declared.straying.Straying.{Straying}
use Rattle.bayou_serve.specs.declared.straying.Straying.TheVariants.{Changed, Removed, Replaced}
use Rattle.bayou_serve.specs.declared.visit.News.{News}
use Rattle.bayou_serve.specs.declared.visit.News.TheVariants.{Away, Reached, Pulled, Failed}

-- how many Writes were taken, and how many were held already
abbrev pub pulled_text : Counts → List ℕ
pulled_text counts = codes "pulled " ++ (decimal counts.taken ++ (codes " had " ++ (decimal counts.had ++ codes "\n")))

-- what became of a journal's file
abbrev pub became_text : Straying → List ℕ
became_text Removed = codes "it was removed"
became_text Replaced = codes "another file was put in its place"
became_text Changed = codes "somebody else changed it"

-- news of a peer
abbrev pub news_text : Peer → News → List ℕ
news_text peer Away = codes "bayou: peer " ++ (decimal peer.id.index ++ (codes " at " ++ (socket_text peer.address ++ codes " away\n")))
news_text peer (Reached counts) = codes "bayou: peer " ++ (decimal peer.id.index ++ (codes " reached " ++ pulled_text counts))
news_text peer (Pulled counts) = codes "bayou: peer " ++ (decimal peer.id.index ++ (codes " " ++ pulled_text counts))
news_text peer (Failed fault) = codes "bayou: peer " ++ (decimal peer.id.index ++ (codes " pull fault " ++ (pulling_text fault ++ codes "\n")))

-- the server was down and is up, and adopted the Write in doubt, or none
abbrev pub reopened_text : (adopted : Option Wid) → List ℕ
reopened_text None = codes "bayou: reopened adopted none\n"
reopened_text (Some wid) = codes "bayou: reopened adopted " ++ (decimal wid.origin.index ++ (codes ":" ++ (decimal wid.seq ++ codes "\n")))

-- a server has other Writes of an origin than this one, from this one of them on, where that is known
abbrev pub difference_text : (server origin : ℕ) → (first : Option ℕ) → List ℕ
difference_text server origin None = codes "bayou: server " ++ (decimal server ++ (codes " has other Writes of server " ++ (decimal origin ++ codes "\n")))
difference_text server origin (Some first) =
    codes "bayou: server " ++ (decimal server ++ (codes " has other Writes of server " ++ (decimal origin ++ (codes " from " ++ (decimal origin ++ (codes ":" ++ (decimal first ++ codes " on\n")))))))

-- the same where the origin is this server
abbrev pub own_difference_text : (server own : ℕ) → (first : Option ℕ) → List ℕ
own_difference_text server own None =
    codes "bayou: server " ++ (decimal server ++ codes " has other Writes of this server: this journal is an old copy, or there were two of it; docs/TROUBLE.md\n")
own_difference_text server own (Some first) =
    codes "bayou: server " ++ (decimal server ++ (codes " has other Writes of this server from " ++ (decimal own ++ (codes ":" ++ (decimal first ++ codes " on: this journal is an old copy, or there were two of it; docs/TROUBLE.md\n")))))

-- a start dropped a torn entry of so many bytes of the journal of this name; or one all of whose bytes were there
abbrev pub torn_text : (path : List ℕ) → (dropped : ℕ) → List ℕ
torn_text path dropped = codes "bayou: dropped " ++ (decimal dropped ++ (codes " bytes of " ++ (path ++ codes "\n")))

abbrev pub damaged_text : (path : List ℕ) → DamagedEntry → List ℕ
damaged_text path entry = codes "bayou: " ++ (path ++ (codes ": " ++ (entry_text entry ++ codes "\n")))

-- what became of the journal of this name while it was served
abbrev pub straying_text : (path : List ℕ) → Straying → List ℕ
straying_text path straying = codes "bayou: " ++ (path ++ (codes ": " ++ (became_text straying ++ codes " while it is served; no Write is taken any more\n")))

-- the server fills up
abbrev pub holds_text : (held limit : ℕ) → List ℕ
holds_text held limit = codes "bayou: holds " ++ (decimal held ++ (codes " of " ++ (decimal limit ++ codes " writes; then raise --limit, or make a new store with bayou renew\n")))
