-- The lines of a person at a store: this project's own.
use Rattle.std.specs.Prelude.{ℕ, Bool, true, false, List, [], ◌++◌, Option, None, Some, codes, decimal, sum}
use Rattle.bayou_base.specs.declared.server.ServerId.{ServerId}
use Rattle.bayou_base.specs.declared.value.Value.{Value}
use Rattle.bayou_base.specs.declared.wid.Wid.{Wid}
use Rattle.bayou_print.specs.declared.connected.Holds.{Holds}
use Rattle.bayou_print.specs.Printed.{counts_text, value_text}
use Rattle.bayou_wire.specs.declared.lookup.Became.{Became}
use Rattle.bayou_wire.specs.declared.lookup.Became.TheVariants.{Updated, Merged, Nothing}
use Rattle.bayou_wire.specs.declared.lookup.Placed.{Placed}

-- no server was reached, and nothing was sent
abbrev pub away_text : (session : ℕ) → List ℕ
away_text session = decimal session ++ codes " refused away\n"

-- that another server was left out as its journal was last made again, where one was
abbrev pub without_text : Option ServerId → List ℕ
without_text None = []
without_text (Some server) = codes ", restored without server " ++ (decimal server.index ++ codes ": what was final may have changed")

-- how many Writes a server holds of how many that it may, if it tells that
abbrev pub share_text : (vector : List ℕ) → Option ℕ → List ℕ
share_text vector None = []
share_text vector (Some limit) = codes " holds " ++ (decimal (sum vector) ++ (codes " of " ++ decimal limit))

-- what a server holds, or that it isn't reached
abbrev pub server_text : (server servers : ℕ) → Option Holds → List ℕ
server_text server servers None = codes "server " ++ (decimal server ++ codes " away\n")
server_text server servers (Some held) =
    codes "server " ++ (decimal server ++ (codes " at " ++ (counts_text servers held.vector ++ (share_text held.vector held.limit ++ (without_text held.without ++ codes "\n")))))

-- a key, and what a read of it finds
abbrev pub row_text : (key : List ℕ) → Option Value → List ℕ
row_text key value = key ++ (codes " " ++ (value_text value ++ codes "\n"))

-- whether rows are listed as they stood at more than one time
abbrev pub mixed_text : Bool → List ℕ
mixed_text true = codes " mixed"
mixed_text false = []

-- how many keys were listed, and what was held then
abbrev pub told_text : (keys : ℕ) → Bool → (servers : ℕ) → (vector : List ℕ) → List ℕ
told_text keys is_mixed servers vector = decimal keys ++ (mixed_text is_mixed ++ (codes " at " ++ (counts_text servers vector ++ codes "\n")))

-- the end of a list of rows: what their keys begin with, if only such were asked for, and how many there are
abbrev pub rows_text : (prefix : Option (List ℕ)) → (keys : ℕ) → Bool → (servers : ℕ) → (vector : List ℕ) → List ℕ
rows_text None keys is_mixed servers vector = codes "list keys " ++ told_text keys is_mixed servers vector
rows_text (Some prefix) keys is_mixed servers vector = codes "list " ++ (prefix ++ (codes " keys " ++ told_text keys is_mixed servers vector))

-- what was applied of a Write: its update, this alternative, from 1 on, or nothing
abbrev pub applied_text : Became → List ℕ
applied_text Updated = codes " update\n"
applied_text (Merged alternative) = codes " merge " ++ (decimal alternative ++ codes "\n")
applied_text Nothing = codes " none\n"

-- that is unknown where the Write isn't held
abbrev pub fate_text : Option Placed → List ℕ
fate_text None = codes " unknown\n"
fate_text (Some placed) = applied_text placed.became

-- what became of a Write, which a session asked for
abbrev pub became_text : (session : ℕ) → Wid → Option Placed → List ℕ
became_text session wid placed =
    decimal session ++ (codes " became " ++ (decimal wid.origin.index ++ (codes ":" ++ (decimal wid.seq ++ fate_text placed))))

-- how many Writes of a server went into the book, or that it sent nothing
abbrev pub dumped_text : (server : ℕ) → Option ℕ → List ℕ
dumped_text server None = codes "dump " ++ (decimal server ++ codes " away\n")
dumped_text server (Some writes) = codes "dump " ++ (decimal server ++ (codes " writes " ++ (decimal writes ++ codes "\n")))

-- what a session has read and what it has written
abbrev pub seat_text : (session servers : ℕ) → (reads writes : List ℕ) → List ℕ
seat_text session servers reads writes =
    codes "session " ++ (decimal session ++ (codes " read " ++ (counts_text servers reads ++ (codes " wrote " ++ (counts_text servers writes ++ codes "\n")))))
