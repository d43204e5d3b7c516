-- What `list`, `servers` and `mine` print as JSON, an object a line (RFC 8259): this project's own.
use Rattle.std.specs.Prelude.{ℕ, Bool, true, false, List, ◌++◌, Option, None, Some, codes, decimal, sum}
use Rattle.std.specs.Fmt.{signed_decimal}
use Rattle.serde_json.specs.Data.{string}
use Rattle.serde_json.specs.Written.{compact_text}
use Rattle.bayou_base.specs.Refusal.{refusal_word}
use Rattle.bayou_base.specs.declared.refusal.Refusal.{Refusal}
use Rattle.bayou_base.specs.declared.refusal.Refusal.TheVariants.{Behind}
use Rattle.bayou_base.specs.declared.server.ServerId.{ServerId}
use Rattle.bayou_base.specs.declared.value.Value.{Value}
use Rattle.bayou_base.specs.declared.value.Value.TheVariants.{Num, Text}
use Rattle.bayou_base.specs.declared.wid.Wid.{Wid}
use Rattle.bayou_final.specs.Standing.{standing_word}
use Rattle.bayou_final.specs.declared.standing.Standing.{Standing}
use Rattle.bayou_print.specs.Printed.{counts_text}
use Rattle.bayou_print.specs.declared.connected.Holds.{Holds}
use Rattle.bayou_wire.specs.declared.lookup.Became.{Became}
use Rattle.bayou_wire.specs.declared.lookup.Became.TheVariants.{Updated, Merged, Nothing}

-- ---- of `list`

-- a value: a number, or a text as a JSON string
abbrev pub value_json : Value → List ℕ
value_json (Num number) = signed_decimal number
value_json (Text text) = compact_text (string text)

-- how it stands, where that is kept
abbrev pub standing_json : Option Standing → List ℕ
standing_json None = codes "null"
standing_json (Some standing) = codes "\"" ++ (standing_word standing ++ codes "\"")

-- a row: a key, its value, and how that stands
abbrev pub row_json : (key : List ℕ) → Value → Option Standing → List ℕ
row_json key value standing =
    codes "{\"kind\":\"row\",\"key\":\"" ++ (key ++ (codes "\",\"value\":" ++ (value_json value
    ++ (codes ",\"standing\":" ++ (standing_json standing ++ codes "}\n")))))

-- what the keys begin with, if only such were asked for
abbrev pub prefix_json : Option (List ℕ) → List ℕ
prefix_json None = codes "null"
prefix_json (Some prefix) = codes "\"" ++ (prefix ++ codes "\"")

-- whether rows are listed as they stood at more than one time
abbrev pub mixed_json : Bool → List ℕ
mixed_json true = codes "true"
mixed_json false = codes "false"

-- the end of a list: how many rows there are, and what was held then
abbrev pub rows_json : (prefix : Option (List ℕ)) → (keys : ℕ) → Bool → (servers : ℕ) → (vector : List ℕ) → List ℕ
rows_json prefix keys is_mixed servers vector =
    codes "{\"kind\":\"rows\",\"prefix\":" ++ (prefix_json prefix ++ (codes ",\"keys\":" ++ (decimal keys
    ++ (codes ",\"mixed\":" ++ (mixed_json is_mixed ++ (codes ",\"at\":[" ++ (counts_text servers vector ++ codes "]}\n")))))))

-- a list of which nothing, or not all, came
abbrev pub lost_json : List ℕ
lost_json = codes "{\"kind\":\"lost\",\"line\":\"list\"}\n"

-- what the server holds that is behind, if that is why it refused
abbrev pub behind_json : (servers : ℕ) → Refusal → List ℕ
behind_json servers (Behind vector) = codes "[" ++ (counts_text servers vector ++ codes "]")
behind_json servers refusal = codes "null"

-- a list that was refused
abbrev pub refused_json : (servers session : ℕ) → Refusal → List ℕ
refused_json servers session refusal =
    codes "{\"kind\":\"refused\",\"line\":\"list\",\"session\":" ++ (decimal session ++ (codes ",\"why\":\"" ++ (refusal_word refusal
    ++ (codes "\",\"at\":" ++ (behind_json servers refusal ++ codes "}\n")))))

-- ---- of `servers`

-- how many Writes a server holds of how many that it may, if it tells that
abbrev pub share_json : (vector : List ℕ) → Option ℕ → List ℕ
share_json vector None = codes "\"holds\":null,\"limit\":null"
share_json vector (Some limit) = codes "\"holds\":" ++ (decimal (sum vector) ++ (codes ",\"limit\":" ++ decimal limit))

-- the server that was left out as its journal was last made again, where one was
abbrev pub without_json : Option ServerId → List ℕ
without_json None = codes "null"
without_json (Some server) = decimal server.index

-- what a server holds
abbrev pub held_json : (servers : ℕ) → Holds → List ℕ
held_json servers held =
    codes "\"at\":[" ++ (counts_text servers held.vector ++ (codes "]," ++ (share_json held.vector held.limit
    ++ (codes ",\"without\":" ++ without_json held.without))))

-- the same, or that it isn't reached
abbrev pub server_json : (server servers : ℕ) → Option Holds → List ℕ
server_json server servers None = codes "{\"kind\":\"server\",\"server\":" ++ (decimal server ++ codes ",\"away\":true}\n")
server_json server servers (Some held) =
    codes "{\"kind\":\"server\",\"server\":" ++ (decimal server ++ (codes ",\"away\":false," ++ (held_json servers held ++ codes "}\n")))

-- ---- of `mine`

-- the name of a Write
abbrev pub wid_json : Wid → List ℕ
wid_json wid = codes "[" ++ (decimal wid.origin.index ++ (codes "," ++ (decimal wid.seq ++ codes "]")))

-- what was applied of a Write: its update, this alternative, from 1 on, or nothing
abbrev pub became_json : Became → List ℕ
became_json Updated = codes "\"became\":\"update\",\"alternative\":null"
became_json (Merged alternative) = codes "\"became\":\"merge\",\"alternative\":" ++ decimal alternative
became_json Nothing = codes "\"became\":\"none\",\"alternative\":null"

-- a session's own Write, how it stands, and what became of it
abbrev pub own_json : (session : ℕ) → Standing → Wid → Became → List ℕ
own_json session standing wid became =
    codes "{\"kind\":\"own\",\"session\":" ++ (decimal session ++ (codes ",\"wid\":" ++ (wid_json wid
    ++ (codes ",\"standing\":\"" ++ (standing_word standing ++ (codes "\"," ++ (became_json became ++ codes "}\n")))))))

-- an own Write isn't kept any longer, though it isn't final
abbrev pub forgotten_json : (session : ℕ) → Wid → List ℕ
forgotten_json session wid =
    codes "{\"kind\":\"forgot\",\"session\":" ++ (decimal session ++ (codes ",\"wid\":" ++ (wid_json wid ++ codes "}\n")))
