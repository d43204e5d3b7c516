-- The JSON of what is reported beside rows (RFC 8259): this project's own form.
use Rattle.std.specs.Prelude.{ℕ, Bool, List, [], ◌∷◌, ◌++◌, Option, Some, None, codes, decimal, flat_map, if◌then◌else◌, map, String, string_bytes, take}
use Rattle.std.specs.Net.Text.{socket_text}
use Rattle.bayou_base.specs.declared.asks.Asks.{Asks}
use Rattle.bayou_base.specs.declared.server.ServerId.{ServerId}
use Rattle.bayou_base.specs.declared.wid.Wid.{Wid}
use Rattle.bayou_wire.specs.declared.lookup.Became.{Became}
use Rattle.bayou_wire.specs.declared.lookup.Became.TheVariants.{Updated, Merged, Nothing}
use Rattle.bayou_web_state.specs.declared.seen.NewsItem.{NewsItem}
use Rattle.bayou_web_state.specs.declared.seen.Own.{Own}
use Rattle.bayou_web_state.specs.declared.seen.SeenSession.{SeenSession}
use Rattle.bayou_web_state.specs.declared.seen.ServerSeen.{ServerSeen}
use Rattle.json.specs.Token.{Token, begin_array, begin_object, boolean, end_array, end_object, key, null, number, string}

-- the counts of the first servers, as an array
abbrev pub vector_tokens : (servers : ℕ) → (vector : List ℕ) → List Token
vector_tokens servers vector = begin_array ∷ (map (λ count. number (decimal count)) (take servers vector) ++ end_array ∷ [])

-- a vector, or null
abbrev pub view_tokens : (servers : ℕ) → Option (List ℕ) → List Token
view_tokens servers None = null ∷ []
view_tokens servers (Some vector) = vector_tokens servers vector

-- a text, or null
abbrev pub text_token : {A : Type 0} → Option (String A) → Token
text_token None = null
text_token (Some text) = string (string_bytes text)

-- a number, or null
abbrev pub number_token : Option ℕ → Token
number_token None = null
number_token (Some count) = number (decimal count)

-- which server it is, and whether it is up
abbrev pub place_tokens : ServerSeen → List Token
place_tokens server =
    key (codes "id") ∷ number (decimal server.id.index) ∷ key (codes "address") ∷ string (socket_text server.address) ∷ key (codes "up") ∷ boolean server.is_up ∷ []

-- what it held, and how much it may hold
abbrev pub held_tokens : (servers : ℕ) → ServerSeen → List Token
held_tokens servers server = key (codes "at") ∷ (view_tokens servers server.view ++ key (codes "limit") ∷ number_token server.limit ∷ [])

-- {"id": number, "address": text, "up": whether, "at": counts or null, "limit": number or null}
abbrev pub server_tokens : (servers : ℕ) → ServerSeen → List Token
server_tokens servers server = begin_object ∷ (place_tokens server ++ (held_tokens servers server ++ end_object ∷ []))

abbrev pub servers_tokens : (servers : ℕ) → List ServerSeen → List Token
servers_tokens servers all = begin_array ∷ (flat_map (server_tokens servers) all ++ end_array ∷ [])

-- what an own Write was reported to have become
abbrev pub told_word : Option Became → List ℕ
told_word None = codes "untold"
told_word (Some Updated) = codes "update"
told_word (Some (Merged alternative)) = codes "merge " ++ decimal alternative
told_word (Some Nothing) = codes "none"

-- a Write by its origin and its number there, as 0:5
abbrev pub wid_text : Wid → List ℕ
wid_text wid = decimal wid.origin.index ++ (codes ":" ++ decimal wid.seq)

-- {"write": name, "told": word, "line": text or null}
abbrev pub own_tokens : Own → List Token
own_tokens own =
    begin_object ∷ key (codes "write") ∷ string (wid_text own.write.wid) ∷ key (codes "told") ∷ string (told_word own.write.told) ∷ key (codes "line")
    ∷ text_token own.line ∷ end_object ∷ []

abbrev pub all_own_tokens : List Own → List Token
all_own_tokens all = begin_array ∷ (flat_map own_tokens all ++ end_array ∷ [])

-- the word, if it is asked for
abbrev pub asked_word : Bool → (word : List ℕ) → List Token
asked_word is_asked word = if is_asked then string word ∷ [] else []

abbrev pub asks_tokens : Asks → List Token
asks_tokens asks =
    begin_array ∷ (asked_word asks.ryw (codes "ryw") ++ (asked_word asks.mr (codes "mr") ++ (asked_word asks.wfr (codes "wfr") ++ (asked_word asks.mw (codes "mw") ++ end_array ∷ []))))

-- {"asks": words, "reads": counts, "writes": counts}, or null
abbrev pub session_tokens : (servers : ℕ) → Option SeenSession → List Token
session_tokens servers None = null ∷ []
session_tokens servers (Some session) =
    begin_object ∷ key (codes "asks") ∷ (asks_tokens session.asks ++ key (codes "reads") ∷ (vector_tokens servers session.reads
    ++ key (codes "writes") ∷ (vector_tokens servers session.writes ++ end_object ∷ [])))

-- which notice it is, and its text
abbrev pub numbered_tokens : NewsItem → List Token
numbered_tokens notice = key (codes "number") ∷ number (decimal notice.number) ∷ key (codes "text") ∷ string (string_bytes notice.text) ∷ []

-- {"number": number, "text": text, "line": text or null}
abbrev pub notice_tokens : NewsItem → List Token
notice_tokens notice = begin_object ∷ (numbered_tokens notice ++ key (codes "line") ∷ text_token notice.line ∷ end_object ∷ [])

abbrev pub notices_tokens : List NewsItem → List Token
notices_tokens notices = begin_array ∷ (flat_map notice_tokens notices ++ end_array ∷ [])

-- which server told the rows, and what it held
abbrev pub told_tokens : (servers : ℕ) → Option (ServerId × List ℕ) → List Token
told_tokens servers None = key (codes "server") ∷ null ∷ key (codes "at") ∷ null ∷ []
told_tokens servers (Some (server, vector)) = key (codes "server") ∷ number (decimal server.index) ∷ key (codes "at") ∷ vector_tokens servers vector
