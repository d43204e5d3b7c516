-- The table of the lines (this project's own): which data spells which thing, member by member, with no word on how
-- it is read.
use Rattle.std.specs.Prelude.{◌≡◌, ◌-◌, ◌^◌, ◌<◌, ◌≤◌, ◌⊎◌, ◌↔◌, ℕ, ℤ, List, [], ◌∷◌, ◌++◌, Option, None, Some, codes, length, map, replicate, IsTrue, IsUtf8}
use Rattle.std.specs.List.{AllByRecursion, AllZip, Contains}
use Rattle.serde_json.specs.Data.{Data, Num, number, unsigned, string, array, object, Members}
use Rattle.serde_json.specs.Find.{as_i64, get}
use Rattle.serde_json.specs.Read.{read as json_of}
use Rattle.serde_json.specs.View.{items_of}
use Rattle.bayou_base.specs.Text.{IsShort}
use Rattle.bayou_base.specs.declared.asks.Asks.{Asks}
use Rattle.bayou_base.specs.declared.entry.Entry.{Entry}
use Rattle.bayou_base.specs.declared.entry.What.{What}
use Rattle.bayou_base.specs.declared.entry.What.TheVariants as what
use Rattle.bayou_base.specs.declared.limits.TheConstants.{SERVERS, SESSIONS, MAX_CONDITIONS, MAX_OPS, MAX_ALTERNATIVES, MAX_LINE_BYTES, MAX_LOST_BYTES, MAX_PLACES, MAX_WRITES}
use Rattle.bayou_base.specs.declared.stamp.Stamp.{Stamp}
use Rattle.bayou_base.specs.declared.value.Value.{Value}
use Rattle.bayou_base.specs.declared.value.Value.TheVariants.{Num as Integer, Text}
use Rattle.bayou_base.specs.declared.wid.Wid.{Wid}
use Rattle.bayou_lang.specs.declared.program.Term.{Term}
use Rattle.bayou_lang.specs.declared.program.Term.TheVariants.{Lit, Copy, Plus}
use Rattle.bayou_lang.specs.declared.program.Op.{Op}
use Rattle.bayou_lang.specs.declared.program.Op.TheVariants.{Put, Del}
use Rattle.bayou_lang.specs.declared.program.Cond.{Cond}
use Rattle.bayou_lang.specs.declared.program.Cond.TheVariants.{Equals, Absent, AtLeast, AtMost}
use Rattle.bayou_lang.specs.declared.program.Alt.{Alt}
use Rattle.bayou_lang.specs.declared.program.Program.{Program}
use Rattle.bayou_lang.specs.declared.write.Write.{Write}
use Rattle.bayou_lang.specs.Ranges.{IsKey, IsPrefix}
use Rattle.bayou_text.specs.Ranges.{IsCount, IsLimit, IsFuse}
use Rattle.bayou_text.specs.Reading.{names}
use Rattle.bayou_text.specs.Said.{Said, servers, session, write, read, again, drop, log, fuse, lose, reopen, restart, pull, resend, totals, judge, survey, book, phase, entry, held}
use Rattle.bayou_text.specs.Spelling.{form, count_json}

-- an integer, and no other number: 1.0 isn't one
abbrev pub NumberIs : Data → ℕ → Type 0
NumberIs d n = d ≡ number (unsigned n)

-- an integer that fits i64
abbrev pub IntegerIs : Data → ℤ → Type 0
IntegerIs d n = (m : Num) × (d ≡ number m) × (as_i64 m ≡ Some n)

-- an integer that fits i64, or a text that is short enough
abbrev pub ValueIs : Data → Value → Type 0
ValueIs d (Integer n) = IntegerIs d n
ValueIs d (Text text) = (d ≡ string text) × IsShort text

-- a text that is a key
abbrev pub KeyIs : Data → List ℕ → Type 0
KeyIs d key = (d ≡ string key) × IsKey key

-- a text that is a prefix
abbrev pub PrefixIs : Data → List ℕ → Type 0
PrefixIs d prefix = (d ≡ string prefix) × IsPrefix prefix

-- an array of exactly a word and a key
pub record NamedIs (word : List ℕ) (d : Data) (key : List ℕ) : Type 0 where
  pub key_data : Data
  pub form_is : d ≡ form word (key_data ∷ [])
  pub key_is : KeyIs key_data key

-- an array of exactly a word, a key and one more member
pub record KeyedIs (word : List ℕ) (Is : Data → Type 0) (d : Data) (key : List ℕ) : Type 0 where
  pub key_data : Data
  pub last_data : Data
  pub form_is : d ≡ form word (key_data ∷ last_data ∷ [])
  pub key_is : KeyIs key_data key
  pub last_is : Is last_data

-- a value, ["copy", key] or ["plus", key, n]
abbrev pub TermIs : Data → Term → Type 0
TermIs d (Lit value) = ValueIs d value
TermIs d (Copy key) = NamedIs (codes "copy") d key
TermIs d (Plus key n) = KeyedIs (codes "plus") (λ last. IntegerIs last n) d key

-- ["put", key, term] or ["del", key]
abbrev pub OpIs : Data → Op → Type 0
OpIs d (Put key term) = KeyedIs (codes "put") (λ last. TermIs last term) d key
OpIs d (Del key) = NamedIs (codes "del") d key

-- ["atmost", prefix, n]
pub record AtMostIs (d : Data) (prefix : List ℕ) (n : ℕ) : Type 0 where
  pub prefix_data : Data
  pub number_data : Data
  pub form_is : d ≡ form (codes "atmost") (prefix_data ∷ number_data ∷ [])
  pub prefix_is : PrefixIs prefix_data prefix
  pub number_is : NumberIs number_data n
  pub number_in_range : n < 2 ^ 32

-- ["equals", key, value], ["absent", key], ["atleast", key, n] or ["atmost", prefix, n]
abbrev pub CondIs : Data → Cond → Type 0
CondIs d (Equals key value) = KeyedIs (codes "equals") (λ last. ValueIs last value) d key
CondIs d (Absent key) = NamedIs (codes "absent") d key
CondIs d (AtLeast key n) = KeyedIs (codes "atleast") (λ last. IntegerIs last n) d key
CondIs d (AtMost prefix n) = AtMostIs d prefix n

-- the members of the list that an object has under this name: none where it has no such member
pub data MemberIs (name : List ℕ) (d : Data) (ds : List Data) : Type 0 where
  missing : get name d ≡ None → ds ≡ [] → MemberIs name d ds
  present : get name d ≡ Some (array (items_of ds)) → MemberIs name d ds

-- a list of so many at the most, each of them spelled
pub record ListIs {A : Type 0} (Is : Data → A
    → Type 0) (most : ℕ) (name : List ℕ) (d : Data) (xs : List A) : Type 0 where
  pub data_of : List Data
  pub member_is : MemberIs name d data_of
  pub fits : length data_of ≤ most
  pub each : AllZip Is data_of xs

abbrev pub IsAltName : List ℕ → Type 0
IsAltName name = (name ≡ codes "ops") ⊎ (name ≡ codes "when")

-- an object of no other members than "ops" and "when", each of which may be missing
pub record AltIs (d : Data) (alternative : Alt) : Type 0 where
  pub members : Members
  pub object_is : d ≡ object members
  pub known : AllByRecursion IsAltName (names members)
  pub conditions : ListIs CondIs MAX_CONDITIONS (codes "when") d alternative.when.items
  pub steps : ListIs OpIs MAX_OPS (codes "ops") d alternative.ops.items

abbrev pub IsProgramName : List ℕ → Type 0
IsProgramName name = (name ≡ codes "check") ⊎ ((name ≡ codes "merge") ⊎ (name ≡ codes "update"))

-- an object of no other members than "check", "merge" and "update", each of which may be missing
pub record ProgramIs (d : Data) (program : Program) : Type 0 where
  pub members : Members
  pub object_is : d ≡ object members
  pub known : AllByRecursion IsProgramName (names members)
  pub check : ListIs CondIs MAX_CONDITIONS (codes "check") d program.check.items
  pub merge : ListIs AltIs MAX_ALTERNATIVES (codes "merge") d program.merge.items
  pub update : ListIs OpIs MAX_OPS (codes "update") d program.update.items

-- one of the four words
abbrev pub IsAsk : Data → Type 0
IsAsk d = (d ≡ string (codes "ryw")) ⊎
    ((d ≡ string (codes "mr")) ⊎ ((d ≡ string (codes "wfr")) ⊎ (d ≡ string (codes "mw"))))

-- an array of the four words alone; a guarantee is asked for exactly where its word stands in it
pub record AsksAre (d : Data) (asks : Asks) : Type 0 where
  pub words : List Data
  pub array_is : d ≡ array (items_of words)
  pub known : AllByRecursion IsAsk words
  pub ryw : IsTrue asks.ryw ↔ Contains words (string (codes "ryw"))
  pub mr : IsTrue asks.mr ↔ Contains words (string (codes "mr"))
  pub wfr : IsTrue asks.wfr ↔ Contains words (string (codes "wfr"))
  pub mw : IsTrue asks.mw ↔ Contains words (string (codes "mw"))

-- ["servers", count]
pub record ServersIs (d : Data) (count : ℕ) : Type 0 where
  pub count_data : Data
  pub form_is : d ≡ form (codes "servers") (count_data ∷ [])
  pub count_is : NumberIs count_data count
  pub count_in_range : IsCount count

-- ["servers", count, limit]
pub record LimitedIs (d : Data) (count limit : ℕ) : Type 0 where
  pub count_data : Data
  pub limit_data : Data
  pub form_is : d ≡ form (codes "servers") (count_data ∷ limit_data ∷ [])
  pub count_is : NumberIs count_data count
  pub count_in_range : IsCount count
  pub limit_is : NumberIs limit_data limit
  pub limit_in_range : IsLimit limit

-- ["session", session, asks]
pub record SessionIs (d : Data) (who : ℕ) (asks : Asks) : Type 0 where
  pub who_data : Data
  pub asks_data : Data
  pub form_is : d ≡ form (codes "session") (who_data ∷ asks_data ∷ [])
  pub who_is : NumberIs who_data who
  pub who_in_range : who < SESSIONS
  pub asks_are : AsksAre asks_data asks

-- [word, session, server, last]: what `write` and `read` have alike
pub record AtServer (word : List ℕ) (Is : Data → Type 0) (d : Data) (who place : ℕ) : Type 0 where
  pub who_data : Data
  pub place_data : Data
  pub last_data : Data
  pub form_is : d ≡ form word (who_data ∷ place_data ∷ last_data ∷ [])
  pub who_is : NumberIs who_data who
  pub who_in_range : who < SESSIONS
  pub place_is : NumberIs place_data place
  pub place_in_range : place < SERVERS
  pub last_is : Is last_data

-- an array of exactly a word and a session
pub record SessionAloneIs (word : List ℕ) (d : Data) (who : ℕ) : Type 0 where
  pub who_data : Data
  pub form_is : d ≡ form word (who_data ∷ [])
  pub who_is : NumberIs who_data who
  pub who_in_range : who < SESSIONS

-- an array of exactly a word and a server
pub record ServerIs (word : List ℕ) (d : Data) (place : ℕ) : Type 0 where
  pub place_data : Data
  pub form_is : d ≡ form word (place_data ∷ [])
  pub place_is : NumberIs place_data place
  pub place_in_range : place < SERVERS

-- ["fuse", server, calls, kept]
pub record FuseIs (d : Data) (place calls kept : ℕ) : Type 0 where
  pub place_data : Data
  pub calls_data : Data
  pub kept_data : Data
  pub form_is : d ≡ form (codes "fuse") (place_data ∷ calls_data ∷ kept_data ∷ [])
  pub place_is : NumberIs place_data place
  pub place_in_range : place < SERVERS
  pub calls_are : NumberIs calls_data calls
  pub kept_is : NumberIs kept_data kept
  pub fuse_in_range : IsFuse calls kept

-- ["lose", server, count]
pub record LossIs (d : Data) (place count : ℕ) : Type 0 where
  pub place_data : Data
  pub count_data : Data
  pub form_is : d ≡ form (codes "lose") (place_data ∷ count_data ∷ [])
  pub place_is : NumberIs place_data place
  pub place_in_range : place < SERVERS
  pub count_is : NumberIs count_data count
  pub count_in_range : count ≤ MAX_LOST_BYTES

-- [word, to, from]: what `pull` and `resend` have alike
pub record BetweenIs (word : List ℕ) (d : Data) (to source : ℕ) : Type 0 where
  pub to_data : Data
  pub source_data : Data
  pub form_is : d ≡ form word (to_data ∷ source_data ∷ [])
  pub to_is : NumberIs to_data to
  pub to_in_range : to < SERVERS
  pub source_is : NumberIs source_data source
  pub source_in_range : source < SERVERS

-- ["pull", to, from, items]
pub record CutIs (d : Data) (to source items : ℕ) : Type 0 where
  pub to_data : Data
  pub source_data : Data
  pub items_data : Data
  pub form_is : d ≡ form (codes "pull") (to_data ∷ source_data ∷ items_data ∷ [])
  pub to_is : NumberIs to_data to
  pub to_in_range : to < SERVERS
  pub source_is : NumberIs source_data source
  pub source_in_range : source < SERVERS
  pub items_are : NumberIs items_data items
  pub items_in_range : items ≤ MAX_WRITES

-- an array of so many counts; the vector has them, and counts no Write of another server
pub record VectorIs (d : Data) (vector : List ℕ) (n : ℕ) : Type 0 where
  pub counts : List ℕ
  pub array_is : d ≡ array (items_of (map count_json counts))
  pub number_is : length counts ≡ n
  pub number_in_range : IsCount n
  pub counts_in_range : AllByRecursion (λ count. count ≤ MAX_WRITES) counts
  pub vector_is : vector ≡ counts ++ replicate (SERVERS - n) 0

-- ["entry", session, place, asks, server, word, ..]: what all entries have alike
pub record EntryIs (word : List ℕ) (others : List Data) (d : Data) (told : Entry) : Type 0 where
  pub session_data : Data
  pub place_data : Data
  pub asks_data : Data
  pub server_data : Data
  pub form_is : d ≡ form (codes "entry") (session_data ∷ place_data ∷ asks_data ∷ server_data ∷ string word ∷ others)
  pub session_is : NumberIs session_data told.session.index
  pub place_is : NumberIs place_data told.place
  pub place_in_range : told.place ≤ MAX_PLACES
  pub asks_are : AsksAre asks_data told.asks
  pub server_is : NumberIs server_data told.server.index

-- ["entry", session, place, asks, server, "read", key, vector]
pub record ServedIs (d : Data) (told : Entry) (key vector : List ℕ) (n : ℕ) : Type 0 where
  pub key_data : Data
  pub vector_data : Data
  pub entry_is : EntryIs (codes "read") (key_data ∷ vector_data ∷ []) d told
  pub key_is : KeyIs key_data key
  pub vector_is : VectorIs vector_data vector n

-- ["entry", session, place, asks, server, "write", seq, clock, deps]: the Write is one of the entry's server
pub record AcceptedIs (d : Data) (told : Entry) (wid : Wid) (stamp : Stamp) (deps : List ℕ) (n : ℕ) : Type 0 where
  pub seq_data : Data
  pub clock_data : Data
  pub deps_data : Data
  pub entry_is : EntryIs (codes "write") (seq_data ∷ clock_data ∷ deps_data ∷ []) d told
  pub own_name : wid.origin ≡ told.server
  pub seq_is : NumberIs seq_data wid.seq
  pub own_stamp : stamp.origin ≡ told.server
  pub clock_is : NumberIs clock_data stamp.clock
  pub deps_are : VectorIs deps_data deps n

-- an entry has a vector unless it tells of a refusal
abbrev pub ToldIs : Data → Entry → What → Option ℕ → Type 0
ToldIs d told what.Refused None = EntryIs (codes "refused") [] d told
ToldIs d told (what.Read key vector) (Some n) = ServedIs d told key vector n
ToldIs d told (what.Write wid stamp deps) (Some n) = AcceptedIs d told wid stamp deps n
ToldIs d told _ _ = ⊥

-- ["held", server, [origin, seq, clock, deps, program]]
pub record HeldIs (d : Data) (place : ℕ) (write : Write) (n : ℕ) : Type 0 where
  pub place_data : Data
  pub origin_data : Data
  pub seq_data : Data
  pub clock_data : Data
  pub deps_data : Data
  pub program_data : Data
  pub form_is : d ≡ form (codes "held")
      (place_data ∷ array (items_of (origin_data ∷ seq_data ∷ clock_data ∷ deps_data ∷ program_data ∷ [])) ∷ [])
  pub place_is : NumberIs place_data place
  pub place_in_range : place < SERVERS
  pub origin_is : NumberIs origin_data write.wid.origin.index
  pub seq_is : NumberIs seq_data write.wid.seq
  pub clock_is : NumberIs clock_data write.stamp.clock
  pub deps_are : VectorIs deps_data write.deps n
  pub program_is : ProgramIs program_data write.program

abbrev pub LineIs : Data → Said → Type 0
LineIs d (servers count None) = ServersIs d count
LineIs d (servers count (Some limit)) = LimitedIs d count limit
LineIs d (session who asks) = SessionIs d who asks
LineIs d (write who place program) = AtServer (codes "write") (λ last. ProgramIs last program) d who place
LineIs d (read who place key) = AtServer (codes "read") (λ last. KeyIs last key) d who place
LineIs d (again who) = SessionAloneIs (codes "again") d who
LineIs d (drop who) = SessionAloneIs (codes "drop") d who
LineIs d (log place) = ServerIs (codes "log") d place
LineIs d (fuse place calls kept) = FuseIs d place calls kept
LineIs d (lose place count) = LossIs d place count
LineIs d (reopen place) = ServerIs (codes "reopen") d place
LineIs d (restart place) = ServerIs (codes "restart") d place
LineIs d (pull to source None) = BetweenIs (codes "pull") d to source
LineIs d (pull to source (Some items)) = CutIs d to source items
LineIs d (resend to source) = BetweenIs (codes "resend") d to source
LineIs d totals = d ≡ form (codes "totals") []
LineIs d judge = d ≡ form (codes "judge") []
LineIs d survey = d ≡ form (codes "survey") []
LineIs d book = d ≡ form (codes "book") []
LineIs d phase = d ≡ form (codes "phase") []
LineIs d (entry told counts) = ToldIs d told told.what counts
LineIs d (held place item counts) = HeldIs d place item counts

-- bytes that say this: at most so many, UTF-8, and the JSON of a line
pub record Spells (bytes : List ℕ) (s : Said) : Type 0 where
  pub in_length : length bytes ≤ MAX_LINE_BYTES
  pub utf8 : IsUtf8 bytes
  pub json : Data
  pub json_is : json_of bytes ≡ Some json
  pub line_is : LineIs json s
