-- Lines: an array of a command word and what the command takes.
use Rattle.std.specs.Prelude.{◌≡◌, ◌<◌, ◌≤◌, ◌⊎◌, ℕ, List, [], ◌∷◌, None, Some, Ok, Err, codes, length, nat_lt, IsUtf8, if◌then◌else◌}
use Rattle.std.specs.Option.{ok_or}
use Rattle.std.specs.Str.{bytes_eq}
use Rattle.serde_json.specs.Data.{Data}
use Rattle.serde_json.specs.Read.{read as json_of}
use Rattle.bayou_base.specs.declared.limits.TheConstants.{MAX_LINE_BYTES}
use Rattle.bayou_text.specs.declared.line.LineFault.{LineFault}
use Rattle.bayou_text.specs.declared.line.LineFault.TheVariants.{BadShape, NotJson, OutOfMemory}
use Rattle.bayou_text.specs.declared.line.Shape.TheVariants.{Arity, Command, Line}
use Rattle.bayou_text.specs.Asks.{asks_in}
use Rattle.bayou_text.specs.Audit.{entry_in, held_in}
use Rattle.bayou_text.specs.Numbers.{count_in, limit_in, session_in, server_in, calls_in, kept_in, lost_in, cut_in}
use Rattle.bayou_text.specs.Programs.{program_in}
use Rattle.bayou_text.specs.Reading.{Parsed, ◌>>=◌, worded}
use Rattle.bayou_text.specs.Said.{Said, servers, session, write, read, again, drop, log, fuse, lose, reopen, restart, pull, resend, totals, judge, survey, book, phase}
use Rattle.bayou_text.specs.Values.{key_in}

-- ["servers", count] and ["servers", count, limit], after the word
unfoldable pub servers_in : List Data → Parsed Said
servers_in (count ∷ []) = count_in count >>= λ n. Ok (servers n None)
servers_in (count ∷ limit ∷ []) = do
  n ← count_in count
  most ← limit_in limit
  Ok (servers n (Some most))
servers_in _ = Err (BadShape Arity)

-- ["session", session, asks]
unfoldable pub opening_in : List Data → Parsed Said
opening_in (who ∷ asks ∷ []) = do
  n ← session_in who
  wanted ← asks_in asks
  Ok (session n wanted)
opening_in _ = Err (BadShape Arity)

-- ["write", session, server, program]
unfoldable pub writing_in : List Data → Parsed Said
writing_in (who ∷ place ∷ program ∷ []) = do
  n ← session_in who
  at ← server_in place
  work ← program_in program
  Ok (write n at work)
writing_in _ = Err (BadShape Arity)

-- ["read", session, server, key]
unfoldable pub reading_in : List Data → Parsed Said
reading_in (who ∷ place ∷ key ∷ []) = do
  n ← session_in who
  at ← server_in place
  name ← key_in key
  Ok (read n at name)
reading_in _ = Err (BadShape Arity)

-- ["again", session] and ["drop", session]
unfoldable pub session_alone_in : List Data → Parsed ℕ
session_alone_in (who ∷ []) = session_in who
session_alone_in _ = Err (BadShape Arity)

-- ["log", server], ["reopen", server] and ["restart", server]
unfoldable pub alone_in : List Data → Parsed ℕ
alone_in (place ∷ []) = server_in place
alone_in _ = Err (BadShape Arity)

-- ["fuse", server, calls, kept]
unfoldable pub fusing_in : List Data → Parsed Said
fusing_in (place ∷ calls ∷ kept ∷ []) = do
  at ← server_in place
  n ← calls_in calls
  most ← kept_in kept
  Ok (fuse at n most)
fusing_in _ = Err (BadShape Arity)

-- ["lose", server, count]
unfoldable pub losing_in : List Data → Parsed Said
losing_in (place ∷ count ∷ []) = do
  at ← server_in place
  n ← lost_in count
  Ok (lose at n)
losing_in _ = Err (BadShape Arity)

-- what tries one server: its device fails or loses bytes, and it comes up again
unfoldable pub trial_of : List ℕ → List Data → Parsed Said
trial_of word parts =
    if bytes_eq word (codes "fuse") then fusing_in parts
    else (if bytes_eq word (codes "lose") then losing_in parts
    else (if bytes_eq word (codes "reopen") then (alone_in parts >>= λ at. Ok (reopen at))
    else (if bytes_eq word (codes "restart") then (alone_in parts >>= λ at. Ok (restart at))
    else Err (BadShape Command))))

-- ["pull", to, from] and ["pull", to, from, items], after the word
unfoldable pub pulling_in : List Data → Parsed Said
pulling_in (to ∷ source ∷ []) = do
  at ← server_in to
  other ← server_in source
  Ok (pull at other None)
pulling_in (to ∷ source ∷ items ∷ []) = do
  at ← server_in to
  other ← server_in source
  n ← cut_in items
  Ok (pull at other (Some n))
pulling_in _ = Err (BadShape Arity)

-- ["resend", to, from]
unfoldable pub resending_in : List Data → Parsed Said
resending_in (to ∷ source ∷ []) = do
  at ← server_in to
  other ← server_in source
  Ok (resend at other)
resending_in _ = Err (BadShape Arity)

-- ["totals"], ["judge"], ["survey"], ["book"] and ["phase"]
unfoldable pub bare_in : Said → List Data → Parsed Said
bare_in what [] = Ok what
bare_in what _ = Err (BadShape Arity)

-- what is asked of the whole run, and the end of a phase of it
unfoldable pub asked_of : List ℕ → List Data → Parsed Said
asked_of word parts =
    if bytes_eq word (codes "totals") then bare_in totals parts
    else (if bytes_eq word (codes "judge") then bare_in judge parts
    else (if bytes_eq word (codes "survey") then bare_in survey parts
    else (if bytes_eq word (codes "book") then bare_in book parts
    else (if bytes_eq word (codes "phase") then bare_in phase parts
    else trial_of word parts))))

-- what two servers do
unfoldable pub exchange_of : List ℕ → List Data → Parsed Said
exchange_of word parts =
    if bytes_eq word (codes "pull") then pulling_in parts
    else (if bytes_eq word (codes "resend") then resending_in parts
    else asked_of word parts)

-- what a session does about a reply that it doesn't get
unfoldable pub retry_of : List ℕ → List Data → Parsed Said
retry_of word parts =
    if bytes_eq word (codes "again") then (session_alone_in parts >>= λ who. Ok (again who))
    else (if bytes_eq word (codes "drop") then (session_alone_in parts >>= λ who. Ok (drop who))
    else exchange_of word parts)

abbrev pub command_of : List ℕ → List Data → Parsed Said
command_of word parts =
    if bytes_eq word (codes "servers") then servers_in parts
    else (if bytes_eq word (codes "session") then opening_in parts
    else (if bytes_eq word (codes "write") then writing_in parts
    else (if bytes_eq word (codes "read") then reading_in parts
    else (if bytes_eq word (codes "log") then (alone_in parts >>= λ at. Ok (log at))
    else retry_of word parts))))

-- the words of audit files, and those of scripts
abbrev pub spoken_of : List ℕ → List Data → Parsed Said
spoken_of word parts =
    if bytes_eq word (codes "entry") then entry_in parts
    else (if bytes_eq word (codes "held") then held_in parts
    else command_of word parts)

unfoldable pub line_in : Data → Parsed Said
line_in d = ok_or (worded d) (BadShape Line) >>= λ parts. spoken_of parts.0 parts.1

-- the line that a text is
abbrev pub text_line : List ℕ → Parsed Said
text_line text = ok_or (json_of text) NotJson >>= line_in

-- the line that bytes in UTF-8 are
abbrev pub line_of : List ℕ → Parsed Said
line_of bytes = if nat_lt MAX_LINE_BYTES (length bytes) then Err (BadShape Line) else text_line bytes

-- bytes that are looked into: not too many, and UTF-8
abbrev pub IsLegible : List ℕ → Type 0
IsLegible bytes = (length bytes ≤ MAX_LINE_BYTES) × IsUtf8 bytes

-- the first fault of bytes: they are too many, they aren't UTF-8, or the text is no line
pub data IsFaultOf (bytes : List ℕ) (fault : LineFault) : Type 0 where
  too_long : MAX_LINE_BYTES < length bytes → fault ≡ BadShape Line → IsFaultOf bytes fault
  no_text : length bytes ≤ MAX_LINE_BYTES → ¬ (IsUtf8 bytes) → fault ≡ NotJson → IsFaultOf bytes fault
  no_line : IsLegible bytes → text_line bytes ≡ Err fault → IsFaultOf bytes fault

-- why bytes weren't read: memory ran out while they were looked into, or the first fault
abbrev pub IsRefusalOf : List ℕ → LineFault → Type 0
IsRefusalOf bytes fault = ((fault ≡ OutOfMemory) × IsLegible bytes) ⊎ IsFaultOf bytes fault
