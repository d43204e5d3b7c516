-- Numbers: integers, each in the range of its place. What is no integer, as 1.0, is Number too.
use Rattle.std.specs.Prelude.{ℕ, ℤ, ◌-◌, ◌^◌, nat_le, ◌&&◌, Ok, Err, option_and_then, if◌then◌else◌}
use Rattle.std.specs.Option.{ok_or}
use Rattle.serde_json.specs.Data.{Data}
use Rattle.serde_json.specs.Find.{as_number, as_i64, as_u64}
use Rattle.bayou_base.specs.declared.limits.TheConstants.{SERVERS, SESSIONS, MAX_WRITES, MAX_FUSE_CALLS, MAX_FUSE_KEPT, MAX_LOST_BYTES, MAX_PLACES}
use Rattle.bayou_text.specs.declared.line.LineFault.TheVariants.{BadShape}
use Rattle.bayou_text.specs.declared.line.Shape.TheVariants.{Number}
use Rattle.bayou_text.specs.Reading.{Parsed, ◌>>=◌}

abbrev pub within : ℕ → ℕ → ℕ → Parsed ℕ
within least most n = if nat_le least n && nat_le n most then Ok n else Err (BadShape Number)

-- the integer, from the least to the most
abbrev pub number_in : ℕ → ℕ → Data → Parsed ℕ
number_in least most d = ok_or (option_and_then as_u64 (as_number d)) (BadShape Number) >>= within least most

-- how many servers
abbrev pub count_in : Data → Parsed ℕ
count_in = number_in 1 SERVERS

-- how many Writes a log holds at the most
abbrev pub limit_in : Data → Parsed ℕ
limit_in = number_in 1 MAX_WRITES

-- the session of this number
abbrev pub session_in : Data → Parsed ℕ
session_in = number_in 0 (SESSIONS - 1)

-- the server of this number
abbrev pub server_in : Data → Parsed ℕ
server_in = number_in 0 (SERVERS - 1)

-- which device call from now fails
abbrev pub calls_in : Data → Parsed ℕ
calls_in = number_in 1 MAX_FUSE_CALLS

-- how many bytes of its piece a failing append adds
abbrev pub kept_in : Data → Parsed ℕ
kept_in = number_in 0 MAX_FUSE_KEPT

-- how many bytes a device loses
abbrev pub lost_in : Data → Parsed ℕ
lost_in = number_in 0 MAX_LOST_BYTES

-- after how many Writes a stream is cut
abbrev pub cut_in : Data → Parsed ℕ
cut_in = number_in 0 MAX_WRITES

-- the place of an operation in its session
abbrev pub place_in : Data → Parsed ℕ
place_in = number_in 1 MAX_PLACES

-- the place of a Write among those of its server
abbrev pub seq_in : Data → Parsed ℕ
seq_in = number_in 1 MAX_WRITES

-- the clock of a stamp
abbrev pub clock_in : Data → Parsed ℕ
clock_in = number_in 1 MAX_WRITES

-- how many Writes of a server a vector counts
abbrev pub tally_in : Data → Parsed ℕ
tally_in = number_in 0 MAX_WRITES

-- how many keys a condition lets begin with its prefix
abbrev pub most_in : Data → Parsed ℕ
most_in = number_in 0 (2 ^ 32 - 1)

-- an integer of i64
abbrev pub integer_in : Data → Parsed ℤ
integer_in d = ok_or (option_and_then as_i64 (as_number d)) (BadShape Number)
