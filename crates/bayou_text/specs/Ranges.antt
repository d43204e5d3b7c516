-- Which lines are read.
use Rattle.std.specs.Prelude.{◌≡◌, ℕ, ◌≤◌, List, Option, None, Some, drop, IfSome, ⊤}
use Rattle.std.specs.List.{AllByRecursion}
use Rattle.bayou_base.specs.declared.entry.What.{What}
use Rattle.bayou_base.specs.declared.entry.What.TheVariants as what
use Rattle.bayou_base.specs.declared.limits.TheConstants.{MAX_WRITES, SERVERS, MAX_FUSE_CALLS, MAX_FUSE_KEPT, MAX_LOST_BYTES}
use Rattle.bayou_base.specs.declared.server.ServerId.{ServerId}
use Rattle.bayou_text.specs.Said.{Said, servers, session, write, read, again, drop as drop_line, log, fuse, lose, reopen, restart, pull, resend, totals, judge, survey, book, phase, entry, held}

abbrev pub IsCount : ℕ → Type 0
IsCount count = (1 ≤ count) × (count ≤ SERVERS)

abbrev pub IsLimit : ℕ → Type 0
IsLimit limit = (1 ≤ limit) × (limit ≤ MAX_WRITES)

-- which device call fails, and how much of its piece is added
abbrev pub IsFuse : ℕ → ℕ → Type 0
IsFuse calls kept = ((1 ≤ calls) × (calls ≤ MAX_FUSE_CALLS)) × (kept ≤ MAX_FUSE_KEPT)

-- so many counts are given, and the others are 0
abbrev pub IsCutTo : ℕ → List ℕ → Type 0
IsCutTo n vector = IsCount n × AllByRecursion (λ count. count ≡ 0) (drop n vector)

-- an entry has a vector unless it tells of a refusal, and tells of no Write but of its own server's
abbrev pub IsToldBy : ServerId → What → Option ℕ → Type 0
IsToldBy server what.Refused None = ⊤
IsToldBy server (what.Read key vector) (Some n) = IsCutTo n vector
IsToldBy server (what.Write wid stamp deps) (Some n) = (wid.origin ≡ server) × (stamp.origin ≡ server) × IsCutTo n deps
IsToldBy server _ _ = ⊥

-- the lines that are read: the type of a line leaves wider only how many servers and Writes there may be, the
-- numbers of a fuse, of a loss and of a cut, and how much of an entry or a Write is given
abbrev pub IsReadable : Said → Type 0
IsReadable (servers count limit) = IsCount count × IfSome limit IsLimit
IsReadable (session who asks) = ⊤
IsReadable (write who place program) = ⊤
IsReadable (read who place key) = ⊤
IsReadable (again who) = ⊤
IsReadable (drop_line who) = ⊤
IsReadable (log place) = ⊤
IsReadable (fuse place calls kept) = IsFuse calls kept
IsReadable (lose place count) = count ≤ MAX_LOST_BYTES
IsReadable (reopen place) = ⊤
IsReadable (restart place) = ⊤
IsReadable (pull to source cut) = IfSome cut (λ items. items ≤ MAX_WRITES)
IsReadable (resend to source) = ⊤
IsReadable totals = ⊤
IsReadable judge = ⊤
IsReadable survey = ⊤
IsReadable book = ⊤
IsReadable phase = ⊤
IsReadable (entry told counts) = IsToldBy told.server told.what counts
IsReadable (held place item counts) = IsCutTo counts item.deps
