-- Servers, sessions, names and stamps of numbers, with what their types keep. Numbers are read before this, each in the range of its
-- place, so that none of them is refused here.
use Rattle.std.proofs.lemmas.Bool.{leb-true, ltb-true}
use Rattle.std.specs.Prelude.{◌≡◌, ℕ, ◌<◌, ◌≤◌, Bool, true, false, List, Ok, Err, nat_le, nat_lt, refl}
use Rattle.bayou_base.specs.declared.asks.Asks.{Asks}
use Rattle.bayou_base.specs.declared.entry.Entry.{Entry}
use Rattle.bayou_base.specs.declared.entry.What.{What}
use Rattle.bayou_base.specs.declared.entry.What.TheVariants as what
use Rattle.bayou_base.specs.declared.limits.TheConstants.{SERVERS, SESSIONS, MAX_WRITES}
use Rattle.bayou_base.specs.declared.server.ServerId.{ServerId}
use Rattle.bayou_base.specs.declared.session.SessionId.{SessionId}
use Rattle.bayou_lang.specs.declared.program.Program.{Program}
use Rattle.bayou_lang.specs.declared.write.Write.{Write}
use Rattle.bayou_text.specs.declared.line.LineFault.TheVariants.{BadShape}
use Rattle.bayou_text.specs.declared.line.Shape.TheVariants.{Number}
use Rattle.bayou_text.specs.Reading.{Parsed, ◌>>=◌}

-- the session of this number, where there is one
abbrev pub session_if : (n : ℕ) (below : Bool) → nat_lt n SESSIONS ≡ below → Parsed SessionId
session_if n true within = Ok (record { index = n; in_range = ltb-true n SESSIONS within })
session_if n false without = Err (BadShape Number)

unfoldable pub session_of : ℕ → Parsed SessionId
session_of n = session_if n (nat_lt n SESSIONS) refl

-- the server of this number, where there is one
abbrev pub server_if : (n : ℕ) (below : Bool) → nat_lt n SERVERS ≡ below → Parsed ServerId
server_if n true within = Ok (record { index = n; in_range = ltb-true n SERVERS within })
server_if n false without = Err (BadShape Number)

unfoldable pub server_of : ℕ → Parsed ServerId
server_of n = server_if n (nat_lt n SERVERS) refl

-- that a place is one
abbrev pub counted_if : (n : ℕ) (above : Bool) → nat_lt 0 n ≡ above → Parsed (0 < n)
counted_if n true above = Ok (ltb-true 0 n above)
counted_if n false none = Err (BadShape Number)

unfoldable pub counted : (n : ℕ) → Parsed (0 < n)
counted n = counted_if n (nat_lt 0 n) refl

-- that a seq or a clock is one
abbrev pub placed_if : (n : ℕ) (above below : Bool) → nat_lt 0 n ≡ above → nat_le n MAX_WRITES ≡ below → Parsed ((0 < n) × (n ≤ MAX_WRITES))
placed_if n true true above below = Ok (ltb-true 0 n above, leb-true n MAX_WRITES below)
placed_if n true false above below = Err (BadShape Number)
placed_if n false true above below = Err (BadShape Number)
placed_if n false false above below = Err (BadShape Number)

unfoldable pub placed : (n : ℕ) → Parsed ((0 < n) × (n ≤ MAX_WRITES))
placed n = placed_if n (nat_lt 0 n) (nat_le n MAX_WRITES) refl refl

-- the entry of an operation that was refused
unfoldable pub entry_of : (who place : ℕ) → Asks → (at : ℕ) → Parsed Entry
entry_of who place asks at = do
  session ← session_of who
  above ← counted place
  server ← server_of at
  Ok (record { session = session; place = place; asks = asks; server = server; what = what.Refused; in_range = above })

-- what a server gave a Write that it accepted
unfoldable pub accepted_of : ServerId → (seq clock : ℕ) → List ℕ → Parsed What
accepted_of origin seq clock deps = do
  within ← placed seq
  timely ← placed clock
  Ok (what.Write (record { origin = origin; seq = seq; in_range = within }) (record { clock = clock; origin = origin; in_range = timely }) deps)

-- the Write that a server accepted
unfoldable pub write_of : (at seq clock : ℕ) → List ℕ → Program → Parsed Write
write_of at seq clock deps program = do
  origin ← server_of at
  within ← placed seq
  timely ← placed clock
  Ok (record {
    wid = record { origin = origin; seq = seq; in_range = within };
    stamp = record { clock = clock; origin = origin; in_range = timely };
    deps = deps;
    program = program;
    one_origin = refl;
  })
