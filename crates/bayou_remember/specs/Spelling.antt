-- What is kept of a session, and its one spelling: this project's own format.
use Rattle.std.specs.Prelude.{◌≡◌, ℕ, ◌≤◌, Bool, true, false, List, [], ◌∷◌, ◌++◌, Option, None, Some, IfSome}
use Rattle.std.specs.List.{AllByRecursion}
use Rattle.bayou_base.specs.declared.asks.Asks.{Asks}
use Rattle.bayou_base.specs.declared.limits.TheConstants.{MAX_PLACES}
use Rattle.bayou_base.specs.declared.server.ServerId.{ServerId}
use Rattle.bayou_base.specs.declared.tag.Tag.{Tag}
use Rattle.bayou_client.specs.declared.asker.Asked.{Asked}
use Rattle.bayou_client.specs.Operating.{Asking}
use Rattle.bayou_remember.specs.declared.layout.TheConstants as layout
use Rattle.bayou_session.specs.Needs.{IsTagOf, Told}
use Rattle.bayou_wire.specs.declared.frame.Frame.{Frame}
use Rattle.bayou_wire.specs.declared.frame.Frame.TheVariants as frames
use Rattle.bayou_wire.specs.Spelling.{IsFrame, u32_bytes}
use Rattle.bayou_wire.specs.Stream.{spellings}

-- whether a guarantee is asked for
abbrev pub flag_byte : Bool → ℕ
flag_byte true = layout.ASKED
flag_byte false = layout.NOT_ASKED

-- what a session asks for: Read Your Writes, Monotonic Reads, Writes Follow Reads, Monotonic Writes
abbrev pub asks_bytes : Asks → List ℕ
asks_bytes asks = flag_byte asks.ryw ∷ flag_byte asks.mr ∷ flag_byte asks.wfr ∷ flag_byte asks.mw ∷ []

-- the server at which a Write may be asked again, if there is one
abbrev pub server_bytes : Option ServerId → List ℕ
server_bytes None = layout.NOTHING ∷ []
server_bytes (Some server) = layout.A_WRITE ∷ server.index ∷ []

-- What stands before the frames: the version, whose it is, what it asks for, how many places it has begun, and where a Write may be asked again.
abbrev pub head_bytes : (session : ℕ) → Asks → (begun : ℕ) → Option ServerId → List ℕ
head_bytes session asks begun server = layout.KEPT_VERSION ∷ session ∷ (asks_bytes asks ++ (u32_bytes begun ++ server_bytes server))

-- where a Write may be asked again
abbrev pub server_of : Option Asked → Option ServerId
server_of None = None
server_of (Some asked) = Some asked.server

-- The request under whose tag the Write was asked, with whatever need; nothing where nothing may be asked again.
abbrev pub AreAskedFrames : Told → Option Asked → List Frame → Type 0
AreAskedFrames session None asking = (session.asked ≡ None) × (asking ≡ [])
AreAskedFrames session (Some asked) asking =
    (number : ℕ) × (tag : Tag) × (need : List ℕ) × (session.asked ≡ Some number) × IsTagOf session number tag
    × (asking ≡ frames.Write tag need asked.program ∷ [])

-- The frames that tell it: what it read and what it wrote, each as an Offer, and the request for the Write that may be asked again.
abbrev pub frames_of : Asking → (asking : List Frame) → List Frame
frames_of kept asking = frames.Offer kept.session.reads ∷ frames.Offer kept.session.writes ∷ asking

-- The bytes are what is kept: the head, and the frames, each of which has a spelling. A Write may be asked again that was asked at one of the
-- places which were begun.
pub record SpellsKept (bytes : List ℕ) (kept : Asking) : Type 0 where
  pub begun : kept.session.begun ≤ MAX_PLACES
  pub asked : IfSome kept.session.asked (λ number. number ≤ kept.session.begun)
  pub asking : List Frame
  pub asks : AreAskedFrames kept.session kept.asked asking
  pub frames : AllByRecursion IsFrame (frames_of kept asking)
  pub spelled : bytes ≡ head_bytes kept.session.id.index kept.session.asks kept.session.begun (server_of kept.asked) ++ spellings (frames_of kept asking)

-- the run in which a session goes on: its own, where it has something to ask again, else this one
abbrev pub run_in : (run : ℕ) → (asked : Option ℕ) → (own : ℕ) → ℕ
run_in run None own = run
run_in run (Some number) own = own

-- The same in that run. Where nothing may be asked again no spelling tells the run.
abbrev pub in_run : ℕ → Asking → Asking
in_run run kept = record kept { session = record kept.session { run = run_in run kept.session.asked kept.session.run } }
