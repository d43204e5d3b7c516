-- What was heard of entries: inner words.
use Rattle.std.specs.Prelude.{◌≡◌, ◌≢◌, ◌↔◌, ℕ, ◌-◌, ◌<◌, ◌≤◌, Bool, true, false, List, [], Option, Some, None, All, Any, slice_index_or}
use Rattle.bayou_base.specs.declared.entry.Entry.{Entry}
use Rattle.bayou_base.specs.declared.wid.Wid.{Wid}
use Rattle.bayou_judge.specs.declared.entries.Latest.{Latest}
use Rattle.bayou_judge.specs.Evidence.{TellsOf}

-- whether the rows have the server's Write of this sequence number
abbrev pub told_in : List (List Bool) → ℕ → ℕ → Bool
told_in rows server seq = slice_index_or (slice_index_or rows (seq - 1) []) server false

-- the rows have just the Writes of which one of the entries tells
abbrev pub AreTold : List Entry → List (List Bool) → Type 0
AreTold entries rows = (wid : Wid) → (told_in rows wid.origin.index wid.seq ≡ true) ↔ Any (λ entry. TellsOf wid entry.what) entries

-- The session has no entry; or one of its entries has this place and asks for this, none has a greater place, and none asks for
-- anything else.
abbrev pub IsLatest : List Entry → ℕ → Option Latest → Type 0
IsLatest entries session None = All (λ entry. entry.session.index ≢ session) entries
IsLatest entries session (Some latest) = Any (λ entry. (entry.session.index ≡ session) × (entry.place ≡ latest.place) × (entry.asks ≡ latest.asks)) entries
    × All (λ entry. entry.session.index ≡ session → (entry.place ≤ latest.place) × (entry.asks ≡ latest.asks)) entries

-- its place is above those of its session before it, and its session asks for what it asked for before
abbrev pub Follows : List Entry → Entry → Type 0
Follows earlier entry = All (λ other. other.session ≡ entry.session → other.place < entry.place) earlier
    × All (λ other. other.session ≡ entry.session → other.asks ≡ entry.asks) earlier
