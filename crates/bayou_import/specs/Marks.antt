-- What is kept of an import: this project's own.
use Rattle.std.specs.Prelude.{◌≡◌, ◌⊎◌, ◌<◌, ◌++◌, ◌&&◌, ℕ, Bool, true, List, codes, decimal, drop, length, nat_eq, nat_le}
use Rattle.std.specs.List.{list_all, starts_with}
use Rattle.hex.specs.Hex.{encode_lower}
use Rattle.sha2.specs.Sha256.{sha256}

-- what the mark of an import of this text at this server begins with
abbrev pub mark_start : (text : List ℕ) → (server : ℕ) → List ℕ
mark_start text server = codes "bayou-import-1 " ++ (encode_lower (sha256 text) ++ (codes " server " ++ (decimal server ++ codes " run ")))

-- and the whole of it
abbrev pub mark_text : (start : List ℕ) → (run : ℕ) → List ℕ
mark_text start run = start ++ (decimal run ++ codes "\n")

-- the bytes are the mark that begins so, of this run
abbrev pub IsMarkOf : (start bytes : List ℕ) → (run : ℕ) → Type 0
IsMarkOf start bytes run = (0 < run) × (bytes ≡ mark_text start run)

abbrev pub is_digit : ℕ → Bool
is_digit byte = nat_le 48 byte && nat_le byte 57

-- the bytes are a front of such a mark, or none: of its beginning, or that and digits of a run
abbrev pub IsTorn : (start bytes : List ℕ) → Type 0
IsTorn start bytes = (starts_with nat_eq start bytes ≡ true)
    ⊎ ((starts_with nat_eq bytes start ≡ true) × (list_all is_digit (drop (length start) bytes) ≡ true))

-- The import goes on under the run that its mark has; or there was none, or a front of one, it was begun under the run that was drawn, and its mark lasts.
abbrev pub IsBegun : (start old new kept : List ℕ) → (drawn run : ℕ) → Type 0
IsBegun start old new kept drawn run = (IsMarkOf start old run × (new ≡ old)) ⊎ (IsTorn start old × (run ≡ drawn) × (kept ≡ mark_text start run))
