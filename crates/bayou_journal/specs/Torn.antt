-- What an append of an entry, or of several, may leave after whole entries where it is cut off, each append being synced before the next: this
-- project's own.
use Rattle.std.specs.Prelude.{◌≡◌, ◌⊎◌, ℕ, ◌+◌, ◌*◌, ◌<◌, ◌≤◌, List, ◌++◌, All, get_or, length}
use Rattle.bayou_base.specs.declared.limits.TheConstants.{MAX_BODY_BYTES}
use Rattle.bayou_journal.specs.Chain.{NoEntry}
use Rattle.bayou_journal.specs.declared.format.TheConstants.{DIGEST_BYTES, ENTRY_BYTES, LENGTH_BYTES}
use Rattle.bayou_journal.specs.declared.torn.Tear.{Tear}
use Rattle.bayou_journal.specs.declared.torn.Tear.TheVariants.{Unfinished, Whole}

-- the length of a body that the bytes begin with, the high byte first
abbrev pub said_length : List ℕ → ℕ
said_length bytes = get_or bytes 0 0 * 256 + get_or bytes 1 0

-- how many bytes the entry has that begins with it
abbrev pub said_entry : List ℕ → ℕ
said_entry bytes = LENGTH_BYTES + said_length bytes + DIGEST_BYTES

-- no entry stands anywhere in the bytes, after the digest's bytes before it
abbrev pub HoldsNoEntry : List ℕ → Type 0
HoldsNoEntry bytes = (front before rest : List ℕ) → bytes ≡ front ++ (before ++ rest) → length before ≡ DIGEST_BYTES → NoEntry before rest

-- the bytes begin with a length that a body may have, and hold no entry
pub record IsOneEntry (bytes : List ℕ) : Type 0 where
  pub some : 0 < said_length bytes
  pub within : said_length bytes ≤ MAX_BODY_BYTES
  pub alone : HoldsNoEntry bytes

-- the room of an entry of which no byte is written yet
pub record IsUnwritten (bytes : List ℕ) : Type 0 where
  pub zeros : All (λ byte. byte ≡ 0) bytes
  pub within : length bytes ≤ ENTRY_BYTES

-- Not even a length; or no byte but zeros; or fewer bytes than the entry has whose length they begin with.
abbrev pub IsTear : List ℕ → Tear → Type 0
IsTear bytes Unfinished = (length bytes < LENGTH_BYTES) ⊎ (IsUnwritten bytes ⊎ (IsOneEntry bytes × (length bytes < said_entry bytes)))
-- as many as it has
IsTear bytes Whole = IsOneEntry bytes × (length bytes ≡ said_entry bytes)
