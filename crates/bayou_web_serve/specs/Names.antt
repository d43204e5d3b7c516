-- As whom a person claims: this project's own.
use Rattle.std.specs.Prelude.{ℕ, ◌<◌, ◌≤◌, All, List, length}

-- a text that may be a value, of one word
pub record IsName (name : List ℕ) : Type 0 where
  pub some : 0 < length name
  pub few : length name ≤ 32
  pub word : All (λ byte. 32 < byte) name
