-- The line of a store's key: this project's own format.
use Rattle.std.specs.Prelude.{◌≡◌, ℕ, List, ◌++◌, None, codes, length}
use Rattle.hex.specs.Hex.{IsBytes, encode_lower}
use Rattle.bayou_base.specs.Key.{key_fault}
use Rattle.bayou_greeting.specs.declared.secret.TheConstants.{SECRET_BYTES}
use Rattle.bayou_greeting.specs.declared.store_key.StoreKey.{StoreKey}

-- what each of them begins with
abbrev pub line_start : List ℕ
line_start = codes "bayou-key-1 "

-- then the name, a space, and the secret in hexadecimal, in lower case
abbrev pub key_line : StoreKey → List ℕ
key_line key = line_start ++ (key.name ++ (codes " " ++ encode_lower key.secret))

-- the name is one, and the secret has its bytes
pub record IsStoreKey (key : StoreKey) : Type 0 where
  pub name : key_fault key.name ≡ None
  pub size : length key.secret ≡ SECRET_BYTES
  pub bytes : IsBytes key.secret
