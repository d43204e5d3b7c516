-- Keys, and what keys begin with: this project's own alphabet.
use Rattle.std.specs.Prelude.{ℕ, Bool, List, Option, None, Some, length, nat_lt, nat_le, ◌==◌, ◌&&◌, ◌||◌, not, position, if◌then◌else◌}
use Rattle.std.specs.Option.{option_map}
use Rattle.bayou_base.specs.declared.limits.TheConstants.{MAX_KEY_BYTES}
use Rattle.bayou_base.specs.declared.key.KeyFault.{KeyFault}
use Rattle.bayou_base.specs.declared.key.KeyFault.TheVariants.{Empty, TooLong, BadByte}

-- a small letter, a digit, or one of `.` `_` `-` `/`
abbrev pub is_key_byte : ℕ → Bool
is_key_byte b =
    (nat_le 97 b && nat_le b 122) || (nat_le 48 b && nat_le b 57) || (b == 46) || (b == 95) || (b == 45) || (b == 47)

-- why the bytes are no key: they are none, they are too many, or the first of them that no key has
abbrev pub key_fault : List ℕ → Option KeyFault
key_fault bytes =
    if length bytes == 0 then Some Empty
    else (if nat_lt MAX_KEY_BYTES (length bytes) then Some TooLong
    else option_map BadByte (position (λ b. not (is_key_byte b)) bytes))

-- why the bytes are no prefix: as of a key, but a prefix may have no byte
abbrev pub prefix_fault : List ℕ → Option KeyFault
prefix_fault bytes = if length bytes == 0 then None else key_fault bytes
