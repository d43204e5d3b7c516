-- Bytes as the text that they are.
use Rattle.std.proofs.Common.{◌≡◌, Bool, true, false, ℕ, List, [], refl, if◌then◌else◌}
use Rattle.std.specs.Str.{IsUtf8, is_utf8}
use Rattle.std.proofs.lemmas.Str.{IsUtf8-from_is_utf8, is_utf8-from_IsUtf8}
use Rattle.bayou_web_state.specs.Done.{text_of}

-- a text is itself
pub text_of-utf8 : (bytes : List ℕ) → IsUtf8 bytes → text_of bytes ≡ bytes
text_of-utf8 bytes utf8 = rw (is_utf8-from_IsUtf8 bytes utf8) refl

none_where : (test : Bool) (bytes : List ℕ) → (test ≡ true → IsUtf8 bytes) → ¬ (IsUtf8 bytes) → (if test then bytes else []) ≡ []
none_where true bytes passes other = absurd (other (passes refl))
none_where false bytes passes other = refl

-- what is no text has none
pub text_of-other : (bytes : List ℕ) → ¬ (IsUtf8 bytes) → text_of bytes ≡ []
text_of-other bytes other = none_where (is_utf8 bytes) bytes (IsUtf8-from_is_utf8 bytes) other
