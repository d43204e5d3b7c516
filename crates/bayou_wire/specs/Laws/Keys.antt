-- Laws of keys as bytes.
use Rattle.std.proofs.Common.{ℕ, List}
use Rattle.std.specs.Prelude.{IsUtf8}
use Rattle.std.proofs.lemmas.Str.{IsUtf8-from_ascii}
use Rattle.bayou_lang.specs.Ranges.{IsKey}
use Rattle.bayou_wire.specs.Laws.Inner.Readers.{key_is_ascii}

-- the bytes of a key are a text
pub key_is_utf8 : (key : List ℕ) → IsKey key → IsUtf8 key
key_is_utf8 key is = IsUtf8-from_ascii key (key_is_ascii key is)
