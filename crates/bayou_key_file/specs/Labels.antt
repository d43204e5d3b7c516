-- The label of a journal, or of what is kept of sessions, which says of which store that is: this project's own format.
use Rattle.std.specs.Prelude.{◌≡◌, ℕ, List, ◌++◌, Option, None, Some, codes}
use Rattle.hex.specs.Hex.{encode_lower}
use Rattle.sha2.specs.Sha256.{sha256}
use Rattle.bayou_greeting.specs.StoreKeys.{key_line}
use Rattle.bayou_greeting.specs.declared.store_key.StoreKey.{StoreKey}
use Rattle.bayou_key_file.specs.declared.fault.LabelFault.{LabelFault}
use Rattle.bayou_key_file.specs.declared.fault.LabelFault.TheVariants.{NotALabel, OtherStore, OutOfMemory}

-- what ends a line
abbrev pub line_feed : List ℕ
line_feed = codes "\n"

-- what each label begins with
abbrev pub label_start : List ℕ
label_start = codes "bayou-store-1 "

-- then the name of the store, a space, and SHA-256 of the line of its key in hexadecimal, in lower case; and a line feed
abbrev pub label_text : StoreKey → List ℕ
label_text key = label_start ++ (key.name ++ (codes " " ++ (encode_lower (sha256 (key_line key)) ++ line_feed)))

-- there is a key, and the text is its label
abbrev pub IsLabelOf : (text : List ℕ) → Option StoreKey → Type 0
IsLabelOf text None = ⊥
IsLabelOf text (Some key) = text ≡ label_text key

-- the fault names the key's store
abbrev pub TellsStore : StoreKey → LabelFault → Type 0
TellsStore key (OtherStore name) = name.bytes ≡ key.name
TellsStore key NotALabel = ⊥
TellsStore key OutOfMemory = ⊥
