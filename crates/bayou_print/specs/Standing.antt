-- The lines of what is final at a store: this project's own.
use Rattle.std.specs.Prelude.{ℕ, List, ◌++◌, Option, codes, decimal}
use Rattle.bayou_base.specs.declared.value.Value.{Value}
use Rattle.bayou_base.specs.declared.wid.Wid.{Wid}
use Rattle.bayou_final.specs.declared.standing.Standing.{Standing}
use Rattle.bayou_final.specs.Standing.{standing_word}
use Rattle.bayou_print.specs.Connected.{fate_text}
use Rattle.bayou_print.specs.Printed.{value_text}
use Rattle.bayou_wire.specs.declared.lookup.Placed.{Placed}

-- how a session's Write stands, and what became of it
abbrev pub standing_text : (session : ℕ) → Standing → Wid → Option Placed → List ℕ
standing_text session standing wid placed =
    decimal session ++ (codes " " ++ (standing_word standing ++ (codes " " ++ (decimal wid.origin.index ++ (codes ":" ++ (decimal wid.seq ++ fate_text placed))))))

-- how the value of a key stands that a session read
abbrev pub key_standing_text : (session : ℕ) → Standing → (key : List ℕ) → List ℕ
key_standing_text session standing key = decimal session ++ (codes " " ++ (standing_word standing ++ (codes " " ++ (key ++ codes "\n"))))

-- a key, its value, and how that stands
abbrev pub standing_row_text : (key : List ℕ) → Option Value → Standing → List ℕ
standing_row_text key value standing = key ++ (codes " " ++ (value_text value ++ (codes " " ++ (standing_word standing ++ codes "\n"))))

-- an own Write isn't kept any longer, though it isn't final
abbrev pub forgotten_text : (session : ℕ) → Wid → List ℕ
forgotten_text session wid = decimal session ++ (codes " forgot " ++ (decimal wid.origin.index ++ (codes ":" ++ (decimal wid.seq ++ codes "\n"))))
