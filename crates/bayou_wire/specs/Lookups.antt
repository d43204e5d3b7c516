-- The bytes of what a server is asked beside one key, and of what it tells: rows of its database, and what became of a Write. This project's own
-- format.
use Rattle.std.specs.Prelude.{ℕ, ◌<◌, ◌^◌, Bool, true, false, List, [], ◌∷◌, ◌++◌, Option, None, Some, length, IfSome}
use Rattle.std.specs.List.{flat_map}
use Rattle.std.specs.Int.{w16, to_be_bytes}
use Rattle.bayou_base.specs.Vector.{AreCounts}
use Rattle.bayou_base.specs.declared.value.Value.{Value}
use Rattle.bayou_lang.specs.Ranges.{AreAtMost, IsKey, IsPrefix, IsValue}
use Rattle.bayou_wire.specs.declared.layout.TheConstants as layout
use Rattle.bayou_wire.specs.declared.lookup.Became.{Became}
use Rattle.bayou_wire.specs.declared.lookup.Became.TheVariants.{Updated, Merged, Nothing}
use Rattle.bayou_wire.specs.declared.lookup.Fate.{Fate}
use Rattle.bayou_wire.specs.declared.lookup.FateAsked.{FateAsked}
use Rattle.bayou_wire.specs.declared.lookup.Page.{Page}
use Rattle.bayou_wire.specs.declared.lookup.Placed.{Placed}
use Rattle.bayou_wire.specs.declared.lookup.RowsAsked.{RowsAsked}
use Rattle.bayou_wire.specs.Spelling.{short_bytes, u32_bytes, value_bytes, vector_bytes, wid_bytes}

-- a number of two bytes
abbrev pub u16_bytes : ℕ → List ℕ
u16_bytes n = to_be_bytes w16 n

-- no key has no byte
abbrev pub optional_key_bytes : Option (List ℕ) → List ℕ
optional_key_bytes None = short_bytes []
optional_key_bytes (Some key) = short_bytes key

-- ---- rows

abbrev pub row_bytes : List ℕ × Value → List ℕ
row_bytes row = short_bytes row.0 ++ value_bytes row.1

-- how many they are, and the rows
abbrev pub rows_bytes : List (List ℕ × Value) → List ℕ
rows_bytes rows = u16_bytes (length rows) ++ flat_map row_bytes rows

-- whether there are more
abbrev pub more_bytes : Bool → List ℕ
more_bytes true = layout.MORE_LEFT ∷ []
more_bytes false = layout.NONE_LEFT ∷ []

abbrev pub rows_asked_bytes : RowsAsked → List ℕ
rows_asked_bytes asked = vector_bytes asked.need ++ (short_bytes asked.prefix ++ (optional_key_bytes asked.after ++ u16_bytes asked.most))

abbrev pub page_bytes : Page → List ℕ
page_bytes page = vector_bytes page.vector ++ (more_bytes page.more ++ rows_bytes page.rows.items)

-- ---- what became of a Write

abbrev pub became_bytes : Became → List ℕ
became_bytes Updated = layout.WAS_UPDATED ∷ []
became_bytes (Merged alternative) = layout.WAS_MERGED ∷ alternative ∷ []
became_bytes Nothing = layout.WAS_NOTHING ∷ []

-- that it isn't held, or what became of it, and its clock
abbrev pub placed_bytes : Option Placed → List ℕ
placed_bytes None = layout.NOT_HELD ∷ []
placed_bytes (Some placed) = became_bytes placed.became ++ u32_bytes placed.clock

abbrev pub fate_asked_bytes : FateAsked → List ℕ
fate_asked_bytes asked = vector_bytes asked.need ++ wid_bytes asked.wid

abbrev pub fate_bytes : Fate → List ℕ
fate_bytes fate = vector_bytes fate.vector ++ placed_bytes fate.placed

-- ---- which of them have a spelling

abbrev pub IsRow : List ℕ × Value → Type 0
IsRow row = IsKey row.0 × IsValue row.1

abbrev pub IsRowsAsked : RowsAsked → Type 0
IsRowsAsked asked = AreCounts asked.need × IsPrefix asked.prefix × IfSome asked.after IsKey × (asked.most < 2 ^ 16)

abbrev pub IsPage : Page → Type 0
IsPage page = AreCounts page.vector × AreAtMost layout.ROWS_AT_ONCE IsRow page.rows.items

abbrev pub IsBecame : Became → Type 0
IsBecame Updated = Unit {0}
IsBecame (Merged alternative) = alternative < 256
IsBecame Nothing = Unit {0}

abbrev pub IsPlaced : Placed → Type 0
IsPlaced placed = IsBecame placed.became × (placed.clock < 2 ^ 32)

abbrev pub IsFateAsked : FateAsked → Type 0
IsFateAsked asked = AreCounts asked.need

abbrev pub IsFate : Fate → Type 0
IsFate fate = AreCounts fate.vector × IfSome fate.placed IsPlaced
