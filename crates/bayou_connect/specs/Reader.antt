-- InputLines of an input, which is read piece by piece: this project's own.
use Rattle.std.specs.Prelude.{◌≡◌, ◌<◌, ◌≤◌, ◌+◌, ◌==◌, ◌++◌, ◌∷◌, ℕ, Bool, List, [], if◌then◌else◌, MatchBool, Option, None, Some, length, slice_range, take}
use Rattle.std.specs.List.{after_first, before_first, position_or_len}
use Rattle.std.specs.Option.{option_map}
use Rattle.bayou_base.specs.declared.limits.TheConstants.{MAX_LINE_BYTES}
use Rattle.bayou_connect.specs.declared.lines.InputLines.{InputLines}
use Rattle.bayou_connect.specs.declared.lines.NextLine.{NextLine}
use Rattle.bayou_connect.specs.declared.lines.NextLine.TheVariants.{Line, TooLong, End}

-- the bytes of the piece that aren't given yet
abbrev pub rest_of : {R : Type 0} → InputLines R → List ℕ
rest_of lines = slice_range lines.piece lines.from lines.to

-- the bytes that are left of the input, where it is known what its reader has left: after its end nothing more is read
abbrev pub left_in : {R : Type 0} → (R → Option (List ℕ)) → InputLines R → Option (List ℕ)
left_in remaining lines = option_map (λ (xs : List ℕ). rest_of lines ++ (if lines.has_ended then [] else xs)) (remaining lines.reader)

abbrev pub is_line_feed : ℕ → Bool
is_line_feed byte = byte == 10

-- These bytes were taken of those that are left, none of which is a line feed; and one after them, where the line ended.
abbrev pub GivesPart : (old new : Option (List ℕ)) → (passed : List ℕ) → (ended : Bool) → Type 0
GivesPart None new passed ended = position_or_len is_line_feed passed ≡ length passed
GivesPart (Some bytes) None passed ended = ⊥
GivesPart (Some bytes) (Some rest) passed ended = (position_or_len is_line_feed passed ≡ length passed)
    × MatchBool ended (bytes ≡ passed ++ 10 ∷ rest) ((bytes ≡ passed ++ rest) × (0 < length passed))

-- The bytes up to the next line feed were put there, as many as a line may have and one more, and that is gone too; or none is left.
abbrev pub PutsLine : (old new : Option (List ℕ)) → (line : List ℕ) → (has_any : Bool) → Type 0
PutsLine None new line has_any = Unit {0}
PutsLine (Some bytes) None line has_any = ⊥
PutsLine (Some bytes) (Some rest) line has_any = MatchBool has_any
    ((0 < length bytes) × (line ≡ take (MAX_LINE_BYTES + 1) (before_first is_line_feed bytes)) × (rest ≡ after_first is_line_feed bytes))
    ((bytes ≡ []) × (rest ≡ []))

-- The next line of the bytes that are left, and those after its line feed: all up to that, unless it is too long. Where no byte is left there is none.
abbrev pub TakesLine : (old new : Option (List ℕ)) → NextLine → Type 0
TakesLine None new next = Unit {0}
TakesLine (Some bytes) None next = ⊥
TakesLine (Some bytes) (Some rest) End = (bytes ≡ []) × (rest ≡ [])
TakesLine (Some bytes) (Some rest) (Line line) = (0 < length bytes) × (line.items ≡ before_first is_line_feed bytes) × (length line.items ≤ MAX_LINE_BYTES)
    × (rest ≡ after_first is_line_feed bytes)
TakesLine (Some bytes) (Some rest) TooLong = (MAX_LINE_BYTES < length (before_first is_line_feed bytes)) × (rest ≡ after_first is_line_feed bytes)
