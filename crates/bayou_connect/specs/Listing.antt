-- ListedRows of a database, as a list of them is printed: this project's own.
use Rattle.std.specs.Prelude.{◌≡◌, ◌⊎◌, ◌∷◌, ◌-◌, [], ◌&&◌, ℕ, Bool, false, true, if◌then◌else◌, List, Option, None, Some, length, nat_eq, slice_get}
use Rattle.std.specs.Cmp.Lexicographic.{slice_cmp}
use Rattle.std.specs.List.{starts_with}
use Rattle.std.specs.Option.{option_map}
use Rattle.std.specs.Ordering.{is_lt, nat_cmp}
use Rattle.bayou_base.specs.declared.value.Value.{Value}
use Rattle.bayou_connect.specs.Beyond.{standing_at}
use Rattle.bayou_connect.specs.declared.looking.Beyond.{Beyond}
use Rattle.bayou_final.specs.declared.standing.Standing.{Standing}
use Rattle.bayou_base.specs.declared.refusal.Refusal.{Refusal}
use Rattle.bayou_base.specs.declared.session.SessionId.{SessionId}
use Rattle.bayou_connect.specs.Finals.{keeps_finals, outlook_of}
use Rattle.bayou_connect.specs.Objects.{lost_json, refused_json, row_json, rows_json}
use Rattle.bayou_connect.specs.Printing.{told_text}
use Rattle.bayou_connect.specs.declared.desk.PersonDesk.{PersonDesk}
use Rattle.bayou_connect.specs.declared.listing.ListedRows.{ListedRows}
use Rattle.bayou_connect.specs.declared.told.ServerTold.TheVariants.{Refused}
use Rattle.bayou_print.specs.Connected.{row_text, rows_text}
use Rattle.bayou_print.specs.declared.connected.TheConstants.{LIST_LOST}
use Rattle.bayou_print.specs.Standing.{standing_row_text}
use Rattle.bayou_streams.specs.Account.{Account, TakesBytes}

-- a row: a key, and its value
abbrev pub Row : Type 0
Row = List ℕ × Value

-- a key comes after that one, in the order of their bytes; any does where there is none
abbrev pub is_behind : (last : Option (List ℕ)) → (key : List ℕ) → Bool
is_behind None key = true
is_behind (Some last) key = is_lt (slice_cmp nat_cmp last key)

-- the keys begin so, and come one after another, the first after this one, if there is one
abbrev pub do_follow : (prefix : List ℕ) → (last : Option (List ℕ)) → List Row → Bool
do_follow prefix last [] = true
do_follow prefix last (row ∷ rows) = is_behind last row.0 && starts_with nat_eq row.0 prefix && do_follow prefix (Some row.0) rows

-- the key of the last row
abbrev pub last_key : List Row → Option (List ℕ)
last_key rows = option_map (λ (row : Row). row.0) (slice_get rows (length rows - 1))

-- the rows of a list: each key once, in the order of their bytes, and each begins so
abbrev pub AreListed : (prefix : List ℕ) → List Row → Type 0
AreListed prefix rows = do_follow prefix None rows ≡ true

-- the line of a row, and how its value stands, where that is kept
abbrev pub line_of_row : Option Standing → Row → List ℕ
line_of_row None row = row_text row.0 (Some row.1)
line_of_row (Some standing) row = standing_row_text row.0 (Some row.1) standing

-- what is printed of it: that line, or an object
abbrev pub row_told : (is_json : Bool) → Option Standing → Row → List ℕ
row_told is_json standing row = if is_json then row_json row.0 row.1 standing else line_of_row standing row

-- what is printed of how many rows there are, and of what was held: a line, or an object
abbrev pub rows_told : (is_json : Bool) → (prefix : Option (List ℕ)) → (keys : ℕ) → Bool → (servers : ℕ) → (vector : List ℕ) → List ℕ
rows_told is_json prefix keys is_mixed servers vector =
    if is_json then rows_json prefix keys is_mixed servers vector else rows_text prefix keys is_mixed servers vector

-- what is printed of a list that was refused: a line, or an object
abbrev pub refused_told : (is_json : Bool) → (servers : ℕ) → SessionId → Refusal → List ℕ
refused_told is_json servers who refusal =
    if is_json then refused_json servers who.index refusal else told_text servers who None (Refused refusal)

-- what is printed of a list of which nothing, or not all, came: a line, or an object
abbrev pub lost_told : (is_json : Bool) → List ℕ
lost_told is_json = if is_json then lost_json else LIST_LOST.now

abbrev pub standing_told : (keeps_finals : Bool) → Option Beyond → (key : List ℕ) → Option Standing
standing_told keeps_finals beyond key = if keeps_finals then Some (standing_at beyond key) else None

-- the rows are printed one after another, each with how its value stands, where that is kept
unfoldable pub PrintsRows : (is_json keeps_finals : Bool) → Option Beyond → List Row → (before after : Account) → Type 0
PrintsRows is_json keeps_finals beyond [] before after = after ≡ before
PrintsRows is_json keeps_finals beyond (row ∷ rows) before after =
    (line : Account) × TakesBytes before line (row_told is_json (standing_told keeps_finals beyond row.0) row)
    × PrintsRows is_json keeps_finals beyond rows line after

-- and after them how many there are, and what was held by the server that told them
pub record PrintsList (is_json keeps_finals : Bool) (servers : ℕ) (named : Option (List ℕ)) (beyond : Option Beyond) (rows : ListedRows) (before after : Account) : Type 0 where
  pub line : Account
  pub each : PrintsRows is_json keeps_finals beyond rows.each.items before line
  pub last : TakesBytes line after (rows_told is_json named (length rows.each.items) rows.is_mixed servers rows.vector)

-- what keys begin with that are asked for: all do where nothing is named
abbrev pub prefix_named : Option (List ℕ) → List ℕ
prefix_named None = []
prefix_named (Some prefix) = prefix

-- The rows whose keys begin so are printed, each key once and in order; or why they didn't come, or that they didn't.
abbrev pub Lists : SessionId → (named : Option (List ℕ)) → (old new : PersonDesk) → (before after : Account) → Type 0
Lists who named old new before after =
    ((rows : ListedRows) × (beyond : Option Beyond) × AreListed (prefix_named named) rows.each.items × (new.is_served ≡ old.is_served)
    × PrintsList old.is_json (keeps_finals (outlook_of new.store.views)) old.servers named beyond rows before after)
    ⊎ ((refusal : Refusal) × (new.is_served ≡ false) × TakesBytes before after (refused_told old.is_json old.servers who refusal))
    ⊎ ((new.is_served ≡ false) × TakesBytes before after (lost_told old.is_json))
