-- The rows of a store, as they are seen: this project's own.
use Rattle.std.specs.Prelude.{◌≡◌, Bool, [], Option, map}
use Rattle.bayou_connect.specs.Listing.{AreListed, Row, standing_told}
use Rattle.bayou_connect.specs.declared.listing.ListedRows.{ListedRows}
use Rattle.bayou_connect.specs.declared.looking.Beyond.{Beyond}
use Rattle.bayou_connect.specs.declared.seeing.SeenRow.{SeenRow}
use Rattle.bayou_connect.specs.declared.seeing.SeenRows.{SeenRows}

-- a row, and how its value stands, where that is kept
abbrev pub seen_row : (keeps_finals : Bool) → Option Beyond → Row → SeenRow
seen_row keeps_finals beyond row = record { key = row.0; value = row.1; standing = standing_told keeps_finals beyond row.0 }

-- ListedRows of a list of all keys, each with how its value stands, where that is kept.
pub record Sees (keeps_finals : Bool) (seen : SeenRows) : Type 0 where
  pub rows : ListedRows
  pub beyond : Option Beyond
  pub listed : AreListed [] rows.each.items
  pub each : seen.rows.items ≡ map (seen_row keeps_finals beyond) rows.each.items
  pub vector : seen.vector ≡ rows.vector
  pub mixed : seen.is_mixed ≡ rows.is_mixed
