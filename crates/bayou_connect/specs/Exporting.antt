-- The rows of one server's database: this project's own.
use Rattle.std.specs.Prelude.{◌≡◌}
use Rattle.bayou_base.specs.declared.server.ServerId.{ServerId}
use Rattle.bayou_connect.specs.declared.exporting.NotTaken.{NotTaken}
use Rattle.bayou_connect.specs.declared.exporting.NotTaken.TheVariants as untaken
use Rattle.bayou_connect.specs.declared.exporting.ExportedRows.{ExportedRows}
use Rattle.bayou_connect.specs.declared.listing.ListedRows.{ListedRows}
use Rattle.bayou_connect.specs.declared.told.ServerTold.{ServerTold}
use Rattle.bayou_connect.specs.declared.told.ServerTold.TheVariants.{Away}

-- Why no rows are taken, by this answer: no server was reached, or one was and didn't list them, or not all of them.
abbrev pub untaken_as : ServerTold → NotTaken
untaken_as Away = untaken.Away
untaken_as _ = untaken.Untold

-- what this server told is what is taken
pub record IsTakenOf (server : ServerId) (rows : ListedRows) (taken : ExportedRows) : Type 0 where
  pub from : taken.server ≡ server
  pub vector : taken.vector ≡ rows.vector
  pub each : taken.rows ≡ rows.each
