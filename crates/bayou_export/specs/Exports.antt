-- The rows of a server's database, and the lines that tell them: this project's own.
use Rattle.std.specs.Prelude.{◌≡◌, ℕ, List, [], ◌∷◌, ◌++◌, codes, decimal, flat_map, length}
use Rattle.std.specs.List.{filter}
use Rattle.std.specs.FinMap as finite
use Rattle.serde_json.specs.Data.{Data, string}
use Rattle.serde_json.specs.Written.{compact_text}
use Rattle.bayou_device.specs.declared.device.Device.{Ghosts}
use Rattle.bayou_export.specs.declared.journal.Export.{Export}
use Rattle.bayou_export.specs.declared.whose.Whose.{Whose}
use Rattle.bayou_lang.specs.Database.{Database, begins_with}
use Rattle.bayou_lang.specs.Writes.{count_of}
use Rattle.bayou_lang.specs.declared.program.Op.TheVariants.{Put}
use Rattle.bayou_lang.specs.declared.program.Term.TheVariants.{Lit}
use Rattle.bayou_log.specs.Replay.{replay}
use Rattle.bayou_log.specs.Rows.{Row}
use Rattle.bayou_renew.specs.Renewing.{IsOnCopy}
use Rattle.bayou_server.specs.Server.{ServerState}
use Rattle.bayou_text.specs.Spelling.{count_json, form, op_json, vector_json}

-- the rows of a database whose keys begin so, in the order of keys
abbrev pub rows_with : (prefix : List ℕ) → Database → List Row
rows_with prefix database = filter (λ row. begins_with prefix row.0) (finite.entries database)

-- The rows are those of the database that a server has which is started on a copy of these bytes, and what it holds comes with them.
pub record IsExportOf {D : Type 0} (d : Ghosts D) (whose : Whose) (prefix bytes : List ℕ) (export : Export) : Type 0 where
  pub server : ServerState D
  pub copy : IsOnCopy d whose.id.index whose.count bytes server
  pub whose_rows : export.server ≡ whose.id
  pub vector : export.vector ≡ count_of server.core.held
  pub rows : export.rows.items ≡ rows_with prefix (replay server.core.held)

-- ["put", key, value]: an op of a program puts the row, and is spelled so
abbrev pub put_json : Row → Data
put_json row = op_json (Put row.0 (Lit row.1))

abbrev pub row_text : Row → List ℕ
row_text row = compact_text (put_json row) ++ 10 ∷ []

-- the name of a server, as its journal has it
abbrev pub server_name : ℕ → List ℕ
server_name server = codes "server-" ++ decimal server

-- ["exported", name, counts, keys]: whose rows they are, with so many counts of what that server held, and how many there are
abbrev pub exported_json : (told : ℕ) → Export → Data
exported_json told export =
    form (codes "exported") (string (server_name export.server.index) ∷ vector_json told export.vector ∷ count_json (length export.rows.items) ∷ [])

abbrev pub exported_text : (told : ℕ) → Export → List ℕ
exported_text told export = compact_text (exported_json told export) ++ 10 ∷ []

-- the lines of an export: of what it is, and each row
abbrev pub export_text : (told : ℕ) → Export → List ℕ
export_text told export = exported_text told export ++ flat_map row_text export.rows.items
