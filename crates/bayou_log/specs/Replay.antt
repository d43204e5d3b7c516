-- The database of a set of Writes (Terry et al. 1994, 1995): what the empty one becomes as they are applied in stamp order.
use Rattle.std.specs.Prelude.{List, [], ◌∷◌}
use Rattle.bayou_lang.specs.declared.write.Write.{Write}
use Rattle.bayou_lang.specs.Database.{Database, empty}
use Rattle.bayou_lang.specs.Meaning.{mean}
use Rattle.bayou_lang.specs.Writes.{in_stamp_order}

-- the database after these Writes, the first of the list applied first
abbrev pub after_writes : List Write → Database → Database
after_writes [] database = database
after_writes (write ∷ writes) database = after_writes writes (mean write.program database).1

-- the empty database after the Writes, in stamp order
abbrev pub replay : List Write → Database
replay writes = after_writes (in_stamp_order writes) empty
