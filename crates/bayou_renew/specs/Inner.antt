-- What the functions within speak of.
use Rattle.std.specs.Prelude.{◌≡◌, ℕ, List, [], ◌∷◌, ◌++◌}
use Rattle.bayou_lang.specs.declared.write.Write.{Write}
use Rattle.bayou_lang.specs.Writes.{IsNextWrite}
use Rattle.bayou_log.specs.Log.{Log}
use Rattle.bayou_log.specs.Rows.{Row}
use Rattle.bayou_renew.specs.Renewal.{ORIGIN, Puts}
use Rattle.bayou_server.specs.Server.{Core}

-- the key is that of the last of the rows
pub record IsLastKey (rows : List Row) (key : List ℕ) : Type 0 where
  pub front : List Row
  pub row : Row
  pub split : rows ≡ front ++ row ∷ []
  pub is : key ≡ row.0

-- the log holds one Write more, which the server made of these rows
pub record Adds (rows : List Row) (old new : Log) : Type 0 where
  pub write : Write
  pub next : IsNextWrite old.receipts ORIGIN write.program write
  pub puts : Puts rows write.program
  pub held : new.receipts ≡ old.receipts ++ write ∷ []
  pub count : new.count ≡ old.count
  pub limit : new.limit ≡ old.limit

-- the server held nothing, and now it holds these Writes
pub record HoldsThem (old : Core) (writes : List Write) (new : Core) : Type 0 where
  pub held : new.held ≡ writes
  pub doubt : new.doubt ≡ old.doubt
  pub id : new.id ≡ old.id
  pub count : new.count ≡ old.count
