-- What a person sees of a key that was made, and of a session at servers, and how that ends: this project's own.
use Rattle.std.specs.Prelude.{ℕ, List, ◌++◌, codes}
use Rattle.bayou_connect.specs.declared.connecting.LinesEnded.{LinesEnded}
use Rattle.bayou_connect.specs.declared.connecting.LinesEnded.TheVariants.{Served, Unserved, Refused}

-- the line that tells that the key of the store of this name was made in a file
abbrev pub key_text : (name file : List ℕ) → List ℕ
key_text name file = codes "key " ++ (name ++ (codes " in " ++ (file ++ codes "\n")))

-- the exit status of lines that ended so: 1 where some operation wasn't served, 2 where a line can't be done
abbrev pub lines_status : LinesEnded → ℕ
lines_status Served = 0
lines_status Unserved = 1
lines_status Refused = 2
