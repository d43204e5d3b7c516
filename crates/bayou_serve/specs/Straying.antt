-- What became of the file of a journal while its server lives: this project's own.
use Rattle.std.specs.Prelude.{◌==◌, ℕ, Bool, false, Option, None, Some, cond, max, min, nat_le}
use Rattle.bayou_serve.specs.declared.straying.Identity.{Identity}
use Rattle.bayou_serve.specs.declared.straying.Sight.{Sight}
use Rattle.bayou_serve.specs.declared.straying.Straying.{Straying}
use Rattle.bayou_serve.specs.declared.straying.Straying.TheVariants.{Changed, Removed, Replaced}
use Rattle.bayou_serve.specs.declared.watched.Bounds.{Bounds}

-- the same file, whatever it holds
abbrev pub same_file : Identity → Identity → Bool
same_file one other = cond (one.device == other.device) (one.node == other.node) false

-- a length that is within what was known at one of two moments, or between
abbrev pub fits : (len : ℕ) → Bounds → Bounds → Bool
fits len before after = cond (nat_le (min before.least after.least) len) (nat_le len (max before.most after.most)) false

-- No file has its name, another one has it, or it is shorter or longer than it was written. Else nothing became of it.
abbrev pub strays : Option Sight → Identity → (before after : Bounds) → Option Straying
strays None own before after = Some Removed
strays (Some found) own before after = cond (same_file found.file own) (cond (fits found.len before after) None (Some Changed)) (Some Replaced)
