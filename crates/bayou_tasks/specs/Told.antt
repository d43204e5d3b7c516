-- How a fault is reported, in one line: this project's own.
use Rattle.std.specs.Prelude.{ℕ, List, ◌++◌, Option, None, Some, codes}

-- the line that tells a fault, with the file that is at fault, where one is
abbrev pub told_text : (file : Option (List ℕ)) → (cause : List ℕ) → List ℕ
told_text None cause = codes "bayou: " ++ (cause ++ codes "\n")
told_text (Some file) cause = codes "bayou: " ++ (file ++ (codes ": " ++ (cause ++ codes "\n")))
