-- The lines of a server that lives: this project's own.
use Rattle.std.specs.Prelude.{ℕ, List, ◌++◌, codes, decimal}
use Rattle.bayou_print.specs.Printed.{counts_text}

-- it takes connections at this address from now on, and holds what is counted
abbrev pub serving_text : (server : ℕ) (address : List ℕ) (servers : ℕ) (counts : List ℕ) → List ℕ
serving_text server address servers counts =
    codes "serving " ++ (decimal server ++ (codes " at " ++ (address ++ (codes " holds " ++ (counts_text servers counts ++ codes "\n")))))

-- what it holds
abbrev pub held_text : (server servers : ℕ) (counts : List ℕ) → List ℕ
held_text server servers counts = codes "log " ++ (decimal server ++ (codes " at " ++ (counts_text servers counts ++ codes "\n")))
