-- Where each server stands.
use Rattle.std.specs.Prelude.{ℕ, zero, suc, List, [], ◌++◌, codes, decimal, length, slice_index}
use Rattle.bayou_judge.specs.History.{dump_of}
use Rattle.bayou_lang.specs.Writes.{count_of}
use Rattle.bayou_lang.specs.declared.write.Write.{Write}

-- what stands before a count
abbrev pub comma_text : ℕ → List ℕ
comma_text zero = []
comma_text (suc at) = codes ","

-- the first so many counts
abbrev pub counts_text : List ℕ → ℕ → List ℕ
counts_text counts zero = []
counts_text counts (suc size) = counts_text counts size ++ (comma_text size ++ decimal (slice_index counts size))

-- what a server holds: for each server how many of its Writes
abbrev pub stand_text : List (List Write) → ℕ → List ℕ
stand_text dumps server = codes " server " ++ (decimal server ++ (codes " " ++ counts_text (count_of (dump_of dumps server)) (length dumps)))

-- what the first so many servers hold
abbrev pub stands_text : List (List Write) → ℕ → List ℕ
stands_text dumps zero = []
stands_text dumps (suc server) = stands_text dumps server ++ stand_text dumps server

abbrev pub standing_line : List (List Write) → List ℕ
standing_line dumps = codes "held:" ++ (stands_text dumps (length dumps) ++ codes "\n")
