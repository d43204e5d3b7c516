-- what stands before the rest was read
use Rattle.std.proofs.Common.{◌≡◌, ◌++◌, ℕ, List, length}
use Rattle.bayou_script.specs.Reading.{HasReadBy}
use Rattle.bayou_script.proofs.text.TextReader.feed.Given as goal

abbrev pub invariant-loop-line : goal.invariant-loop-line
invariant-loop-line g l = (bytes : List ℕ) → HasReadBy g.F.Front.order g.F.Front.keeps l.initial.self bytes
    → (front : List ℕ) × (l.fn.piece ≡ front ++ l.rest) × HasReadBy g.F.Front.order g.F.Front.keeps l.self (bytes ++ front)

abbrev pub decreases-loop-line : goal.decreases-loop-line
decreases-loop-line g l = length l.rest
