-- Which runs of the program the tags are of that servers hold.
use Rattle.std.proofs.Common.{ℕ, ◌+◌, ◌<◌, ◌≤◌, max, List, [], ◌∷◌, ◌++◌, Option, Some, None, All, IfSome, arith}
use Rattle.std.proofs.lemmas.List.Elements.{All-push, All-weaker}
use Rattle.bayou_base.specs.declared.tag.Tag.{Tag}
use Rattle.bayou_server.specs.Server.{Core}
use Rattle.bayou_tags.specs.Tags.{IsGreatestRun}
use Rattle.bayou_socket_run.specs.Inner.Runs.{HasRunsBefore}

abbrev IsBefore : ℕ → Option Tag → Type 0
IsBefore run entry = IfSome entry (λ tag. tag.run < run)

later : (a b : ℕ) → a ≤ b → (entry : Option Tag) → IsBefore a entry → IsBefore b entry
later a b within None is = tt
later a b within (Some tag) is = omega (arith, within, is)

-- what has no later run has runs before the next one
at_most : (run next : ℕ) → run < next → (entry : Option Tag) → IfSome entry (λ tag. tag.run ≤ run) → IsBefore next entry
at_most run next less None is = tt
at_most run next less (Some tag) is = omega (arith, less, is)

-- one server more
pub one_more : {B : Type 0} (core : B → Core) (servers : List B) (server : B) (last run : ℕ) → All (λ (b : B). HasRunsBefore (last + 1) (core b)) servers → IsGreatestRun (core server).tags run
    → All (λ (b : B). HasRunsBefore (max last run + 1) (core b)) (servers ++ server ∷ [])
one_more {B} core servers server last run seen is =
    All-push (λ (b : B). HasRunsBefore (max last run + 1) (core b)) servers server
    (All-weaker (λ (b : B). HasRunsBefore (last + 1) (core b)) (λ (b : B). HasRunsBefore (max last run + 1) (core b))
    (λ b before. All-weaker (IsBefore (last + 1)) (IsBefore (max last run + 1)) (later (last + 1) (max last run + 1) (omega arith)) (core b).tags before) servers seen)
    (All-weaker (λ entry. IfSome entry (λ (tag : Tag). tag.run ≤ run)) (IsBefore (max last run + 1)) (at_most run (max last run + 1) (omega arith)) (core server).tags is.greatest)
