-- From which peer's answer a lost server is restored: this project's own.
use Rattle.std.specs.Prelude.{◌≡◌, ℕ, Result, Ok, Err, if◌then◌else◌, nat_lt, slice_index}
use Rattle.bayou_lang.specs.Writes.{count_of}
use Rattle.bayou_restore.specs.Differing.{AgreeOnAll, IsFirstDifference}
use Rattle.bayou_serve.specs.declared.fault.ServeFault.{ServeFault}
use Rattle.bayou_serve.specs.declared.fault.ServeFault.TheVariants.{NotRestored}
use Rattle.bayou_serve.specs.declared.fault.Unrestored.TheVariants as why
use Rattle.bayou_serve.specs.declared.restoring.PeerAnswer.{PeerAnswer}

-- how many Writes of this server the answer has
abbrev pub own_in : (server : ℕ) → PeerAnswer → ℕ
own_in server answer = slice_index (count_of answer.gathered.writes) server

-- Of two answers the one with more Writes of this server is chosen, the first where both have as many, if under each of its names that both have
-- they have the same Write. Else both peers are named, and the first name under which they differ.
abbrev pub ChoosesAnswer : (server : ℕ) → (best other : PeerAnswer) → Result PeerAnswer ServeFault → Type 0
ChoosesAnswer server best other (Ok chosen) =
    (chosen ≡ (if nat_lt (own_in server best) (own_in server other) then other else best)) × AgreeOnAll best.gathered.writes other.gathered.writes server
ChoosesAnswer server best other (Err fault) =
    (number : ℕ) × (fault ≡ NotRestored (why.Differ best.peer other.peer number)) × IsFirstDifference best.gathered.writes other.gathered.writes server number
