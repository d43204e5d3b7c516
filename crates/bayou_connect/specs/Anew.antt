-- How what is kept of sessions is written anew: this project's own.
use Rattle.std.specs.Prelude.{ℕ, List, [], ◌∷◌, Option, None, Some}
use Rattle.bayou_device.specs.Device.{one_more}
use Rattle.bayou_client.specs.Operating.{Asking}

-- those of the sessions that there are, in order
abbrev pub those : List (Option Asking) → List Asking
those [] = []
those (None ∷ all) = those all
those (Some kept ∷ all) = kept ∷ those all

-- how many entries there are after these too
abbrev pub entries_behind : ℕ → List Asking → ℕ
entries_behind count [] = count
entries_behind count (kept ∷ more) = entries_behind (one_more count) more
