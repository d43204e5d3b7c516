-- What the checks of dumps and of entries answer: inner words.
use Rattle.std.specs.Prelude.{◌≡◌, ℕ, ◌<◌, List, Option, Some, None, Result, Ok, Err, slice_get}
use Rattle.std.specs.Global.{Vec}
use Rattle.bayou_base.specs.declared.entry.Entry.{Entry}
use Rattle.bayou_lang.specs.declared.write.Write.{Write}
use Rattle.bayou_judge.specs.declared.verdict.BadEvidence.{BadEvidence}
use Rattle.bayou_judge.specs.declared.verdict.BadEvidence.TheVariants.{BadDump, Forged}
use Rattle.bayou_judge.specs.Evidence.{AreGenuine, AreGood, IsFirstBad, IsFirstForged, IsGoodAt}
use Rattle.bayou_judge.specs.History.{dump_of}
use Rattle.bayou_judge.specs.Inner.Index.{AreIndexed, IsIndexOf, Tables}

-- each dump has its tables where all are good; else the least place that isn't is named
abbrev pub IndexAnswer : ℕ → List (List Write) → Result (Vec Tables) BadEvidence → Type 0
IndexAnswer count dumps (Ok indexes) = AreGood count dumps × AreIndexed dumps indexes.items
IndexAnswer count dumps (Err (BadDump server at)) = IsFirstBad count dumps server.index at
IndexAnswer count dumps (Err (Forged at)) = ⊥

-- the first entry that isn't genuine, if there is one
abbrev pub ForgedAnswer : ℕ → List (List Write) → List Entry → Option ℕ → Type 0
ForgedAnswer count dumps entries None = AreGenuine count dumps entries
ForgedAnswer count dumps entries (Some at) = IsFirstForged count dumps entries at

-- so many servers' dumps were read: each Write of each of them is good, and each has its tables
pub record AreRead (count : ℕ) (dumps : List (List Write)) (servers : ℕ) (indexes : List Tables) : Type 0 where
  pub good : (other place : ℕ) → other < servers → IsGoodAt count dumps other place
  pub each : (other : ℕ) (tables : Tables) → slice_get indexes other ≡ Some tables → IsIndexOf (dump_of dumps other) tables

-- the server's dump has its tables where each Write of it is good; else the least place that isn't is named
abbrev pub DumpAnswer : ℕ → List (List Write) → ℕ → Result Tables BadEvidence → Type 0
DumpAnswer count dumps server (Ok tables) = ((place : ℕ) → IsGoodAt count dumps server place) × IsIndexOf (dump_of dumps server) tables
DumpAnswer count dumps server (Err (BadDump bad at)) = IsFirstBad count dumps bad.index at
DumpAnswer count dumps server (Err (Forged at)) = ⊥
