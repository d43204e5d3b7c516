-- What a server answers to whoever asks for rows of its database, or for what became of a Write. It compares the need with what it holds, as it
-- serves (Terry et al. 1994).
use Rattle.std.specs.Prelude.{◌≡◌, ◌+◌, ◌<◌, ◌↔◌, ℕ, IsTrue, List, Option, None, Some, Result, Ok, Err, length, min, take}
use Rattle.bayou_base.specs.declared.wid.Wid.{Wid}
use Rattle.bayou_base.specs.Vector.{Dominates}
use Rattle.bayou_lang.specs.declared.eval.Outcome.{Outcome}
use Rattle.bayou_lang.specs.declared.eval.Outcome.TheVariants as outcomes
use Rattle.bayou_lang.specs.Writes.{count_of}
use Rattle.bayou_log.specs.declared.listing.Listed.{Listed}
use Rattle.bayou_log.specs.Listing.{TellsOf, listing_of}
use Rattle.bayou_log.specs.Replay.{replay}
use Rattle.bayou_log.specs.Rows.{rows_after}
use Rattle.bayou_server.specs.declared.answer.Told.{Told}
use Rattle.bayou_server.specs.declared.fault.Behind.{Behind}
use Rattle.bayou_server.specs.Reads.{IsBehind}
use Rattle.bayou_server.specs.Server.{Core}
use Rattle.bayou_wire.specs.declared.layout.TheConstants.{ROWS_AT_ONCE}
use Rattle.bayou_wire.specs.declared.lookup.Became.{Became}
use Rattle.bayou_wire.specs.declared.lookup.Became.TheVariants as became
use Rattle.bayou_wire.specs.declared.lookup.Fate.{Fate}
use Rattle.bayou_wire.specs.declared.lookup.Page.{Page}
use Rattle.bayou_wire.specs.declared.lookup.Placed.{Placed}

-- the rows are listed: the first of those that the Writes held make and that are asked for, as many as are listed at once or are asked for; whether
-- one is left after them; and what was held
pub record TellsRows (core : Core) (need prefix : List ℕ) (after : Option (List ℕ)) (most : ℕ) (page : Page) : Type 0 where
  pub covered : Dominates (count_of core.held) need
  pub rows : page.rows.items ≡ take (min most ROWS_AT_ONCE) (rows_after prefix after (replay core.held))
  pub more : IsTrue page.more ↔ (min most ROWS_AT_ONCE < length (rows_after prefix after (replay core.held)))
  pub vector : page.vector ≡ count_of core.held

-- a request for rows and its answer; the server is as it was
abbrev pub Lists : Core → (need prefix : List ℕ) → (after : Option (List ℕ)) → (most : ℕ) → Result Page Behind → Type 0
Lists core need prefix after most (Ok page) = TellsRows core need prefix after most page
Lists core need prefix after most (Err behind) = IsBehind core need behind.vector

-- what became of the Write is reported: what the listing of the Writes held tells of its name; and what was held
pub record TellsFate (core : Core) (need : List ℕ) (name : Wid) (told : Told) : Type 0 where
  pub covered : Dominates (count_of core.held) need
  pub listed : TellsOf (listing_of core.held) name told.listed
  pub vector : told.vector ≡ count_of core.held

-- a request for what became of a Write, and its answer; the server is as it was
abbrev pub AsksAfter : Core → (need : List ℕ) → (name : Wid) → Result Told Behind → Type 0
AsksAfter core need name (Ok told) = TellsFate core need name told
AsksAfter core need name (Err behind) = IsBehind core need behind.vector

-- ---- what is said over a channel

-- how a Write was applied: the alternatives are counted from 1 on, up to the last that a byte has
abbrev pub became_of : Outcome → Became
became_of outcomes.Updated = became.Updated
became_of (outcomes.Merged number) = became.Merged (min (number + 1) 255)
became_of outcomes.Nothing = became.Nothing

abbrev pub placed_of : Option Listed → Option Placed
placed_of None = None
placed_of (Some listed) = Some (record { became = became_of listed.outcome; clock = listed.stamp.clock })

abbrev pub fate_of : Told → Fate
fate_of told = record { vector = told.vector; placed = placed_of told.listed }
