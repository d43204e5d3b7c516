-- What a session asks for: a list of the four words, in any order, each any number of times.
use Rattle.std.specs.Prelude.{Bool, ◌||◌, List, Ok, Err, codes, if◌then◌else◌}
use Rattle.std.specs.Option.{ok_or}
use Rattle.std.specs.List.{list_all, list_any}
use Rattle.serde_json.specs.Data.{Data}
use Rattle.serde_json.specs.Find.{as_array}
use Rattle.bayou_base.specs.declared.asks.Asks.{Asks}
use Rattle.bayou_text.specs.declared.line.LineFault.TheVariants.{BadShape}
use Rattle.bayou_text.specs.declared.line.Shape.TheVariants.{Form, Word}
use Rattle.bayou_text.specs.Reading.{Parsed, ◌>>=◌, listed, says}

-- one of the four words
abbrev pub is_ask : Data → Bool
is_ask d = says (codes "ryw") d || says (codes "mr") d || says (codes "wfr") d || says (codes "mw") d

-- a guarantee is asked for where its word is there
abbrev pub asked : List Data → Asks
asked ds = record {
  ryw = list_any (says (codes "ryw")) ds;
  mr = list_any (says (codes "mr")) ds;
  wfr = list_any (says (codes "wfr")) ds;
  mw = list_any (says (codes "mw")) ds;
}

abbrev pub asks_of : List Data → Parsed Asks
asks_of ds = if list_all is_ask ds then Ok (asked ds) else Err (BadShape Word)

abbrev pub asks_in : Data → Parsed Asks
asks_in d = ok_or (as_array d) (BadShape Form) >>= λ items. asks_of (listed items)
