use Rattle.std.proofs.Common.{◌≡◌, ◌∷◌, map, take}
use Rattle.serde_json.specs.Data.{string}
use Rattle.serde_json.specs.View.{view}
use Rattle.bayou_text.specs.Spelling.{count_json}
use Rattle.bayou_text_writer.proofs.write.numbers.numbers_json.Given as goal

-- the word and the numbers so far are spelled
abbrev pub invariant-loop-number : goal.invariant-loop-number
invariant-loop-number l = map view l.list.items ≡ string l.word ∷ map count_json (take l.number-index l.numbers)
