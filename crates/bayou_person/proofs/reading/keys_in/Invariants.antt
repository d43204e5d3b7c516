use Rattle.std.proofs.Common.{◌≡◌, All, map, take}
use Rattle.bayou_lang.specs.Ranges.{IsKey}
use Rattle.bayou_person.proofs.reading.keys_in.Given as goal

-- those so far
abbrev pub invariant-loop-word : goal.invariant-loop-word
invariant-loop-word l = (l.keys.items ≡ map (λ word. word.now) (take l.word-index l.words)) × All IsKey l.keys.items
