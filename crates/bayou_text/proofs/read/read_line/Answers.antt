use Rattle.std.proofs.Common.{List, ℕ, Ok, inr, subst, arith, refl}
use Rattle.bayou_text.specs.Laws.Inner.LineTable.{line_from_spells as text_from_spells}
use Rattle.bayou_text.specs.Lines.{text_line, IsLegible, too_long, no_text}
use Rattle.bayou_text.specs.Reading.{Gives}
use Rattle.bayou_text.specs.Said.{said}
use Rattle.bayou_text.proofs.Faults.{refusal_from_gives, exact_from_gives, spells_from_gives, gives_what_is_spelled}
use Rattle.bayou_text.proofs.read.read_line.Goals as goal

pub returns-then-bytes-gt-MAX_LINE_BYTES-clause-only : goal.returns-then-bytes-gt-MAX_LINE_BYTES-clause-only
returns-then-bytes-gt-MAX_LINE_BYTES-clause-only c = λ s spells. absurd (omega (arith, spells.in_length))

pub returns-then-bytes-gt-MAX_LINE_BYTES-clause-fault : goal.returns-then-bytes-gt-MAX_LINE_BYTES-clause-fault
returns-then-bytes-gt-MAX_LINE_BYTES-clause-fault c = inr (too_long (omega arith) refl)

pub returns-in-Err-clause-only : goal.returns-in-Err-clause-only
returns-in-Err-clause-only c = λ s spells. absurd (c.in-Err.ensures.cases.0 spells.utf8)

pub returns-in-Err-clause-fault : goal.returns-in-Err-clause-fault
returns-in-Err-clause-fault c = inr (no_text (omega arith) c.in-Err.ensures.cases.0 refl)

pub returns-in-Ok : goal.returns-in-Ok
returns-in-Ok c =
    let bytes = c.args.bytes.now in
    let seen = c.in-Ok.ensures.cases in
    let text : IsLegible bytes = (omega arith, seen.1) in
    let given = subst (λ (text : List ℕ). Gives said c.read_text.result
    (text_line text)) seen.0 c.read_text.ensures in
    record {
      found = spells_from_gives bytes c.read_text.result text given;
      only = gives_what_is_spelled bytes c.read_text.result given;
      exact = exact_from_gives bytes c.read_text.result text given;
      fault = refusal_from_gives bytes c.read_text.result text given;
    }

pub returns-in-Some : goal.returns-in-Some
returns-in-Some c =
    let bytes = c.args.bytes.now in
    let line = c.in-Some.line in
    let spells = c.in-Some.ensures in
    let given : Gives said (Ok line) (text_line bytes) = text_from_spells bytes (said line) spells in
    record {
      found = spells;
      only = gives_what_is_spelled bytes (Ok line) given;
      exact = exact_from_gives bytes (Ok line) (spells.in_length, spells.utf8) given;
      fault = tt;
    }
