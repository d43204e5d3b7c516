-- The text of what is spelled.
use Rattle.std.proofs.Common.{◌≡◌, ◌≤◌, false, nat_lt, length, Result, Ok, Err, IfOk, OnOk, Some, String, Global, string_bytes, cond, ap, sym, ◌∙◌, arith, tests}
use Rattle.serde_json.specs.Data.{Data, depth}
use Rattle.serde_json.specs.Read.{read, max_depth}
use Rattle.serde_json.specs.Written.{has_float, compact_text}
use Rattle.std.specs.declared.alloc.AllocError.{AllocError}
use Rattle.bayou_text_writer.proofs.Spelled.{line_plain}
use Rattle.bayou_base.specs.declared.limits.TheConstants.{MAX_LINE_BYTES}
use Rattle.bayou_text_writer.proofs.Again.{line_again}
use Rattle.bayou_text_writer.proofs.Lengths.{line_size}
use Rattle.bayou_text.specs.declared.line.Line.{Line}
use Rattle.bayou_text.specs.declared.line.LineFault.TheVariants.{BadShape}
use Rattle.bayou_text.specs.declared.line.Shape.TheVariants.{Line as TooLong}
use Rattle.bayou_text.specs.Lines.{line_of, text_line}
use Rattle.bayou_text.specs.Table.{Spells}
use Rattle.bayou_text.specs.Laws.Lines.{spells_from_line}
use Rattle.std.proofs.lemmas.Str.{IsUtf8-string_bytes}
use Rattle.bayou_text.specs.Ranges.{IsReadable}
use Rattle.bayou_text_writer.specs.Inner.Kept.{IsLine}
use Rattle.bayou_text.specs.Said.{Said, said}
use Rattle.bayou_text.specs.Spelling.{line_json}

-- what was written is the spelling
pub text_of_line : (r : Result (String Global) AllocError) (d : Data) (s : Said) → d ≡ line_json s
    → IfOk r (λ text. has_float d ≡ false → string_bytes text ≡ compact_text d)
    → IfOk r (λ text. string_bytes text ≡ compact_text (line_json s))
text_of_line (Ok text) d s same given = given (ap has_float same ∙ (line_plain s).no_float)
    ∙ ap compact_text same
text_of_line (Err e) d s same given = tt

pub line_short : (r : Result (String Global) AllocError) (l : Line) → OnOk r (IsLine l)
    → IfOk r (λ text. string_bytes text ≡ compact_text (line_json (said l)))
    → IfOk r (λ text. length (string_bytes text) ≤ MAX_LINE_BYTES)
line_short (Ok text) l kept spelled = rw spelled (line_size l kept)
line_short (Err e) l kept spelled = tt

-- and is read as it
pub text_read : (r : Result (String Global) AllocError) (d : Data) (s : Said) → d ≡ line_json s
    → IfOk r (λ text. depth d ≤ max_depth → read (string_bytes text) ≡ Some d)
    → IfOk r (λ text. read (string_bytes text) ≡ Some (line_json s))
text_read (Ok text) d s same given =
    let shallow : depth (line_json s) ≤ max_depth = omega (arith, (line_plain s).no_deeper) in
    given (rw same shallow) ∙ ap Some same
text_read (Err e) d s same given = tt

pub line_read : (r : Result (String Global) AllocError) (l : Line) → OnOk r (IsLine l)
    → IfOk r (λ text. length (string_bytes text) ≤ MAX_LINE_BYTES)
    → IfOk r (λ text. read (string_bytes text) ≡ Some (line_json (said l)))
    → IfOk r (λ text. IsReadable (said l) → line_of (string_bytes text) ≡ Ok (said l))
line_read (Ok text) l kept short given = λ readable.
    let in_time : nat_lt MAX_LINE_BYTES (length (string_bytes text)) ≡ false = grind (arith, tests, short) in
    rw (in_time, given) (line_again l kept readable)
line_read (Err e) l kept short given = tt

-- what is read as the line spells it
pub line_spelled : (r : Result (String Global) AllocError) (l : Line)
    → IfOk r (λ text. length (string_bytes text) ≤ MAX_LINE_BYTES)
    → IfOk r (λ text. IsReadable (said l) → line_of (string_bytes text) ≡ Ok (said l))
    → IfOk r (λ text. IsReadable (said l) → Spells (string_bytes text) (said l))
line_spelled (Ok text) l short again = λ readable.
    let bytes = string_bytes text in
    let in_time : nat_lt MAX_LINE_BYTES (length bytes) ≡ false = grind (arith, tests, short) in
    spells_from_line bytes (said l) short (IsUtf8-string_bytes text)
    (ap (λ late. cond late (Err (BadShape TooLong)) (text_line bytes)) (sym in_time) ∙ again readable)
line_spelled (Err e) l short again = tt
