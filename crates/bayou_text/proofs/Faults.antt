-- What a reader that takes memory answers, seen as what bytes say, or as their fault.
use Rattle.std.proofs.Common.{◌≡◌, ℕ, inl, inr, List, length, Ok, Err, IfOk, IfErr, nat_lt, false, refl, sym, ◌∙◌, arith, tests}
use Rattle.bayou_base.specs.declared.limits.TheConstants.{MAX_LINE_BYTES}
use Rattle.bayou_text.specs.Laws.Inner.LineTable.{spells_from_line, line_from_spells}
use Rattle.bayou_text.specs.declared.line.Line.{Line}
use Rattle.bayou_text.specs.declared.line.LineFault.{LineFault}
use Rattle.bayou_text.specs.declared.line.LineFault.TheVariants as fault
use Rattle.bayou_text.specs.Lines.{text_line, line_of, IsLegible, no_line, IsRefusalOf}
use Rattle.bayou_text.specs.Reading.{Parsed, ◌>>=◌, Gives, Fails}
use Rattle.bayou_text.specs.Said.{Said, said}
use Rattle.bayou_text.specs.Table.{Spells}

-- what fails first is the fault of all
pub first_fault : {A : Type 0} (e : LineFault) (read : Parsed A) → read ≡ Err e → Fails e read
first_fault fault.OutOfMemory read is = tt
first_fault fault.NotJson read is = is
first_fault (fault.BadShape what) read is = is
first_fault (fault.Key why) read is = is
first_fault (fault.Program why) read is = is

pub later_fault : {A B : Type 0} (e : LineFault) (read : Parsed A) (f : A → Parsed B) → Fails e read
    → Fails e (read >>= f)
later_fault fault.OutOfMemory read f given = tt
later_fault fault.NotJson read f given = rw given refl
later_fault (fault.BadShape what) read f given = rw given refl
later_fault (fault.Key why) read f given = rw given refl
later_fault (fault.Program why) read f given = rw given refl

-- what takes no memory gives what it answers
pub gives_itself : {A : Type 0} (r read : Parsed A) → r ≡ read → Gives (λ (x : A). x) r read
gives_itself (Ok x) read is = sym is
gives_itself (Err e) read is = first_fault e read (sym is)

fault_given : (bytes : List ℕ) (e : LineFault) → IsLegible bytes → Fails e (text_line bytes) → IsRefusalOf bytes e
fault_given bytes fault.OutOfMemory text given = inl (refl, text)
fault_given bytes fault.NotJson text given = inr (no_line text given)
fault_given bytes (fault.BadShape what) text given = inr (no_line text given)
fault_given bytes (fault.Key why) text given = inr (no_line text given)
fault_given bytes (fault.Program why) text given = inr (no_line text given)

pub refusal_from_gives : (bytes : List ℕ) (r : Parsed Line) → IsLegible bytes → Gives said r (text_line bytes)
    → IfErr r (IsRefusalOf bytes)
refusal_from_gives bytes (Ok line) text given = tt
refusal_from_gives bytes (Err e) text given = fault_given bytes e text given

pub spells_from_gives : (bytes : List ℕ) (r : Parsed Line) → IsLegible bytes → Gives said r (text_line bytes)
    → IfOk r (λ line. Spells bytes (said line))
spells_from_gives bytes (Ok line) text given = spells_from_line bytes (said line) text.0 text.1 given
spells_from_gives bytes (Err e) text given = tt

pub exact_from_gives : (bytes : List ℕ) (r : Parsed Line) → IsLegible bytes → Gives said r (text_line bytes)
    → IfOk r (λ line. line_of bytes ≡ Ok (said line))
exact_from_gives bytes (Ok line) text given = let in_time : nat_lt MAX_LINE_BYTES
    (length bytes) ≡ false = grind (arith, tests, text.0) in rw in_time given
exact_from_gives bytes (Err e) text given = tt

fails_alike : (e : LineFault) (read other : Parsed Said) → read ≡ other → Fails e read → Fails e other
fails_alike fault.OutOfMemory read other same given = tt
fails_alike fault.NotJson read other same given = sym same ∙ given
fails_alike (fault.BadShape what) read other same given = sym same ∙ given
fails_alike (fault.Key why) read other same given = sym same ∙ given
fails_alike (fault.Program why) read other same given = sym same ∙ given

gives_alike : (r : Parsed Line) (read other : Parsed Said) → read ≡ other → Gives said r read → Gives said r other
gives_alike (Ok line) read other same given = sym same ∙ given
gives_alike (Err e) read other same given = fails_alike e read other same given

pub gives_what_is_spelled : (bytes : List ℕ) (r : Parsed Line) → Gives said r (text_line bytes) → (s : Said)
    → Spells bytes s → Gives said r (Ok s)
gives_what_is_spelled bytes r given s spells = gives_alike r (text_line bytes) (Ok s)
    (line_from_spells bytes s spells) given
