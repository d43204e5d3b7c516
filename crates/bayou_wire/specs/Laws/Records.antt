-- Laws of records in their spelling.
use Rattle.std.proofs.Common.{◌≡◌, ℕ, ◌+◌, ◌<◌, ◌≤◌, cond, List, [], ◌∷◌, ◌++◌, length, length-append, take, drop, replicate, take-append-drop, Option, None, Some, Result, Ok, refl, sym, ap, subst, ◌∙◌, arith}
use Rattle.std.specs.Prelude.{◌==◌, IfSome, IsTrue}
use Rattle.std.proofs.Math.Seq.{drop-append_seam}
use Rattle.std.proofs.lemmas.Option.{none-some, same_Some}
use Rattle.std.proofs.lemmas.List.{length-replicate, length-take-le, take_at}
use Rattle.bayou_base.specs.declared.limits.TheConstants.{MAX_WRITE_BYTES, OLD_SERVERS}
use Rattle.bayou_base.specs.declared.tag.Tag.{Tag}
use Rattle.bayou_lang.specs.Ranges.{IsWrite}
use Rattle.bayou_lang.specs.declared.write.Write.{Write}
use Rattle.bayou_wire.specs.declared.fault.DecodeFault.{DecodeFault}
use Rattle.bayou_wire.specs.declared.layout.TheConstants as layout
use Rattle.bayou_wire.specs.declared.layout.TheConstants.{OLD_HEAD_BYTES, OLD_LACKED_BYTES, TAG_BYTES}
use Rattle.bayou_wire.specs.declared.record.Form.{Form}
use Rattle.bayou_wire.specs.declared.record.Form.TheVariants.{Plain, Tagged, Wide}
use Rattle.bayou_wire.specs.declared.record.Record.{Record}
use Rattle.bayou_wire.specs.Inner.Reading.{SpellsIn, made, head_at, tag_at, tagged_head_at}
use Rattle.bayou_wire.specs.Laws.Inner.Formats.{IsBytes, IsFormat, case_takes, made_again, tag_format}
use Rattle.bayou_wire.specs.Laws.Inner.Fronts.{one_write_answer}
use Rattle.bayou_wire.specs.Laws.Inner.Payloads.{bare_takes, link}
use Rattle.bayou_wire.specs.Laws.Inner.Sizes.{written_size, write_size_least}
use Rattle.bayou_wire.specs.Records.{SpellsOld, SpellsRecord, is_old_program, record_head, widened}
use Rattle.bayou_wire.specs.Spelling.{IsTag, SpellsWrite}

-- ---- what stands before the Write

abbrev IsHead : Option Tag → Type 0
IsHead tag = IfSome tag IsTag

tagged_head_format : IsFormat IsHead record_head tagged_head_at
unfolding tagged_head_at
tagged_head_format = record { takes = takes; again = again }
  where
    takes : (bytes : List ℕ) (x : Option Tag × List ℕ) → IsBytes bytes → tagged_head_at bytes ≡ Some x → IsHead x.0 × (bytes ≡ record_head x.0 ++ x.1)
    takes [] x fits e = absurd (none-some x e)
    takes (first ∷ bytes) x fits e =
        link first layout.RECORD_OTHERS (Some (None, bytes)) (cond (first == layout.RECORD_OWN) (made (λ tag. Some tag) tag_at bytes) None) x e
        (λ same here. bare_takes IsHead record_head layout.RECORD_OTHERS None tt refl first bytes x same here)
        (λ there. link first layout.RECORD_OWN (made (λ tag. Some tag) tag_at bytes) None x there
        (λ same here. case_takes IsHead record_head layout.RECORD_OWN (λ tag. Some tag) tag_format (λ y is. is) (λ y. refl) first bytes x fits same here)
        (λ none. absurd (none-some x none)))

    again : (tag : Option Tag) (rest : List ℕ) → IsHead tag → tagged_head_at (record_head tag ++ rest) ≡ Some (tag, rest)
    again None rest is = refl
    again (Some tag) rest is = made_again (λ tag. Some tag) tag_format tag rest is

-- ---- Writes of the first two forms

one_write : (bytes : List ℕ) (a b : Write) → SpellsWrite bytes a → SpellsWrite bytes b → a ≡ b
one_write bytes a b is other =
    let one : Result Write DecodeFault = Ok a in
    let two : Result Write DecodeFault = Ok b in
    let same : one ≡ two = one_write_answer bytes one two is other in
    cc

-- the bytes of a widened one are those that it has, and those that it lacks
length-widened : (bytes : List ℕ) → length (widened bytes) ≡ OLD_LACKED_BYTES + length bytes
length-widened bytes =
    let front = take OLD_HEAD_BYTES bytes in
    let zeros : List ℕ = replicate OLD_LACKED_BYTES 0 in
    let back = drop OLD_HEAD_BYTES bytes in
    let parts : length front + length back ≡ length bytes = sym (length-append front back) ∙ ap length (take-append-drop OLD_HEAD_BYTES bytes) in
    omega (arith, parts, length-append front (zeros ++ back), length-append zeros back, length-replicate {A = ℕ} OLD_LACKED_BYTES 0)

-- a Write has what stands before its program, and a byte for each of three lists
old_size : (bytes : List ℕ) (write : Write) → SpellsOld bytes write → OLD_HEAD_BYTES < length bytes
old_size bytes write old = omega (arith, length-widened bytes, ap length old.wide.spelled, write_size_least write)

-- and no more bytes than one with all counts
old_fits : (bytes : List ℕ) (write : Write) → SpellsOld bytes write → length bytes ≤ MAX_WRITE_BYTES
old_fits bytes write old = omega (arith, length-widened bytes, (written_size (widened bytes) write old.wide.is old.wide.spelled).1)

drop_at : (front back : List ℕ) (n : ℕ) → length front ≡ n → drop n (front ++ back) ≡ back
drop_at front back n is = ap (λ size. drop size (front ++ back)) (sym is) ∙ drop-append_seam front back

-- where nothing but counts of zero is put in, bytes are widened in one way
widened_once : (a b : List ℕ) → OLD_HEAD_BYTES ≤ length a → OLD_HEAD_BYTES ≤ length b → widened a ≡ widened b → a ≡ b
widened_once a b of_a of_b same =
    sym (take-append-drop OLD_HEAD_BYTES a) ∙ ap (λ front. front ++ drop OLD_HEAD_BYTES a) heads ∙ ap (λ back. take OLD_HEAD_BYTES b ++ back) tails
    ∙ take-append-drop OLD_HEAD_BYTES b
  where
    zeros : List ℕ
    zeros = replicate OLD_LACKED_BYTES 0

    head_of : (bytes : List ℕ) → OLD_HEAD_BYTES ≤ length bytes → take OLD_HEAD_BYTES (widened bytes) ≡ take OLD_HEAD_BYTES bytes
    head_of bytes long = take_at (take OLD_HEAD_BYTES bytes) (zeros ++ drop OLD_HEAD_BYTES bytes) OLD_HEAD_BYTES (length-take-le OLD_HEAD_BYTES bytes long)

    tail_of : (bytes : List ℕ) → OLD_HEAD_BYTES ≤ length bytes → drop OLD_LACKED_BYTES (drop OLD_HEAD_BYTES (widened bytes)) ≡ drop OLD_HEAD_BYTES bytes
    tail_of bytes long =
        ap (drop OLD_LACKED_BYTES) (drop_at (take OLD_HEAD_BYTES bytes) (zeros ++ drop OLD_HEAD_BYTES bytes) OLD_HEAD_BYTES (length-take-le OLD_HEAD_BYTES bytes long))
        ∙ drop_at zeros (drop OLD_HEAD_BYTES bytes) OLD_LACKED_BYTES (length-replicate {A = ℕ} OLD_LACKED_BYTES 0)

    heads : take OLD_HEAD_BYTES a ≡ take OLD_HEAD_BYTES b
    heads = sym (head_of a of_a) ∙ ap (take OLD_HEAD_BYTES) same ∙ head_of b of_b

    tails : drop OLD_HEAD_BYTES a ≡ drop OLD_HEAD_BYTES b
    tails = sym (tail_of a of_a) ∙ ap (λ bytes. drop OLD_LACKED_BYTES (drop OLD_HEAD_BYTES bytes)) same ∙ tail_of b of_b

-- and a Write has one spelling with the old counts
old_once : (a b : List ℕ) (write : Write) → SpellsOld a write → SpellsOld b write → a ≡ b
old_once a b write is other =
    widened_once a b (omega (arith, old_size a write is)) (omega (arith, old_size b write other)) (is.wide.spelled ∙ sym other.wide.spelled)

-- where the Write that is read isn't one of the first two forms, none is
pub no_old_write : (bytes : List ℕ) (write : Write) → SpellsWrite (widened bytes) write
    → ¬ ((write.wid.origin.index < OLD_SERVERS) × IsTrue (is_old_program write.program)) → (other : Write) → SpellsOld bytes other → ⊥
no_old_write bytes write spells not_old other old =
    not_old (subst (λ (w : Write). (w.wid.origin.index < OLD_SERVERS) × IsTrue (is_old_program w.program)) (one_write (widened bytes) other write old.wide spells)
    (old.origin, old.conditions))

-- ---- records

-- a head and a Write are read of a record
read_of : (form : Form) (bytes : List ℕ) (given : Record) → SpellsRecord form bytes given
    → (rest : List ℕ) × (head_at form bytes ≡ Some (given.tag, rest)) × SpellsIn form rest given.write
read_of Plain bytes given spells = (bytes, ap (λ tag. Some (tag, bytes)) (sym spells.0), spells.1)
read_of Tagged bytes given spells = (spells.1.0, ap tagged_head_at spells.1.1 ∙ tagged_head_format.again given.tag spells.1.0 spells.0, spells.1.2)
read_of Wide bytes given spells = (spells.1.0, ap tagged_head_at spells.1.1 ∙ tagged_head_format.again given.tag spells.1.0 spells.0, spells.1.2)

-- and where they are read, there is the record of them
pub spelled_by : (form : Form) (bytes rest : List ℕ) (tag : Option Tag) (write : Write) → IsBytes bytes → head_at form bytes ≡ Some (tag, rest) → SpellsIn form rest write
    → SpellsRecord form bytes (record { write = write; tag = tag })
spelled_by Plain bytes rest tag write fits head spells =
    let same : (None, bytes) ≡ (tag, rest) = same_Some (None, bytes) (tag, rest) head in
    (sym (ap (λ (p : Option Tag × List ℕ). p.0) same), subst (λ front. SpellsOld front write) (sym (ap (λ (p : Option Tag × List ℕ). p.1) same)) spells)
spelled_by Tagged bytes rest tag write fits head spells =
    let takes = tagged_head_format.takes bytes (tag, rest) fits head in
    (takes.0, (rest, takes.1, spells))
spelled_by Wide bytes rest tag write fits head spells =
    let takes = tagged_head_format.takes bytes (tag, rest) fits head in
    (takes.0, (rest, takes.1, spells))

-- without a head there is no record
pub no_head : (form : Form) (bytes : List ℕ) → head_at form bytes ≡ None → (given : Record) → SpellsRecord form bytes given → ⊥
no_head form bytes none given spells =
    let read = read_of form bytes given spells in
    none-some (given.tag, read.0) (sym none ∙ read.1)

-- and without a Write after it
pub no_write : (form : Form) (bytes rest : List ℕ) (tag : Option Tag) → head_at form bytes ≡ Some (tag, rest) → ((write : Write) → SpellsIn form rest write → ⊥)
    → (given : Record) → SpellsRecord form bytes given → ⊥
no_write form bytes rest tag head none given spells =
    let read = read_of form bytes given spells in
    let same : (tag, rest) ≡ (given.tag, read.0) = same_Some (tag, rest) (given.tag, read.0) (sym head ∙ read.1) in
    none given.write (subst (λ front. SpellsIn form front given.write) (sym (ap (λ (p : Option Tag × List ℕ). p.1) same)) read.2)

one_write_in : (form : Form) (bytes : List ℕ) (a b : Write) → SpellsIn form bytes a → SpellsIn form bytes b → a ≡ b
one_write_in Plain bytes a b is other = one_write (widened bytes) a b is.wide other.wide
one_write_in Tagged bytes a b is other = one_write (widened bytes) a b is.wide other.wide
one_write_in Wide bytes a b is other = one_write bytes a b is other

-- bytes spell one record in a form
pub one_record : (form : Form) (bytes : List ℕ) (a b : Record) → SpellsRecord form bytes a → SpellsRecord form bytes b → a ≡ b
one_record form bytes a b is other =
    let one = read_of form bytes a is in
    let two = read_of form bytes b other in
    let same : (a.tag, one.0) ≡ (b.tag, two.0) = same_Some (a.tag, one.0) (b.tag, two.0) (sym one.1 ∙ two.1) in
    let tags : a.tag ≡ b.tag = ap (λ (p : Option Tag × List ℕ). p.0) same in
    let rests : one.0 ≡ two.0 = ap (λ (p : Option Tag × List ℕ). p.1) same in
    let made : Write → Option Tag → Record = λ write tag. record { write = write; tag = tag } in
    ap (λ write. made write a.tag) (one_write_in form two.0 a.write b.write (subst (λ front. SpellsIn form front a.write) rests one.2) two.2) ∙ ap (made b.write) tags

head_size : (tag : Option Tag) → (0 < length (record_head tag)) × (length (record_head tag) ≤ 1 + TAG_BYTES)
head_size None = (omega arith, omega arith)
head_size (Some tag) = (omega arith, omega arith)

-- it has a byte, and no more than the longest Write and a tag
pub record_size : (form : Form) (bytes : List ℕ) (given : Record) → SpellsRecord form bytes given → (0 < length bytes) × (length bytes ≤ 1 + TAG_BYTES + MAX_WRITE_BYTES)
record_size Plain bytes given spells =
    (omega (arith, old_size bytes given.write spells.1), omega (arith, old_fits bytes given.write spells.1))
record_size Tagged bytes given spells =
    let rest = spells.1.0 in
    let whole = ap length spells.1.1 ∙ length-append (record_head given.tag) rest in
    (omega (arith, old_size rest given.write spells.1.2, whole), omega (arith, old_fits rest given.write spells.1.2, whole, head_size given.tag))
record_size Wide bytes given spells =
    let rest = spells.1.0 in
    let size = written_size rest given.write spells.1.2.is spells.1.2.spelled in
    let whole = ap length spells.1.1 ∙ length-append (record_head given.tag) rest in
    (omega (arith, size.0, whole), omega (arith, size.1, whole, head_size given.tag))

-- the Write of a record has a spelling
pub record_is : (form : Form) (bytes : List ℕ) (given : Record) → SpellsRecord form bytes given → IsWrite given.write
record_is Plain bytes given spells = spells.1.wide.is
record_is Tagged bytes given spells = spells.1.2.wide.is
record_is Wide bytes given spells = spells.1.2.is

-- a record has one spelling in a form
pub one_spelling : (form : Form) (a b : List ℕ) (given : Record) → SpellsRecord form a given → SpellsRecord form b given → a ≡ b
one_spelling Plain a b given is other = old_once a b given.write is.1 other.1
one_spelling Tagged a b given is other = is.1.1 ∙ ap (λ rest. record_head given.tag ++ rest) (old_once is.1.0 other.1.0 given.write is.1.2 other.1.2) ∙ sym other.1.1
one_spelling Wide a b given is other =
    is.1.1 ∙ ap (λ rest. record_head given.tag ++ rest) (is.1.2.spelled ∙ sym other.1.2.spelled) ∙ sym other.1.1
