-- Lines that are cut off a text as it comes.
use Rattle.std.proofs.Common.{◌≡◌, ◌+◌, ◌<◌, ◌==◌, ◌∙◌, ℕ, zero, suc, Bool, true, false, List, [], ◌∷◌, ◌++◌, length, ap, refl, sym, subst, arith, append_assoc, append-nil, length-append, get_or, take, drop, take-append-drop}
use Rattle.std.proofs.lemmas.Bool.{eqb-true}
use Rattle.std.proofs.lemmas.List.{take_more}
use Rattle.std.proofs.lemmas.List.Splits.{slice_split-cons_no}
use Rattle.std.specs.List.{onto_first}
use Rattle.bayou_base.specs.declared.limits.TheConstants.{MAX_LINE_BYTES}
use Rattle.bayou_text.specs.declared.line.LineFault.TheVariants as faults
use Rattle.bayou_text.specs.declared.line.Shape.TheVariants as shape
use Rattle.bayou_text.specs.Lines.{too_long}
use Rattle.bayou_text.specs.Said.{Said}
use Rattle.bayou_script.specs.declared.fault.InputRefusal.{InputRefusal}
use Rattle.bayou_script.specs.declared.fault.InputRefusal.TheVariants.{Line, OutOfMemory}
use Rattle.bayou_script.specs.declared.fault.ScriptFault.TheVariants.{BadShape}
use Rattle.bayou_script.specs.Inner.Taking.{FaultAt, HasNoLineFeed}
use Rattle.bayou_script.specs.Order.{HasFault, InOrderBy, Order, RefusedBy, at_line, in_itself, lines_of}
use Rattle.bayou_script.specs.Reading.{IsRefusedSoFar, begun_by}

-- whatever follows, the text has these lines, and one that has come so far
abbrev pub Cuts : List ℕ → List (List ℕ) → List ℕ → Type 0
Cuts bytes ended line = (more : List ℕ) → lines_of (bytes ++ more) ≡ ended ++ begun_by line (lines_of more)

begun_nil : (bytes : List ℕ) (lines : List (List ℕ)) → begun_by bytes ([] ∷ lines) ≡ bytes ∷ lines
begun_nil [] lines = refl
begun_nil (byte ∷ bytes) lines = ap (onto_first byte) (begun_nil bytes lines)

begun_push : (bytes : List ℕ) (byte : ℕ) (lines : List (List ℕ)) → begun_by (bytes ++ byte ∷ []) lines ≡ begun_by bytes (onto_first byte lines)
begun_push [] byte lines = refl
begun_push (first ∷ bytes) byte lines = ap (onto_first first) (begun_push bytes byte lines)

begun_is : (byte : ℕ) (bytes : List ℕ) (lines : List (List ℕ))
    → (end : List ℕ) × (others : List (List ℕ)) × (begun_by (byte ∷ bytes) lines ≡ ((byte ∷ bytes) ++ end) ∷ others)
begun_is byte [] [] = ([], [], refl)
begun_is byte [] (first ∷ others) = (first, others, refl)
begun_is byte (next ∷ bytes) lines = let (end, others, is) = begun_is next bytes lines in (end, others, ap (onto_first byte) is)

begun_long : (bytes : List ℕ) (lines : List (List ℕ)) → 0 < length bytes → (end : List ℕ) × (others : List (List ℕ)) × (begun_by bytes lines ≡ (bytes ++ end) ∷ others)
begun_long [] lines some = absurd (omega arith)
begun_long (byte ∷ bytes) lines some = begun_is byte bytes lines

-- nothing has come
pub Cuts-start : (line : List ℕ) → line ≡ [] → Cuts [] [] line
Cuts-start line none = λ more. sym (ap (λ l. begun_by l (lines_of more)) none)

-- a line feed ends the line
ends_there : (bytes : List ℕ) (ended : List (List ℕ)) (line more : List ℕ) → Cuts bytes ended line
    → lines_of ((bytes ++ 10 ∷ []) ++ more) ≡ ended ++ line ∷ lines_of more
ends_there bytes ended line more cut =
    ap lines_of (append_assoc bytes (10 ∷ []) more) ∙ cut (10 ∷ more) ∙ ap (λ (l : List (List ℕ)). ended ++ l) (begun_nil line (lines_of more))

pub Cuts-end : (bytes : List ℕ) (ended : List (List ℕ)) (line : List ℕ) → Cuts bytes ended line → Cuts (bytes ++ 10 ∷ []) (ended ++ line ∷ []) []
Cuts-end bytes ended line cut = λ more. ends_there bytes ended line more cut ∙ sym (append_assoc ended (line ∷ []) (lines_of more))

-- another byte goes on with it
Cuts-more : (bytes : List ℕ) (ended : List (List ℕ)) (line : List ℕ) (byte : ℕ) → (byte == 10) ≡ false → Cuts bytes ended line
    → Cuts (bytes ++ byte ∷ []) ended (line ++ byte ∷ [])
Cuts-more bytes ended line byte other cut = λ more.
    ap lines_of (append_assoc bytes (byte ∷ []) more) ∙ cut (byte ∷ more)
    ∙ ap (λ (l : List (List ℕ)). ended ++ begun_by line l) (slice_split-cons_no (λ b. b == 10) byte more other)
    ∙ ap (λ (l : List (List ℕ)). ended ++ l) (sym (begun_push line byte (lines_of more)))

-- at the end of the text, the line that has come is the last
pub Cuts-all : (bytes : List ℕ) (ended : List (List ℕ)) (line : List ℕ) → Cuts bytes ended line → lines_of bytes ≡ ended ++ line ∷ []
Cuts-all bytes ended line cut =
    ap lines_of (sym (append-nil bytes)) ∙ cut [] ∙ ap (λ (l : List (List ℕ)). ended ++ l) (begun_nil line [])

refused_line : (order : Order) (lines ended : List (List ℕ)) (bytes : List ℕ) (others : List (List ℕ)) (front : List Said) (refusal : InputRefusal)
    → lines ≡ ended ++ bytes ∷ others → InOrderBy order ended front → FaultAt order (length ended + 1) front bytes refusal → RefusedBy order lines refusal
refused_line order lines ended bytes others front (Line told fault) split in_order (number, has) =
    at_line ended bytes others front split in_order number (subst (λ n. HasFault order n front bytes fault) (sym number) has)
refused_line order lines ended bytes others front OutOfMemory split in_order fault = tt

-- a line that has ended is at fault
pub refused_ended : (order : Order) (bytes : List ℕ) (ended : List (List ℕ)) (line : List ℕ) (front : List Said) (refusal : InputRefusal) → Cuts bytes ended line
    → InOrderBy order ended front → FaultAt order (length ended + 1) front line refusal → IsRefusedSoFar order (bytes ++ 10 ∷ []) refusal
refused_ended order bytes ended line front refusal cut in_order fault = λ more.
    refused_line order (lines_of ((bytes ++ 10 ∷ []) ++ more)) ended line (lines_of more) front refusal (ends_there bytes ended line more cut) in_order fault

-- so is the last
pub refused_last : (order : Order) (bytes : List ℕ) (ended : List (List ℕ)) (line : List ℕ) (front : List Said) (refusal : InputRefusal) → Cuts bytes ended line
    → InOrderBy order ended front → FaultAt order (length ended + 1) front line refusal → RefusedBy order (lines_of bytes) refusal
refused_last order bytes ended line front refusal cut in_order fault =
    refused_line order (lines_of bytes) ended line [] front refusal (Cuts-all bytes ended line cut) in_order fault

-- what is refused so far stays refused
pub IsRefusedSoFar-more : (order : Order) (bytes rest : List ℕ) (refusal : InputRefusal) → IsRefusedSoFar order bytes refusal → IsRefusedSoFar order (bytes ++ rest) refusal
IsRefusedSoFar-more order bytes rest refusal refused = λ more.
    subst (λ text. RefusedBy order (lines_of text) refusal) (sym (append_assoc bytes rest more)) (refused (rest ++ more))

not_true : (b : Bool) → ¬ (b ≡ true) → b ≡ false
not_true true other = absurd (other refl)
not_true false other = refl

-- ---- several bytes at once

-- bytes that are no line feeds go on with it
pub Cuts-part : (part bytes : List ℕ) (ended : List (List ℕ)) (line : List ℕ) → HasNoLineFeed part → Cuts bytes ended line
    → Cuts (bytes ++ part) ended (line ++ part)
Cuts-part [] bytes ended line none cut =
    subst (λ l. Cuts l ended (line ++ [])) (sym (append-nil bytes)) (subst (Cuts bytes ended) (sym (append-nil line)) cut)
Cuts-part (byte ∷ part) bytes ended line none cut =
    subst (λ l. Cuts l ended (line ++ byte ∷ part)) (append_assoc bytes (byte ∷ []) part)
    (subst (Cuts ((bytes ++ byte ∷ []) ++ part) ended) (append_assoc line (byte ∷ []) part)
    (Cuts-part part (bytes ++ byte ∷ []) ended (line ++ byte ∷ []) none.1 (Cuts-more bytes ended line byte none.0 cut)))

-- a line that is too long with them is at fault, however it goes on
pub refused_long : (order : Order) (bytes : List ℕ) (ended : List (List ℕ)) (line part : List ℕ) (number : ℕ) (front : List Said) → HasNoLineFeed part
    → Cuts bytes ended line → InOrderBy order ended front → number ≡ length ended + 1 → MAX_LINE_BYTES < length line + length part
    → IsRefusedSoFar order (bytes ++ part) (Line number BadShape)
refused_long order bytes ended line part number front none cut in_order is long = λ more.
    let begun : List ℕ = line ++ part in
    let (end, others, so) = begun_long begun (lines_of more) (omega (arith, long, length-append line part)) in
    let past : MAX_LINE_BYTES < length (begun ++ end) = omega (arith, long, length-append begun end, length-append line part) in
    at_line ended (begun ++ end) others front (Cuts-part part bytes ended line none cut more ∙ ap (λ (l : List (List ℕ)). ended ++ l) so) in_order is
    (in_itself (faults.BadShape shape.Line) (λ none. let zero_long = ap length none in absurd (omega arith)) (too_long past refl) refl)

-- up to the first line feed there is none
pub none_before : (bytes : List ℕ) (k : ℕ) → ((j : ℕ) → j < k → ¬ ((get_or bytes j 0 == 10) ≡ true)) → HasNoLineFeed (take k bytes)
none_before [] zero others = tt
none_before [] (suc k) others = tt
none_before (byte ∷ bytes) zero others = tt
none_before (byte ∷ bytes) (suc k) others = (not_true (byte == 10) (others 0 (omega arith)), none_before bytes k (λ j below. others (suc j) (omega (arith, below))))

-- a piece is what stands before a line feed, the line feed, and what stands behind it
pub cut_there : (bytes : List ℕ) (k : ℕ) → k < length bytes → (get_or bytes k 0 == 10) ≡ true → (take k bytes ++ 10 ∷ []) ++ drop (k + 1) bytes ≡ bytes
cut_there bytes k within is =
    let byte : get_or bytes k 0 ≡ 10 = eqb-true (get_or bytes k 0) 10 is in
    ap (λ b. (take k bytes ++ b ∷ []) ++ drop (k + 1) bytes) (sym byte) ∙ ap (λ l. l ++ drop (k + 1) bytes) (sym (take_more bytes k 0 within)) ∙ take-append-drop (k + 1) bytes

-- where there is none, there is none at all
pub none_at_all : (bytes : List ℕ) → ((j : ℕ) → j < length bytes → ¬ ((get_or bytes j 0 == 10) ≡ true)) → HasNoLineFeed bytes
none_at_all [] others = tt
none_at_all (byte ∷ bytes) others = (not_true (byte == 10) (others 0 (omega arith)), none_at_all bytes (λ j below. others (suc j) (omega (arith, below))))

-- a piece, cut behind its first line
pub regrouped : (bytes front line behind rest piece : List ℕ) → piece ≡ front ++ rest → rest ≡ (line ++ 10 ∷ []) ++ behind
    → (((bytes ++ front) ++ line) ++ 10 ∷ []) ++ behind ≡ bytes ++ piece
regrouped bytes front line behind rest piece split is =
    ap (λ l. l ++ behind) (append_assoc (bytes ++ front) line (10 ∷ [])) ∙ append_assoc (bytes ++ front) (line ++ 10 ∷ []) behind
    ∙ ap (λ l. (bytes ++ front) ++ l) (sym is) ∙ append_assoc bytes front rest ∙ ap (λ l. bytes ++ l) (sym split)
