-- Writes that are made of rows: what they make, that the rows decide them, and how many they are.
use Rattle.std.proofs.Common.{◌≡◌, ◌≢◌, ◌==◌, ℕ, suc, ◌+◌, ◌-◌, ◌*◌, ◌<◌, ◌≤◌, Bool, true, false, T, List, [], ◌∷◌, ◌++◌, All, length, length-drop, map, take, drop, refl, sym, ap, subst, ◌∙◌, arith, append_assoc}
use Rattle.std.proofs.lemmas.List.{append-nil, nil_from_length}
use Rattle.std.proofs.lemmas.List.Elements.{All-cons, All-head, All-nil, All-tail, All-weaker}
use Rattle.bayou_base.specs.declared.limits.TheConstants.{MAX_OPS}
use Rattle.bayou_base.specs.Order.{is_before}
use Rattle.bayou_lang.specs.declared.program.Program.{Program}
use Rattle.bayou_lang.specs.declared.write.Write.{Write}
use Rattle.bayou_lang.specs.Database.{Database, empty}
use Rattle.bayou_lang.specs.Laws.Equality.{server-ext, stamp-ext, wid-ext, write-ext}
use Rattle.bayou_lang.specs.Laws.Fitting.{next_is_latest}
use Rattle.bayou_lang.specs.Laws.SetOfWrites.{All-in_stamp_order}
use Rattle.bayou_lang.specs.Laws.StampOrder.{in_stamp_order-push, is_before-asym, place_by_stamp-after}
use Rattle.bayou_lang.specs.Meaning.{mean}
use Rattle.bayou_lang.specs.Writes.{IsNextWrite, in_stamp_order, place_by_stamp}
use Rattle.bayou_log.specs.Laws.Append.{after_writes-append}
use Rattle.bayou_log.specs.Replay.{after_writes, replay}
use Rattle.bayou_log.specs.Rows.{Row}
use Rattle.bayou_renew.specs.Renewal.{AreMadeOf, IsWithout, ORIGIN, Puts, kept_rows}
use Rattle.bayou_renew.proofs.Pages.{take-drop}
use Rattle.bayou_renew.proofs.Database.{after_puts, after_puts-append, kept-without, mean-puts}

-- ---- what they make

place_last : (write : Write) (writes : List Write) → All (λ held. is_before write.stamp held.stamp ≡ false) writes → place_by_stamp write writes ≡ writes ++ write ∷ []
place_last write [] later = refl
place_last write (held ∷ writes) later =
    place_by_stamp-after write held writes (All-head (λ held. is_before write.stamp held.stamp ≡ false) held writes later)
    ∙ ap (λ list. held ∷ list) (place_last write writes (All-tail (λ held. is_before write.stamp held.stamp ≡ false) held writes later))

other_stamp : (held write : Write) → is_before held.stamp write.stamp ≡ true → held.stamp ≢ write.stamp
other_stamp held write before same =
    let itself : is_before write.stamp write.stamp ≡ true = subst (λ stamp. is_before stamp write.stamp ≡ true) same before in
    let not : is_before write.stamp write.stamp ≡ false = is_before-asym write.stamp write.stamp itself in
    let both : true ≡ false = sym itself ∙ not in
    absurd cc

-- the next Write of a server is applied last
replay-next : (held : List Write) (program : Program) (write : Write) → IsNextWrite held ORIGIN program write → replay (held ++ write ∷ []) ≡ (mean write.program (replay held)).1
replay-next held program write next =
    let latest = next_is_latest held ORIGIN program write next in
    let others = All-weaker (λ (w : Write). is_before w.stamp write.stamp ≡ true) (λ (w : Write). w.stamp ≢ write.stamp) (λ w before. other_stamp w write before) held latest in
    let later = All-weaker (λ (w : Write). is_before w.stamp write.stamp ≡ true) (λ (w : Write). is_before write.stamp w.stamp ≡ false) (λ w before. is_before-asym w.stamp write.stamp before) held latest in
    ap (λ writes. after_writes writes empty) (in_stamp_order-push held write others
    ∙ place_last write (in_stamp_order held) (All-in_stamp_order (λ (w : Write). is_before write.stamp w.stamp ≡ false) held later))
    ∙ after_writes-append (in_stamp_order held) (write ∷ []) empty

made-replay : (held : List Write) (rows : List Row) (writes : List Write) → AreMadeOf held rows writes → replay (held ++ writes) ≡ after_puts rows (replay held)
made-replay held rows [] none = ap replay (append-nil held) ∙ ap (λ left. after_puts left (replay held)) (sym none)
made-replay held rows (write ∷ writes) (some, next, puts, rest) =
    let before = take MAX_OPS rows in
    let behind = drop MAX_OPS rows in
    ap replay (sym (append_assoc held (write ∷ []) writes))
    ∙ made-replay (held ++ write ∷ []) behind writes rest
    ∙ ap (after_puts behind) (replay-next held write.program write next ∙ mean-puts before write.program (replay held) puts)
    ∙ sym (after_puts-append before behind (replay held))
    ∙ ap (λ all. after_puts all (replay held)) (take-drop MAX_OPS rows)

pub made-without : (prefixes : List (List ℕ)) (old : Database) (writes : List Write) → AreMadeOf [] (kept_rows prefixes old) writes → IsWithout prefixes old (replay writes)
made-without prefixes old writes made =
    subst (λ database. IsWithout prefixes old database) (sym (made-replay [] (kept_rows prefixes old) writes made)) (kept-without prefixes old)

-- ---- that the rows decide them

same_program : (rows : List Row) (one other : Program) → Puts rows one → Puts rows other → one ≡ other
same_program rows one other puts also =
    let check = puts.check ∙ sym also.check in
    let update = puts.update ∙ sym also.update in
    let merge = puts.merge ∙ sym also.merge in
    λ i. record { check = record { items = check i }; update = record { items = update i }; merge = record { items = merge i } }

same_next : (held : List Write) (one other : Write) → IsNextWrite held ORIGIN one.program one → IsNextWrite held ORIGIN other.program other → one.program ≡ other.program → one ≡ other
same_next held one other next also programs =
    let origins = server-ext one.wid.origin other.wid.origin (next.origin ∙ sym also.origin) in
    let wids = wid-ext one.wid other.wid origins (next.seq ∙ sym also.seq) in
    let stamps = stamp-ext one.stamp other.stamp (next.clock ∙ sym also.clock) (sym one.one_origin ∙ origins ∙ other.one_origin) in
    write-ext one other wids stamps (next.deps ∙ sym also.deps) programs

alike : (held : List Write) (rows : List Row) (one other : List Write) → AreMadeOf held rows one → AreMadeOf held rows other → one ≡ other
alike held rows [] [] none also = refl
alike held rows [] (write ∷ writes) none (some, next, puts, rest) = absurd (omega (arith, some, ap length none))
alike held rows (write ∷ writes) [] (some, next, puts, rest) none = absurd (omega (arith, some, ap length none))
alike held rows (write ∷ writes) (other ∷ others) (some, next, puts, rest) (some_too, next_too, puts_too, rest_too) =
    let same = same_next held write other next next_too (same_program (take MAX_OPS rows) write.program other.program puts puts_too) in
    let behind = subst (λ (w : Write). AreMadeOf (held ++ w ∷ []) (drop MAX_OPS rows) others) (sym same) rest_too in
    λ i. same i ∷ alike (held ++ write ∷ []) (drop MAX_OPS rows) writes others rest behind i

pub made-alike : (rows : List Row) (one other : List Write) → AreMadeOf [] rows one → AreMadeOf [] rows other → one ≡ other
made-alike rows one other made also = alike [] rows one other made also

all_own : (held : List Write) (rows : List Row) (writes : List Write) → AreMadeOf held rows writes → All (λ write. write.wid.origin.index ≡ ORIGIN) writes
all_own held rows [] none = All-nil (λ write. write.wid.origin.index ≡ ORIGIN)
all_own held rows (write ∷ writes) (some, next, puts, rest) =
    All-cons (λ write. write.wid.origin.index ≡ ORIGIN) write writes next.origin (all_own (held ++ write ∷ []) (drop MAX_OPS rows) writes rest)

pub made-own : (rows : List Row) (writes : List Write) → AreMadeOf [] rows writes → All (λ write. write.wid.origin.index ≡ ORIGIN) writes
made-own rows writes made = all_own [] rows writes made

-- ---- how many they are

few : (held : List Write) (rows : List Row) (writes : List Write) → AreMadeOf held rows writes
    → (length rows ≤ MAX_OPS * length writes) × (MAX_OPS * length writes < length rows + MAX_OPS)
few held rows [] none = (omega (arith, ap length none), omega (arith, ap length none))
few held rows (write ∷ writes) (some, next, puts, rest) =
    let behind = few (held ++ write ∷ []) (drop MAX_OPS rows) writes rest in
    let left : length (drop MAX_OPS rows) ≡ length rows - MAX_OPS = length-drop MAX_OPS rows in
    (omega (arith, behind.0, behind.1, left, some), omega (arith, behind.0, behind.1, left, some))

pub made-few : (rows : List Row) (writes : List Write) → AreMadeOf [] rows writes → (length rows ≤ MAX_OPS * length writes) × (MAX_OPS * length writes < length rows + MAX_OPS)
made-few rows writes made = few [] rows writes made

-- ---- how they are made

-- the next Write of a server, whatever was asked
pub next_of_log : (held : List Write) (program : Program) (write : Write) → IsNextWrite held ORIGIN program write → IsNextWrite held ORIGIN write.program write
next_of_log held program write next = record { origin = next.origin; seq = next.seq; clock = next.clock; deps = next.deps; program = refl }

-- one Write more, of the first of the rows that are left
pub made_on : (all rows front back : List Row) (held now : List Write) (write : Write) (more : List Write) → 0 < length rows → front ≡ take MAX_OPS rows → back ≡ drop MAX_OPS rows
    → IsNextWrite held ORIGIN write.program write → Puts front write.program → now ≡ held ++ write ∷ []
    → ((later : List Write) → AreMadeOf held rows later → AreMadeOf [] all (held ++ later)) → AreMadeOf now back more → AreMadeOf [] all (now ++ more)
made_on all rows front back held now write more some is_front is_back next puts is_now made rest =
    let behind : AreMadeOf (held ++ write ∷ []) (drop MAX_OPS rows) more =
    subst (λ (left : List Row). AreMadeOf (held ++ write ∷ []) left more) is_back (subst (λ (had : List Write). AreMadeOf had back more) is_now rest) in
    let one : AreMadeOf held rows (write ∷ more) = (some, next, subst (λ (first : List Row). Puts first write.program) is_front puts, behind) in
    let both : (held ++ write ∷ []) ++ more ≡ held ++ write ∷ more = append_assoc held (write ∷ []) more in
    subst (λ (had : List Write). AreMadeOf [] all (had ++ more)) (sym is_now) (subst (AreMadeOf [] all) (sym both) (made (write ∷ more) one))

-- whether rows are left
pub some_left : (rows : List Row) (none : Bool) → none ≡ (length rows == 0) → none ≡ false → 0 < length rows
some_left rows none is isnt = grind (arith)

pub none_left : (rows : List Row) (none : Bool) → none ≡ (length rows == 0) → none ≡ true → rows ≡ []
none_left rows none is so = nil_from_length rows (grind (arith))
