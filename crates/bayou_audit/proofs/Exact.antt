-- Totals that stay exact, and sums over shares.
use Rattle.std.proofs.Common.{◌≡◌, ℕ, ◌+◌, ◌<◌, ◌≤◌, ◌^◌, Bool, true, false, List, [], ◌∷◌, ◌++◌, length, filter, refl, sym, ap, subst, ◌∙◌, arith, length-append}
use Rattle.std.proofs.Math.Bool.{cond}
use Rattle.std.proofs.lemmas.List.Elements.{filter-append}
use Rattle.std.proofs.lemmas.List.Sums.{count_by-le-length, length-filter}
use Rattle.bayou_base.specs.declared.entry.Entry.{Entry}
use Rattle.bayou_base.specs.declared.entry.What.{What}
use Rattle.bayou_base.specs.declared.entry.What.TheVariants as whats
use Rattle.bayou_audit.specs.declared.totals.Totals.{Totals}
use Rattle.bayou_audit.specs.Inner.Parts.{HasRoom}
use Rattle.bayou_audit.specs.Totals.{Booked, IsExact, counted, is_read, is_refusal, is_write, number_of, with_entry, with_void, without_slip}

one_of : (entry : Entry) (b : Bool) → length (cond b (entry ∷ []) []) ≡ cond b 1 0
one_of entry true = refl
one_of entry false = refl

pub number_of-more : (is_kind : What → Bool) (entries : List Entry) (entry : Entry)
    → number_of is_kind (entries ++ entry ∷ []) ≡ number_of is_kind entries + cond (is_kind entry.what) 1 0
number_of-more is_kind entries entry =
    let test : Entry → Bool = λ e. is_kind e.what in
    ap length (filter-append test entries (entry ∷ []))
    ∙ length-append (filter test entries) (filter test (entry ∷ []))
    ∙ ap (λ more. length (filter test entries) + more) (one_of entry (is_kind entry.what))

number_of-le : (is_kind : What → Bool) (entries : List Entry) → number_of is_kind entries ≤ length entries
number_of-le is_kind entries =
    let test : Entry → Bool = λ e. is_kind e.what in
    omega (arith, length-filter test entries, count_by-le-length test entries)

-- the totals after one entry more of the kind
counts_more : (what : What) (totals : Totals) (reads writes refusals : ℕ)
    → totals.reads ≡ reads → totals.writes ≡ writes → totals.refusals ≡ refusals
    → ((counted what totals).reads ≡ reads + cond (is_read what) 1 0)
    × ((counted what totals).writes ≡ writes + cond (is_write what) 1 0)
    × ((counted what totals).refusals ≡ refusals + cond (is_refusal what) 1 0)
    × ((counted what totals).slips ≡ totals.slips)
counts_more (whats.Read key vector) totals reads writes refusals r w f = (omega arith, omega arith, omega arith, refl)
counts_more (whats.Write wid stamp deps) totals reads writes refusals r w f = (omega arith, omega arith, omega arith, refl)
counts_more whats.Refused totals reads writes refusals r w f = (omega arith, omega arith, omega arith, refl)

-- a book stays exact where an entry takes the place of a slip
exact_with_entry : (book : Booked) (entry : Entry) → IsExact book → 0 < book.totals.slips → IsExact (with_entry book entry)
exact_with_entry book entry exact out =
    let more = counts_more entry.what (without_slip book.totals) (number_of is_read book.entries) (number_of is_write book.entries) (number_of is_refusal book.entries)
    exact.reads exact.writes exact.refusals in
    record {
      reads = more.0 ∙ sym (number_of-more is_read book.entries entry);
      writes = more.1 ∙ sym (number_of-more is_write book.entries entry);
      refusals = more.2 ∙ sym (number_of-more is_refusal book.entries entry);
      room =
          let room = exact.room in
          let slips = more.3 in
          omega (arith, length-append book.entries (entry ∷ []));
    }

pub exact_filed : (old : Booked) (entry : Entry) (shares capacity : ℕ) (entries after : List Entry) (between totals : Totals)
    → IsExact old → 0 < old.totals.slips
    → record { shares = shares; capacity = capacity; entries = entries; totals = between } ≡ with_void old
    → after ≡ entries ++ entry ∷ [] → totals ≡ counted entry.what between
    → IsExact (record { shares = shares; capacity = capacity; entries = after; totals = totals })
exact_filed old entry shares capacity entries after between totals exact out is more counts =
    subst IsExact
    (sym (ap (λ (b : Booked). record { shares = b.shares; capacity = b.capacity; entries = b.entries ++ entry ∷ []; totals = counted entry.what b.totals }) is)
    ∙ sym (ap (λ list. record { shares = shares; capacity = capacity; entries = list; totals = counted entry.what between }) more)
    ∙ sym (ap (λ now. record { shares = shares; capacity = capacity; entries = after; totals = now }) counts))
    (exact_with_entry old entry exact out)

-- where a slip was out, one entry more can be counted, and there is room for it
pub has_room : (old : Booked) (shares capacity : ℕ) (entries : List Entry) (between : Totals)
    → IsExact old → 0 < old.totals.slips → capacity < 2 ^ 64
    → record { shares = shares; capacity = capacity; entries = entries; totals = between } ≡ with_void old
    → HasRoom between × (length entries < capacity)
has_room old shares capacity entries between exact out fits is =
    let same_entries = ap (λ (b : Booked). b.entries) is in
    let same_capacity = ap (λ (b : Booked). b.capacity) is in
    let same_totals = ap (λ (b : Booked). b.totals) is in
    let as_long = ap length same_entries in
    let room = exact.room in (
      record {
        reads = omega (arith, ap (λ (t : Totals). t.reads) same_totals, exact.reads, number_of-le is_read old.entries);
        writes = omega (arith, ap (λ (t : Totals). t.writes) same_totals, exact.writes, number_of-le is_write old.entries);
        refusals = omega (arith, ap (λ (t : Totals). t.refusals) same_totals, exact.refusals, number_of-le is_refusal old.entries);
      },
      omega arith,
    )
