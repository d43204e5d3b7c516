-- A file that has what is lent.
use Rattle.std.proofs.Common.{◌≡◌, ℕ, suc, ◌+◌, ◌*◌, ◌<◌, ◌≤◌, ◌^◌, List, [], ◌∷◌, length, map, ap, refl, sym, ◌∙◌, arith}
use denote.RawPtr.{null_ptr}
use Rattle.std.specs.Borrow.{Bor}
use Rattle.std.specs.Global.{Global, Vec}
use Rattle.std.proofs.lemmas.List.Elements.{All-head, All-tail}
use Rattle.std.specs.Prelude.{All}
use Rattle.bayou_base.specs.declared.entry.Entry.{Entry}
use Rattle.bayou_base.specs.declared.limits.TheConstants.{SERVERS}
use Rattle.bayou_judge.specs.History.{lent_lists, lists_of}
use Rattle.bayou_lang.specs.declared.write.Write.{Write}
use Rattle.bayou_script.specs.declared.audit.AuditFile.{AuditFile}

-- a list that has these items
abbrev list_of : {X : Type 0} (items : List X) → length items < 2 ^ 63 → Vec X
list_of items small = record { ptr = null_ptr; len = length items; cap = length items; alloc = record { memory = record { seal = tt } }; items = items; ok = (refl, omega arith); small = small }

abbrev Few : Bor (List Write) → Type 0
Few dump = length dump.now < 2 ^ 63

-- lists that have what these dumps have
pub lists_kept : (dumps : List (Bor (List Write))) → All (λ dump. length dump.now < 2 ^ 63) dumps
    → (lists : List (Vec Write)) × (lists_of lists ≡ lent_lists dumps) × (length lists ≡ length dumps)
lists_kept [] small = ([], refl, refl)
lists_kept (dump ∷ others) small =
    let (lists, same, number) = lists_kept others (All-tail Few dump others small) in
    (list_of dump.now (All-head Few dump others small) ∷ lists, ap (λ rest. dump.now ∷ rest) same, ap suc number)

pub file_kept : (count : ℕ) (entries : List Entry) (dumps : List (Bor (List Write))) → (0 < count) × (count ≤ SERVERS) → length dumps ≡ count → length entries < 2 ^ 63
    → All (λ dump. length dump.now < 2 ^ 63) dumps
    → (file : AuditFile) × (file.count ≡ count) × (file.entries.items ≡ entries) × (lists_of file.dumps.items ≡ lent_lists dumps)
file_kept count entries dumps within number few small =
    let (lists, same, as_many) = lists_kept dumps small in
    let fits : length lists < 2 ^ 63 = omega (arith, as_many, number, within.1) in (
      record { count = count; entries = list_of entries few; dumps = list_of lists fits; count_in_range = within; one_each = as_many ∙ number },
      refl,
      refl,
      same,
    )
