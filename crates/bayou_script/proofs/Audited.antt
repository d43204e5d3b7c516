-- Lines of an audit file, each added behind those before it.
use Rattle.std.proofs.Common.{◌≡◌, ◌≢◌, ℕ, zero, suc, ◌<◌, ◌==◌, ◌&&◌, nat_lt, Bool, true, false, List, [], ◌∷◌, ◌++◌, Option, None, Some, cond, length, map, unwrap_or, get_or, set, refl, sym, ap, ◌∙◌, subst, arith, append-nil}
use Rattle.std.proofs.lemmas.Bool.{eq-eqb, eqb-true, eqb-false, lt-ltb}
use Rattle.std.proofs.lemmas.List.{get_or-map, get_or-set_same, get_or-set_other, length-map, map-set}
use Rattle.std.proofs.lemmas.List.Elements.{filter_map-append}
use Rattle.std.specs.Global.{Vec}
use Rattle.std.specs.List.{cons_option}
use Rattle.bayou_base.specs.declared.entry.Entry.{Entry}
use Rattle.bayou_base.specs.declared.limits.TheConstants.{MAX_ENTRIES}
use Rattle.bayou_lang.specs.declared.write.Write.{Write}
use Rattle.bayou_text.specs.Said.{Said, entry, held}
use Rattle.bayou_script.specs.AuditFile.{audit_order, dump_told, entries_told, entry_told, write_told}
use Rattle.bayou_script.specs.Inner.AuditDraft.{Counts}
use Rattle.bayou_script.specs.Script.{started, use_of}

-- the servers that were started are as many as the draft counts
pub started_are : (count : ℕ) (front : List Said) → Counts count front → started front ≡ count
started_are count [] none = sym none
started_are count (first ∷ others) (most, some, is) = ap (λ (told : Said). unwrap_or (use_of told).starts 0) is

-- they stay, whatever is said behind them
pub counts_more : (count : ℕ) (front : List Said) (told : Said) → 0 < count → Counts count front → Counts count (front ++ told ∷ [])
counts_more count [] told some none = absurd (omega (arith, some, none))
counts_more count (first ∷ others) told some begun = begun

both_true : (a b : Bool) → a ≡ true → b ≡ true → true ≡ (a && b)
both_true a b one other = sym (ap (λ x. x && b) one ∙ other)

-- an entry has its place
pub entry_placed : (number : ℕ) (front : List Said) (what : Entry) (counts : Option ℕ) (count : ℕ) → started front ≡ count → what.server.index < count
    → unwrap_or counts count ≡ count → length (entries_told front) < MAX_ENTRIES → true ≡ audit_order number front (entry what counts)
entry_placed number front what counts count is within same room =
    subst (λ n. true ≡ (nat_lt what.server.index n && (unwrap_or counts n == n && nat_lt (length (entries_told front)) MAX_ENTRIES))) (sym is)
    (both_true (nat_lt what.server.index count) (unwrap_or counts count == count && nat_lt (length (entries_told front)) MAX_ENTRIES)
    (lt-ltb what.server.index count within)
    (sym (both_true (unwrap_or counts count == count) (nat_lt (length (entries_told front)) MAX_ENTRIES) (eq-eqb (unwrap_or counts count) count same)
    (lt-ltb (length (entries_told front)) MAX_ENTRIES room))))

-- a Write that is held has its place
pub held_placed : (number : ℕ) (front : List Said) (place : ℕ) (write : Write) (counts count : ℕ) → started front ≡ count → place < count
    → write.wid.origin.index < count → counts ≡ count → true ≡ audit_order number front (held place write counts)
held_placed number front place write counts count is within accepted same =
    subst (λ n. true ≡ (nat_lt place n && (nat_lt write.wid.origin.index n && counts == n))) (sym is)
    (both_true (nat_lt place count) (nat_lt write.wid.origin.index count && counts == count) (lt-ltb place count within)
    (sym (both_true (nat_lt write.wid.origin.index count) (counts == count) (lt-ltb write.wid.origin.index count accepted) (eq-eqb counts count same))))

-- the entries with one line more
pub entries_more : (front : List Said) (told : Said) → entries_told (front ++ told ∷ []) ≡ entries_told front ++ entries_told (told ∷ [])
entries_more front told = filter_map-append entry_told front (told ∷ [])

-- what a server holds, with an entry more
pub dump_same : (server : ℕ) (front : List Said) (what : Entry) (counts : Option ℕ) → dump_told server (front ++ entry what counts ∷ []) ≡ dump_told server front
dump_same server front what counts = filter_map-append (write_told server) front (entry what counts ∷ []) ∙ append-nil (dump_told server front)

-- the lists of dumps
abbrev pub lists_of : List (Vec Write) → List (List Write)
lists_of dumps = map (λ dump. dump.items) dumps

dump_told-held : (server : ℕ) (front : List Said) (place : ℕ) (write : Write) (counts : ℕ) (is : Bool) → (place == server) ≡ is
    → dump_told server (front ++ held place write counts ∷ []) ≡ dump_told server front ++ cons_option (cond is (Some write) None) []
dump_told-held server front place write counts is same =
    filter_map-append (write_told server) front (held place write counts ∷ []) ∙ ap (λ b. dump_told server front ++ cons_option (cond b (Some write) None) []) same

held_at : (dumps : List (List Write)) (dump : List Write) (count place : ℕ) (write : Write) (counts : ℕ) (front : List Said) → length dumps ≡ count → place < count
    → ((server : ℕ) → server < count → get_or dumps server [] ≡ dump_told server front) → dump ≡ get_or dumps place [] ++ write ∷ []
    → (server : ℕ) → server < count → (is : Bool) → (place == server) ≡ is
    → get_or (set dumps place dump) server [] ≡ dump_told server (front ++ held place write counts ∷ [])
held_at dumps dump count place write counts front each within known longer server below true same =
    let here = eqb-true place server same in
    subst (λ at. get_or (set dumps place dump) at [] ≡ dump_told at front ++ write ∷ []) here
    (get_or-set_same dumps place dump [] (omega (arith, each, within)) ∙ longer ∙ ap (λ (l : List Write). l ++ write ∷ []) (known place within))
    ∙ sym (dump_told-held server front place write counts true same)
held_at dumps dump count place write counts front each within known longer server below false same =
    let other : server ≢ place = λ e. eqb-false place server same (sym e) in
    get_or-set_other dumps place server dump [] other ∙ known server below ∙ sym (append-nil (dump_told server front))
    ∙ sym (dump_told-held server front place write counts false same)

-- what each server holds, with a Write more
pub held_more : (dumps : List (Vec Write)) (dump was : Vec Write) (count place at : ℕ) (write : Write) (counts : ℕ) (front : List Said) → length dumps ≡ count
    → place < count → at ≡ place → ((server : ℕ) → server < count → get_or (lists_of dumps) server [] ≡ dump_told server front)
    → get_or dumps at was ≡ was → dump.items ≡ was.items ++ write ∷ []
    → (server : ℕ) → server < count → get_or (lists_of (set dumps at dump)) server [] ≡ dump_told server (front ++ held place write counts ∷ [])
held_more dumps dump was count place at write counts front each within is known found longer server below =
    let here : get_or dumps place was ≡ was = subst (λ n. get_or dumps n was ≡ was) is found in
    let items = get_or-map (λ (d : Vec Write). d.items) dumps place was [] (omega (arith, each, within)) ∙ ap (λ (d : Vec Write). d.items) here in
    ap (λ n. get_or (lists_of (set dumps n dump)) server []) is
    ∙ ap (λ (l : List (List Write)). get_or l server []) (map-set (λ (d : Vec Write). d.items) dumps place dump)
    ∙ held_at (lists_of dumps) dump.items count place write counts front (length-map dumps (λ (d : Vec Write). d.items) ∙ each) within known
    (longer ∙ ap (λ (l : List Write). l ++ write ∷ []) (sym items)) server below (place == server) refl

-- nothing is held where only dumps with nothing were added
pub none_held : (dumps : List (List Write)) → ((server : ℕ) → get_or dumps server [] ≡ []) → (server : ℕ) → get_or (dumps ++ [] ∷ []) server [] ≡ []
none_held [] none zero = refl
none_held [] none (suc server) = refl
none_held (dump ∷ dumps) none zero = none zero
none_held (dump ∷ dumps) none (suc server) = none_held dumps (λ other. none (suc other)) server
