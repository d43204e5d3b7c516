-- The Write that stands at the place of a name.
use Rattle.std.proofs.Common.{◌≡◌, ◌≢◌, ℕ, ◌<◌, true, false, Bor, List, length, slice_index, All, Contains, Option, Some, None, IfSome, IfNone, ap, sym, ◌∙◌, subst}
use Rattle.std.specs.List.{slice_get}
use Rattle.std.specs.Option.{option_copied}
use Rattle.std.specs.Slice.{IsItemAt}
use Rattle.std.proofs.lemmas.Bool.{lt-ltb, ltb-true}
use Rattle.std.proofs.lemmas.List.{get_or_default}
use Rattle.std.proofs.lemmas.Option.{get_or_from_slice_get, slice_get-get_or, slice_get_within}
use Rattle.bayou_base.specs.declared.wid.Wid.{Wid}
use Rattle.bayou_lang.specs.declared.write.Write.{Write}
use Rattle.bayou_judge.specs.Inner.Index.{IsPlaceOf}
use Rattle.bayou_judge.proofs.DumpsClocks.{Contains-from_slice_get}

pub item_found : (writes : List Write) (wid : Wid) (place : ℕ) (item : Option (Bor Write)) → IsItemAt writes place item → IsPlaceOf writes wid (Some place)
    → IfSome item (λ write. Contains writes write.now × (write.now.wid ≡ wid))
item_found writes wid place None is placed = tt
item_found writes wid place (Some write) is placed =
    let one : placed.0 ≡ write.now = sym (is.1 ∙ get_or_from_slice_get writes place placed.0 write.now placed.1) in
    subst (λ (w : Write). Contains writes w × (w.wid ≡ wid)) one (Contains-from_slice_get writes place placed.0 placed.1, placed.2)

pub item_missing : (writes : List Write) (wid : Wid) (place : ℕ) (item : Option (Bor Write)) → IsItemAt writes place item → IsPlaceOf writes wid (Some place)
    → IfNone item (All (λ held. held.wid ≢ wid) writes)
item_missing writes wid place None is placed =
    let both : false ≡ true = is.0 ∙ lt-ltb place (length writes) (slice_get_within writes place placed.0 placed.1) in
    absurd (cc)
item_missing writes wid place (Some write) is placed = tt

-- the item of a place that there is
pub item_there : {X : Type 0} (items : List X) (place : ℕ) (item : Bor X) → IsItemAt items place (Some item) → (place < length items) × (slice_get items place ≡ Some item.now)
item_there items place item is =
    let within = ltb-true place (length items) (sym is.0) in
    (within, slice_get-get_or items place item.now within ∙ ap Some (sym is.1))

-- a copy of the number of a place that there is
pub copied_there : (numbers : List ℕ) (place : ℕ) (item : Option (Bor ℕ)) → IsItemAt numbers place item → place < length numbers → option_copied item ≡ Some (slice_index numbers place)
copied_there numbers place None is within = let both : false ≡ true = is.0 ∙ lt-ltb place (length numbers) within in absurd (cc)
copied_there numbers place (Some item) is within = ap Some (is.1 ∙ get_or_default numbers place item.now 0 within)
