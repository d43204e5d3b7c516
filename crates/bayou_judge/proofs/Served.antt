-- What checked entries come to.
use Rattle.std.proofs.Common.{◌≡◌, ℕ, ◌+◌, ◌<◌, List, [], ◌∷◌, ◌++◌, length, get_or, take, All, Some, ap, sym, ◌∙◌, subst}
use Rattle.std.specs.List.{slice_get}
use Rattle.std.proofs.lemmas.List.{take_more}
use Rattle.std.proofs.lemmas.List.Elements.{All-push}
use Rattle.std.proofs.lemmas.Option.{slice_get_within, get_or_from_slice_get}
use Rattle.bayou_base.specs.declared.entry.Entry.{Entry}
use Rattle.bayou_base.specs.declared.entry.What.{What}
use Rattle.bayou_base.specs.declared.entry.What.TheVariants as whats
use Rattle.bayou_base.specs.declared.server.ServerId.{ServerId}
use Rattle.bayou_base.specs.declared.wid.Wid.{Wid}
use Rattle.bayou_lang.specs.declared.write.Write.{Write}
use Rattle.bayou_judge.specs.declared.breach.Guarantee.{Guarantee}
use Rattle.bayou_judge.specs.Evidence.{IsTrueOf}
use Rattle.bayou_judge.specs.History.{dump_of}
use Rattle.bayou_judge.specs.Inner.Index.{Tables}
use Rattle.bayou_judge.specs.Inner.Needs.{Fails, IsChecked, IsFirst, IsKept, IsServed}

true_is_served : (dump : List Write) (server : ServerId) (earlier : List Entry) (what : What) → IsTrueOf dump server earlier what → IsServed dump what
true_is_served dump server earlier (whats.Read key vector) is = is
true_is_served dump server earlier (whats.Write wid stamp deps) is = (is.1.0, is.1.1, is.1.2)
true_is_served dump server earlier whats.Refused is = tt

-- each entry was served by its server, or refused
pub served_entry : (count : ℕ) (entries : List Entry) (dumps : List (List Write)) (indexes : List Tables) → IsChecked count entries dumps indexes → (at : ℕ) (entry : Entry) → slice_get entries at ≡ Some entry → IsServed (dump_of dumps entry.server.index) entry.what
served_entry count entries dumps indexes checked at entry got =
    true_is_served (dump_of dumps entry.server.index) entry.server (take at entries) entry.what (checked.evidence.entries_are at entry got).what

pub known_server : (count : ℕ) (entries : List Entry) (dumps : List (List Write)) (indexes : List Tables) → IsChecked count entries dumps indexes → (at : ℕ) (entry : Entry) → slice_get entries at ≡ Some entry → entry.server.index < count
known_server count entries dumps indexes checked at entry got = (checked.evidence.entries_are at entry got).server

-- a place has one entry
pub one_entry : (entries : List Entry) (at : ℕ) (entry other : Entry) → slice_get entries at ≡ Some entry → slice_get entries at ≡ Some other → entry ≡ other
one_entry entries at entry other here there = cc

-- with one more entry before it the later operation lacks nothing, if nothing of that one
pub IsKept-more : (dumps : List (List Write)) (guarantee : Guarantee) (session : ℕ) (entries : List Entry) (at : ℕ) (first second : Entry) → slice_get entries at ≡ Some first → IsKept dumps guarantee session (take at entries) second
    → (IsFirst guarantee session first → (server : ℕ) (wid : Wid) → Fails dumps first second server wid → ⊥) → IsKept dumps guarantee session (take (at + 1) entries) second
IsKept-more dumps guarantee session entries at first second got kept none =
    let P : Entry → Type 0 = λ one. IsFirst guarantee session one → (server : ℕ) (wid : Wid) → Fails dumps one second server wid → ⊥ in
    let within : at < length entries = slice_get_within entries at first got in
    let is : get_or entries at first ≡ first = get_or_from_slice_get entries at first first got in
    subst (All P) (sym (take_more entries at first within ∙ ap (λ entry. take at entries ++ entry ∷ []) is)) (All-push P (take at entries) first kept none)
