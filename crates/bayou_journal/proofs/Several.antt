-- What several entries that are added together leave.
use Rattle.std.proofs.Common.{◌≡◌, inl, inr, ℕ, List, [], ◌∷◌, ◌++◌, map, take, refl, sym, ◌∙◌, ap, append_assoc, subst}
use Rattle.std.proofs.lemmas.List.{append-nil}
use Rattle.bayou_device.specs.declared.device.Device.{Ghosts}
use Rattle.bayou_journal.specs.Chain.{AreBodies, entries, entry, last_link, link}
use Rattle.bayou_journal.specs.Honest.{HasJournal, IsHonest, IsHonestDevice, IsRecovered, IsWhole, OnlyTears, added_body}
use Rattle.bayou_journal.specs.Opening.{FailsToAdd, KeepsChains}
use Rattle.bayou_journal.specs.Versions.{Body, bodies_in, end_of, journal_of}
use Rattle.bayou_journal.proofs.Crashing.{front_of_several, goes_on}
use Rattle.bayou_journal.proofs.Honesty.{fails_to_add, journal-more, kept_again, whole_is_honest}
use Rattle.bayou_journal.proofs.Tearing.{tears_one}

pub journal-all : (server : ℕ) (bodies : List Body) (last bytes : List ℕ) (more : List (List ℕ)) → HasJournal server bodies last bytes → AreBodies more
    → HasJournal server (bodies ++ map added_body more) (last_link last more) (bytes ++ entries last more)
journal-all server bodies last bytes [] has are =
    subst (λ (b : List Body). HasJournal server b last (bytes ++ [])) (sym (append-nil bodies)) (subst (HasJournal server bodies last) (sym (append-nil bytes)) has)
journal-all server bodies last bytes (body ∷ more) has are =
    let one : HasJournal server (bodies ++ added_body body ∷ []) (link last body) (bytes ++ entry last body) = journal-more server bodies last bytes body has are.0 in
    let all = journal-all server (bodies ++ added_body body ∷ []) (link last body) (bytes ++ entry last body) more one are.1 in
    subst (λ (b : List Body). HasJournal server b (last_link last (body ∷ more)) (bytes ++ entries last (body ∷ more))) (append_assoc bodies (added_body body ∷ []) (map added_body more))
    (subst (HasJournal server ((bodies ++ added_body body ∷ []) ++ map added_body more) (last_link last (body ∷ more))) (append_assoc bytes (entry last body) (entries (link last body) more)) all)

pub all_whole : {D : Type 0} (d : Ghosts D) (server : ℕ) (bodies : List Body) (last : List ℕ) (more : List (List ℕ)) (old new : D) → IsWhole d server bodies last old → AreBodies more
    → d.content new ≡ d.content old ++ entries last more → d.kept new ≡ d.content new → IsWhole d server (bodies ++ map added_body more) (last_link last more) new
all_whole d server bodies last more old new whole are behind synced = record {
  has = subst (HasJournal server (bodies ++ map added_body more) (last_link last more)) (sym behind) (journal-all server bodies last (d.content old) more whole.has are);
  synced = synced;
}

pub all_honestly : {D : Type 0} (d : Ghosts D) (server : ℕ) (bodies : List Body) (last : List ℕ) (more : List (List ℕ)) (old new : D) → OnlyTears d → AreBodies more → IsWhole d server bodies last old
    → FailsToAdd d.may_leave (entries last more) (d.content old) (d.content new) → KeepsChains (d.kept old) (d.kept new) → IsHonestDevice d server bodies (map added_body more) new
all_honestly d server bodies last more old new tears are whole fails keeps =
    let has = whole.has in
    let left = tears_one (d.content old) (entries last more) (d.content new) (fails_to_add d (entries last more) (d.content old) (d.content new) tears fails) in
    let after : d.content new ≡ journal_of server has.records ++ take left.0 (entries (end_of server has.records) more) =
    left.1 ∙ ap (λ (l : List ℕ). l ++ take left.0 (entries last more)) has.whole ∙ ap (λ (l : List ℕ). journal_of server has.records ++ take left.0 (entries l more)) (sym has.ends) in
    record {
      kept = kept_again server bodies (d.kept old) (d.kept new) (whole_is_honest d server bodies [] last old whole).kept keeps;
      recoverable = inr (subst (λ (b : List Body). IsRecovered server b (map added_body more) (d.content new)) has.tells
          (goes_on server has.records (map added_body more) (d.content new) (take left.0 (entries (end_of server has.records) more)) has.known has.sizes after
          (front_of_several server has.records more left.0 are has.newest)));
    }

-- what is found is a front of what was in doubt
pub is_front : (bodies doubts found : List Body) → IsHonest bodies doubts found → (front : List Body) × (behind : List Body) × (doubts ≡ front ++ behind) × (found ≡ bodies ++ front)
is_front bodies [] found none = ([], [], refl, none ∙ sym (append-nil bodies))
is_front bodies (body ∷ doubts) found (inl none) = ([], body ∷ doubts, refl, none ∙ sym (append-nil bodies))
is_front bodies (body ∷ doubts) found (inr on) =
    let (front, behind, split, is) = is_front (bodies ++ body ∷ []) doubts found on in
    (body ∷ front, behind, ap (λ (l : List Body). body ∷ l) split, is ∙ append_assoc bodies (body ∷ []) front)

-- and each front is
pub front_is : (bodies front behind : List Body) → IsHonest bodies (front ++ behind) (bodies ++ front)
front_is bodies [] [] = append-nil bodies
front_is bodies [] (body ∷ behind) = inl (append-nil bodies)
front_is bodies (body ∷ front) behind =
    inr (subst (IsHonest (bodies ++ body ∷ []) (front ++ behind)) (append_assoc bodies (body ∷ []) front) (front_is (bodies ++ body ∷ []) front behind))
