-- What a torn journal opens as.
use Rattle.std.proofs.Common.{◌≡◌, ◌⊎◌, inl, inr, ℕ, Some, suc, ◌<◌, ◌≤◌, List, [], ◌∷◌, ◌++◌, length, take, drop, refl, sym, ◌∙◌, ap, arith, append_assoc, length-append, length-drop, take-append-drop}
use Rattle.std.proofs.lemmas.Bool.{cases_order}
use Rattle.std.proofs.lemmas.List.{append-nil, append_cancel_left, take_all}
use Rattle.bayou_device.specs.Device.{BeginsWith}
use Rattle.bayou_device.specs.Memory.{AddsFront}
use Rattle.bayou_journal.specs.Chain.{AreBodies, IsBody, IsLongestChain, NoEntry, chain_end, entries, entry, first_link, header, journal, link}
use Rattle.bayou_journal.specs.Laws.Chain.{AreBodies-push, front_of_longest, journal-push, same_entry}
use Rattle.bayou_journal.specs.Honest.{IsHonest, added_body, torn}
use Rattle.bayou_journal.specs.Opening.{FailsToAdd, FailsToOpen, Finds, mark_for}
use Rattle.bayou_journal.specs.Versions.{Records, bodies_in, journal_of, version_of}
use Rattle.bayou_journal.specs.declared.format.TheConstants.{NEWEST_VERSION}
use Rattle.bayou_journal.proofs.Ending.{moved_longest, new_begins_not}
use Rattle.bayou_journal.proofs.Raising.{is_pushed, lacks_none}

pub some_entry : (before body : List ℕ) → 2 ≤ length (entry before body)
some_entry before body = let long : length (entry before body) ≡ suc (suc (length (body ++ link before body))) = refl in omega (arith, long)

-- nothing begins with an entry
pub no_entry : (before : List ℕ) → NoEntry before []
no_entry before other is begins = omega (arith, some_entry before other, ap length begins.1, length-append (entry before other) begins.0)

-- a front of an entry is none
pub no_part : (before body : List ℕ) (count : ℕ) → IsBody body → count < length (entry before body) → NoEntry before (take count (entry before body))
no_part before body count is short other is_other begins =
    let one = entry before body in
    let whole : entry before other ++ (begins.0 ++ drop count one) ≡ one ++ [] =
    sym (append_assoc (entry before other) begins.0 (drop count one)) ∙ ap (λ (l : List ℕ). l ++ drop count one) (sym begins.1) ∙ take-append-drop count one ∙ sym (append-nil one) in
    let same = same_entry before other body (begins.0 ++ drop count one) [] is_other is whole in
    omega (arith, short, ap length same.rest, length-append begins.0 (drop count one), length-drop count one)

pub torn_in_part : (version server : ℕ) (bodies : List (List ℕ)) (body : List ℕ) (count : ℕ) → AreBodies bodies → IsBody body → count < length (entry (chain_end version server bodies) body)
    → IsLongestChain version server (torn version server bodies body count) bodies (take count (entry (chain_end version server bodies) body))
torn_in_part version server bodies body count are is short = record { split = refl; sizes = are; longest = no_part (chain_end version server bodies) body count is short }

whole_entry : (version server : ℕ) (bodies : List (List ℕ)) (body : List ℕ) (count : ℕ) → length (entry (chain_end version server bodies) body) ≤ count → torn version server bodies body count ≡ journal version server (bodies ++ body ∷ [])
whole_entry version server bodies body count long =
    ap (λ (l : List ℕ). journal version server bodies ++ l) (take_all count (entry (chain_end version server bodies) body) long) ∙ sym (journal-push version server bodies body)

pub torn_whole : (version server : ℕ) (bodies : List (List ℕ)) (body : List ℕ) (count : ℕ) → AreBodies bodies → IsBody body → length (entry (chain_end version server bodies) body) ≤ count
    → IsLongestChain version server (torn version server bodies body count) (bodies ++ body ∷ []) []
torn_whole version server bodies body count are is long = record {
  split = whole_entry version server bodies body count long ∙ sym (append-nil (journal version server (bodies ++ body ∷ [])));
  sizes = AreBodies-push bodies body are is;
  longest = no_entry (chain_end version server (bodies ++ body ∷ []));
}

-- no journal that begins is new
not_new : (version server : ℕ) (bodies : List (List ℕ)) (body : List ℕ) (count : ℕ) → BeginsWith (journal version server bodies) (torn version server bodies body count)
not_new version server bodies body count = (take count (entry (chain_end version server bodies) body), refl)

-- the records, and one body behind them
abbrev pub with_body : Records → List ℕ → Records
with_body records body = record records { bodies = records.bodies ++ body ∷ [] }

-- a torn journal's longest chain has the bodies before the tear, and maybe the one behind them
pub torn_finds : (server : ℕ) (records : Records) (body : List ℕ) (count : ℕ) (found : Records) (dropped : ℕ) → AreBodies records.bodies → IsBody body
    → Finds server (torn records.version server records.bodies body count) found dropped → (found ≡ records) ⊎ (found ≡ with_body records body)
torn_finds server records body count found dropped are is (inl new) =
    absurd (new_begins_not (torn records.version server records.bodies body count) records.version server records.bodies new.front (not_new records.version server records.bodies body count))
torn_finds server records body count found dropped are is (inr old) = by (cases_order count (length one))
  where
    one : List ℕ
    one = entry (chain_end records.version server records.bodies) body

    bytes : List ℕ
    bytes = torn records.version server records.bodies body count

    part : count < length one → found ≡ records
    part short = moved_longest server bytes found records old.rest (take count one) old.longest (torn_in_part records.version server records.bodies body count are is short)

    whole : length one ≤ count → found ≡ with_body records body
    whole long = moved_longest server bytes found (with_body records body) old.rest [] old.longest (torn_whole records.version server records.bodies body count are is long)

    by : (count ≡ length one) ⊎ ((count < length one) ⊎ (length one < count)) → (found ≡ records) ⊎ (found ≡ with_body records body)
    by (inl same) = inr (whole (omega (arith, same)))
    by (inr (inl short)) = inl (part short)
    by (inr (inr long)) = inr (whole (omega (arith, long)))

pub opens_honestly : (server : ℕ) (records : Records) (body : List ℕ) (count : ℕ) (found : Records) (dropped : ℕ) → AreBodies records.bodies → IsBody body → version_of records ≡ NEWEST_VERSION
    → Finds server (torn records.version server records.bodies body count) found dropped → IsHonest (bodies_in records) (added_body body ∷ []) (bodies_in found)
opens_honestly server records body count found dropped are is newest finds = by (torn_finds server records body count found dropped are is finds)
  where
    by : (found ≡ records) ⊎ (found ≡ with_body records body) → IsHonest (bodies_in records) (added_body body ∷ []) (bodies_in found)
    by (inl same) = inl (ap bodies_in same)
    by (inr more) = inr (ap bodies_in more ∙ (is_pushed records body newest).tells)

-- a chain with which the bytes begin is a front of the longest
pub front_of_chain : (version server : ℕ) (bytes : List ℕ) (bodies longest : List (List ℕ)) (rest : List ℕ) → AreBodies bodies → BeginsWith (journal version server bodies) bytes
    → IsLongestChain version server bytes longest rest → (more : List (List ℕ)) × (longest ≡ bodies ++ more)
front_of_chain version server bytes bodies longest rest are begins chain =
    let whole : journal version server bodies ++ begins.0 ≡ journal version server longest ++ rest = sym begins.1 ∙ chain.split in
    let tails : entries (first_link version server) bodies ++ begins.0 ≡ entries (first_link version server) longest ++ rest =
    append_cancel_left (header version server) (entries (first_link version server) bodies ++ begins.0) (entries (first_link version server) longest ++ rest)
    (sym (append_assoc (header version server) (entries (first_link version server) bodies) begins.0) ∙ whole ∙ append_assoc (header version server) (entries (first_link version server) longest) rest) in
    let front = front_of_longest (first_link version server) bodies longest begins.0 rest are chain.sizes chain.longest tails in
    (front.more, front.is)

pub no_front : (before after : List ℕ) → AddsFront [] before after → after ≡ before
no_front before after left = left.1 ∙ ap (λ (l : List ℕ). before ++ l) (take_all left.0 [] (omega arith)) ∙ append-nil before

-- what a failed append leaves behind a journal
pub append_tears : (version server : ℕ) (bodies : List (List ℕ)) (body after : List ℕ) → FailsToAdd AddsFront (entry (chain_end version server bodies) body) (journal version server bodies) after
    → (count : ℕ) × (after ≡ torn version server bodies body count)
append_tears version server bodies body after (inl left) = left
append_tears version server bodies body after (inr left) =
    let one = entry (chain_end version server bodies) body in
    (length one, no_front (journal version server bodies ++ one) after left ∙ ap (λ (l : List ℕ). journal version server bodies ++ l) (sym (take_all (length one) one (omega arith))))

-- what a failed append of a piece leaves
pub tears_one : (content piece after : List ℕ) → FailsToAdd AddsFront piece content after → (count : ℕ) × (after ≡ content ++ take count piece)
tears_one content piece after (inl left) = left
tears_one content piece after (inr left) =
    (length piece, no_front (content ++ piece) after left ∙ ap (λ (l : List ℕ). content ++ l) (sym (take_all (length piece) piece (omega arith))))

-- nothing, where no piece was to be added
pub tears_none : (content piece after : List ℕ) → piece ≡ [] → FailsToAdd AddsFront piece content after → after ≡ content
tears_none content piece after none fails =
    let left = tears_one content piece after fails in
    left.1 ∙ ap (λ (l : List ℕ). content ++ take left.0 l) none ∙ ap (λ (l : List ℕ). content ++ l) (take_all left.0 [] (omega arith)) ∙ append-nil content

-- and what a failed opening leaves of a torn journal
pub opening_tears : (server : ℕ) (records : Records) (body : List ℕ) (count : ℕ) (after : List ℕ) → AreBodies records.bodies → IsBody body → version_of records ≡ NEWEST_VERSION
    → FailsToOpen AddsFront server (torn records.version server records.bodies body count) after → (left : ℕ) × (after ≡ torn records.version server records.bodies body left)
opening_tears server records body count after are is newest (inl left) = (count, no_front (torn records.version server records.bodies body count) after left)
opening_tears server records body count after are is newest (inr (inl left)) =
    absurd (new_begins_not (torn records.version server records.bodies body count) records.version server records.bodies left.0 (not_new records.version server records.bodies body count))
opening_tears server records body count after are is newest (inr (inr (found, dropped, finds, left))) = by (torn_finds server records body count found dropped are is finds)
  where
    one : List ℕ
    one = entry (chain_end records.version server records.bodies) body

    as_found : version_of found ≡ NEWEST_VERSION → after ≡ journal_of server found
    as_found at = tears_none (journal_of server found) (mark_for server found) after (lacks_none server found at) left

    by : (found ≡ records) ⊎ (found ≡ with_body records body) → (left : ℕ) × (after ≡ torn records.version server records.bodies body left)
    by (inl same) = (0, as_found (ap version_of same ∙ newest) ∙ ap (journal_of server) same ∙ sym (append-nil (journal_of server records)))
    by (inr more) = (
      length one,
      as_found (ap version_of more ∙ (is_pushed records body newest).newest) ∙ ap (journal_of server) more ∙ sym (whole_entry records.version server records.bodies body (length one) (omega arith)),
    )
