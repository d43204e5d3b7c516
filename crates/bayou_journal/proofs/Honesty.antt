-- What an opening makes of an honest device, and what it leaves where a call fails.
use Rattle.std.proofs.Common.{◌≡◌, ◌⊎◌, inl, inr, ℕ, ◌+◌, ◌<◌, ◌≤◌, List, [], ◌∷◌, ◌++◌, Option, None, Some, length, take, drop, refl, sym, ◌∙◌, ap, arith, append_assoc, length-append, subst, take-append-drop}
use Rattle.std.proofs.lemmas.Bool.{cases_order}
use Rattle.std.proofs.lemmas.List.{append-nil, take_all, take_at}
use Rattle.bayou_device.specs.Device.{BeginsWith}
use Rattle.bayou_device.specs.Memory.{AddsFront}
use Rattle.bayou_device.specs.declared.device.Device.{Ghosts}
use Rattle.bayou_journal.specs.Chain.{AreBodies, IsBody, IsLongestChain, entries, entry, first_link, header, journal, link, name}
use Rattle.bayou_journal.specs.Laws.Chain.{AreBodies-push, chain_end-push, journal-push}
use Rattle.bayou_journal.specs.Honest.{BeginsWithBodies, HasJournal, IsHonest, IsHonestDevice, IsPassing, IsRecoverable, IsRecovered, IsWhole, OnlyTears, added_body, torn}
use Rattle.bayou_journal.specs.Opened.{Found}
use Rattle.bayou_journal.specs.Opening.{FailsToAdd, FailsToOpen, Finds, HasOpened, HasRefused, IsForeign, IsOfAnother, KeepsChains, mark_for, new_records}
use Rattle.bayou_journal.specs.Versions.{AreLongest, Body, IsVersionOf, Records, bodies_in, body_in, end_of, journal_of, newest_mark, raised, told, version_of}
use Rattle.bayou_journal.specs.declared.fault.OpenFault.{OpenFault}
use Rattle.bayou_journal.specs.declared.fault.OpenFault.TheVariants.{Device, NotAJournal, OtherServer, OutOfMemory}
use Rattle.bayou_journal.specs.declared.format.TheConstants.{HEADER_BYTES, NEWEST_VERSION}
use Rattle.bayou_journal.proofs.Ending.{begins_on, finds_one, new_begins_not, ninth, not_other, same_longest, sizes_found}
use Rattle.bayou_journal.proofs.Heading.{is_new}
use Rattle.bayou_journal.proofs.Raising.{Raising, is_pushed, is_raised, mark_is_body, marks, newest_of, raising, stays, tells-mark, told-append}
use Rattle.bayou_journal.proofs.Tearing.{front_of_chain, no_entry, no_front, no_part, some_entry, tears_none, tears_one, with_body}

pub the_same : (bodies : List Body) (doubts : List Body) (found : List Body) → found ≡ bodies → IsHonest bodies doubts found
the_same bodies [] found is = is
the_same bodies (body ∷ doubts) found is = inl is

-- a front of a header has no entry
no_body : (version server : ℕ) (records : Records) (rest more : List ℕ) → header version server ≡ (journal_of server records ++ rest) ++ more → records.bodies ≡ []
no_body version server records rest more is = by records.bodies refl
  where
    by : (bodies : List (List ℕ)) → records.bodies ≡ bodies → records.bodies ≡ []
    by [] same = same
    by (body ∷ bodies) same =
        let first = first_link records.version server in
        let size : length (journal_of server records) ≡ HEADER_BYTES + length (entry first body ++ entries (link first body) bodies) =
        ap (λ (l : List (List ℕ)). length (journal records.version server l)) same ∙ length-append (header records.version server) (entry first body ++ entries (link first body) bodies) in
        absurd (omega (
          arith,
          ap length is,
          length-append (journal_of server records ++ rest) more,
          length-append (journal_of server records) rest,
          size,
          length-append (entry first body) (entries (link first body) bodies),
          some_entry first body,
        ))

tells_none : (records : Records) → records.bodies ≡ [] → bodies_in records ≡ []
tells_none records none = ap (told records.version) none

pub finds_honestly : (server : ℕ) (bodies : List Body) (doubts : List Body) (bytes : List ℕ) (records : Records) (dropped : ℕ) → IsRecoverable server bodies doubts bytes → Finds server bytes records dropped
    → IsHonest bodies doubts (bodies_in records)
finds_honestly server bodies doubts bytes records dropped (inl (none, front)) (inl new) = the_same bodies doubts (bodies_in records) (ap bodies_in new.empty ∙ sym none)
finds_honestly server bodies doubts bytes records dropped (inl (none, (version, known, front))) (inr old) =
    the_same bodies doubts (bodies_in records)
    (tells_none records (no_body version server records old.rest front.0 (front.1 ∙ ap (λ (l : List ℕ). l ++ front.0) old.longest.chain.split)) ∙ sym none)
finds_honestly server bodies doubts bytes records dropped (inr was) (inl new) = absurd (new_begins_not bytes was.records.version server was.records.bodies new.front (was.rest, was.longest.chain.split))
finds_honestly server bodies doubts bytes records dropped (inr was) (inr old) =
    subst (λ (r : Records). IsHonest bodies doubts (bodies_in r)) (same_longest server bytes was.records records was.rest old.rest was.longest old.longest).0 was.honest

-- a journal and nothing else is its own longest chain
pub whole_is_longest : (server : ℕ) (records : Records) → IsVersionOf server records.version → AreBodies records.bodies → AreLongest server (journal_of server records) records []
whole_is_longest server records known sizes = record {
  known = known;
  chain = record { split = sym (append-nil (journal_of server records)); sizes = sizes; longest = no_entry (end_of server records) };
}

pub whole_recovered : (server : ℕ) (bodies : List Body) (doubts : List Body) (records : Records) (after : List ℕ) → IsVersionOf server records.version → AreBodies records.bodies → IsHonest bodies doubts (bodies_in records)
    → after ≡ journal_of server records → IsRecovered server bodies doubts after
whole_recovered server bodies doubts records after known sizes honest is = record {
  records = records;
  rest = [];
  longest = subst (λ (b : List ℕ). AreLongest server b records []) (sym is) (whole_is_longest server records known sizes);
  honest = honest;
}

-- and it finds something
pub finds_something : (server : ℕ) (bodies : List Body) (doubts : List Body) (bytes : List ℕ) → IsRecoverable server bodies doubts bytes → (found : Records) × (dropped : ℕ) × Finds server bytes found dropped
finds_something server bodies doubts bytes (inl (none, (version, known, ([], front)))) =
    let whole : Records = record { version = version; bodies = [] } in
    let is : bytes ≡ journal_of server whole = sym (append-nil bytes) ∙ sym front ∙ sym (append-nil (header version server)) in
    let was = whole_recovered server [] [] whole bytes known tt refl is in
    (was.records, length was.rest, inr (record { rest = was.rest; longest = was.longest; behind = refl }))
finds_something server bodies doubts bytes (inl (none, (version, known, (x ∷ more, front)))) =
    let short : length bytes < HEADER_BYTES = omega (arith, ap length front, length-append bytes (x ∷ more)) in
    let same : take (length bytes) (header version server) ≡ bytes = ap (take (length bytes)) front ∙ take_at bytes (x ∷ more) (length bytes) refl in
    (new_records, length bytes, inl (record { front = is_new version server bytes known.0 (omega arith) same; empty = refl; whole = refl }))
finds_something server bodies doubts bytes (inr was) = (was.records, length was.rest, inr (record { rest = was.rest; longest = was.longest; behind = refl }))

-- a front of one entry more behind it is none, or that entry
pub torn_recovered : (server : ℕ) (bodies : List Body) (doubts : List Body) (records : Records) (body : List ℕ) (count : ℕ) (after : List ℕ) → IsVersionOf server records.version → AreBodies records.bodies → IsBody body
    → IsHonest bodies doubts (bodies_in records) → IsHonest bodies doubts (bodies_in (with_body records body))
    → after ≡ journal_of server records ++ take count (entry (end_of server records) body) → IsRecovered server bodies doubts after
torn_recovered server bodies doubts records body count after known sizes is without with is_after = by (cases_order count (length one))
  where
    one : List ℕ
    one = entry (end_of server records) body

    part : count < length one → IsRecovered server bodies doubts after
    part short = record {
      records = records;
      rest = take count one;
      longest = record { known = known; chain = record { split = is_after; sizes = sizes; longest = no_part (end_of server records) body count is short } };
      honest = without;
    }

    whole : length one ≤ count → IsRecovered server bodies doubts after
    whole long =
        whole_recovered server bodies doubts (with_body records body) after known (AreBodies-push records.bodies body sizes is) with
        (is_after ∙ ap (λ (l : List ℕ). journal_of server records ++ l) (take_all count one long) ∙ sym (journal-push records.version server records.bodies body))

    by : (count ≡ length one) ⊎ ((count < length one) ⊎ (length one < count)) → IsRecovered server bodies doubts after
    by (inl same) = whole (omega (arith, same))
    by (inr (inl short)) = part short
    by (inr (inr long)) = whole (omega (arith, long))

-- what a failed append of the mark leaves
mark_recovered : (server : ℕ) (bodies : List Body) (doubts : List Body) (records : Records) (after : List ℕ) → IsVersionOf server records.version → AreBodies records.bodies → IsHonest bodies doubts (bodies_in records)
    → FailsToAdd AddsFront (mark_for server records) (journal_of server records) after → IsRecovered server bodies doubts after
mark_recovered server bodies doubts records after known sizes honest fails = by (raising server records known.0)
  where
    by : Raising server records → IsRecovered server bodies doubts after
    by (stays newest is none same) = whole_recovered server bodies doubts records after known sizes honest (tears_none (journal_of server records) (mark_for server records) after none fails)
    by (marks before is mark next) =
        let left = tears_one (journal_of server records) (mark_for server records) after fails in
        torn_recovered server bodies doubts records newest_mark left.0 after known sizes mark_is_body honest (subst (IsHonest bodies doubts) (sym (tells-mark records before)) honest)
        (left.1 ∙ ap (λ (l : List ℕ). journal_of server records ++ take left.0 l) mark)

-- an opening that fails leaves a recoverable journal so
pub stays_recoverable : (server : ℕ) (bodies : List Body) (doubts : List Body) (before after : List ℕ) → IsRecoverable server bodies doubts before → FailsToOpen AddsFront server before after → IsRecoverable server bodies doubts after
stays_recoverable server bodies doubts before after was (inl left) = subst (λ (b : List ℕ). IsRecoverable server bodies doubts b) (sym (no_front before after left)) was
stays_recoverable server bodies doubts before after (inl (none, front)) (inr (inl (new, left))) =
    let whole = header NEWEST_VERSION server in
    inl (none, (NEWEST_VERSION, newest_of server, (drop left.0 whole, sym (take-append-drop left.0 whole) ∙ ap (λ (l : List ℕ). l ++ drop left.0 whole) (sym left.1))))
stays_recoverable server bodies doubts before after (inr was) (inr (inl (new, left))) =
    absurd (new_begins_not before was.records.version server was.records.bodies new (was.rest, was.longest.chain.split))
stays_recoverable server bodies doubts before after was (inr (inr (records, dropped, finds, left))) =
    let of = sizes_found server before records dropped finds in
    inr (mark_recovered server bodies doubts records after of.0 of.1 (finds_honestly server bodies doubts before records dropped was finds) left)

-- ---- devices

pub fails_to_add : {D : Type 0} (d : Ghosts D) (piece before after : List ℕ) → OnlyTears d → FailsToAdd d.may_leave piece before after → FailsToAdd AddsFront piece before after
fails_to_add d piece before after tears (inl left) = inl (tears.adds_front piece before after left)
fails_to_add d piece before after tears (inr left) = inr (tears.adds_front [] (before ++ piece) after left)

fails_to_open : {D : Type 0} (d : Ghosts D) (server : ℕ) (before after : List ℕ) → OnlyTears d → FailsToOpen d.may_leave server before after → FailsToOpen AddsFront server before after
fails_to_open d server before after tears (inl left) = inl (tears.adds_front [] before after left)
fails_to_open d server before after tears (inr (inl left)) = inr (inl (left.0, tears.adds_front (header NEWEST_VERSION server) [] after left.1))
fails_to_open d server before after tears (inr (inr (records, dropped, finds, left))) =
    inr (inr (records, dropped, finds, fails_to_add d (mark_for server records) (journal_of server records) after tears left))

pub begins_again : (server : ℕ) (bodies : List Body) (before after : List ℕ) → BeginsWithBodies server bodies before → KeepsChains before after → BeginsWithBodies server bodies after
begins_again server bodies before after was keeps = record {
  records = was.records;
  known = was.known;
  sizes = was.sizes;
  tells = was.tells;
  begins = keeps was.records.version server was.records.bodies was.sizes was.begins;
}

pub kept_again : (server : ℕ) (bodies : List Body) (before after : List ℕ) → (bodies ≡ []) ⊎ BeginsWithBodies server bodies before → KeepsChains before after → (bodies ≡ []) ⊎ BeginsWithBodies server bodies after
kept_again server bodies before after (inl none) keeps = inl none
kept_again server bodies before after (inr was) keeps = inr (begins_again server bodies before after was keeps)

-- where something is found the bytes are not refused
abbrev pub NeverForeign : Type 0
NeverForeign = (server : ℕ) (bytes : List ℕ) (records : Records) (dropped : ℕ) → Finds server bytes records dropped → IsForeign bytes → ⊥

abbrev pub NeverAnother : Type 0
NeverAnother = (server : ℕ) (bytes : List ℕ) (records : Records) (dropped : ℕ) → Finds server bytes records dropped → IsOfAnother server bytes → ⊥

pub passes : {D : Type 0} (d : Ghosts D) → NeverForeign → NeverAnother → (server : ℕ) (bodies : List Body) (doubts : List Body) (old new : D) (fault : OpenFault) → d.is_modelled
    → IsHonestDevice d server bodies doubts old → HasRefused d server old new fault → IsPassing fault
passes d foreign another server bodies doubts old new Device modelled honest refused = tt
passes d foreign another server bodies doubts old new OutOfMemory modelled honest refused = tt
passes d foreign another server bodies doubts old new NotAJournal modelled honest refused =
    let found = finds_something server bodies doubts (d.content old) honest.recoverable in
    foreign server (d.content old) found.0 found.1 found.2 (refused.1 modelled)
passes d foreign another server bodies doubts old new OtherServer modelled honest refused =
    let found = finds_something server bodies doubts (d.content old) honest.recoverable in
    another server (d.content old) found.0 found.1 found.2 (refused.1 modelled)

pub refused_honestly : {D : Type 0} (d : Ghosts D) (server : ℕ) (bodies : List Body) (doubts : List Body) (old new : D) (fault : OpenFault) → OnlyTears d
    → IsHonestDevice d server bodies doubts old → HasRefused d server old new fault → KeepsChains (d.kept old) (d.kept new) → IsHonestDevice d server bodies doubts new
refused_honestly {D} d server bodies doubts old new fault tears honest refused keeps = record {
  kept = kept_again server bodies (d.kept old) (d.kept new) honest.kept keeps;
  recoverable = left fault refused;
}
  where
    same : d.content new ≡ d.content old → IsRecoverable server bodies doubts (d.content new)
    same as_was = subst (λ (b : List ℕ). IsRecoverable server bodies doubts b) (sym as_was) honest.recoverable

    left : (fault : OpenFault) → HasRefused d server old new fault → IsRecoverable server bodies doubts (d.content new)
    left Device told = stays_recoverable server bodies doubts (d.content old) (d.content new) honest.recoverable (fails_to_open d server (d.content old) (d.content new) tears (told.1 tears.modelled))
    left NotAJournal told = same told.0.same
    left OtherServer told = same told.0.same
    left OutOfMemory told = same told.same

pub opens_whole : {D : Type 0} (d : Ghosts D) (server : ℕ) (old new : D) (found : Found) (last : List ℕ) → d.is_modelled → HasOpened d server old new found last → IsWhole d server found.bodies last new
opens_whole d server old new found last modelled opened =
    let up = is_raised server opened.records opened.known opened.sizes in
    record {
      has = record {
        records = raised opened.records;
        known = up.known;
        sizes = up.sizes;
        tells = up.tells ∙ sym opened.tells;
        newest = up.newest;
        ends = sym opened.ends;
        whole = opened.leaves modelled;
      };
      synced = opened.synced;
    }

pub opens_honestly : {D : Type 0} (d : Ghosts D) (server : ℕ) (bodies : List Body) (doubts : List Body) (old new : D) (found : Found) (last : List ℕ) → d.is_modelled
    → IsHonestDevice d server bodies doubts old → HasOpened d server old new found last → IsHonest bodies doubts found.bodies
opens_honestly d server bodies doubts old new found last modelled honest opened =
    subst (IsHonest bodies doubts) (sym opened.tells) (finds_honestly server bodies doubts (d.content old) opened.records found.dropped honest.recoverable (opened.finds modelled))

-- an opening that succeeds leaves the device honest for what was added before it too
pub honest_again : {D : Type 0} (d : Ghosts D) (server : ℕ) (bodies : List Body) (doubts : List Body) (old new : D) (found : Found) (last : List ℕ) → d.is_modelled
    → IsHonestDevice d server bodies doubts old → HasOpened d server old new found last → KeepsChains (d.kept old) (d.kept new) → IsHonestDevice d server bodies doubts new
honest_again d server bodies doubts old new found last modelled honest opened keeps =
    let is_honest = opens_honestly d server bodies doubts old new found last modelled honest opened in
    let has = (opens_whole d server old new found last modelled opened).has in
    record {
      kept = kept_again server bodies (d.kept old) (d.kept new) honest.kept keeps;
      recoverable = inr (whole_recovered server bodies doubts has.records (d.content new) has.known has.sizes (subst (IsHonest bodies doubts) (sym has.tells) is_honest) has.whole);
    }

pub whole_is_honest : {D : Type 0} (d : Ghosts D) (server : ℕ) (bodies : List Body) (doubts : List Body) (last : List ℕ) (device : D) → IsWhole d server bodies last device → IsHonestDevice d server bodies doubts device
whole_is_honest d server bodies doubts last device whole =
    let has = whole.has in
    record {
      kept = inr (record { records = has.records; known = has.known; sizes = has.sizes; tells = has.tells; begins = ([], whole.synced ∙ has.whole ∙ sym (append-nil (journal_of server has.records))) });
      recoverable = inr (whole_recovered server bodies doubts has.records (d.content device) has.known has.sizes (the_same bodies doubts (bodies_in has.records) has.tells) has.whole);
    }

pub journal-more : (server : ℕ) (bodies : List Body) (last bytes body : List ℕ) → HasJournal server bodies last bytes → IsBody body
    → HasJournal server (bodies ++ body_in NEWEST_VERSION body ∷ []) (link last body) (bytes ++ entry last body)
journal-more server bodies last bytes body has is = record {
  records = with_body has.records body;
  known = has.known;
  sizes = AreBodies-push has.records.bodies body has.sizes is;
  tells = (is_pushed has.records body has.newest).tells ∙ ap (λ (l : List Body). l ++ body_in NEWEST_VERSION body ∷ []) has.tells;
  newest = (is_pushed has.records body has.newest).newest;
  ends = chain_end-push has.records.version server has.records.bodies body ∙ ap (λ (l : List ℕ). link l body) has.ends;
  whole = ap (λ (l : List ℕ). l ++ entry last body) has.whole ∙ ap (λ (l : List ℕ). journal_of server has.records ++ entry l body) (sym has.ends)
      ∙ sym (journal-push has.records.version server has.records.bodies body);
}

pub added_whole : {D : Type 0} (d : Ghosts D) (server : ℕ) (bodies : List Body) (last body : List ℕ) (old new : D) → IsWhole d server bodies last old → IsBody body
    → d.content new ≡ d.content old ++ entry last body → d.kept new ≡ d.content new → IsWhole d server (bodies ++ body_in NEWEST_VERSION body ∷ []) (link last body) new
added_whole d server bodies last body old new whole is behind synced = record {
  has = subst (HasJournal server (bodies ++ body_in NEWEST_VERSION body ∷ []) (link last body)) (sym behind) (journal-more server bodies last (d.content old) body whole.has is);
  synced = synced;
}

pub append_honestly : {D : Type 0} (d : Ghosts D) (server : ℕ) (bodies : List Body) (last body : List ℕ) (old new : D) → OnlyTears d → IsBody body → IsWhole d server bodies last old
    → FailsToAdd d.may_leave (entry last body) (d.content old) (d.content new) → KeepsChains (d.kept old) (d.kept new) → IsHonestDevice d server bodies (body_in NEWEST_VERSION body ∷ []) new
append_honestly d server bodies last body old new tears is whole fails keeps =
    let has = whole.has in
    let torn_is = tears_one (d.content old) (entry last body) (d.content new) (fails_to_add d (entry last body) (d.content old) (d.content new) tears fails) in
    let after : d.content new ≡ journal_of server has.records ++ take torn_is.0 (entry (end_of server has.records) body) =
    torn_is.1 ∙ ap (λ (l : List ℕ). l ++ take torn_is.0 (entry last body)) has.whole ∙ ap (λ (l : List ℕ). journal_of server has.records ++ take torn_is.0 (entry l body)) (sym has.ends) in
    record {
      kept = kept_again server bodies (d.kept old) (d.kept new) (whole_is_honest d server bodies [] last old whole).kept keeps;
      recoverable = inr (torn_recovered server bodies (body_in NEWEST_VERSION body ∷ []) has.records body torn_is.0 (d.content new) has.known has.sizes is (inl has.tells)
          (inr ((is_pushed has.records body has.newest).tells ∙ ap (λ (l : List Body). l ++ body_in NEWEST_VERSION body ∷ []) has.tells)) after);
    }

-- a torn journal is recoverable
pub torn_recovers : (server : ℕ) (records : Records) (body : List ℕ) (count : ℕ) → IsVersionOf server records.version → AreBodies records.bodies → IsBody body → version_of records ≡ NEWEST_VERSION
    → IsRecoverable server (bodies_in records) (added_body body ∷ []) (torn records.version server records.bodies body count)
torn_recovers server records body count known sizes is newest =
    inr (torn_recovered server (bodies_in records) (added_body body ∷ []) records body count (torn records.version server records.bodies body count) known sizes is (inl refl)
    (inr (is_pushed records body newest).tells) refl)

-- ---- what is kept

pub kept_is_found : {D : Type 0} (d : Ghosts D) (server : ℕ) (bodies : List Body) (old new : D) (found : Found) (last : List ℕ) → BeginsWith (d.kept old) (d.content old) → d.is_modelled
    → BeginsWithBodies server bodies (d.kept old) → HasOpened d server old new found last → (more : List Body) × (found.bodies ≡ bodies ++ more)
kept_is_found d server bodies old new found last keeps modelled was opened = by (opened.finds modelled)
  where
    front : BeginsWith (journal_of server was.records) (d.content old)
    front = begins_on (journal_of server was.records) (d.kept old) (d.content old) was.begins keeps

    by : Finds server (d.content old) opened.records found.dropped → (more : List Body) × (found.bodies ≡ bodies ++ more)
    by (inl first) = absurd (new_begins_not (d.content old) was.records.version server was.records.bodies first.front front)
    by (inr chain) =
        let left = entries (first_link was.records.version server) was.records.bodies in
        let right = entries (first_link opened.records.version server) opened.records.bodies in
        let whole : header was.records.version server ++ (left ++ front.0) ≡ header opened.records.version server ++ (right ++ chain.rest) =
        sym (append_assoc (header was.records.version server) left front.0) ∙ sym front.1 ∙ chain.longest.chain.split ∙ append_assoc (header opened.records.version server) right chain.rest in
        let version : was.records.version ≡ opened.records.version = ninth was.records.version opened.records.version server server (left ++ front.0) (right ++ chain.rest) whole in
        let moved : IsLongestChain was.records.version server (d.content old) opened.records.bodies chain.rest =
        subst (λ (v : ℕ). IsLongestChain v server (d.content old) opened.records.bodies chain.rest) (sym version) chain.longest.chain in
        let more = front_of_chain was.records.version server (d.content old) was.records.bodies opened.records.bodies chain.rest was.sizes front moved in (
          told (version_of was.records) more.0,
          opened.tells
              ∙ ap (λ (v : ℕ). told v opened.records.bodies) (sym version)
              ∙ ap (told was.records.version) more.1
              ∙ told-append was.records.version was.records.bodies more.0
              ∙ ap (λ (l : List Body). l ++ told (version_of was.records) more.0) was.tells,
        )

pub kept_passes : {D : Type 0} (d : Ghosts D) (server : ℕ) (bodies : List Body) (old new : D) (fault : OpenFault) → BeginsWith (d.kept old) (d.content old) → d.is_modelled
    → BeginsWithBodies server bodies (d.kept old) → HasRefused d server old new fault → IsPassing fault
kept_passes d server bodies old new Device keeps modelled was refused = tt
kept_passes d server bodies old new OutOfMemory keeps modelled was refused = tt
kept_passes d server bodies old new NotAJournal keeps modelled was refused =
    let records = was.records in
    let front = begins_on (journal_of server records) (d.kept old) (d.content old) was.begins keeps in
    (refused.1 modelled).no_journal records.version was.known.0 (server ∷ (entries (first_link records.version server) records.bodies ++ front.0), front.1)
kept_passes d server bodies old new OtherServer keeps modelled was refused =
    let records = was.records in
    let behind = entries (first_link records.version server) records.bodies in
    let front = begins_on (journal_of server records) (d.kept old) (d.content old) was.begins keeps in
    not_other records.version server (d.content old) (behind ++ front.0) was.known (front.1 ∙ append_assoc (header records.version server) behind front.0) (refused.1 modelled)

-- ---- what is told of an opening is one

pub opened_is_one : {D : Type 0} (d : Ghosts D) (server : ℕ) (old new next : D) (found others : Found) (last end : List ℕ) → d.is_modelled → HasOpened d server old new found last → HasOpened d server old next others end
    → (found ≡ others) × (last ≡ end)
opened_is_one d server old new next found others last end modelled one other =
    let same = finds_one server (d.content old) one.records other.records found.dropped others.dropped (one.finds modelled) (other.finds modelled) in
    let bodies : found.bodies ≡ others.bodies = one.tells ∙ ap bodies_in same.0 ∙ sym other.tells in
    let dropped : found.dropped ≡ others.dropped = same.1 in
    ((λ i. record { bodies = bodies i; dropped = dropped i }), one.ends ∙ ap (λ (r : Records). end_of server (raised r)) same.0 ∙ sym other.ends)

pub opens_nothing : {D : Type 0} (d : Ghosts D) (server : ℕ) (old new : D) (found : Found) (last : List ℕ) → d.is_modelled → d.content old ≡ [] → HasOpened d server old new found last → (found.bodies ≡ []) × (found.dropped ≡ 0)
opens_nothing d server old new found last modelled none opened =
    let new_one : Finds server (d.content old) new_records 0 =
    inl (record { front = (NEWEST_VERSION, (newest_of server).0, (name NEWEST_VERSION, ap (λ (l : List ℕ). l ++ name NEWEST_VERSION) (sym none))); empty = refl; whole = sym (ap length none) }) in
    let same = finds_one server (d.content old) opened.records new_records found.dropped 0 (opened.finds modelled) new_one in
    (opened.tells ∙ ap bodies_in same.0, same.1)
