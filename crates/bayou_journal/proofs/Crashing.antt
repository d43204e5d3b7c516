-- What stands behind what is kept decides whether a device is honest; and what a crash leaves.
use Rattle.std.proofs.Common.{◌≡◌, ◌⊎◌, inl, inr, ℕ, ◌<◌, ◌≤◌, List, [], ◌∷◌, ◌++◌, None, length, map, take, refl, sym, ◌∙◌, ap, arith, append_assoc, subst}
use Rattle.std.proofs.lemmas.Bool.{cases_order}
use Rattle.std.proofs.lemmas.List.{append-nil, take_all}
use Rattle.bayou_device.specs.Device.{BeginsWith}
use Rattle.bayou_device.specs.Memory.{Memory, crashed, kept_bytes}
use Rattle.bayou_device.specs.MemoryDevice.{memory_device}
use Rattle.bayou_device.specs.declared.device.Device.{Ghosts}
use Rattle.bayou_journal.specs.Chain.{AreBodies, IsBody, NoEntry, chain_end, entries, entry, first_link, header, journal, last_link, link}
use Rattle.bayou_journal.specs.Laws.Chain.{AreBodies-append, AreBodies-push, journal-append, journal-push, last_link-append}
use Rattle.bayou_journal.specs.Honest.{BeginsWithBodies, GoesOnHonestly, HasCrashed, IsFrontOfHeader, IsHonest, IsHonestDevice, IsRecoverable, IsRecovered, KeepsBodies, OnlyTears, added_body}
use Rattle.bayou_journal.specs.Versions.{Body, IsVersionOf, Records, bodies_in, body_in, end_of, journal_of, marked, told, version_of}
use Rattle.bayou_journal.proofs.Raising.{told-append, told-one, told-push}
use Rattle.bayou_journal.specs.declared.format.TheConstants.{NEWEST_VERSION}
use Rattle.bayou_journal.proofs.Adding.{EntriesFront, entries_front, honest_behind, told-newest}
use Rattle.bayou_journal.proofs.Tearing.{no_entry, no_part}

-- what goes on honestly from nothing does so from these bodies
pub goes_on : (server : ℕ) (records : Records) (doubts : List Body) (bytes tail : List ℕ) → IsVersionOf server records.version → AreBodies records.bodies → bytes ≡ journal_of server records ++ tail → GoesOnHonestly server records doubts tail
    → IsRecovered server (bodies_in records) doubts bytes
goes_on server records doubts bytes tail known sizes split on =
    let version = records.version in
    let bodies = records.bodies in
    let last = end_of server records in
    let end : last_link last on.more ≡ chain_end version server (bodies ++ on.more) = sym (last_link-append (first_link version server) bodies on.more) in
    record {
      records = record records { bodies = bodies ++ on.more };
      rest = on.rest;
      longest = record {
        known = known;
        chain = record {
          split = split ∙ ap (λ (l : List ℕ). journal_of server records ++ l) on.split ∙ sym (append_assoc (journal_of server records) (entries last on.more) on.rest)
              ∙ ap (λ (l : List ℕ). l ++ on.rest) (sym (journal-append version server bodies on.more));
          sizes = AreBodies-append bodies on.more sizes on.sizes;
          longest = subst (λ (l : List ℕ). NoEntry l on.rest) end on.longest;
        };
      };
      honest = subst (IsHonest (bodies_in records) doubts) (sym (told-append version bodies on.more)) (subst (λ (l : List Body). IsHonest l doubts (bodies_in records ++ told (version_of records) on.more)) (append-nil (bodies_in records)) (honest_behind (bodies_in records) [] doubts (told (version_of records) on.more) on.honest));
    }

-- the entry of the body in doubt, and no entry behind it
pub entry_in_doubt : (server : ℕ) (records : Records) (body tail : List ℕ) → IsBody body → marked (version_of records) body ≡ None → NoEntry (link (end_of server records) body) tail
    → GoesOnHonestly server records (body_in (version_of records) body ∷ []) (entry (end_of server records) body ++ tail)
entry_in_doubt server records body tail is plain none =
    let one = entry (end_of server records) body in
    record {
      more = body ∷ [];
      rest = tail;
      sizes = (is, tt);
      split = ap (λ (l : List ℕ). l ++ tail) (sym (append-nil one));
      longest = none;
      honest = inr (told-one (version_of records) body plain);
    }

-- a front of that entry goes on to nothing, or to it
pub front_of_doubt : (server : ℕ) (records : Records) (body : List ℕ) (count : ℕ) → IsBody body → marked (version_of records) body ≡ None
    → GoesOnHonestly server records (body_in (version_of records) body ∷ []) (take count (entry (end_of server records) body))
front_of_doubt server records body count is plain = by (cases_order count (length one))
  where
    last : List ℕ
    last = end_of server records

    one : List ℕ
    one = entry last body

    doubts : List Body
    doubts = body_in (version_of records) body ∷ []

    part : count < length one → GoesOnHonestly server records doubts (take count one)
    part short = record { more = []; rest = take count one; sizes = tt; split = refl; longest = no_part last body count is short; honest = inl refl }

    whole : length one ≤ count → GoesOnHonestly server records doubts (take count one)
    whole long =
        subst (GoesOnHonestly server records doubts) (append-nil one ∙ sym (take_all count one long))
        (entry_in_doubt server records body [] is plain (no_entry (link last body)))

    by : (count ≡ length one) ⊎ ((count < length one) ⊎ (length one < count)) → GoesOnHonestly server records doubts (take count one)
    by (inl same) = whole (omega (arith, same))
    by (inr (inl short)) = part short
    by (inr (inr long)) = whole (omega (arith, long))

-- and a front of the entries of several to a front of them
pub front_of_several : (server : ℕ) (records : Records) (bodies : List (List ℕ)) (count : ℕ) → AreBodies bodies → version_of records ≡ NEWEST_VERSION
    → GoesOnHonestly server records (map added_body bodies) (take count (entries (end_of server records) bodies))
front_of_several server records bodies count are newest = record {
  more = front.more;
  rest = front.rest;
  sizes = front.sizes;
  split = front.split;
  longest = front.longest;
  honest = subst (λ (v : ℕ). IsHonest [] (map added_body bodies) (told v front.more)) (sym newest) (subst (IsHonest [] (map added_body bodies)) (sym (told-newest front.more)) front.honest);
}
  where
    front : EntriesFront (end_of server records) bodies (take count (entries (end_of server records) bodies))
    front = entries_front (end_of server records) bodies count are

pub kept_and_tail : {D : Type 0} (d : Ghosts D) (server : ℕ) (records : Records) (doubts : List Body) (device : D) (tail : List ℕ) → IsVersionOf server records.version → AreBodies records.bodies → d.kept device ≡ journal_of server records
    → d.content device ≡ d.kept device ++ tail → GoesOnHonestly server records doubts tail → IsHonestDevice d server (bodies_in records) doubts device
kept_and_tail d server records doubts device tail known sizes keeps behind on = record {
  kept = inr (record { records = records; known = known; sizes = sizes; tells = refl; begins = ([], keeps ∙ sym (append-nil (journal_of server records))) });
  recoverable = inr (goes_on server records doubts (d.content device) tail known sizes (behind ∙ ap (λ (l : List ℕ). l ++ tail) keeps) on);
}

-- the body in doubt is kept too, as behind an opening that wasn't answered
pub doubt_is_kept : {D : Type 0} (d : Ghosts D) (server : ℕ) (records : Records) (body : List ℕ) (device : D) (tail : List ℕ) → IsVersionOf server records.version → AreBodies records.bodies → IsBody body
    → marked (version_of records) body ≡ None → d.kept device ≡ journal records.version server (records.bodies ++ body ∷ []) → d.content device ≡ d.kept device ++ tail
    → NoEntry (chain_end records.version server (records.bodies ++ body ∷ [])) tail → IsHonestDevice d server (bodies_in records) (body_in (version_of records) body ∷ []) device
doubt_is_kept d server records body device tail known sizes is plain keeps behind none = record {
  kept = inr (record {
    records = records;
    known = known;
    sizes = sizes;
    tells = refl;
    begins = (entry (end_of server records) body, keeps ∙ journal-push records.version server records.bodies body);
  });
  recoverable = inr (record {
    records = record records { bodies = records.bodies ++ body ∷ [] };
    rest = tail;
    longest = record {
      known = known;
      chain = record { split = behind ∙ ap (λ (l : List ℕ). l ++ tail) keeps; sizes = AreBodies-push records.bodies body sizes is; longest = none };
    };
    honest = inr (told-push records.version records.bodies body plain);
  });
}

-- ---- a crash

pub crashed_honestly : {D : Type 0} (d : Ghosts D) (server : ℕ) (bodies : List Body) (doubts : List Body) (old new : D) → KeepsBodies d server bodies old
    → HasCrashed d server bodies doubts old new → IsHonestDevice d server bodies doubts new
crashed_honestly {D} d server bodies doubts old new keeps crash = record {
  kept = subst (λ (k : List ℕ). (bodies ≡ []) ⊎ BeginsWithBodies server bodies k) (sym crash.as_kept) keeps;
  recoverable = by keeps crash.begun;
}
  where
    goes : (records : Records) → IsVersionOf server records.version → AreBodies records.bodies → bodies_in records ≡ bodies → BeginsWith (journal_of server records) (d.kept old) → IsRecoverable server bodies doubts (d.content new)
    goes records known sizes tells (more, split) =
        let behind : d.content new ≡ journal_of server records ++ (more ++ crash.tail) =
        crash.behind ∙ ap (λ (l : List ℕ). l ++ crash.tail) split ∙ append_assoc (journal_of server records) more crash.tail in
        inr (subst (λ (b : List Body). IsRecovered server b doubts (d.content new)) tells
        (goes_on server records doubts (d.content new) (more ++ crash.tail) known sizes behind (crash.none records more known sizes tells split)))

    by : (bodies ≡ []) ⊎ BeginsWithBodies server bodies (d.kept old) → ((version : ℕ) × IsVersionOf server version × BeginsWith (header version server) (d.kept old)) ⊎ IsFrontOfHeader server (d.kept old ++ crash.tail)
        → IsRecoverable server bodies doubts (d.content new)
    by (inr was) begun = goes was.records was.known was.sizes was.tells was.begins
    by (inl none) (inl (version, known, (more, split))) =
        let whole : Records = record { version = version; bodies = [] } in
        goes whole known tt (sym none) (more, split ∙ ap (λ (l : List ℕ). l ++ more) (sym (append-nil (header version server))))
    by (inl none) (inr front) = inl (none, subst (IsFrontOfHeader server) (sym crash.behind) front)

pub memory_crashes : (server : ℕ) (bodies : List Body) (doubts : List Body) (tail : List ℕ) (old new : Memory) → new ≡ crashed tail old → kept_bytes new ≡ kept_bytes old
    → ((records : Records) (more : List ℕ) → IsVersionOf server records.version → AreBodies records.bodies → bodies_in records ≡ bodies → kept_bytes old ≡ journal_of server records ++ more → GoesOnHonestly server records doubts (more ++ tail))
    → ((version : ℕ) × IsVersionOf server version × BeginsWith (header version server) (kept_bytes old)) ⊎ IsFrontOfHeader server (kept_bytes old ++ tail)
    → HasCrashed memory_device server bodies doubts old new
memory_crashes server bodies doubts tail old new is kept none begun = record {
  as_kept = kept;
  tail = tail;
  behind = ap (λ (d : Memory). d.bytes) is;
  none = none;
  begun = begun;
}

pub the_same_device : {D : Type 0} (d : Ghosts D) (server : ℕ) (bodies : List Body) (doubts : List Body) (device other : D) → d.content other ≡ d.content device → d.kept other ≡ d.kept device
    → IsHonestDevice d server bodies doubts device → IsHonestDevice d server bodies doubts other
the_same_device d server bodies doubts device other content kept honest = record {
  kept = subst (λ (k : List ℕ). (bodies ≡ []) ⊎ BeginsWithBodies server bodies k) (sym kept) honest.kept;
  recoverable = subst (λ (b : List ℕ). IsRecoverable server bodies doubts b) (sym content) honest.recoverable;
}

pub memory_tears : OnlyTears memory_device
memory_tears = record { modelled = tt; adds_front = λ piece before after left. left }
