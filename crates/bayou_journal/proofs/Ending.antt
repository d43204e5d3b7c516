-- Where a chain ends, what an opening adds behind it, and what it leaves of other chains.
use Rattle.std.proofs.Common.{◌≡◌, ◌≢◌, ◌⊎◌, inl, inr, ℕ, zero, suc, ◌+◌, ◌-◌, ◌<◌, ◌≤◌, List, [], ◌++◌, length, take, drop, refl, sym, ◌∙◌, ap, subst, get_or, arith, append_assoc, length-append}
use Rattle.std.proofs.Math.Seq.{take-append-add}
use Rattle.std.proofs.lemmas.List.{take_at, append-nil}
use Rattle.bayou_device.specs.Device.{BeginsWith}
use Rattle.bayou_journal.specs.Chain.{AreBodies, IsLongestChain, NoEntry, header, entries, first_link, chain_end, journal}
use Rattle.bayou_journal.specs.Laws.Chain.{front_of_longest, journal-append, longest_is_one}
use Rattle.bayou_journal.specs.Inner.Heads.{missing, missing_header, raised_link}
use Rattle.bayou_journal.specs.Inner.Reads.{IsFound, IsRead}
use Rattle.bayou_journal.specs.Opening.{FailsToAdd, FailsToOpen, Finds, IsNew, IsNewJournal, IsOfAnother, IsOldJournal, KeepsChains, mark_for, new_records}
use Rattle.bayou_journal.specs.Versions.{AreLongest, IsVersionOf, Records, end_of, journal_of, raised, version_of}
use Rattle.bayou_journal.specs.declared.format.TheConstants.{HEADER_BYTES, MAGIC_BYTES, NAME_BYTES, NEWEST_VERSION}
use Rattle.bayou_journal.specs.declared.opened.Place.{Place}
use Rattle.bayou_journal.proofs.Raising.{is_raised, newest_of}

pub length-journal : (version server : ℕ) (bodies : List (List ℕ)) → HEADER_BYTES ≤ length (journal version server bodies)
length-journal version server bodies = omega (arith, length-append (header version server) (entries (first_link version server) bodies))

-- the server whose header stands at the front is one, and so is the version
pub tenth : (version edition one other : ℕ) (xs ys : List ℕ) → header version one ++ xs ≡ header edition other ++ ys → one ≡ other
tenth version edition one other xs ys same = ap (λ (l : List ℕ). get_or l NAME_BYTES 0) same

pub ninth : (version edition one other : ℕ) (xs ys : List ℕ) → header version one ++ xs ≡ header edition other ++ ys → version ≡ edition
ninth version edition one other xs ys same = ap (λ (l : List ℕ). get_or l MAGIC_BYTES 0) same

-- ---- what is found is one

record IsSame (one other : Records) (rest behind : List ℕ) : Type 0 where
  pub records : one ≡ other
  pub tails : rest ≡ behind

same_chain : (server : ℕ) (bytes : List ℕ) (one other : Records) (rest behind : List ℕ) → IsLongestChain one.version server bytes one.bodies rest → IsLongestChain other.version server bytes other.bodies behind → IsSame one other rest behind
same_chain server bytes one other rest behind first second =
    let left = entries (first_link one.version server) one.bodies in
    let right = entries (first_link other.version server) other.bodies in
    let whole : header one.version server ++ (left ++ rest) ≡ header other.version server ++ (right ++ behind) =
    sym (append_assoc (header one.version server) left rest) ∙ sym first.split ∙ second.split ∙ append_assoc (header other.version server) right behind in
    let version : one.version ≡ other.version = ninth one.version other.version server server (left ++ rest) (right ++ behind) whole in
    let moved : IsLongestChain one.version server bytes other.bodies behind = subst (λ (v : ℕ). IsLongestChain v server bytes other.bodies behind) (sym version) second in
    let same = longest_is_one one.version server bytes one.bodies other.bodies rest behind first moved in
    let bodies : one.bodies ≡ other.bodies = same.0 in
    record { records = λ i. record { version = version i; bodies = bodies i }; tails = same.1 }

pub moved_longest : (server : ℕ) (bytes : List ℕ) (one other : Records) (rest behind : List ℕ) → AreLongest server bytes one rest → IsLongestChain other.version server bytes other.bodies behind → one ≡ other
moved_longest server bytes one other rest behind first second = (same_chain server bytes one other rest behind first.chain second).records

pub same_longest : (server : ℕ) (bytes : List ℕ) (one other : Records) (rest behind : List ℕ) → AreLongest server bytes one rest → AreLongest server bytes other behind → (one ≡ other) × (rest ≡ behind)
same_longest server bytes one other rest behind first second =
    let same = same_chain server bytes one other rest behind first.chain second.chain in
    (same.records, same.tails)

-- no journal stands at the front of a new one's bytes
pub new_begins_not : (bytes : List ℕ) (version server : ℕ) (bodies : List (List ℕ)) → IsNew bytes → BeginsWith (journal version server bodies) bytes → ⊥
new_begins_not bytes version server bodies new begins =
    omega (arith, ap length new.2.1, length-append bytes new.2.0, ap length begins.1, length-append (journal version server bodies) begins.0, length-journal version server bodies)

pub finds_one : (server : ℕ) (bytes : List ℕ) (one other : Records) (dropped more : ℕ) → Finds server bytes one dropped → Finds server bytes other more → (one ≡ other) × (dropped ≡ more)
finds_one server bytes one other dropped more (inl first) (inl second) = (first.empty ∙ sym second.empty, first.whole ∙ sym second.whole)
finds_one server bytes one other dropped more (inl first) (inr second) = absurd (new_begins_not bytes other.version server other.bodies first.front (second.rest, second.longest.chain.split))
finds_one server bytes one other dropped more (inr first) (inl second) = absurd (new_begins_not bytes one.version server one.bodies second.front (first.rest, first.longest.chain.split))
finds_one server bytes one other dropped more (inr first) (inr second) =
    let same = same_longest server bytes one other first.rest second.rest first.longest second.longest in
    (same.0, first.behind ∙ ap length same.1 ∙ sym second.behind)

-- the header of the server's own journal is no other's
pub not_other : (version server : ℕ) (bytes rest : List ℕ) → IsVersionOf server version → bytes ≡ header version server ++ rest → IsOfAnother server bytes → ⊥
not_other version server bytes rest known split other = by other.another
  where
    heads : header other.version other.owner ++ other.begins.0 ≡ header version server ++ rest
    heads = sym other.begins.1 ∙ split

    same : other.owner ≡ server
    same = tenth other.version version other.owner server other.begins.0 rest heads

    has : IsVersionOf other.owner other.version
    has =
        subst (λ (v : ℕ). IsVersionOf other.owner v) (sym (ninth other.version version other.owner server other.begins.0 rest heads))
        (subst (λ (o : ℕ). IsVersionOf o version) (sym same) known)

    by : (other.owner ≢ server) ⊎ (¬ IsVersionOf other.owner other.version) → ⊥
    by (inl differs) = differs same
    by (inr unknown) = unknown has

-- the server's journal may have its version, and its bodies have their sizes
pub sizes_found : (server : ℕ) (bytes : List ℕ) (records : Records) (dropped : ℕ) → Finds server bytes records dropped → IsVersionOf server records.version × AreBodies records.bodies
sizes_found server bytes records dropped (inl new) = subst (λ (r : Records). IsVersionOf server r.version × AreBodies r.bodies) (sym new.empty) (newest_of server, tt)
sizes_found server bytes records dropped (inr old) = (old.longest.known, old.longest.chain.sizes)

-- what an opening finds has each chain with which the bytes begin
pub finds_all : (server : ℕ) (bytes : List ℕ) (records : Records) (dropped : ℕ) → Finds server bytes records dropped → KeepsChains bytes (journal_of server records)
finds_all server bytes records dropped (inl new) edition owner others are begins = absurd (new_begins_not bytes edition owner others new.front begins)
finds_all server bytes records dropped (inr old) edition owner others are begins =
    let version = records.version in
    let bodies = records.bodies in
    let whole : header edition owner ++ (entries (first_link edition owner) others ++ begins.0) ≡ header version server ++ (entries (first_link version server) bodies ++ old.rest) =
    sym (append_assoc (header edition owner) (entries (first_link edition owner) others) begins.0) ∙ sym begins.1 ∙ old.longest.chain.split ∙ append_assoc (header version server) (entries (first_link version server) bodies) old.rest in
    let same : owner ≡ server = tenth edition version owner server (entries (first_link edition owner) others ++ begins.0) (entries (first_link version server) bodies ++ old.rest) whole in
    let one : edition ≡ version = ninth edition version owner server (entries (first_link edition owner) others ++ begins.0) (entries (first_link version server) bodies ++ old.rest) whole in
    let links : first_link edition owner ≡ first_link version server = ap (λ (v : ℕ). first_link v owner) one ∙ ap (first_link version) same in
    let tails : entries (first_link version server) others ++ begins.0 ≡ entries (first_link version server) bodies ++ old.rest =
    ap (λ (l : List ℕ). entries l others ++ begins.0) (sym links) ∙ ap (drop HEADER_BYTES) whole in
    let front = front_of_longest (first_link version server) others bodies begins.0 old.rest are old.longest.chain.sizes old.longest.chain.longest tails in (
      entries (chain_end version server others) front.more,
      ap (journal version server) front.is ∙ journal-append version server others front.more
          ∙ ap (λ (v : ℕ). journal v server others ++ entries (chain_end version server others) front.more) (sym one)
          ∙ ap (λ (o : ℕ). journal edition o others ++ entries (chain_end version server others) front.more) (sym same),
    )

-- bytes that begin with a front, which begins with another
pub begins_on : (front middle bytes : List ℕ) → BeginsWith front middle → BeginsWith middle bytes → BeginsWith front bytes
begins_on front middle bytes one two = (one.0 ++ two.0, two.1 ∙ ap (λ (l : List ℕ). l ++ two.0) one.1 ∙ append_assoc front one.0 two.0)

-- a front that a cut doesn't reach
take_behind : (xs ys : List ℕ) (n : ℕ) → length xs ≤ n → take n (xs ++ ys) ≡ xs ++ take (n - length xs) ys
take_behind xs ys n long =
    let size : n ≡ length xs + (n - length xs) = omega arith in
    ap (λ (k : ℕ). take k (xs ++ ys)) size ∙ take-append-add xs ys (n - length xs)

-- the cut stands behind the longest chain, where there is one
pub ends_behind : (server : ℕ) (bytes : List ℕ) (records : Records) (dropped end : ℕ) → IsOldJournal server bytes records dropped → dropped ≡ length bytes - end → end ≤ length bytes → end ≡ length (journal_of server records)
ends_behind server bytes records dropped end old is within = omega (arith, is, within, old.behind, ap length old.longest.chain.split, length-append (journal_of server records) old.rest)

pub cut_keeps : (server : ℕ) (bytes : List ℕ) (records : Records) (dropped end : ℕ) (kept new : List ℕ) → Finds server bytes records dropped → dropped ≡ length bytes - end → end ≤ length bytes
    → BeginsWith kept bytes → BeginsWith (take end kept) new → KeepsChains kept new
cut_keeps server bytes records dropped end kept new (inl found) is within keeps front edition owner others are begins =
    absurd (new_begins_not bytes edition owner others found.front (begins_on (journal edition owner others) kept bytes begins keeps))
cut_keeps server bytes records dropped end kept new (inr found) is within keeps front edition owner others are begins =
    let all = finds_all server bytes records dropped (inr found) edition owner others are (begins_on (journal edition owner others) kept bytes begins keeps) in
    let far = ends_behind server bytes records dropped end found is within in
    let reach : length (journal edition owner others) ≤ end = omega (arith, far, ap length all.1, length-append (journal edition owner others) all.0) in
    let left : take end kept ≡ journal edition owner others ++ take (end - length (journal edition owner others)) begins.0 = ap (take end) begins.1 ∙ take_behind (journal edition owner others) begins.0 end reach in
    begins_on (journal edition owner others) (take end kept) new (take (end - length (journal edition owner others)) begins.0, left) front

pub same_keeps : (kept new : List ℕ) → new ≡ kept → KeepsChains kept new
same_keeps kept new is edition owner others are begins = (begins.0, is ∙ begins.1)

-- what is added behind keeps each chain
pub added_keeps : (kept content piece new : List ℕ) → BeginsWith kept content → new ≡ content ++ piece → KeepsChains kept new
added_keeps kept content piece new keeps is edition owner others are begins =
    let here = begins_on (journal edition owner others) kept content begins keeps in
    (here.0 ++ piece, is ∙ ap (λ (l : List ℕ). l ++ piece) here.1 ∙ append_assoc (journal edition owner others) here.0 piece)

-- ---- what is added behind the cut

-- a new journal lacks its header, and an older chain its mark
pub data Lacks (server : ℕ) (bytes : List ℕ) (records : Records) (now : ℕ) (last : List ℕ) (end : ℕ) : Type 0 where
  a_header : IsNewJournal bytes records (length bytes - end) → end ≡ 0 → missing server now last end ≡ header NEWEST_VERSION server → Lacks server bytes records now last end
  a_mark : IsOldJournal server bytes records (length bytes - end) → take end bytes ≡ journal_of server records → missing server now last end ≡ mark_for server records → Lacks server bytes records now last end

pub lacks : (server : ℕ) (bytes : List ℕ) (places : List Place) (now : ℕ) (last : List ℕ) (end : ℕ) → (found : IsFound server bytes places now last end) → Lacks server bytes found.records now last end
lacks server bytes places now last end found = by found.finds
  where
    records : Records
    records = found.records

    header_at : (end : ℕ) → end ≡ 0 → missing_header server end ≡ header NEWEST_VERSION server
    header_at zero none = refl
    header_at (suc end) some = absurd (omega arith)

    mark_at : (end : ℕ) → 0 < end → missing server (version_of records) (end_of server records) end ≡ mark_for server records
    mark_at zero none = absurd (omega arith)
    mark_at (suc end) some = refl

    by : Finds server bytes records (length bytes - end) → Lacks server bytes records now last end
    by (inl new) =
        let none : end ≡ 0 = omega (arith, new.whole, found.end_within) in
        let newest : now ≡ NEWEST_VERSION = found.now_is ∙ ap version_of new.empty in
        a_header new none (ap (λ (v : ℕ). missing server v last end) newest ∙ header_at end none)
    by (inr old) =
        let size = ends_behind server bytes records (length bytes - end) end old refl found.end_within in
        let long = length-journal records.version server records.bodies in
        a_mark old (ap (take end) old.longest.chain.split ∙ take_at (journal_of server records) old.rest end (sym size))
        (ap (λ (v : ℕ). missing server v last end) found.now_is ∙ ap (λ (l : List ℕ). missing server (version_of records) l end) found.ends ∙ mark_at end (omega arith))

-- what is left and what is added are the journal, raised
pub raises : (server : ℕ) (bytes : List ℕ) (places : List Place) (now : ℕ) (last : List ℕ) (end : ℕ) → (found : IsFound server bytes places now last end)
    → take end bytes ++ missing server now last end ≡ journal_of server (raised found.records)
raises server bytes places now last end found = by (lacks server bytes places now last end found)
  where
    records : Records
    records = found.records

    by : Lacks server bytes records now last end → take end bytes ++ missing server now last end ≡ journal_of server (raised records)
    by (a_header new none is) =
        ap (λ (n : ℕ). take n bytes ++ missing server now last end) none ∙ is ∙ sym (append-nil (header NEWEST_VERSION server)) ∙ sym (ap (λ (r : Records). journal_of server (raised r)) new.empty)
    by (a_mark old left is) =
        let of = sizes_found server bytes records (length bytes - end) found.finds in
        ap (λ (l : List ℕ). l ++ missing server now last end) left ∙ ap (λ (l : List ℕ). journal_of server records ++ l) is ∙ sym (is_raised server records of.0 of.1).whole

-- and the next entry stands behind its digest
pub raises_end : (server : ℕ) (bytes : List ℕ) (places : List Place) (now : ℕ) (last : List ℕ) (end : ℕ) → (found : IsFound server bytes places now last end) → raised_link now last ≡ end_of server (raised found.records)
raises_end server bytes places now last end found =
    let records = found.records in
    let of = sizes_found server bytes records (length bytes - end) found.finds in
    ap (λ (v : ℕ). raised_link v last) found.now_is ∙ ap (raised_link (version_of records)) found.ends ∙ (is_raised server records of.0 of.1).ends

-- such a journal has each chain with which the bytes begin
pub raised_keeps : (server : ℕ) (bytes : List ℕ) (places : List Place) (now : ℕ) (last : List ℕ) (end : ℕ) (kept new : List ℕ) → (found : IsFound server bytes places now last end) → BeginsWith kept bytes
    → new ≡ journal_of server (raised found.records) → KeepsChains kept new
raised_keeps server bytes places now last end kept new found keeps is edition owner others are begins =
    let records = found.records in
    let of = sizes_found server bytes records (length bytes - end) found.finds in
    let all = finds_all server bytes records (length bytes - end) found.finds edition owner others are (begins_on (journal edition owner others) kept bytes begins keeps) in
    begins_on (journal edition owner others) (journal_of server records) new all (mark_for server records, is ∙ (is_raised server records of.0 of.1).whole)

-- what is left where an append or the sync fails
pub fails_to_open : (may_leave : List ℕ → List ℕ → List ℕ → Type 0) (server : ℕ) (bytes : List ℕ) (places : List Place) (now : ℕ) (last : List ℕ) (end : ℕ) (new : List ℕ) → IsFound server bytes places now last end
    → FailsToAdd may_leave (missing server now last end) (take end bytes) new → FailsToOpen may_leave server bytes new
fails_to_open may_leave server bytes places now last end new found left = by (lacks server bytes places now last end found) left
  where
    records : Records
    records = found.records

    known : IsVersionOf server records.version × AreBodies records.bodies
    known = sizes_found server bytes records (length bytes - end) found.finds

    by : Lacks server bytes records now last end → FailsToAdd may_leave (missing server now last end) (take end bytes) new → FailsToOpen may_leave server bytes new
    by (a_header first none is) (inl left) =
        inr (inl (first.front, subst (λ (n : ℕ). may_leave (header NEWEST_VERSION server) (take n bytes) new) none (subst (λ (p : List ℕ). may_leave p (take end bytes) new) is left)))
    by (a_header first none is) (inr left) =
        inr (inr (records, length bytes - end, found.finds, inr (subst (λ (l : List ℕ). may_leave [] l new) (raises server bytes places now last end found ∙ (is_raised server records known.0 known.1).whole) left)))
    by (a_mark old front is) left =
        inr (inr (records, length bytes - end, found.finds, subst (λ (p : List ℕ). FailsToAdd may_leave p (journal_of server records) new) is (subst (λ (b : List ℕ). FailsToAdd may_leave (missing server now last end) b new) front left)))

-- ---- what is read is what an opening finds

pub reads_chain : (version server : ℕ) (bytes : List ℕ) (places : List Place) (now : ℕ) (last rest : List ℕ) (end : ℕ) → IsVersionOf server version → (read : IsRead version server bytes places now last rest) → NoEntry last rest
    → end + length rest ≡ length bytes → IsFound server bytes places now last end
reads_chain version server bytes places now last rest end known read none size = record {
  records = record { version = version; bodies = read.bodies };
  finds = inr (record {
    rest = rest;
    longest = record { known = known; chain = record { split = read.split; sizes = read.sizes; longest = subst (λ (l : List ℕ). NoEntry l rest) read.ends none } };
    behind = omega (arith, size);
  });
  tells = read.tells;
  now_is = read.now_is;
  ends = read.ends;
  within = read.within;
  end_within = omega (arith, size);
}

pub finds_new : (server : ℕ) (bytes last : List ℕ) → IsNew bytes → last ≡ first_link NEWEST_VERSION server → IsFound server bytes [] NEWEST_VERSION last 0
finds_new server bytes last new is = record {
  records = new_records;
  finds = inl (record { front = new; empty = refl; whole = omega arith });
  tells = refl;
  now_is = refl;
  ends = is;
  within = λ at inside. omega arith;
  end_within = omega arith;
}
