-- How many device calls an opening makes.
use Rattle.std.proofs.Common.{◌≡◌, inl, inr, ℕ, ◌+◌, ◌-◌, ◌≤◌, List, [], ◌∷◌, ◌++◌, length, refl, sym, ◌∙◌, ap, subst, arith, append_assoc, length-append}
use Rattle.bayou_device.specs.declared.device.Device.{Ghosts}
use Rattle.bayou_device.specs.Device.{BeginsWith}
use Rattle.bayou_journal.specs.Chain.{entries, first_link, header}
use Rattle.bayou_journal.specs.Inner.Heads.{missing}
use Rattle.bayou_journal.specs.Inner.Reads.{IsFound}
use Rattle.bayou_journal.specs.Opening.{Finds, IsForeign, IsNew, IsOfAnother, OpensInCalls}
use Rattle.bayou_journal.specs.Versions.{AreLongest, Records, version_behind, version_of}
use Rattle.bayou_journal.specs.declared.format.TheConstants.{NEWEST_VERSION}
use Rattle.bayou_journal.specs.declared.opened.Place.{Place}
use Rattle.bayou_journal.proofs.Ending.{Lacks, a_header, a_mark, finds_one, lacks, new_begins_not, ninth, not_other}
use Rattle.bayou_journal.proofs.Raising.{lacks_none, newest_stays}

-- any number of calls may be none, and calls follow calls
abbrev pub Stays : {D : Type 0} → Ghosts D → Type 0
Stays {D} d = (most : ℕ) (device : D) → d.leads_to most device device

abbrev pub GoesOn : {D : Type 0} → Ghosts D → Type 0
GoesOn {D} d = (first second most : ℕ) (a b c : D) → first + second ≤ most → d.leads_to first a b → d.leads_to second b c → d.leads_to most a c

more : {D : Type 0} (d : Ghosts D) → Stays d → GoesOn d → (few many : ℕ) (old new : D) → few ≤ many → d.leads_to few old new → d.leads_to many old new
more d stays on few many old new within calls = on few 0 many old new new (omega (arith, within)) calls (stays 0 new)

-- nothing but the read, or not even that
pub one_call : {D : Type 0} (d : Ghosts D) (server : ℕ) (old new : D) → Stays d → GoesOn d → d.leads_to 1 old new → OpensInCalls d server old new
one_call d server old new stays on calls = record {
  most = more d stays on 1 4 old new (omega arith) calls;
  empty = λ _ _. more d stays on 1 3 old new (omega arith) calls;
  headed = λ _ _. more d stays on 1 3 old new (omega arith) calls;
  newest = λ _ _ _ _ _. more d stays on 1 3 old new (omega arith) calls;
  older = λ _ _ _. more d stays on 1 3 old new (omega arith) calls;
  whole = λ _ _ _ _. more d stays on 1 2 old new (omega arith) calls;
  foreign = λ _ _. calls;
  another = λ _ _. calls;
}

-- bytes that begin with a header are no new journal's
no_header : (version owner : ℕ) (bytes : List ℕ) → IsNew bytes → BeginsWith (header version owner) bytes → ⊥
no_header version owner bytes new begins =
    omega (arith, ap length new.2.1, length-append bytes new.2.0, ap length begins.1, length-append (header version owner) begins.0)

pub not_foreign : (server : ℕ) (bytes : List ℕ) (records : Records) (dropped : ℕ) → Finds server bytes records dropped → IsForeign bytes → ⊥
not_foreign server bytes records dropped (inl new) foreign = foreign.no_front new.front
not_foreign server bytes records dropped (inr old) foreign =
    foreign.no_journal records.version old.longest.known.0 (server ∷ (entries (first_link records.version server) records.bodies ++ old.rest), old.longest.chain.split)

pub not_of_another : (server : ℕ) (bytes : List ℕ) (records : Records) (dropped : ℕ) → Finds server bytes records dropped → IsOfAnother server bytes → ⊥
not_of_another server bytes records dropped (inl new) other = no_header other.version other.owner bytes new.front other.begins
not_of_another server bytes records dropped (inr old) other =
    not_other records.version server bytes (entries (first_link records.version server) records.bodies ++ old.rest) old.longest.known
    (old.longest.chain.split ∙ append_assoc (header records.version server) (entries (first_link records.version server) records.bodies) old.rest) other

pub not_both : (server : ℕ) (bytes : List ℕ) → IsForeign bytes → IsOfAnother server bytes → ⊥
not_both server bytes foreign other = foreign.no_journal other.version other.known (other.owner ∷ other.begins.0, other.begins.1)

-- where the newest header is there, nothing is missing
headed : (server : ℕ) (bytes : List ℕ) (places : List Place) (now : ℕ) (last : List ℕ) (end : ℕ) → IsFound server bytes places now last end → BeginsWith (header NEWEST_VERSION server) bytes → missing server now last end ≡ []
headed server bytes places now last end found begins = by (lacks server bytes places now last end found)
  where
    records : Records
    records = found.records

    by : Lacks server bytes records now last end → missing server now last end ≡ []
    by (a_header new none is) = absurd (no_header NEWEST_VERSION server bytes new.front begins)
    by (a_mark old front is) =
        let behind = entries (first_link records.version server) records.bodies in
        let same : NEWEST_VERSION ≡ records.version =
        ninth NEWEST_VERSION records.version server server begins.0 (behind ++ old.rest) (sym begins.1 ∙ old.longest.chain.split ∙ append_assoc (header records.version server) behind old.rest) in
        is ∙ lacks_none server records (ap (λ (v : ℕ). version_behind v records.bodies) (sym same) ∙ newest_stays records.bodies)

-- and where its version is the newest
at_newest : (server : ℕ) (bytes : List ℕ) (places : List Place) (now : ℕ) (last : List ℕ) (end : ℕ) → (found : IsFound server bytes places now last end) → (others : Records) (rest : List ℕ) → AreLongest server bytes others rest
    → version_of others ≡ NEWEST_VERSION → missing server now last end ≡ []
at_newest server bytes places now last end found others rest longest newest = by (lacks server bytes places now last end found)
  where
    records : Records
    records = found.records

    by : Lacks server bytes records now last end → missing server now last end ≡ []
    by (a_header new none is) = absurd (new_begins_not bytes others.version server others.bodies new.front (rest, longest.chain.split))
    by (a_mark old front is) =
        let same = finds_one server bytes records others (length bytes - end) (length rest) found.finds (inr (record { rest = rest; longest = longest; behind = refl })) in
        is ∙ lacks_none server records (ap version_of same.0 ∙ newest)

-- where nothing stands behind the longest chain, nothing is cut
cuts_none : (server : ℕ) (bytes : List ℕ) (places : List Place) (now : ℕ) (last : List ℕ) (end : ℕ) → (found : IsFound server bytes places now last end) → (others : Records) → AreLongest server bytes others [] → end ≡ length bytes
cuts_none server bytes places now last end found others longest =
    let same = finds_one server bytes found.records others (length bytes - end) 0 found.finds (inr (record { rest = []; longest = longest; behind = refl })) in
    omega (arith, same.1, found.end_within)

-- the read, then the cut or none, then the append of what is missing, if anything is, and the sync
pub all_calls : {D : Type 0} (d : Ghosts D) (server : ℕ) (old read cut new : D) (bytes : List ℕ) (places : List Place) (now : ℕ) (last : List ℕ) (end : ℕ) (piece : List ℕ) → Stays d → GoesOn d
    → (d.is_modelled → bytes ≡ d.content old) → IsFound server bytes places now last end → piece ≡ missing server now last end
    → d.leads_to 1 old read → d.leads_to 1 read cut → (end ≡ length bytes → d.leads_to 0 read cut) → d.leads_to 2 cut new → (piece ≡ [] → d.leads_to 1 cut new)
    → OpensInCalls d server old new
all_calls {D} d server old read cut new bytes places now last end piece stays on is_read found is_piece reads cuts no_cut adds no_piece =
    let both = on 1 1 2 old read cut (omega arith) reads cuts in
    let here : (records : Records) (rest : List ℕ) → d.is_modelled → AreLongest server (d.content old) records rest → AreLongest server bytes records rest =
    λ records rest modelled longest. subst (λ (b : List ℕ). AreLongest server b records rest) (sym (is_read modelled)) longest in
    let uncut : end ≡ length bytes → d.leads_to 1 old cut = λ all. on 1 0 1 old read cut (omega arith) reads (no_cut all) in
    record {
      most = on 2 2 4 old cut new (omega arith) both adds;
      empty = λ modelled none.
          let short : length bytes ≡ 0 = ap length (is_read modelled ∙ none) in
          on 1 2 3 old cut new (omega arith) (uncut (omega (arith, found.end_within))) adds;
      headed = λ modelled begins.
          let begins_here = subst (λ (b : List ℕ). BeginsWith (header NEWEST_VERSION server) b) (sym (is_read modelled)) begins in
          on 2 1 3 old cut new (omega arith) both (no_piece (is_piece ∙ headed server bytes places now last end found begins_here));
      newest = λ modelled records rest longest at.
          on 2 1 3 old cut new (omega arith) both (no_piece (is_piece ∙ at_newest server bytes places now last end found records rest (here records rest modelled longest) at));
      older = λ modelled records longest.
          on 1 2 3 old cut new (omega arith) (uncut (cuts_none server bytes places now last end found records (here records [] modelled longest))) adds;
      whole = λ modelled records longest at.
          let is_longest = here records [] modelled longest in
          on 1 1 2 old cut new (omega arith) (uncut (cuts_none server bytes places now last end found records is_longest))
          (no_piece (is_piece ∙ at_newest server bytes places now last end found records [] is_longest at));
      foreign = λ modelled is_foreign. absurd (not_foreign server bytes found.records (length bytes - end) found.finds (subst IsForeign (sym (is_read modelled)) is_foreign));
      another = λ modelled is_other. absurd (not_of_another server bytes found.records (length bytes - end) found.finds (subst (IsOfAnother server) (sym (is_read modelled)) is_other));
    }

-- where nothing was dropped there was no cut
pub without_cut : {D : Type 0} (d : Ghosts D) (old read cut new : D) (total end : ℕ) → GoesOn d → total - end ≡ 0 → end ≤ total
    → d.leads_to 1 old read → (end ≡ total → d.leads_to 0 read cut) → d.leads_to 2 cut new → d.leads_to 3 old new
without_cut d old read cut new total end on none within reads no_cut adds =
    on 1 2 3 old cut new (omega arith) (on 1 0 1 old read cut (omega arith) reads (no_cut (omega (arith, none, within)))) adds
