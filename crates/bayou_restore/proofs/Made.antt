-- What a server made is a history.
use Rattle.std.proofs.Common.{◌≡◌, ℕ, ◌≤◌, inl, inr, List, slice_index, Contains, ap, sym, ◌∙◌, subst, arith}
use Rattle.std.proofs.lemmas.Bool.{cases_lt}
use Rattle.std.proofs.lemmas.List.Elements.{All-contains}
use Rattle.bayou_base.specs.Vector.{Covers, Dominates}
use Rattle.bayou_lang.specs.declared.write.Write.{Write}
use Rattle.bayou_lang.specs.Laws.Clocks.{one_of_name}
use Rattle.bayou_lang.specs.Laws.Equality.{server-ext, wid-ext}
use Rattle.bayou_lang.specs.Laws.Fitting.{fitting_is_prefix_closed}
use Rattle.bayou_lang.specs.Writes.{AreFitting, Fits, IsSound, count_of}
use Rattle.bayou_restore.specs.Restoring.{IsHistory, IsOwnAmong}
use Rattle.bayou_restore.proofs.Parts.{Split, front_fits, named, of_front, split_of}

-- a Write of a fitting list counts no more than the list has
past_counted : (count : ℕ) (writes : List Write) (write : Write) → AreFitting count writes → Contains writes write → Dominates (count_of writes) write.deps
past_counted count writes write fitting among server known =
    let split = split_of writes write among in
    let fits : Fits count split.before write = fitting split.before write split.after split.is in
    let seq = slice_index write.deps server in
    elim (cases_lt 0 seq) as (λ _. seq ≤ slice_index (count_of writes) server) [
      | inr none ↦ omega (arith, none)
      | inl some ↦
          let last = named count split.before server seq (front_fits count writes write fitting split) some (fits.0.deps server known) in
          let below = All-contains (λ (w : Write). w.wid.seq ≤ slice_index (count_of writes) w.wid.origin.index) writes last.write
          (fitting_is_prefix_closed count writes fitting).none_beyond (of_front writes write last.write split last.among) in
          let at = ap (λ (s : ℕ). slice_index (count_of writes) s) last.origin in
          omega (arith, below, at, last.number)
    ]

module _ (server count : ℕ) (journal : List Write) (sound : IsSound server count journal) where
  -- a Write of the journal that an own one counts stands before it
  stands_before : (own other : Write) → (split : Split journal own) → Contains journal other → other.wid.seq ≤ slice_index (count_of split.before) other.wid.origin.index → Contains split.before other
  stands_before own other split among counted =
      let there = named count split.before other.wid.origin.index other.wid.seq (front_fits count journal own sound.fitting split) other.wid.in_range.0 counted in
      let same = wid-ext there.write.wid other.wid (server-ext there.write.wid.origin other.wid.origin there.origin) there.number in
      let one = one_of_name count journal there.write other sound.fitting (of_front journal own there.write split there.among) among same in
      subst (λ (w : Write). Contains split.before w) one there.among

  -- so the own one counts all that it counts
  counts_past : (own other : Write) → (split : Split journal own) → own.wid.origin.index ≡ server → Contains split.before other → Dominates own.deps other.deps
  counts_past own other split at among =
      let all : own.deps ≡ count_of split.before = sound.own split.before own split.after split.is at in
      subst (λ (counts : List ℕ). Dominates counts other.deps) (sym all) (past_counted count split.before other (front_fits count journal own sound.fitting split) among)

  pub made_is_history : (writes : List Write) → ((write : Write) → IsOwnAmong server writes write → Contains journal write)
      → ((write other : Write) → Contains writes write → Contains journal other → write.wid ≡ other.wid → write ≡ other) → IsHistory server writes
  made_is_history writes own_there agree = record {
    rising = λ one other first second less.
        let split = split_of journal other (own_there other second) in
        let fits : Fits count split.before other = sound.fitting split.before other split.after split.is in
        let at = ap (λ (s : ℕ). slice_index (count_of split.before) s) (first.1 ∙ sym second.1) in
        let before = stands_before other one split (own_there one first) (omega (arith, fits.0.next, at, less)) in
        counts_past other one split second.1 before;
    closed = λ own other first among covered.
        let split = split_of journal own (own_there own first) in
        let all : own.deps ≡ count_of split.before = sound.own split.before own split.after split.is first.1 in
        let counted : other.wid.seq ≤ slice_index (count_of split.before) other.wid.origin.index = subst (λ (counts : List ℕ). Covers counts other.wid.origin.index other.wid.seq) all covered in
        let there = named count split.before other.wid.origin.index other.wid.seq (front_fits count journal own sound.fitting split) other.wid.in_range.0 counted in
        let same = wid-ext other.wid there.write.wid (server-ext other.wid.origin there.write.wid.origin (sym there.origin)) (sym there.number) in
        let one : other ≡ there.write = agree other there.write among (of_front journal own there.write split there.among) same in
        counts_past own other split first.1 (subst (λ (w : Write). Contains split.before w) (sym one) there.among);
  }
