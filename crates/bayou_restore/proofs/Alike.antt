-- What two fitting lists have under a name, by the Writes that were found there.
use Rattle.std.proofs.Common.{◌≡◌, ◌≢◌, ◌<◌, ◌≤◌, ◌∙◌, inl, inr, ℕ, ◌+◌, Bool, true, false, not, refl, List, All, Contains, ap, arith, min, slice_index, subst, sym}
use Rattle.std.proofs.lemmas.Bool.{cases_eq, cases_lt}
use Rattle.std.proofs.lemmas.List.Elements.{All-contains}
use Rattle.bayou_base.specs.declared.wid.Wid.{Wid}
use Rattle.bayou_lang.specs.declared.write.Write.{Write}
use Rattle.bayou_lang.specs.Equality.{same_write}
use Rattle.bayou_lang.specs.Laws.Clocks.{one_of_name}
use Rattle.bayou_lang.specs.Laws.Equality.{same_write-decides, server-ext, wid-ext}
use Rattle.bayou_lang.specs.Laws.Fitting.{fitting_is_prefix_closed}
use Rattle.bayou_lang.specs.Writes.{AreFitting, count_of}
use Rattle.bayou_restore.specs.Differing.{Agree, AgreeOnAll, Differ, IsNamed}

-- a name is what its server and its number are
named : (wid : Wid) (write : Write) → IsNamed wid.origin.index wid.seq write → write.wid ≡ wid
named wid write (origin, number) = wid-ext write.wid wid (server-ext write.wid.origin wid.origin origin) number

names : (wid : Wid) (write : Write) → write.wid ≡ wid → IsNamed wid.origin.index wid.seq write
names wid write is = (ap (λ (w : Wid). w.origin.index) is, ap (λ (w : Wid). w.seq) is)

-- where one has no Write of the name, the two agree there
pub none_of_one : (one other : List Write) (wid : Wid) → All (λ write. write.wid ≢ wid) one → Agree one other wid.origin.index wid.seq
none_of_one one other wid none write another among among_other is is_other = absurd (All-contains (λ (w : Write). w.wid ≢ wid) one write none among (named wid write is))

pub none_of_other : (one other : List Write) (wid : Wid) → All (λ write. write.wid ≢ wid) other → Agree one other wid.origin.index wid.seq
none_of_other one other wid none write another among among_other is is_other = absurd (All-contains (λ (w : Write). w.wid ≢ wid) other another none among_other (named wid another is_other))

not_no : (told : Bool) → not told ≡ false → told ≡ true
not_no true is = refl
not_no false is = sym is

not_yes : (told : Bool) → not told ≡ true → told ≡ false
not_yes true is = sym is
not_yes false is = refl

-- where both were found and are one, any that are there under the name are these
pub found_same : (count of_other : ℕ) (one other : List Write) (found another : Write) (wid : Wid) (told : Bool) → AreFitting count one → AreFitting of_other other
    → Contains one found → found.wid ≡ wid → Contains other another → another.wid ≡ wid → told ≡ same_write found another → not told ≡ false → Agree one other wid.origin.index wid.seq
found_same count of_other one other found another wid told fitting fits among is among_other is_other told_is denied a b a_among b_among a_is b_is =
    let same = (same_write-decides found another).0 (sym told_is ∙ not_no told denied) in
    one_of_name count one a found fitting a_among among (named wid a a_is ∙ sym is) ∙ same ∙ sym (one_of_name of_other other b another fits b_among among_other (named wid b b_is ∙ sym is_other))

-- where they aren't, the two differ
pub found_other : (one other : List Write) (found another : Write) (wid : Wid) (told : Bool) → Contains one found → found.wid ≡ wid → Contains other another → another.wid ≡ wid
    → told ≡ same_write found another → not told ≡ true → Differ one other wid.origin.index wid.seq
found_other one other found another wid told among is among_other is_other told_is denied = record {
  write = found;
  another = another;
  among = (among, names wid found is);
  among_other = (among_other, names wid another is_other);
  differ = λ same. absurd (let both : true ≡ false = sym ((same_write-decides found another).1 same) ∙ sym told_is ∙ not_yes told denied in cc);
}

-- no Write has the number 0
pub agree_at_zero : (one other : List Write) (server : ℕ) → Agree one other server 0
agree_at_zero one other server write another among among_other is is_other = absurd (omega (arith, write.wid.in_range.0, is.1))

-- no list has a Write behind those that it counts
beyond : (count : ℕ) (writes : List Write) (server number : ℕ) (write : Write) → AreFitting count writes → Contains writes write → IsNamed server number write → number ≤ slice_index (count_of writes) server
beyond count writes server number write fitting among (origin, is) =
    let most = All-contains (λ (w : Write). w.wid.seq ≤ slice_index (count_of writes) w.wid.origin.index) writes write (fitting_is_prefix_closed count writes fitting).none_beyond among in
    let here = subst (λ s. write.wid.seq ≤ slice_index (count_of writes) s) origin most in
    omega (arith, here, is)

-- so the two agree behind what both count
pub agree_beyond : (count of_other : ℕ) (one other : List Write) (server number both : ℕ) → AreFitting count one → AreFitting of_other other
    → both ≡ min (slice_index (count_of one) server) (slice_index (count_of other) server) → both < number → Agree one other server number
agree_beyond count of_other one other server number both fitting fits is above write another among among_other named named_other =
    let in_one = beyond count one server number write fitting among named in
    let in_other = beyond of_other other server number another fits among_other named_other in
    absurd (omega (arith, is, above, in_one, in_other))

-- under one number more
pub agree_more : (one other : List Write) (server behind : ℕ) → ((smaller : ℕ) → smaller ≤ behind → Agree one other server smaller) → Agree one other server (behind + 1)
    → (smaller : ℕ) → smaller ≤ behind + 1 → Agree one other server smaller
agree_more one other server behind before here smaller within =
    elim (cases_eq smaller (behind + 1)) as (λ _. Agree one other server smaller) [
      | inl last ↦ subst (Agree one other server) (sym last) here
      | inr not_last ↦ before smaller (omega (arith, within, not_last))
    ]

-- under every number
pub agree_on_all : (count of_other : ℕ) (one other : List Write) (server behind both : ℕ) → AreFitting count one → AreFitting of_other other
    → both ≡ min (slice_index (count_of one) server) (slice_index (count_of other) server) → both ≤ behind
    → ((smaller : ℕ) → smaller ≤ behind → Agree one other server smaller) → AgreeOnAll one other server
agree_on_all count of_other one other server behind both fitting fits is past before number =
    elim (cases_lt behind number) as (λ _. Agree one other server number) [
      | inl above ↦ agree_beyond count of_other one other server number both fitting fits is (omega (arith, above, past))
      | inr within ↦ before number (omega (arith, within))
    ]
