-- The first of the Writes that are due, found among the next ones of the servers.
use Rattle.std.proofs.Common.{◌≡◌, ℕ, ◌+◌, ◌<◌, ◌≤◌, true, false, cond, nat_lt, List, [], ◌∷◌, ◌++◌, Option, Some, None, length, get_or, slice_index, All, Contains, ap, sym, ◌∙◌, refl, subst, arith}
use Rattle.std.proofs.lemmas.Bool.Decides.{nat_tests}
use Rattle.bayou_base.specs.declared.stamp.Stamp.{Stamp}
use Rattle.bayou_base.specs.declared.limits.TheConstants.{SERVERS}
use Rattle.bayou_base.specs.Order.{is_before}
use Rattle.bayou_base.specs.Vector.{raised}
use Rattle.bayou_lang.specs.declared.write.Write.{Write}
use Rattle.bayou_lang.specs.Laws.Equality.{server-ext, wid-ext}
use Rattle.bayou_lang.specs.Laws.Fitting.{fitting_clocks_rise}
use Rattle.bayou_lang.specs.Laws.Lacking.{one_of_wid}
use Rattle.bayou_lang.specs.Laws.SetOfWrites.{not_before_itself}
use Rattle.bayou_lang.specs.Laws.StampOrder.{is_before-asym, is_before-cotrans}
use Rattle.bayou_lang.specs.Writes.{AreFitting}
use Rattle.bayou_restore.specs.Inner.Counting.{AreDue, IsDue, IsDueFirst, IsFirstDue, earlier_of}

-- the Write of the server behind those that are told of, if it is due
abbrev pub IsNextOf : ℕ → (counts told : List ℕ) → List Write → Option Write → Type 0
IsNextOf server counts told writes (Some write) =
    Contains writes write × (write.wid.origin.index ≡ server) × (write.wid.seq ≡ slice_index told server + 1) × (write.wid.seq ≤ slice_index counts server)
IsNextOf server counts told writes None = All (λ other. other.wid.origin.index ≡ server → ¬ IsDue counts told other) writes

not_before : (a b : Stamp) → (is_before a b ≡ true → ⊥) → is_before a b ≡ false
not_before a b never = elim (is_before a b) as (λ t. is_before a b ≡ t → t ≡ false) [ true ↦ λ is. absurd (never is) | false ↦ λ isnt. refl ] refl

later_clock : (a b : Stamp) → b.clock < a.clock → is_before a b ≡ false
later_clock a b less = grind (arith, nat_tests)

-- no Write of the server that is due comes before its next one
own_later : (count : ℕ) (writes : List Write) (server : ℕ) (counts told : List ℕ) (write : Write) → AreFitting count writes → IsNextOf server counts told writes (Some write)
    → (k : ℕ) (d : Write) → k < length writes → (get_or writes k d).wid.origin.index ≡ server → IsDue counts told (get_or writes k d)
    → is_before (get_or writes k d).stamp write.stamp ≡ false
own_later count writes server counts told write fitting (there, origin, next, counted) k d within at due =
    let other = get_or writes k d in
    let same_server : write.wid.origin ≡ other.wid.origin = server-ext write.wid.origin other.wid.origin (origin ∙ sym at) in
    let behind : slice_index told server < other.wid.seq = subst (λ s. slice_index told s < other.wid.seq) at due.0 in
    elim (nat_lt write.wid.seq other.wid.seq) as (λ t. nat_lt write.wid.seq other.wid.seq ≡ t → is_before other.stamp write.stamp ≡ false) [
      | true ↦ λ is.
          let earlier : write.wid.seq < other.wid.seq = grind (arith, nat_tests) in
          let rises = subst (λ (w : Write). w.wid.origin ≡ other.wid.origin → w.wid.seq < other.wid.seq → w.stamp.clock < other.stamp.clock) there.2
          (fitting_clocks_rise count writes fitting there.0 write there.1 k d within) in
          later_clock other.stamp write.stamp (rises same_server earlier)
      | false ↦ λ isnt.
          let equal : other.wid.seq ≡ write.wid.seq = grind (arith, nat_tests, behind, next) in
          let one : other ≡ write = one_of_wid count writes write fitting there k d within (wid-ext other.wid write.wid (sym same_server) equal) in
          subst (λ (w : Write). is_before w.stamp write.stamp ≡ false) (sym one) (not_before write.stamp write.stamp (not_before_itself write))
    ] refl

-- one server more
first_more : (writes : List Write) (server : ℕ) (counts told : List ℕ) (found : Write) → IsFirstDue server counts told writes found
    → ((k : ℕ) (d : Write) → k < length writes → (get_or writes k d).wid.origin.index ≡ server → IsDue counts told (get_or writes k d)
    → is_before (get_or writes k d).stamp found.stamp ≡ false) → IsFirstDue (server + 1) counts told writes found
first_more writes server counts told found first own = record {
  among = first.among;
  next = first.next;
  counted = first.counted;
  first = λ k d within below due.
      let other = get_or writes k d in
      elim (nat_lt other.wid.origin.index server) as (λ t. nat_lt other.wid.origin.index server ≡ t → is_before other.stamp found.stamp ≡ false) [
        | true ↦ λ is. first.first k d within (grind (arith, nat_tests)) due
        | false ↦ λ isnt. own k d within (grind (arith, nat_tests, below)) due
      ] refl;
}

-- the server's next Write, where none of the others is before it
next_first : (count : ℕ) (writes : List Write) (server : ℕ) (counts told : List ℕ) (write : Write) → AreFitting count writes → IsNextOf server counts told writes (Some write)
    → All (λ other. other.wid.origin.index < server → IsDue counts told other → is_before other.stamp write.stamp ≡ false) writes
    → IsFirstDue (server + 1) counts told writes write
next_first count writes server counts told write fitting next others =
    let found : IsFirstDue server counts told writes write = record {
      among = next.0;
      next = next.2 ∙ ap (λ s. slice_index told s + 1) (sym next.1);
      counted = subst (λ s. write.wid.seq ≤ slice_index counts s) (sym next.1) next.3;
      first = others;
    } in
    first_more writes server counts told write found (own_later count writes server counts told write fitting next)

-- The earlier of the first of so many servers and of the next of one more server is the first of all of these.
pub first_of_more : (count : ℕ) (writes : List Write) (server : ℕ) (counts told : List ℕ) (found next : Option Write) → AreFitting count writes
    → IsDueFirst server counts told writes found → IsNextOf server counts told writes next → IsDueFirst (server + 1) counts told writes (earlier_of found next)
first_of_more count writes server counts told None None fitting none_before none =
    λ k d within below due.
    let other = get_or writes k d in
    elim (nat_lt other.wid.origin.index server) as (λ t. nat_lt other.wid.origin.index server ≡ t → ⊥) [
      | true ↦ λ is. none_before k d within (grind (arith, nat_tests)) due
      | false ↦ λ isnt. none k d within (grind (arith, nat_tests, below)) due
    ] refl
first_of_more count writes server counts told None (Some write) fitting none_before next =
    next_first count writes server counts told write fitting next (λ k d within below due. absurd (none_before k d within below due))
first_of_more count writes server counts told (Some found) None fitting first none =
    first_more writes server counts told found first (λ k d within at due. absurd (none k d within at due))
first_of_more count writes server counts told (Some found) (Some write) fitting first next =
    elim (is_before write.stamp found.stamp)
    as (λ t. is_before write.stamp found.stamp ≡ t → IsDueFirst (server + 1) counts told writes (cond t (Some write) (Some found))) [
      | true ↦ λ before.
          next_first count writes server counts told write fitting next (λ k d within below due.
          let other = get_or writes k d in
          not_before other.stamp write.stamp (λ h.
          let both : true ≡ false =
          sym (is_before-cotrans other.stamp write.stamp found.stamp h (is_before-asym write.stamp found.stamp before)) ∙ first.first k d within below due in
          cc))
      | false ↦ λ after.
          first_more writes server counts told found first (λ k d within at due.
          let other = get_or writes k d in
          not_before other.stamp found.stamp (λ h.
          let both : true ≡ false =
          sym (is_before-cotrans other.stamp found.stamp write.stamp h after) ∙ own_later count writes server counts told write fitting next k d within at due in
          cc))
    ] refl

-- of fewer servers
pub first_of_fewer : (writes : List Write) (fewer servers : ℕ) (counts told : List ℕ) (found : Option Write) → fewer ≤ servers → IsDueFirst servers counts told writes found
    → IsDueFirst fewer counts told writes found
first_of_fewer writes fewer servers counts told None less none = λ k d within below. none k d within (omega (arith, below, less))
first_of_fewer writes fewer servers counts told (Some found) less first = record {
  among = first.among;
  next = first.next;
  counted = first.counted;
  first = λ k d within below due. first.first k d within (omega (arith, below, less)) due;
}

-- one more that is due
pub due_more : (counts : List ℕ) (writes : List Write) (told mid : List ℕ) (due : List Write) (write : Write) → AreDue counts writes told due mid → IsFirstDue SERVERS counts mid writes write
    → AreDue counts writes told (due ++ write ∷ []) (raised mid write.wid)
due_more counts writes told mid [] write same first = (subst (λ (t : List ℕ). IsFirstDue SERVERS counts t writes write) same first, ap (λ (t : List ℕ). raised t write.wid) same)
due_more counts writes told mid (other ∷ due) write are first = (are.0, due_more counts writes (raised told other.wid) mid due write are.1 first)
