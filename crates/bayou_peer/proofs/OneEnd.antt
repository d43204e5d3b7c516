-- One input ends a pull in one way.
use Rattle.std.proofs.Common.{arith, ◌≡◌, ℕ, ◌+◌, ◌<◌, ◌^◌, List, [], ◌∷◌, ◌++◌, length, get_or, Ok, Err, refl, sym, ap, subst, ◌∙◌, append_assoc, inl, inr}
use Rattle.std.proofs.lemmas.List.{append-nil}
use Rattle.std.specs.List.{AllByRecursion}
use Rattle.bayou_lang.specs.declared.write.Write.{Write}
use Rattle.bayou_lang.specs.Ranges.{IsWrite}
use Rattle.bayou_frames.specs.declared.fault.ChannelFault.TheVariants.{BadFrame, Cut}
use Rattle.bayou_peer.specs.declared.fault.PullFault.{PullFault}
use Rattle.bayou_peer.specs.declared.fault.PullFault.TheVariants.{Stream}
use Rattle.bayou_peer.specs.declared.pulling.PullStopped.{PullStopped}
use Rattle.bayou_peer.specs.declared.pulling.Pulled.{Pulled}
use Rattle.bayou_peer.specs.Pulls.{EndsOf, HasNoPlace, IsBad, PullStops, Received, Ways}
use Rattle.bayou_wire.specs.Laws.Frames.{begins_one, faulty_on, not_faulty, not_partial, partial_not_faulty}
use Rattle.bayou_frames.specs.Spelled.{items_of}
use Rattle.bayou_wire.specs.declared.frame.Frame.TheVariants.{End, Item}
use Rattle.bayou_wire.specs.declared.layout.TheConstants as layout
use Rattle.bayou_wire.specs.Stream.{IsFaulty, IsPartial, spelling, spellings}

-- ---- frames in their spelling

-- the kinds differ, whatever the number
end_is_no_item : (number : ℕ) (write : Write) (x y : List ℕ) → spelling (End number) ++ x ≡ spelling (Item write) ++ y → ⊥
unfolding spelling
end_is_no_item number write x y same = let kinds : layout.KIND_END ≡ layout.KIND_ITEM = ap (λ s. get_or s 2 0) same in omega (arith, kinds)

end_not_partial : (number : ℕ) (x : List ℕ) → IsPartial (spelling (End number) ++ x) → ⊥
unfolding spelling
end_not_partial number x partial = omega (arith, partial.1)

-- ---- what stands behind the Items

abbrev NoItem : List ℕ → Type 0
NoItem bytes = (write : Write) (behind : List ℕ) → IsWrite write → bytes ≡ spelling (Item write) ++ behind → ⊥

-- bytes have one number of Items at the front
one_number : (writes others : List Write) (x y : List ℕ) → AllByRecursion IsWrite writes → AllByRecursion IsWrite others → NoItem x → NoItem y
    → spellings (items_of writes) ++ x ≡ spellings (items_of others) ++ y → (length writes ≡ length others) × (x ≡ y)
one_number [] [] x y all both none no_other same = (refl, same)
one_number [] (v ∷ others) x y all both none no_other same =
    absurd (none v (spellings (items_of others) ++ y) both.0 (same ∙ append_assoc (spelling (Item v)) (spellings (items_of others)) y))
one_number (w ∷ writes) [] x y all both none no_other same =
    absurd (no_other w (spellings (items_of writes) ++ x) all.0 (sym same ∙ append_assoc (spelling (Item w)) (spellings (items_of writes)) x))
one_number (w ∷ writes) (v ∷ others) x y all both none no_other same =
    let first = begins_one (Item w) (Item v) (spellings (items_of writes) ++ x) (spellings (items_of others) ++ y) all.0 both.0
    (sym (append_assoc (spelling (Item w)) (spellings (items_of writes)) x) ∙ same ∙ append_assoc (spelling (Item v)) (spellings (items_of others)) y) in
    let rest = one_number writes others x y all.1 both.1 none no_other first.1 in
    (omega (arith, rest.0), rest.1)

-- what a pull received of the input, and what stands behind that
stands_behind : {S : Type 0} (ways : Ways S) (start now : S) (input read left rest : List ℕ) (taken had : ℕ) (r : Received ways start now read rest taken had) → input ≡ read ++ left
    → input ≡ spellings (items_of r.writes) ++ (rest ++ left)
stands_behind {S} ways start now input read left rest taken had r whole = whole ∙ ap (λ s. s ++ left) r.whole ∙ append_assoc (spellings (items_of r.writes)) rest left

-- two pulls of one input received as many Items, where none stands behind them
pub one_input : {S U : Type 0} (ways : Ways S) (others : Ways U) (start now : S) (other after : U) (input read left rest again over more : List ℕ) (taken had new old : ℕ)
    → Received ways start now read rest taken had → Received others other after again more new old → input ≡ read ++ left → input ≡ again ++ over
    → NoItem (rest ++ left) → NoItem (more ++ over) → (taken + had ≡ new + old) × (rest ++ left ≡ more ++ over)
one_input {S} {U} ways others start now other after input read left rest again over more taken had new old r t whole same none no_other =
    let one = one_number r.writes t.writes (rest ++ left) (more ++ over) r.each t.each none no_other
    (sym (stands_behind ways start now input read left rest taken had r whole) ∙ stands_behind others other after input again over more new old t same) in
    (r.number ∙ one.0 ∙ sym t.number, one.1)

no_item_end : (number : ℕ) (behind left : List ℕ) → NoItem ((spelling (End number) ++ behind) ++ left)
no_item_end number behind left write y is same = end_is_no_item number write (behind ++ left) y (sym (append_assoc (spelling (End number)) behind left) ∙ same)

no_item_partial : (rest left : List ℕ) → IsPartial rest → left ≡ [] → NoItem (rest ++ left)
no_item_partial rest left partial none write y is same = not_partial rest (Item write) y is (sym (ap (λ s. rest ++ s) none ∙ append-nil rest) ∙ same) partial

no_item_bad : (number : ℕ) (rest left : List ℕ) → IsBad number rest → NoItem (rest ++ left)
no_item_bad number rest left (inl bad) write y is same = not_faulty (rest ++ left) (Item write) y bad.0 is same (faulty_on rest left bad.0 bad.1)
no_item_bad number rest left (inr bad) write y is same =
    let (frame, behind, framed, spelled, place) = bad in
    let e : spelling frame ++ (behind ++ left) ≡ spelling (Item write) ++ y = sym (append_assoc (spelling frame) behind left) ∙ ap (λ s. s ++ left) (sym spelled) ∙ same in
    let one = begins_one frame (Item write) (behind ++ left) y framed is e in
    subst (HasNoPlace number) one.0 place

-- ---- the ends

pub one_end : {S U : Type 0} (ways : Ways S) (others : Ways U) (start now : S) (other after : U) (input : List ℕ) (first second : Pulled) → EndsOf ways start now input (Ok first)
    → EndsOf others other after input (Ok second) → first.taken + first.had ≡ second.taken + second.had
one_end {S} {U} ways others start now other after input first second a b =
    let (read, left, whole, (behind, r)) = a in
    let (again, over, same, (more, t)) = b in
    (one_input ways others start now other after input read left _ again over _ _ _ _ _ r t whole same (no_item_end _ behind left) (no_item_end _ more over)).0

-- how a pull stops whose input is this: it read a front of it
abbrev StopsOf : {S : Type 0} → Ways S → (start now : S) → (input : List ℕ) → PullStopped → PullFault → Type 0
StopsOf ways start now input stopped fault =
    (read left : List ℕ) × (input ≡ read ++ left) × PullStops ways start now read (left ≡ []) stopped.before stopped.refused fault

stops_so : {S : Type 0} (ways : Ways S) (start now : S) (input : List ℕ) (stopped : PullStopped) (fault : PullFault) → stopped.fault ≡ fault → EndsOf ways start now input (Err stopped)
    → StopsOf ways start now input stopped fault
stops_so {S} ways start now input stopped fault is ends = subst (λ (f : PullFault). StopsOf ways start now input stopped f) is ends

pub end_not_cut : {S U : Type 0} (ways : Ways S) (others : Ways U) (start now : S) (other after : U) (input : List ℕ) (pulled : Pulled) (stopped : PullStopped) → stopped.fault ≡ Stream Cut
    → EndsOf ways start now input (Ok pulled) → EndsOf others other after input (Err stopped) → ⊥
end_not_cut {S} {U} ways others start now other after input pulled stopped cut a b =
    let (read, left, whole, (behind, r)) = a in
    let (again, over, same, (nothing, (more, partial, t), unnamed)) = stops_so others other after input stopped (Stream Cut) cut b in
    let number = pulled.taken + pulled.had in
    let one = one_input ways others start now other after input read left _ again over more _ _ stopped.before.taken stopped.before.had r t whole same (no_item_end _ behind left) (no_item_partial more over partial nothing) in
    let e : more ≡ spelling (End number) ++ (behind ++ left) = sym (ap (λ s. more ++ s) nothing ∙ append-nil more) ∙ sym one.1 ∙ append_assoc (spelling (End number)) behind left in
    end_not_partial number (behind ++ left) (subst IsPartial e partial)

pub end_not_bad : {S U : Type 0} (ways : Ways S) (others : Ways U) (start now : S) (other after : U) (input : List ℕ) (pulled : Pulled) (stopped : PullStopped) → stopped.fault ≡ Stream BadFrame
    → pulled.taken + pulled.had < 2 ^ 32 → EndsOf ways start now input (Ok pulled) → EndsOf others other after input (Err stopped) → ⊥
end_not_bad {S} {U} ways others start now other after input pulled stopped fault few a b =
    let (read, left, whole, (behind, r)) = a in
    let (again, over, same, (more, bad, t, unnamed)) = stops_so others other after input stopped (Stream BadFrame) fault b in
    let number = pulled.taken + pulled.had in
    let one = one_input ways others start now other after input read left _ again over more _ _ stopped.before.taken stopped.before.had r t whole same (no_item_end _ behind left) (no_item_bad _ more over bad) in
    let e : more ++ over ≡ spelling (End number) ++ (behind ++ left) = sym one.1 ∙ append_assoc (spelling (End number)) behind left in
    no_end number (stopped.before.taken + stopped.before.had) more over (behind ++ left) few one.0 e bad
  where
    no_end : (number other : ℕ) (more over x : List ℕ) → number < 2 ^ 32 → number ≡ other → more ++ over ≡ spelling (End number) ++ x → IsBad other more → ⊥
    no_end number other more over x few same e (inl bad) = not_faulty (more ++ over) (End number) x bad.0 few e (faulty_on more over bad.0 bad.1)
    no_end number other more over x few same e (inr bad) =
        let (frame, behind, framed, spelled, place) = bad in
        let next : spelling frame ++ (behind ++ over) ≡ spelling (End number) ++ x = sym (append_assoc (spelling frame) behind over) ∙ ap (λ s. s ++ over) (sym spelled) ∙ e in
        let one = begins_one frame (End number) (behind ++ over) x framed few next in
        (subst (HasNoPlace other) one.0 place) same

pub cut_not_bad : {S U : Type 0} (ways : Ways S) (others : Ways U) (start now : S) (other after : U) (input : List ℕ) (cut stopped : PullStopped) → cut.fault ≡ Stream Cut → stopped.fault ≡ Stream BadFrame
    → EndsOf ways start now input (Err cut) → EndsOf others other after input (Err stopped) → ⊥
cut_not_bad {S} {U} ways others start now other after input cut stopped is_cut is_bad a b =
    let (read, left, whole, (nothing, (rest, partial, r), unnamed)) = stops_so ways start now input cut (Stream Cut) is_cut a in
    let (again, over, same, (more, bad, t, no_name)) = stops_so others other after input stopped (Stream BadFrame) is_bad b in
    let one = one_input ways others start now other after input read left rest again over more cut.before.taken cut.before.had stopped.before.taken stopped.before.had r t whole same (no_item_partial rest left partial nothing) (no_item_bad _ more over bad) in
    let e : more ++ over ≡ rest = sym one.1 ∙ ap (λ s. rest ++ s) nothing ∙ append-nil rest in
    no_bad (stopped.before.taken + stopped.before.had) more over rest partial e bad
  where
    no_bad : (number : ℕ) (more over rest : List ℕ) → IsPartial rest → more ++ over ≡ rest → IsBad number more → ⊥
    no_bad number more over rest partial e (inl bad) = partial_not_faulty rest bad.0 partial (subst (λ (s : List ℕ). IsFaulty s bad.0) e (faulty_on more over bad.0 bad.1))
    no_bad number more over rest partial e (inr bad) =
        let (frame, behind, framed, spelled, place) = bad in
        not_partial rest frame (behind ++ over) framed (sym e ∙ ap (λ s. s ++ over) spelled ∙ append_assoc (spelling frame) behind over) partial
