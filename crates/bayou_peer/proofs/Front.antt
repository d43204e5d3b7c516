-- The Items that came together are taken together.
use Rattle.std.proofs.Common.{◌≡◌, ◌+◌, ℕ, List, [], ◌∷◌, ◌++◌, None, Some, Err, refl, sym, ap, subst, ◌∙◌, arith, append_assoc}
use Rattle.std.specs.List.{AllByRecursion}
use Rattle.std.proofs.lemmas.List.{append-nil}
use Rattle.bayou_lang.specs.declared.write.Write.{Write}
use Rattle.bayou_lang.specs.Ranges.{IsWrite}
use Rattle.bayou_frames.specs.Spelled.{items_of}
use Rattle.bayou_peer.specs.declared.fault.PullFault.TheVariants.{Refused}
use Rattle.bayou_peer.specs.Pulls.{PullStops, Received, Ways}
use Rattle.bayou_peer.specs.Taking.{TakenBy}
use Rattle.bayou_peer.proofs.Received.{received_refused, received_rest, received_took, spellings-append}
use Rattle.bayou_server.specs.Laws.TakesAll.{hads_cons, news_cons}
use Rattle.bayou_server.specs.TakesAll.{TakesAll, TakesEach, TakingEnds, hads, news}
use Rattle.bayou_server.specs.declared.answer.Took.{Took}
use Rattle.bayou_server.specs.declared.answer.RefusedWrite.{RefusedWrite}
use Rattle.bayou_server.specs.declared.answer.TookAll.{TookAll}
use Rattle.bayou_wire.specs.declared.frame.Frame.{Frame}
use Rattle.bayou_wire.specs.declared.frame.Frame.TheVariants.{Item}
use Rattle.bayou_wire.specs.Spelling.{IsFrame}
use Rattle.bayou_wire.specs.Stream.{spelling, spellings}

-- frames in front are frames
pub frames_front : (writes : List Write) (rest frames : List Frame) → frames ≡ items_of writes ++ rest → AllByRecursion IsFrame frames → AllByRecursion IsWrite writes × AllByRecursion IsFrame rest
frames_front writes rest frames split all = apart writes rest (subst (AllByRecursion IsFrame) split all)
  where
    apart : (writes : List Write) (rest : List Frame) → AllByRecursion IsFrame (items_of writes ++ rest) → AllByRecursion IsWrite writes × AllByRecursion IsFrame rest
    apart [] rest all = (tt, all)
    apart (write ∷ writes) rest all = let others = apart writes rest all.1 in ((all.0, others.0), others.1)

-- the Items that stand next were taken, one after another
received_front : {S : Type 0} (ways : Ways S) (start old mid : S) (read behind : List ℕ) (front : List Write) (tooks : List Took) (taken had t h : ℕ) → AllByRecursion IsWrite front
    → TakesEach (TakenBy ways.list ways.takes) old front tooks mid → t ≡ taken + news tooks → h ≡ had + hads tooks
    → Received ways start old read (spellings (items_of front) ++ behind) taken had → Received ways start mid read behind t h
received_front {S} ways start old mid read behind [] [] taken had t h all same more_taken more_had r =
    let t_is : taken ≡ t = omega (arith, more_taken) in
    let h_is : had ≡ h = omega (arith, more_had) in
    subst (λ n. Received ways start mid read behind n h) t_is
    (subst (λ n. Received ways start mid read behind taken n) h_is (subst (λ (s : S). Received ways start s read behind taken had) (sym same) r))
received_front ways start old mid read behind [] (took ∷ tooks) taken had t h all none more_taken more_had r = absurd none
received_front ways start old mid read behind (write ∷ front) [] taken had t h all none more_taken more_had r = absurd none
received_front ways start old mid read behind (write ∷ front) (took ∷ tooks) taken had t h all each more_taken more_had r =
    let next = received_rest ways start old read _ _ taken had (append_assoc (spelling (Item write)) (spellings (items_of front)) behind) r in
    let one = received_took ways start old each.0 read (spellings (items_of front) ++ behind) write write took taken had (taken + news (took ∷ [])) (had + hads (took ∷ [])) refl all.0
    each.1.0 each.1.1 refl refl next in
    received_front ways start each.0 mid read behind front tooks (taken + news (took ∷ [])) (had + hads (took ∷ [])) t h all.1 each.2
    (omega (arith, more_taken, news_cons took tooks)) (omega (arith, more_had, hads_cons took tooks)) one

module _ {S : Type 0} (ways : Ways S) (start old new : S) (read behind : List ℕ) (writes : List Write) (rest : List Frame) (told : TookAll) (left : List Write) (taken had : ℕ)
    (all : AllByRecursion IsWrite writes) (takes : TakesAll (TakenBy ways.list ways.takes) old writes left told new)
    (r : Received ways start old read (spellings (items_of writes ++ rest) ++ behind) taken had) where
  stands_next : Received ways start old read (spellings (items_of writes) ++ (spellings rest ++ behind)) taken had
  stands_next = received_rest ways start old read _ _ taken had
      (ap (λ l. l ++ behind) (spellings-append (items_of writes) rest) ∙ append_assoc (spellings (items_of writes)) (spellings rest) behind) r

  -- all of them were taken
  pub received_all : told.refused ≡ None → left ≡ [] → Received ways start new read (spellings rest ++ behind) (taken + told.taken) (had + told.had)
  received_all none nothing =
      let ends : TakingEnds (TakenBy ways.list ways.takes) takes.mid writes takes.front left None new =
      subst (λ fault. TakingEnds (TakenBy ways.list ways.takes) takes.mid writes takes.front left fault new) none takes.ends in
      let whole : writes ≡ takes.front = ends.0 ∙ ap (λ l. takes.front ++ l) nothing ∙ append-nil takes.front in
      subst (λ (s : S). Received ways start s read (spellings rest ++ behind) (taken + told.taken) (had + told.had)) (sym ends.1)
      (received_front ways start old takes.mid read (spellings rest ++ behind) takes.front takes.tooks taken had (taken + told.taken) (had + told.had)
      (subst (AllByRecursion IsWrite) whole all) takes.each (ap (λ n. taken + n) takes.taken) (ap (λ n. had + n) takes.had)
      (subst (λ (l : List Write). Received ways start old read (spellings (items_of l) ++ (spellings rest ++ behind)) taken had) whole stands_next))

  -- the next of them was refused
  pub received_up_to : (told_of : RefusedWrite) → told.refused ≡ Some told_of
      → PullStops ways start new read ⊥ (record { taken = taken + told.taken; had = had + told.had }) (Some told_of.wid) (Refused told_of.fault)
  received_up_to told_of some =
      let ends : TakingEnds (TakenBy ways.list ways.takes) takes.mid writes takes.front left (Some told_of) new =
      subst (λ f. TakingEnds (TakenBy ways.list ways.takes) takes.mid writes takes.front left f new) some takes.ends in
      let refused = ends.0 in
      let valid = split_all takes.front (refused ∷ left) (subst (AllByRecursion IsWrite) ends.1 all) in
      let next = received_rest ways start old read _ _ taken had
      (ap (λ l. spellings (items_of l) ++ (spellings rest ++ behind)) ends.1 ∙ items_apart takes.front (refused ∷ left) (spellings rest ++ behind)) stands_next in
      let front = received_front ways start old takes.mid read (spellings (items_of (refused ∷ left)) ++ (spellings rest ++ behind)) takes.front takes.tooks taken had
      (taken + told.taken) (had + told.had) valid.0 takes.each (ap (λ n. taken + n) takes.taken) (ap (λ n. had + n) takes.had) next in
      received_refused ways start takes.mid new read (spellings (items_of left) ++ (spellings rest ++ behind)) refused told_of.fault (record { taken = taken + told.taken; had = had + told.had }) (Some told_of.wid) valid.1.0
      ends.2.0 ends.2.1 (ap Some ends.3)
      (received_rest ways start takes.mid read _ _ (taken + told.taken) (had + told.had) (append_assoc (spelling (Item refused)) (spellings (items_of left)) (spellings rest ++ behind)) front)
    where
      split_all : (xs ys : List Write) → AllByRecursion IsWrite (xs ++ ys) → AllByRecursion IsWrite xs × AllByRecursion IsWrite ys
      split_all [] ys both = (tt, both)
      split_all (x ∷ xs) ys both = let others = split_all xs ys both.1 in ((both.0, others.0), others.1)

      items_apart : (xs ys : List Write) (behind : List ℕ) → spellings (items_of (xs ++ ys)) ++ behind ≡ spellings (items_of xs) ++ (spellings (items_of ys) ++ behind)
      items_apart [] ys behind = refl
      items_apart (x ∷ xs) ys behind =
          append_assoc (spelling (Item x)) (spellings (items_of (xs ++ ys))) behind ∙ ap (λ l. spelling (Item x) ++ l) (items_apart xs ys behind)
          ∙ sym (append_assoc (spelling (Item x)) (spellings (items_of xs)) (spellings (items_of ys) ++ behind))
