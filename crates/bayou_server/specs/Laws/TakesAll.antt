-- What becomes of something that is given Writes, one after another: how many were taken, and several goes as one.
use Rattle.std.proofs.Common.{◌≡◌, ◌+◌, ◌<◌, ◌≤◌, ◌⊎◌, inl, inr, List, [], ◌∷◌, ◌++◌, Option, None, Some, Result, Ok, refl, sym, ap, ◌∙◌, subst, arith, append_assoc, length, length-append}
use Rattle.bayou_lang.specs.declared.write.Write.{Write}
use Rattle.bayou_server.specs.declared.answer.Took.{Took}
use Rattle.bayou_server.specs.declared.answer.Took.TheVariants.{New, Had}
use Rattle.bayou_server.specs.declared.answer.RefusedWrite.{RefusedWrite}
use Rattle.bayou_server.specs.declared.answer.TookAll.{TookAll}
use Rattle.bayou_server.specs.declared.fault.TakeFault.{TakeFault}
use Rattle.bayou_server.specs.TakesAll.{TakesAll, TakesEach, TakingEnds, hads, news}

pub news_push : (tooks : List Took) (took : Took) → news (tooks ++ took ∷ []) ≡ news tooks + news (took ∷ [])
news_push [] took = omega arith
news_push (New ∷ tooks) took = omega (arith, news_push tooks took)
news_push (Had ∷ tooks) took = news_push tooks took

pub hads_push : (tooks : List Took) (took : Took) → hads (tooks ++ took ∷ []) ≡ hads tooks + hads (took ∷ [])
hads_push [] took = omega arith
hads_push (New ∷ tooks) took = hads_push tooks took
hads_push (Had ∷ tooks) took = omega (arith, hads_push tooks took)

pub one_took : (took : Took) → news (took ∷ []) + hads (took ∷ []) ≡ 1
one_took New = refl
one_took Had = refl

pub takes_push : {S : Type 0} (takes : S → Write → Result Took TakeFault → S → Type 0) (start mid new : S) (writes : List Write) (tooks : List Took) (write : Write) (took : Took)
    → TakesEach takes start writes tooks mid → takes mid write (Ok took) new → TakesEach takes start (writes ++ write ∷ []) (tooks ++ took ∷ []) new
takes_push {S} takes start mid new [] [] write took same last = (new, subst (λ (s : S). takes s write (Ok took) new) same last, refl)
takes_push takes start mid new [] (t ∷ tooks) write took none last = absurd none
takes_push takes start mid new (w ∷ writes) [] write took none last = absurd none
takes_push takes start mid new (w ∷ writes) (t ∷ tooks) write took each last = (each.0, each.1, takes_push takes each.0 mid new writes tooks write took each.2 last)

pub news_cons : (took : Took) (tooks : List Took) → news (took ∷ tooks) ≡ news (took ∷ []) + news tooks
news_cons New tooks = omega arith
news_cons Had tooks = omega arith

pub hads_cons : (took : Took) (tooks : List Took) → hads (took ∷ tooks) ≡ hads (took ∷ []) + hads tooks
hads_cons New tooks = omega arith
hads_cons Had tooks = omega arith

-- as many were taken as were given
pub all_taken : {S : Type 0} (takes : S → Write → Result Took TakeFault → S → Type 0) (old new : S) (writes : List Write) (tooks : List Took) → TakesEach takes old writes tooks new
    → news tooks + hads tooks ≡ length writes
all_taken takes old new [] [] same = refl
all_taken takes old new [] (took ∷ tooks) none = absurd none
all_taken takes old new (write ∷ writes) [] none = absurd none
all_taken takes old new (write ∷ writes) (took ∷ tooks) each =
    omega (arith, all_taken takes each.0 new writes tooks each.2, news_cons took tooks, hads_cons took tooks, one_took took)

-- how many of them
pub told_few : {S : Type 0} (takes : S → Write → Result Took TakeFault → S → Type 0) (old new : S) (writes left : List Write) (told : TookAll) → TakesAll takes old writes left told new
    → told.taken + told.had ≤ length writes
told_few takes old new writes left told all = omega (arith, all.taken, all.had, all_taken takes old all.mid all.front all.tooks all.each, front_few told.refused all.ends)
  where
    front_few : (refused : Option RefusedWrite) → TakingEnds takes all.mid writes all.front left refused new → length all.front ≤ length writes
    front_few None ends = omega (arith, ap length ends.0, length-append all.front left)
    front_few (Some refused) ends = omega (arith, ap length ends.1, length-append all.front (ends.0 ∷ left))

-- and how many are left
pub left_few : {S : Type 0} (takes : S → Write → Result Took TakeFault → S → Type 0) (old new : S) (given left : List Write) (told : TookAll) → TakesAll takes old given left told new
    → length left ≤ length given
left_few takes old new given left told all = by told.refused all.ends
  where
    by : (refused : Option RefusedWrite) → TakingEnds takes all.mid given all.front left refused new → length left ≤ length given
    by None ends = omega (arith, ap length ends.0, length-append all.front left)
    by (Some refused) ends = omega (arith, ap length ends.1, length-append all.front (ends.0 ∷ left))

-- ---- Writes that are given in two goes

news_append : (xs ys : List Took) → news (xs ++ ys) ≡ news xs + news ys
news_append [] ys = omega arith
news_append (took ∷ xs) ys = omega (arith, news_cons took (xs ++ ys), news_cons took xs, news_append xs ys)

hads_append : (xs ys : List Took) → hads (xs ++ ys) ≡ hads xs + hads ys
hads_append [] ys = omega arith
hads_append (took ∷ xs) ys = omega (arith, hads_cons took (xs ++ ys), hads_cons took xs, hads_append xs ys)

module _ {S : Type 0} (takes : S → Write → Result Took TakeFault → S → Type 0) where
  takes_append : (old mid new : S) (xs ys : List Write) (tooks others : List Took) → TakesEach takes old xs tooks mid → TakesEach takes mid ys others new
      → TakesEach takes old (xs ++ ys) (tooks ++ others) new
  takes_append old mid new [] ys [] others same rest = subst (λ (s : S). TakesEach takes s ys others new) same rest
  takes_append old mid new [] ys (took ∷ tooks) others none rest = absurd none
  takes_append old mid new (x ∷ xs) ys [] others none rest = absurd none
  takes_append old mid new (x ∷ xs) ys (took ∷ tooks) others each rest = (each.0, each.1, takes_append each.0 mid new xs ys tooks others each.2 rest)

  ends_append : (mid new : S) (given between xs ys left : List Write) (refused : Option RefusedWrite) → given ≡ xs ++ between → TakingEnds takes mid between ys left refused new
      → TakingEnds takes mid given (xs ++ ys) left refused new
  ends_append mid new given between xs ys left None split ends = (split ∙ ap (λ l. xs ++ l) ends.0 ∙ sym (append_assoc xs ys left), ends.1)
  ends_append mid new given between xs ys left (Some refused) split ends =
      (ends.0, split ∙ ap (λ l. xs ++ l) ends.1 ∙ sym (append_assoc xs ys (ends.0 ∷ left)), ends.2, ends.3)

  -- where none was refused, more of those that were left may be given
  pub takes_more : (old mid new : S) (given between left : List Write) (told more both : TookAll) → TakesAll takes old given between told mid → told.refused ≡ None → TakesAll takes mid between left more new
      → both.taken ≡ told.taken + more.taken → both.had ≡ told.had + more.had → both.refused ≡ more.refused → TakesAll takes old given left both new
  takes_more old mid new given between left told more both first none second taken had fault =
      let ends : TakingEnds takes first.mid given first.front between None mid = subst (λ f. TakingEnds takes first.mid given first.front between f mid) none first.ends in
      let each : TakesEach takes old first.front first.tooks mid = subst (λ (s : S). TakesEach takes old first.front first.tooks s) (sym ends.1) first.each in
      record {
        front = first.front ++ second.front;
        tooks = first.tooks ++ second.tooks;
        mid = second.mid;
        each = takes_append old mid second.mid first.front second.front first.tooks second.tooks each second.each;
        taken = omega (arith, taken, first.taken, second.taken, news_append first.tooks second.tooks);
        had = omega (arith, had, first.had, second.had, hads_append first.tooks second.tooks);
        ends = subst (λ f. TakingEnds takes second.mid given (first.front ++ second.front) left f new) (sym fault)
            (ends_append second.mid new given between first.front second.front left more.refused ends.0 second.ends);
      }

  -- nothing was given yet
  pub takes_none : (start : S) (given left : List Write) (told : TookAll) → left ≡ given → told.taken ≡ 0 → told.had ≡ 0 → told.refused ≡ None → TakesAll takes start given left told start
  takes_none start given left told same taken had none = record {
    front = [];
    tooks = [];
    mid = start;
    each = refl;
    taken = taken;
    had = had;
    ends = subst (λ f. TakingEnds takes start given [] left f start) (sym none) (sym same, refl);
  }

  -- fewer are left, where one was given at least
  pub fewer_left : (old new : S) (given left : List Write) (told : TookAll) → TakesAll takes old given left told new → 0 < length given
      → (told.refused ≡ None → (left ≡ []) ⊎ (0 < told.taken + told.had)) → length left < length given
  fewer_left old new given left told all some gives = by told.refused refl all.ends
    where
      by : (refused : Option RefusedWrite) → told.refused ≡ refused → TakingEnds takes all.mid given all.front left refused new → length left < length given
      by None none ends = elim (gives none) as (λ _. length left < length given) [
        | inl nothing ↦ omega (arith, some, ap {A = List Write} length nothing)
        | inr taken ↦ omega (arith, taken, all.taken, all.had, all_taken takes old all.mid all.front all.tooks all.each, ap {A = List Write} length ends.0, length-append all.front left)
      ]
      by (Some refused) is ends = omega (arith, ap {A = List Write} length ends.1, length-append all.front (ends.0 ∷ left))
