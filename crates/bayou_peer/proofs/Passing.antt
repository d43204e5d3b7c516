-- An answer is passed frame by frame.
use Rattle.std.proofs.Common.{◌≡◌, ◌⊎◌, inl, inr, ℕ, ◌+◌, ◌-◌, ◌<◌, ◌≤◌, ◌^◌, List, [], ◌∷◌, ◌++◌, Some, true, false, cond, nat_le, length, take, drop, refl, sym, ap, ◌∙◌, subst, arith, append_assoc, append-nil, length-append}
use Rattle.std.proofs.Math.Seq.{drop-append_seam, take-append_seam, take-length}
use Rattle.std.proofs.lemmas.Bool.Decides.{nat_tests}
use Rattle.std.specs.List.{AllByRecursion}
use Rattle.bayou_lang.specs.declared.write.Write.{Write}
use Rattle.bayou_lang.specs.Ranges.{IsWrite}
use Rattle.bayou_peer.specs.Meeting.{cut_answer}
use Rattle.bayou_wire.specs.Laws.Frames.{spelling_length}
use Rattle.bayou_frames.specs.Spelled.{answer_bytes, items_of}
use Rattle.bayou_wire.specs.declared.frame.Frame.{Frame}
use Rattle.bayou_wire.specs.declared.frame.Frame.TheVariants.{Item, End}
use Rattle.bayou_wire.specs.Spelling.{IsFrame, frame_bytes}
use Rattle.bayou_wire.specs.Stream.{HasLength, spelling, spellings}

-- what a frame's length leaves
passes : (frame : Frame) (rest behind : List ℕ) (len size : ℕ) → IsFrame frame → rest ≡ spelling frame ++ behind → HasLength rest len → size ≡ 2 + len → drop size rest ≡ behind
passes frame rest behind len size is same has sized =
    let long = spelling_length frame behind len is (subst (λ (l : List ℕ). HasLength l len) same has) in
    ap (λ n. drop n rest) (sized ∙ sym long) ∙ ap (drop (length (spelling frame))) same ∙ drop-append_seam (spelling frame) behind

pub spellings-append : (some others : List Write) → spellings (items_of (some ++ others)) ≡ spellings (items_of some) ++ spellings (items_of others)
spellings-append [] others = refl
spellings-append (write ∷ some) others =
    ap (λ l. spelling (Item write) ++ l) (spellings-append some others)
    ∙ sym (append_assoc (spelling (Item write)) (spellings (items_of some)) (spellings (items_of others)))

-- so many Items were passed
pub record Among (k : ℕ) (sent : List Write) (rest : List ℕ) : Type 0 where
  pub passed : List Write
  pub left : List Write
  pub split : sent ≡ passed ++ left
  pub count : length passed ≡ k
  pub behind : rest ≡ spellings (items_of left) ++ spelling (End (length sent))

-- or all of them, and the End
abbrev pub Passed : ℕ → List Write → List ℕ → Type 0
Passed k sent rest = Among k sent rest ⊎ ((length sent < k) × (rest ≡ []))

pub begins_whole : (sent : List Write) (answer : List ℕ) → answer ≡ answer_bytes sent → Passed 0 sent answer
begins_whole sent answer is = inl (record { passed = []; left = sent; split = refl; count = refl; behind = is })

AllByRecursion-right : (some others : List Write) → AllByRecursion IsWrite (some ++ others) → AllByRecursion IsWrite others
AllByRecursion-right [] others each = each
AllByRecursion-right (write ∷ some) others each = AllByRecursion-right some others each.1

no_length : (len : ℕ) → HasLength [] len → ⊥
no_length len h = let same = h.1.1 in cc

pub goes_on : (k : ℕ) (sent : List Write) (rest : List ℕ) (len size : ℕ) → AllByRecursion IsWrite sent → length sent < 2 ^ 32 → Passed k sent rest → HasLength rest len → size ≡ 2 + len
    → Passed (k + 1) sent (drop size rest)
goes_on k sent rest len size each few (inr beyond) has sized = absurd (no_length len (subst (λ (l : List ℕ). HasLength l len) beyond.1 has))
goes_on k sent rest len size each few (inl a) has sized = elim a.left as (λ left. a.left ≡ left → Passed (k + 1) sent (drop size rest)) [
  | [] ↦ λ none.
      let all : length sent ≡ k = omega (arith, a.count, ap length a.split, ap length none, length-append a.passed a.left) in
      let last : rest ≡ spelling (End (length sent)) ++ [] =
      a.behind ∙ ap (λ (l : List Write). spellings (items_of l) ++ spelling (End (length sent))) none ∙ sym (append-nil (spelling (End (length sent)))) in
      inr (omega (arith, all), passes (End (length sent)) rest [] len size few last has sized)
  | write ∷ left ↦ λ some.
      let valid = AllByRecursion-right a.passed (write ∷ left) (subst (AllByRecursion IsWrite) (a.split ∙ ap (λ l. a.passed ++ l) some) each) in
      let next : rest ≡ spelling (Item write) ++ (spellings (items_of left) ++ spelling (End (length sent))) =
      a.behind ∙ ap (λ (l : List Write). spellings (items_of l) ++ spelling (End (length sent))) some
      ∙ append_assoc (spelling (Item write)) (spellings (items_of left)) (spelling (End (length sent))) in
      inl (record {
        passed = a.passed ++ write ∷ [];
        left = left;
        split = a.split ∙ ap (λ l. a.passed ++ l) some ∙ sym (append_assoc a.passed (write ∷ []) left);
        count = omega (arith, a.count, length-append a.passed (write ∷ []));
        behind = passes (Item write) rest (spellings (items_of left) ++ spelling (End (length sent))) len size valid.0 next has sized;
      })
] refl

-- a frame's length is there, and no more than there is
fits_in : (frame : Frame) (rest behind : List ℕ) (len : ℕ) → IsFrame frame → rest ≡ spelling frame ++ behind → HasLength rest len → 2 + len ≤ length rest
fits_in frame rest behind len is same has =
    let long = spelling_length frame behind len is (subst (λ (l : List ℕ). HasLength l len) same has) in
    omega (arith, long, ap length same, length-append (spelling frame) behind)

has_two : (frame : Frame) (rest behind : List ℕ) → rest ≡ spelling frame ++ behind → 2 ≤ length rest
unfolding spelling
has_two frame rest behind same = omega (arith, ap length same, length-append (frame_bytes frame) behind)

-- where no frame is passed there is none
pub ends_behind : (k : ℕ) (sent : List Write) (rest : List ℕ) → AllByRecursion IsWrite sent → length sent < 2 ^ 32
    → ((length rest < 2) ⊎ ((len : ℕ) × HasLength rest len × (length rest < 2 + len))) → Passed k sent rest → length sent < k
ends_behind k sent rest each few short (inr beyond) = beyond.0
ends_behind k sent rest each few short (inl a) = elim a.left as (λ left. a.left ≡ left → length sent < k) [
  | [] ↦ λ none.
      let last : rest ≡ spelling (End (length sent)) ++ [] =
      a.behind ∙ ap (λ (l : List Write). spellings (items_of l) ++ spelling (End (length sent))) none ∙ sym (append-nil (spelling (End (length sent)))) in
      elim short [
        | inl few_bytes ↦ absurd (omega (arith, few_bytes, has_two (End (length sent)) rest [] last))
        | inr counted ↦ absurd (omega (arith, counted.2, fits_in (End (length sent)) rest [] counted.0 few last counted.1))
      ]
  | write ∷ left ↦ λ some.
      let valid = AllByRecursion-right a.passed (write ∷ left) (subst (AllByRecursion IsWrite) (a.split ∙ ap (λ l. a.passed ++ l) some) each) in
      let next : rest ≡ spelling (Item write) ++ (spellings (items_of left) ++ spelling (End (length sent))) =
      a.behind ∙ ap (λ (l : List Write). spellings (items_of l) ++ spelling (End (length sent))) some
      ∙ append_assoc (spelling (Item write)) (spellings (items_of left)) (spelling (End (length sent))) in
      elim short [
        | inl few_bytes ↦ absurd (omega (arith, few_bytes, has_two (Item write) rest _ next))
        | inr counted ↦ absurd (omega (arith, counted.2, fits_in (Item write) rest _ counted.0 valid.0 next counted.1))
      ]
] refl

-- all of the answer, where fewer Items come
pub none_cut : (items : ℕ) (sent : List Write) (answer : List ℕ) → answer ≡ answer_bytes sent → length sent < items → answer ≡ cut_answer (Some items) sent
none_cut items sent answer is more =
    let isnt : nat_le items (length sent) ≡ false = grind (arith, nat_tests, more) in
    is ∙ ap (λ t. cond t (spellings (items_of (take items sent))) (answer_bytes sent)) (sym isnt)

-- or those that were passed
pub front_of : (items : ℕ) (sent : List Write) (answer rest : List ℕ) → answer ≡ answer_bytes sent → Passed items sent rest
    → take (length answer - length rest) answer ≡ cut_answer (Some items) sent
front_of items sent answer rest is (inr beyond) =
    let size : length answer - length rest ≡ length answer = omega (arith, ap length beyond.1) in
    ap (λ n. take n answer) size ∙ take-length answer ∙ none_cut items sent answer is beyond.0
front_of items sent answer rest is (inl a) =
    let within : nat_le items (length sent) ≡ true = grind (arith, nat_tests, a.count, ap length a.split, length-append a.passed a.left) in
    let whole : answer ≡ spellings (items_of a.passed) ++ rest =
    is ∙ ap (λ (l : List Write). spellings (items_of l) ++ spelling (End (length sent))) a.split
    ∙ ap (λ (l : List ℕ). l ++ spelling (End (length sent))) (spellings-append a.passed a.left)
    ∙ append_assoc (spellings (items_of a.passed)) (spellings (items_of a.left)) (spelling (End (length sent)))
    ∙ ap (λ l. spellings (items_of a.passed) ++ l) (sym a.behind) in
    let size : length answer - length rest ≡ length (spellings (items_of a.passed)) =
    omega (arith, ap length whole, length-append (spellings (items_of a.passed)) rest) in
    let first : take items sent ≡ a.passed =
    ap (λ n. take n sent) (sym a.count) ∙ ap (take (length a.passed)) a.split ∙ take-append_seam a.passed a.left in
    ap (λ n. take n answer) size ∙ ap (take (length (spellings (items_of a.passed)))) whole ∙ take-append_seam (spellings (items_of a.passed)) rest
    ∙ ap (λ (l : List Write). spellings (items_of l)) (sym first)
    ∙ ap (λ t. cond t (spellings (items_of (take items sent))) (answer_bytes sent)) (sym within)
