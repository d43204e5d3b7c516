-- What an output took, one text after another.
use Rattle.std.proofs.Common.{◌≡◌, ℕ, zero, suc, ◌+◌, ◌-◌, ◌*◌, ◌^◌, ◌<◌, ◌≤◌, min, List, [], ◌∷◌, ◌++◌, ◌∙◌, Option, None, Some, Result, Ok, Err, refl, ap, sym, subst, length, get_or, take, drop, cond, ◌==◌, length-append, take-append-drop, arith, zero-add, add-zero}
use Rattle.std.proofs.KnownBytes.{Appends-nil, Appends-trans}
use Rattle.std.proofs.lemmas.List.{append-nil, drop_more, get_or-append-add}
use Rattle.std.proofs.lemmas.List.Sums.{sum_by-append, sum_by-cons}
use Rattle.std.specs.Io.{IsEmptyOrEndsWith}
use Rattle.std.specs.Io.KnownBytes.{Appends, Keeps, WriteAppends}
use Rattle.bayou_base.specs.declared.limits.TheConstants.{MAX_TURNS}
use Rattle.bayou_streams.specs.Account.{Account, Pays, TakesBytes}
use Rattle.bayou_streams.specs.Lines.{counted, line_feeds, taken_of, turns_behind}

counted_is : (count more : ℕ) → 0 < more → counted count more ≡ min (count + more) (2 ^ 64 - 1)
counted_is count zero some = absurd (omega arith)
counted_is count (suc more) some = refl

pub counted_more : (count first second : ℕ) → counted (counted count first) second ≡ counted count (first + second)
counted_more count zero second = ap (counted count) (sym (zero-add second))
counted_more count (suc first) zero = ap (counted count) (sym (add-zero (suc first)))
counted_more count (suc first) (suc second) =
    let both : counted count (suc first + suc second) ≡ min (count + (suc first + suc second)) (2 ^ 64 - 1) =
    counted_is count (suc first + suc second) (omega arith) in
    let joined : min (min (count + suc first) (2 ^ 64 - 1) + suc second) (2 ^ 64 - 1) ≡ min (count + (suc first + suc second)) (2 ^ 64 - 1) =
    omega arith in
    joined ∙ sym both

pub line_feeds-append : (first second : List ℕ) → line_feeds (first ++ second) ≡ line_feeds first + line_feeds second
line_feeds-append first second = sum_by-append _ first second

pub TakesBytes-nil : (a : Account) → TakesBytes a a []
TakesBytes-nil a = record { bytes = Appends-nil a.contents; lines = refl; turns = omega arith; counts = omega arith }

pub TakesBytes-trans : (a b c : Account) (first second : List ℕ) → TakesBytes a b first → TakesBytes b c second → TakesBytes a c (first ++ second)
TakesBytes-trans a b c first second one two =
    let feeds : line_feeds (first ++ second) ≡ line_feeds first + line_feeds second = line_feeds-append first second in
    record {
      bytes = Appends-trans a.contents b.contents c.contents first second one.bytes two.bytes;
      lines = two.lines ∙ ap (λ n. counted n (line_feeds second)) one.lines ∙ counted_more a.lines (line_feeds first) (line_feeds second)
          ∙ ap (counted a.lines) (sym feeds);
      turns = omega (arith, one.turns, two.turns, feeds);
      counts = omega (arith, one.counts, two.counts);
    }

Appends-kept : (a b : Option (List ℕ)) → Keeps a b → Appends a b []
Appends-kept None b kept = tt
Appends-kept (Some xs) None kept = absurd kept
Appends-kept (Some xs) (Some ys) kept = kept ∙ sym (append-nil xs)

Appends-taken : {E : Type 0} (a b : Option (List ℕ)) (answer : Result ℕ E) (text : List ℕ) → WriteAppends a b answer text → Appends a b (taken_of answer text)
Appends-taken a b (Ok count) text written = written
Appends-taken a b (Err error) text written = Appends-kept a b written

spends_one : (before spent left feeds : ℕ) → 0 < left → spent ≡ counted before 1 → left ≤ MAX_TURNS
    → spent + turns_behind feeds (left - 1) ≤ before + left + MAX_TURNS * feeds
spends_one before spent left zero some is within = omega arith
spends_one before spent left (suc feeds) some is within = omega arith

counts_one : (before spent left feeds : ℕ) → 0 < left → spent ≡ counted before 1 → left ≤ MAX_TURNS
    → min (before + left) (2 ^ 64 - 1) ≤ spent + turns_behind feeds (left - 1)
counts_one before spent left zero some is within = omega arith
counts_one before spent left (suc feeds) some is within = omega arith

-- one turn takes what the writer took
pub TakesBytes-turn : {E : Type 0} (a b : Account) (answer : Result ℕ E) (text : List ℕ) → WriteAppends a.contents b.contents answer text → 0 < a.turns_left → a.turns_left ≤ MAX_TURNS
    → b.spent ≡ counted a.spent 1 → b.lines ≡ counted a.lines (line_feeds (taken_of answer text))
    → b.turns_left ≡ turns_behind (line_feeds (taken_of answer text)) (a.turns_left - 1) → TakesBytes a b (taken_of answer text)
TakesBytes-turn a b answer text written some within spent lines left = record {
  bytes = Appends-taken a.contents b.contents answer text written;
  lines = lines;
  turns = subst (λ now. b.spent + now ≤ a.spent + a.turns_left + MAX_TURNS * line_feeds (taken_of answer text)) (sym left)
      (spends_one a.spent b.spent a.turns_left (line_feeds (taken_of answer text)) some spent within);
  counts = subst (λ now. min (a.spent + a.turns_left) (2 ^ 64 - 1) ≤ b.spent + now) (sym left)
      (counts_one a.spent b.spent a.turns_left (line_feeds (taken_of answer text)) some spent within);
}

-- what a run has to tell of the turns that it spent
pub Pays-whole : (a b : Account) (text : List ℕ) → TakesBytes a b text → a.turns_left ≤ b.turns_left → Pays a b 0
Pays-whole a b text took ready = record { text = text; written = took.bytes; lines = took.lines; turns = omega (arith, took.turns) }

pub Pays-part : (a b : Account) (text : List ℕ) → a.turns_left ≤ MAX_TURNS → TakesBytes a b text → Pays a b 1
Pays-part a b text within took = record { text = text; written = took.bytes; lines = took.lines; turns = omega (arith, took.turns) }

pub Pays-none : (a : Account) (cut : ℕ) → Pays a a cut
Pays-none a cut = record { text = []; written = Appends-nil a.contents; lines = refl; turns = omega arith }

-- what ends with a line feed, and isn't empty, has one
has_feed : (text : List ℕ) → 0 < length text → IsEmptyOrEndsWith text 10 → 0 < line_feeds text
has_feed text some ends =
    let last : ℕ = length text - 1 in
    let within : last < length text = omega arith in
    let is : text ≡ take last text ++ (get_or text last 0 ∷ drop (last + 1) text) =
    sym (take-append-drop last text) ∙ ap (λ l. take last text ++ l) (drop_more text last 0 within) in
    let feeds : line_feeds text ≡ line_feeds (take last text) + line_feeds (10 ∷ drop (last + 1) text) =
    ap line_feeds is ∙ ap (λ b. line_feeds (take last text ++ (b ∷ drop (last + 1) text))) (ends some) ∙ line_feeds-append (take last text) (10 ∷ drop (last + 1) text) in
    omega (arith, feeds, sum_by-cons (λ byte. cond (byte == 10) 1 0) 10 (drop (last + 1) text))

last_of : (front rest : List ℕ) → 0 < length rest → IsEmptyOrEndsWith (front ++ rest) 10 → IsEmptyOrEndsWith rest 10
last_of front rest some ends = λ _.
    let at : length (front ++ rest) - 1 ≡ length front + (length rest - 1) = omega (arith, length-append front rest) in
    sym (get_or-append-add front rest (length rest - 1) 0) ∙ ap (λ i. get_or (front ++ rest) i 0) (sym at) ∙ ends (omega (arith, length-append front rest))

all_again : (feeds left : ℕ) → 0 < feeds → turns_behind feeds left ≡ MAX_TURNS
all_again zero left some = absurd (omega arith)
all_again (suc feeds) left some = refl

-- who takes the rest of a text that ends with a line feed has all turns again
pub turns_again : (all front rest : List ℕ) (count left now : ℕ) → all ≡ front ++ rest → 0 < length rest → drop count rest ≡ [] → IsEmptyOrEndsWith all 10
    → now ≡ turns_behind (line_feeds (take count rest)) left → now ≡ MAX_TURNS
turns_again all front rest count left now split some none ends is =
    let whole : take count rest ≡ rest = sym (append-nil (take count rest)) ∙ ap (λ l. take count rest ++ l) (sym none) ∙ take-append-drop count rest in
    let last : IsEmptyOrEndsWith rest 10 = last_of front rest some (subst (λ l. IsEmptyOrEndsWith l 10) split ends) in
    is ∙ ap (λ l. turns_behind (line_feeds l) left) whole ∙ all_again (line_feeds rest) left (has_feed rest some last)
