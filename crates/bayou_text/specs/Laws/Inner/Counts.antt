-- The counts of a vector, as they are read one by one into an array of zeros.
use Rattle.std.proofs.Common.{◌≡◌, ℕ, ◌+◌, ◌-◌, ◌<◌, ◌≤◌, List, length, take, drop, get_or, replicate, Ok, true, nat_le, refl, ap, sym, ◌∙◌, subst, arith}
use Rattle.std.proofs.lemmas.List.{take_more_set, drop-set-lt, drop-replicate, drop-drop}
use Rattle.std.proofs.lemmas.Bool.{le-leb}
use Rattle.serde_json.specs.Data.{Data}
use Rattle.serde_json.specs.View.{view}
use Rattle.serde_json.specs.declared.value.Value.{Value}
use Rattle.std.proofs.Math.ListN.{set}
use Rattle.bayou_base.specs.declared.limits.TheConstants.{SERVERS}
use Rattle.bayou_text.specs.Laws.Inner.Lists.{IsReadTo, read_more}
use Rattle.bayou_text.specs.Audit.{padded_in, vector_of}
use Rattle.bayou_text.specs.Numbers.{tally_in}
use Rattle.bayou_text.specs.Reading.{◌>>=◌}

pub tally_more : (values : List Value) (counts : List ℕ) (i : ℕ) (v : Value) (one : ℕ) → i < length values → i < length counts
    → IsReadTo tally_in view values i (take i counts) → tally_in (view (get_or values i v)) ≡ Ok one
    → IsReadTo tally_in view values (i + 1) (take (i + 1) (set counts i one))
tally_more values counts i v one below inside so_far found =
    subst (λ front. IsReadTo tally_in view values (i + 1) front) (sym (take_more_set counts i one inside))
    (read_more tally_in view values i v (take i counts) one below so_far found)

pub zeros_less : (counts : List ℕ) (most i one : ℕ) → drop i counts ≡ replicate (most - i) 0
    → drop (i + 1) (set counts i one) ≡ replicate (most - (i + 1)) 0
zeros_less counts most i one zeros =
    let less : most - i - 1 ≡ most - (i + 1) = omega arith in
    let one_less : drop 1 (drop i counts) ≡ replicate (most - i - 1) 0 = ap (drop 1) zeros ∙ drop-replicate 1 (most - i) 0 in
    let untouched : drop (i + 1) (set counts i one) ≡ drop (i + 1) counts = drop-set-lt (i + 1) counts i one (omega arith) in
    rw (untouched, ← drop-drop 1 i counts, one_less, less) refl

-- ---- the number of counts

pub counts_fit : (ds : List Data) → 1 ≤ length ds → length ds ≤ SERVERS → vector_of ds ≡ (padded_in ds >>= λ vector. Ok (vector, length ds))
counts_fit ds some few =
    let low : nat_le 1 (length ds) ≡ true = le-leb _ _ some in
    let high : nat_le (length ds) SERVERS ≡ true = le-leb _ _ few in
    rw (low, high) refl
