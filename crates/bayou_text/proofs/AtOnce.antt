-- The tokens of the one spelling of an entry are read as that entry.
use Rattle.std.proofs.Common.{◌≡◌, ◌∙◌, ℕ, zero, suc, ◌-◌, ◌<◌, ◌≤◌, ◌^◌, Bool, true, false, List, [], ◌∷◌, ◌++◌, map, take, drop, length, get_or, replicate, unwrap_or, Option, None, Some, codes, Result, Ok, Err, refl, sym, ap, arith, append_assoc, append-nil, option_and_then}
use Rattle.std.proofs.lemmas.List.{length-take-le, length-drop, take-append-drop}
use Rattle.std.proofs.lemmas.Grind.{flat_map-append}
use Rattle.std.specs.List.{AllByRecursion}
use Rattle.std.specs.Prelude.{IsUtf8}
use Rattle.json.proofs.Printed.Trees.{value-json_tokens}
use Rattle.json.specs.Json as json
use Rattle.json.specs.Lex.{tokens}
use Rattle.json.specs.Token.{Token, begin_array, end_array}
use Rattle.json.specs.Tree.{items_tokens, depth, items_depth}
use Rattle.json.specs.Written.{Written, Writes}
use Rattle.serde_json.proofs.Numbers.{number_of-decimal}
use Rattle.serde_json.specs.Data.{Data, string, array}
use Rattle.serde_json.specs.Read.{of_json, of_items, read, max_depth}
use Rattle.serde_json.specs.View.{items_of}
use Rattle.serde_json.specs.Written.{outline, items_outline}
use Rattle.bayou_base.specs.Vector.{AreCounts}
use Rattle.bayou_base.specs.declared.asks.Asks.{Asks}
use Rattle.bayou_base.specs.declared.entry.Entry.{Entry}
use Rattle.bayou_base.specs.declared.entry.What.{What}
use Rattle.bayou_base.specs.declared.entry.What.TheVariants as what
use Rattle.bayou_base.specs.declared.limits.TheConstants.{SERVERS, MAX_WRITES, MAX_LINE_BYTES}
use Rattle.bayou_text.specs.Asks.{asks_in}
use Rattle.bayou_text.specs.AtOnce.{Adds, IsEntry, IsWhat, all_tokens, tokens_of}
use Rattle.bayou_text.specs.Laws.Lines.{asks_found}
use Rattle.bayou_text.specs.Ranges.{IsCutTo, IsToldBy}
use Rattle.bayou_text.specs.Said.{entry}
use Rattle.bayou_text.specs.Spelling.{word_if, count_json, asks_json, vector_json, head_json, told_json}
use Rattle.bayou_text.specs.Table.{EntryIs, Spells, ToldIs, VectorIs}

-- ---- what is written

items_closed : (ds : List Data) → items_tokens (items_outline (items_of ds)) ≡ all_tokens ds ++ end_array ∷ []
items_closed [] = refl
items_closed (d ∷ ds) = ap (λ l. tokens_of d ++ l) (items_closed ds) ∙ sym (append_assoc (tokens_of d) (all_tokens ds) (end_array ∷ []))

array_closed : (before mid new : List Token) (ds : List Data) → mid ≡ before ++ begin_array ∷ all_tokens ds → new ≡ mid ++ end_array ∷ []
    → new ≡ before ++ tokens_of (array (items_of ds))
array_closed before mid new ds opened ended =
    ended ∙ ap (λ l. l ++ end_array ∷ []) opened ∙ append_assoc before (begin_array ∷ all_tokens ds) (end_array ∷ [])
    ∙ ap (λ l. before ++ begin_array ∷ l) (sym (items_closed ds))

-- more members of an array that hasn't ended
pub more : (before mid new : List Token) (ds es : List Data) → mid ≡ before ++ begin_array ∷ all_tokens ds → new ≡ mid ++ all_tokens es
    → new ≡ before ++ begin_array ∷ all_tokens (ds ++ es)
more before mid new ds es opened added =
    added ∙ ap (λ l. l ++ all_tokens es) opened ∙ append_assoc before (begin_array ∷ all_tokens ds) (all_tokens es)
    ∙ ap (λ l. before ++ begin_array ∷ l) (sym (flat_map-append tokens_of ds es))

-- and one more
pub one_more : (before mid new : List Token) (ds : List Data) (d : Data) → mid ≡ before ++ begin_array ∷ all_tokens ds → new ≡ mid ++ tokens_of d
    → new ≡ before ++ begin_array ∷ all_tokens (ds ++ d ∷ [])
one_more before mid new ds d opened added =
    more before mid new ds (d ∷ []) opened (added ∙ ap (λ l. mid ++ l) (sym (append-nil (tokens_of d))))

-- its end
pub closed : {E : Type 0} (r : Result (Unit {0}) E) (start old new : Written) (ds : List Data) → Writes r old new end_array → old.before ≡ start.before
    → old.tokens ≡ start.tokens ++ begin_array ∷ all_tokens ds → Adds r start new (tokens_of (array (items_of ds)))
closed (Ok u) start old new ds ended same opened = (ended.room.0 ∙ same, array_closed start.tokens old.tokens new.tokens ds opened ended.ok)
closed (Err e) start old new ds ended same opened = tt

-- ---- how it is read

-- its tokens are read as it, and it nests at most so deep
pub record IsRead (most : ℕ) (d : Data) : Type 0 where
  pub again : of_json (outline d) ≡ Some d
  pub no_deeper : depth (outline d) ≤ most

module _ (most : ℕ) where
  items_read : (ds : List Data) → AllByRecursion (IsRead most) ds
      → (of_items (items_outline (items_of ds)) ≡ Some (items_of ds)) × (items_depth (items_outline (items_of ds)) ≤ most)
  items_read [] each = (refl, omega arith)
  items_read (d ∷ ds) each =
      let others = items_read ds each.1 in
      (rw each.0.again (rw others.0 refl), omega (arith, each.0.no_deeper, others.1))

  pub array_read : (ds : List Data) → AllByRecursion (IsRead most) ds → IsRead (suc most) (array (items_of ds))
  array_read ds each = let all = items_read ds each in record { again = rw all.0 refl; no_deeper = omega (arith, all.1) }

  pub text_read : (s : List ℕ) → IsRead most (string s)
  text_read s = record { again = refl; no_deeper = omega arith }

  pub count_read : (n : ℕ) → n < 2 ^ 64 → IsRead most (count_json n)
  count_read n small = record { again = rw (number_of-decimal n small) refl; no_deeper = omega arith }

  counts_read : (counts : List ℕ) → AllByRecursion (λ count. count ≤ MAX_WRITES) counts → AllByRecursion (IsRead most) (map count_json counts)
  counts_read [] each = tt
  counts_read (count ∷ counts) each = (count_read count (omega (arith, each.0)), counts_read counts each.1)

  both_read : (ds es : List Data) → AllByRecursion (IsRead most) ds → AllByRecursion (IsRead most) es → AllByRecursion (IsRead most) (ds ++ es)
  both_read [] es each others = others
  both_read (d ∷ ds) es each others = (each.0, both_read ds es each.1 others)

  word_read : (asked : Bool) (word : List ℕ) → AllByRecursion (IsRead most) (word_if asked word)
  word_read true word = (text_read word, tt)
  word_read false word = tt

asks_read : (asks : Asks) → IsRead 1 (asks_json asks)
asks_read asks =
    let ryw = word_read 0 asks.ryw (codes "ryw") in
    let mr = word_read 0 asks.mr (codes "mr") in
    let wfr = word_read 0 asks.wfr (codes "wfr") in
    let mw = word_read 0 asks.mw (codes "mw") in
    array_read 0 _ (both_read 0 _ _ (both_read 0 _ _ (both_read 0 _ _ ryw mr) wfr) mw)

taken : (counts : List ℕ) (n : ℕ) → ((k d : ℕ) → k < length counts → get_or counts k d ≤ MAX_WRITES)
    → AllByRecursion (λ count. count ≤ MAX_WRITES) (take n counts)
taken [] zero each = tt
taken [] (suc n) each = tt
taken (count ∷ counts) zero each = tt
taken (count ∷ counts) (suc n) each =
    (each 0 0 (omega arith), taken counts n (λ k d below. each (suc k) d (omega (arith, below))))

pub vector_read : (n : ℕ) (vector : List ℕ) → AreCounts vector → IsRead 1 (vector_json n vector)
vector_read n vector are = array_read 0 _ (counts_read 0 (take n vector) (taken vector n are.in_range))

head_read : (told : Entry) (word : List ℕ) → told.place < 2 ^ 32 → AllByRecursion (IsRead 1) (head_json told word)
head_read told word place = (
  text_read 1 (codes "entry"),
  (
    count_read 1 told.session.index (omega (arith, told.session.in_range)),
    (
      count_read 1 told.place (omega (arith, place)),
      (asks_read told.asks, (count_read 1 told.server.index (omega (arith, told.server.in_range)), (text_read 1 word, tt))),
    ),
  ),
)

pub told_read : (told : Entry) (became : What) (n : ℕ) → told.place < 2 ^ 32 → IsWhat became → IsRead 2 (told_json told became n)
told_read told what.Refused n place kept = array_read 1 (head_json told (codes "refused")) (head_read told (codes "refused") place)
told_read told (what.Read key vector) n place kept =
    array_read 1 (head_json told (codes "read") ++ string key ∷ vector_json n vector ∷ [])
    (both_read 1 (head_json told (codes "read")) (string key ∷ vector_json n vector ∷ []) (head_read told (codes "read") place)
    (text_read 1 key, (vector_read n vector kept.1, tt)))
told_read told (what.Write wid stamp deps) n place kept =
    array_read 1 (head_json told (codes "write") ++ count_json wid.seq ∷ count_json stamp.clock ∷ vector_json n deps ∷ [])
    (both_read 1 (head_json told (codes "write")) (count_json wid.seq ∷ count_json stamp.clock ∷ vector_json n deps ∷ [])
    (head_read told (codes "write") place) (
      count_read 1 wid.seq (omega (arith, wid.in_range.1)),
      (count_read 1 stamp.clock (omega (arith, stamp.in_range.1)), (vector_read n deps kept, tt)),
    ))

abbrev whole : Option (json.Json × List Token) → Option Data
whole o = option_and_then of_json (option_and_then (λ p. json.if_last p.0 p.1) o)

pub read_again : (bytes : List ℕ) (most : ℕ) (d : Data) → most ≤ max_depth → IsRead most d → tokens bytes ≡ tokens_of d → read bytes ≡ Some d
read_again bytes most d shallow is same =
    ap whole (ap (json.value max_depth) (same ∙ sym (append-nil (tokens_of d))) ∙ value-json_tokens (outline d) max_depth [] (omega (arith, shallow, is.no_deeper))) ∙ is.again

-- ---- what it says

zeros : (counts : List ℕ) → AllByRecursion (λ count. count ≡ 0) counts → counts ≡ replicate (length counts) 0
zeros [] none = refl
zeros (count ∷ counts) none = rw (none.0, ← zeros counts none.1) refl

pub vector_is : (n : ℕ) (vector : List ℕ) → AreCounts vector → IsCutTo n vector → VectorIs (vector_json n vector) vector n
vector_is n vector are cut =
    let others : length (drop n vector) ≡ SERVERS - n = length-drop n vector ∙ ap (λ m. m - n) are.one_each in
    let none : drop n vector ≡ replicate (SERVERS - n) 0 = zeros (drop n vector) cut.1 ∙ ap (λ m. replicate m 0) others in
    record {
      counts = take n vector;
      array_is = refl;
      number_is = length-take-le n vector (omega (arith, cut.0.1, are.one_each));
      number_in_range = cut.0;
      counts_in_range = taken vector n are.in_range;
      vector_is = sym (take-append-drop n vector) ∙ ap (λ l. take n vector ++ l) none;
    }

asks_cases : (ryw mr wfr mw : Bool)
    → asks_in (asks_json (record { ryw = ryw; mr = mr; wfr = wfr; mw = mw })) ≡ Ok (record { ryw = ryw; mr = mr; wfr = wfr; mw = mw })
asks_cases true true true true = refl
asks_cases true true true false = refl
asks_cases true true false true = refl
asks_cases true true false false = refl
asks_cases true false true true = refl
asks_cases true false true false = refl
asks_cases true false false true = refl
asks_cases true false false false = refl
asks_cases false true true true = refl
asks_cases false true true false = refl
asks_cases false true false true = refl
asks_cases false true false false = refl
asks_cases false false true true = refl
asks_cases false false true false = refl
asks_cases false false false true = refl
asks_cases false false false false = refl

head_is : (told : Entry) (word : List ℕ) (others : List Data) → told.place < 2 ^ 32
    → EntryIs word others (array (items_of (head_json told word ++ others))) told
head_is told word others place = record {
  session_data = count_json told.session.index;
  place_data = count_json told.place;
  asks_data = asks_json told.asks;
  server_data = count_json told.server.index;
  form_is = refl;
  session_is = refl;
  place_is = refl;
  place_in_range = omega (arith, place);
  asks_are = asks_found (asks_json told.asks) told.asks (asks_cases told.asks.ryw told.asks.mr told.asks.wfr told.asks.mw);
  server_is = refl;
}

told_is : (told : Entry) (became : What) (counts : Option ℕ) → told.place < 2 ^ 32 → IsWhat became → IsToldBy told.server became counts
    → ToldIs (told_json told became (unwrap_or counts 0)) told became counts
told_is told what.Refused None place kept all = head_is told (codes "refused") [] place
told_is told what.Refused (Some n) place kept all = absurd all
told_is told (what.Read key vector) None place kept all = absurd all
told_is told (what.Read key vector) (Some n) place kept all = record {
  key_data = string key;
  vector_data = vector_json n vector;
  entry_is = head_is told (codes "read") (string key ∷ vector_json n vector ∷ []) place;
  key_is = (refl, kept.0);
  vector_is = vector_is n vector kept.1 all;
}
told_is told (what.Write wid stamp deps) None place kept all = absurd all
told_is told (what.Write wid stamp deps) (Some n) place kept all = record {
  seq_data = count_json wid.seq;
  clock_data = count_json stamp.clock;
  deps_data = vector_json n deps;
  entry_is = head_is told (codes "write") (count_json wid.seq ∷ count_json stamp.clock ∷ vector_json n deps ∷ []) place;
  own_name = all.0;
  seq_is = refl;
  own_stamp = all.1;
  clock_is = refl;
  deps_are = vector_is n deps kept all.2;
}

-- bytes of those tokens spell the entry
pub entry_spelled : (told : Entry) (counts : Option ℕ) (bytes : List ℕ) → length bytes ≤ MAX_LINE_BYTES → IsUtf8 bytes → IsEntry told
    → IsToldBy told.server told.what counts → tokens bytes ≡ tokens_of (told_json told told.what (unwrap_or counts 0)) → Spells bytes (entry told counts)
entry_spelled told counts bytes short text kept all same = record {
  in_length = short;
  utf8 = text;
  json = told_json told told.what (unwrap_or counts 0);
  json_is = read_again bytes 2 (told_json told told.what (unwrap_or counts 0)) (omega arith) (told_read told told.what (unwrap_or counts 0) kept.0 kept.1) same;
  line_is = told_is told told.what counts kept.0 kept.1 all;
}
