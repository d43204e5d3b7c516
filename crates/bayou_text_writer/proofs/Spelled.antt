-- What is spelled has no float, and nests no deeper than JSON is read.
use Rattle.std.proofs.Common.{◌≡◌, ℕ, ◌+◌, ◌≤◌, max, ℤ, pos, negsuc, Bool, true, false, ◌||◌, List, [], ◌∷◌, ◌++◌, map, take, unwrap_or, None, Some, codes, refl, arith}
use Rattle.serde_json.specs.Data.{Data, Items, number, string, array, depth, items_depth}
use Rattle.serde_json.specs.Find.{of_integer}
use Rattle.serde_json.specs.Written.{has_float, items_have_float}
use Rattle.serde_json.specs.View.{items_of}
use Rattle.std.specs.List.{AllByRecursion}
use Rattle.bayou_base.specs.declared.asks.Asks.{Asks}
use Rattle.bayou_base.specs.declared.entry.Entry.{Entry}
use Rattle.bayou_base.specs.declared.entry.What.{What}
use Rattle.bayou_base.specs.declared.entry.What.TheVariants as what
use Rattle.bayou_base.specs.declared.value.Value.{Value}
use Rattle.bayou_base.specs.declared.value.Value.TheVariants.{Num, Text}
use Rattle.bayou_lang.specs.declared.program.Term.{Term}
use Rattle.bayou_lang.specs.declared.program.Term.TheVariants.{Lit, Copy, Plus}
use Rattle.bayou_lang.specs.declared.program.Op.{Op}
use Rattle.bayou_lang.specs.declared.program.Op.TheVariants.{Put, Del}
use Rattle.bayou_lang.specs.declared.program.Cond.{Cond}
use Rattle.bayou_lang.specs.declared.program.Cond.TheVariants.{Equals, Absent, AtLeast, AtMost}
use Rattle.bayou_lang.specs.declared.program.Alt.{Alt}
use Rattle.bayou_lang.specs.declared.program.Program.{Program}
use Rattle.bayou_lang.specs.declared.write.Write.{Write}
use Rattle.bayou_text.specs.Said.{Said, servers, session, write, read, again, drop, log, fuse, lose, reopen, restart, pull, resend, totals, judge, survey, book, phase, entry, held}
use Rattle.bayou_text.specs.Spelling.{form, word_if, count_json, value_json, term_json, op_json, cond_json, alt_json, program_json, asks_json, list_json, vector_json, head_json, told_json, write_json, line_json}

-- no float, and at most so deep
pub record IsPlainTo (most : ℕ) (d : Data) : Type 0 where
  pub no_float : has_float d ≡ false
  pub no_deeper : depth d ≤ most

pub record ArePlainTo (most : ℕ) (ds : Items) : Type 0 where
  pub no_float : items_have_float ds ≡ false
  pub no_deeper : items_depth ds ≤ most

either : (a b : Bool) → a ≡ false → b ≡ false → (a || b) ≡ false
either a b h k = rw h k

both : (a b most : ℕ) → a ≤ most → b ≤ most → max a b ≤ most
both a b most h k = omega arith

integer : (n : ℤ) → IsPlainTo 0 (number (of_integer n))
integer (pos n) = record { no_float = refl; no_deeper = omega arith }
integer (negsuc n) = record { no_float = refl; no_deeper = omega arith }

higher : (low high : ℕ) (d : Data) → low ≤ high → IsPlainTo low d → IsPlainTo high d
higher low high d h plain = record { no_float = plain.no_float; no_deeper = omega arith }

text : (most : ℕ) (s : List ℕ) → IsPlainTo most (string s)
text most s = record { no_float = refl; no_deeper = omega arith }

module _ (most : ℕ) where
  all_plain : (ds : List Data) → AllByRecursion (IsPlainTo most) ds → ArePlainTo most (items_of ds)
  all_plain [] h = record { no_float = refl; no_deeper = omega arith }
  all_plain (d ∷ ds) h =
      let others = all_plain ds h.1 in
      record {
        no_float = either _ _ h.0.no_float others.no_float;
        no_deeper = both _ _ most h.0.no_deeper others.no_deeper;
      }

  list : (ds : List Data) → AllByRecursion (IsPlainTo most) ds → IsPlainTo (most + 1) (array (items_of ds))
  list ds h = let plain = all_plain ds h in record {
    no_float = plain.no_float;
    no_deeper = omega (arith, plain.no_deeper);
  }

  formed : (word : List ℕ) (parts : List Data) → AllByRecursion (IsPlainTo most) parts
      → IsPlainTo (most + 1) (form word parts)
  formed word parts h = list (string word ∷ parts) (text most word, h)

  each_plain : {A : Type 0} (one_json : A → Data) → ((x : A) → IsPlainTo most (one_json x)) → (xs : List A)
      → AllByRecursion (IsPlainTo most) (map one_json xs)
  each_plain one_json each [] = tt
  each_plain one_json each (x ∷ xs) = (each x, each_plain one_json each xs)

  of_each : {A : Type 0} (one_json : A → Data) → ((x : A) → IsPlainTo most (one_json x)) → (xs : List A)
      → IsPlainTo (most + 1) (list_json one_json xs)
  of_each one_json each xs = list (map one_json xs) (each_plain one_json each xs)

  joined : (ds es : List Data) → AllByRecursion (IsPlainTo most) ds → AllByRecursion (IsPlainTo most) es
      → AllByRecursion (IsPlainTo most) (ds ++ es)
  joined [] es h k = k
  joined (d ∷ ds) es h k = (h.0, joined ds es h.1 k)

  word_plain : (asked : Bool) (word : List ℕ) → AllByRecursion (IsPlainTo most) (word_if asked word)
  word_plain true word = (text most word, tt)
  word_plain false word = tt

count : (most n : ℕ) → IsPlainTo most (count_json n)
count most n = record { no_float = refl; no_deeper = omega arith }

value : (v : Value) → IsPlainTo 0 (value_json v)
value (Num n) = integer n
value (Text s) = text 0 s

term : (t : Term) → IsPlainTo 1 (term_json t)
term (Lit v) = higher 0 1 _ (omega arith) (value v)
term (Copy key) = formed 0 _ (string key ∷ []) (text 0 key, tt)
term (Plus key n) = formed 0 _ (string key ∷ number (of_integer n) ∷ []) (text 0 key, (integer n, tt))

op : (o : Op) → IsPlainTo 2 (op_json o)
op (Put key t) = formed 1 _ (string key ∷ term_json t ∷ []) (text 1 key, (term t, tt))
op (Del key) = formed 1 _ (string key ∷ []) (text 1 key, tt)

condition : (c : Cond) → IsPlainTo 2 (cond_json c)
condition (Equals key v) = formed 1 _ (string key ∷ value_json v ∷ []) (
  text 1 key,
  (higher 0 1 _ (omega arith) (value v), tt),
)
condition (Absent key) = formed 1 _ (string key ∷ []) (text 1 key, tt)
condition (AtLeast key n) = formed 1 _ (string key ∷ number (of_integer n) ∷ []) (
  text 1 key,
  (higher 0 1 _ (omega arith) (integer n), tt),
)
condition (AtMost prefix n) = formed 1 _ (string prefix ∷ count_json n ∷ []) (text 1 prefix, (count 1 n, tt))

alternative : (a : Alt) → IsPlainTo 4 (alt_json a)
alternative a =
    let ops = of_each 2 op_json op a.ops.items in
    let when = of_each 2 cond_json condition a.when.items in
    record {
      no_float = either _ _ ops.no_float (either _ _ when.no_float refl);
      no_deeper = omega (arith, ops.no_deeper, when.no_deeper);
    }

program : (p : Program) → IsPlainTo 6 (program_json p)
unfolding program_json
program p =
    let check = of_each 2 cond_json condition p.check.items in
    let merge = of_each 4 alt_json alternative p.merge.items in
    let update = of_each 2 op_json op p.update.items in
    record {
      no_float = either _ _ check.no_float (either _ _ merge.no_float (either _ _ update.no_float refl));
      no_deeper = omega (arith, check.no_deeper, merge.no_deeper, update.no_deeper);
    }

asks_plain : (asks : Asks) → IsPlainTo 1 (asks_json asks)
asks_plain asks =
    let ryw = word_plain 0 asks.ryw (codes "ryw") in
    let mr = word_plain 0 asks.mr (codes "mr") in
    let wfr = word_plain 0 asks.wfr (codes "wfr") in
    let mw = word_plain 0 asks.mw (codes "mw") in
    list 0 _ (joined 0 _ _ (joined 0 _ _ (joined 0 _ _ ryw mr) wfr) mw)

server_plain : (word : List ℕ) (place : ℕ) → IsPlainTo 8 (form word (count_json place ∷ []))
server_plain word place = formed 7 word (count_json place ∷ []) (count 7 place, tt)

vector_plain : (n : ℕ) (vector : List ℕ) → IsPlainTo 6 (vector_json n vector)
vector_plain n vector = of_each 5 count_json (count 5) (take n vector)

write_plain : (item : Write) (n : ℕ) → IsPlainTo 7 (write_json item n)
write_plain item n = list 6
    (count_json item.wid.origin.index ∷ count_json item.wid.seq ∷ count_json item.stamp.clock ∷ vector_json n item.deps
    ∷ program_json item.program ∷ []) (
      count 6 item.wid.origin.index,
      (count 6 item.wid.seq, (count 6 item.stamp.clock, (vector_plain n item.deps, (program item.program, tt)))),
    )

head_plain : (told : Entry) (word : List ℕ) → AllByRecursion (IsPlainTo 7) (head_json told word)
head_plain told word = (
  text 7 (codes "entry"),
  (
    count 7 told.session.index,
    (count 7 told.place, (higher 1 7 _ (omega arith) (asks_plain told.asks), (count 7 told.server.index, (text 7 word, tt)))),
  ),
)

told_plain : (told : Entry) (became : What) (n : ℕ) → IsPlainTo 8 (told_json told became n)
told_plain told what.Refused n = list 7 (head_json told (codes "refused")) (head_plain told (codes "refused"))
told_plain told (what.Read key vector) n =
    list 7 (head_json told (codes "read") ++ string key ∷ vector_json n vector ∷ [])
    (joined 7 (head_json told (codes "read")) (string key ∷ vector_json n vector ∷ []) (head_plain told (codes "read"))
    (text 7 key, (higher 6 7 _ (omega arith) (vector_plain n vector), tt)))
told_plain told (what.Write wid stamp deps) n =
    list 7 (head_json told (codes "write") ++ count_json wid.seq ∷ count_json stamp.clock ∷ vector_json n deps ∷ [])
    (joined 7 (head_json told (codes "write")) (count_json wid.seq ∷ count_json stamp.clock ∷ vector_json n deps ∷ [])
    (head_plain told (codes "write"))
    (count 7 wid.seq, (count 7 stamp.clock, (higher 6 7 _ (omega arith) (vector_plain n deps), tt))))

pub line_plain : (s : Said) → IsPlainTo 8 (line_json s)
line_plain (servers n None) = formed 7 _ (count_json n ∷ []) (count 7 n, tt)
line_plain (servers n (Some limit)) = formed 7 _ (count_json n ∷ count_json limit ∷ []) (
  count 7 n,
  (count 7 limit, tt),
)
line_plain (session who asks) = formed 7 _ (count_json who ∷ asks_json asks ∷ []) (
  count 7 who,
  (higher 1 7 _ (omega arith) (asks_plain asks), tt),
)
line_plain (write who place p) =
    formed 7 _ (count_json who ∷ count_json place ∷ program_json p ∷ []) (
      count 7 who,
      (count 7 place, (higher 6 7 _ (omega arith) (program p), tt)),
    )
line_plain (read who place key) =
    formed 7 _ (count_json who ∷ count_json place ∷ string key ∷ []) (
      count 7 who,
      (count 7 place, (text 7 key, tt)),
    )
line_plain (again who) = formed 7 _ (count_json who ∷ []) (count 7 who, tt)
line_plain (drop who) = formed 7 _ (count_json who ∷ []) (count 7 who, tt)
line_plain (log place) = server_plain (codes "log") place
line_plain (fuse place calls kept) =
    formed 7 _ (count_json place ∷ count_json calls ∷ count_json kept ∷ []) (
      count 7 place,
      (count 7 calls, (count 7 kept, tt)),
    )
line_plain (lose place lost) = formed 7 _ (count_json place ∷ count_json lost ∷ []) (
  count 7 place,
  (count 7 lost, tt),
)
line_plain (reopen place) = server_plain (codes "reopen") place
line_plain (restart place) = server_plain (codes "restart") place
line_plain (pull to source None) = formed 7 _ (count_json to ∷ count_json source ∷ []) (count 7 to, (count 7 source, tt))
line_plain (pull to source (Some items)) =
    formed 7 _ (count_json to ∷ count_json source ∷ count_json items ∷ []) (
      count 7 to,
      (count 7 source, (count 7 items, tt)),
    )
line_plain (resend to source) = formed 7 _ (count_json to ∷ count_json source ∷ []) (count 7 to, (count 7 source, tt))
line_plain totals = formed 7 _ [] tt
line_plain judge = formed 7 _ [] tt
line_plain survey = formed 7 _ [] tt
line_plain book = formed 7 _ [] tt
line_plain phase = formed 7 _ [] tt
line_plain (entry told counts) = told_plain told told.what (unwrap_or counts 0)
line_plain (held place item counts) =
    formed 7 _ (count_json place ∷ write_json item counts ∷ []) (count 7 place, (write_plain item counts, tt))
