-- Lines of audit files that are read are so spelled, by the table; and those that are so spelled are read.
use Rattle.std.proofs.Common.{◌≡◌, inl, inr, ℕ, ◌-◌, ◌≤◌, ◌&&◌, nat_le, List, [], ◌∷◌, ◌++◌, length, map, replicate, Option, None, Some, Ok, Err, codes, refl, sym, ap, ◌∙◌, subst, arith}
use Rattle.std.proofs.lemmas.Bool.{leb-true}
use Rattle.std.proofs.lemmas.List.{length-map}
use Rattle.std.specs.List.{AllByRecursion}
use Rattle.serde_json.specs.Data.{Data, string, array}
use Rattle.serde_json.specs.Find.{as_array}
use Rattle.serde_json.specs.View.{items_of}
use Rattle.bayou_base.specs.declared.asks.Asks.{Asks}
use Rattle.bayou_base.specs.declared.entry.Entry.{Entry}
use Rattle.bayou_base.specs.declared.entry.What.{What}
use Rattle.bayou_base.specs.declared.entry.What.TheVariants as what
use Rattle.bayou_base.specs.declared.limits.TheConstants.{SERVERS, SESSIONS, MAX_WRITES, MAX_PLACES}
use Rattle.bayou_lang.specs.declared.program.Program.{Program}
use Rattle.bayou_lang.specs.declared.write.Write.{Write}
use Rattle.bayou_text.specs.declared.line.LineFault.TheVariants.{BadShape}
use Rattle.bayou_text.specs.declared.line.Shape.TheVariants.{Form, Word}
use Rattle.bayou_text.specs.Laws.Inner.Counts.{counts_fit}
use Rattle.bayou_text.specs.Laws.Inner.Named.{ok_same, entry_of-is, entry_of-from, accepted_of-is, accepted_of-from, write_of-is, write_of-from}
use Rattle.bayou_text.specs.Laws.Inner.ProgramTable.{program_found, program_read}
use Rattle.bayou_text.specs.Laws.Inner.Readers.{bound, chosen, there, and_true, array_listed, listed_items, says_is, number_found, number_read, key_found, key_read, asks_found, asks_read}
use Rattle.bayou_text.specs.Asks.{asks_in}
use Rattle.bayou_text.specs.Audit.{padded, padded_in, vector_of, vector_in, tried_in, refused_in, seen_in, served_in, given_in, accepted_in, entry_in, members_in, write_in, held_in}
use Rattle.bayou_text.specs.Names.{entry_of, accepted_of, write_of}
use Rattle.bayou_text.specs.Numbers.{session_in, server_in, place_in, seq_in, clock_in, tally_in}
use Rattle.bayou_text.specs.Programs.{program_in}
use Rattle.bayou_text.specs.Reading.{Parsed, ◌>>=◌, all_in, listed, says}
use Rattle.bayou_text.specs.Said.{Said, entry, held}
use Rattle.bayou_text.specs.Spelling.{form, count_json}
use Rattle.bayou_text.specs.Table.{NumberIs, AsksAre, ProgramIs, VectorIs, EntryIs, ToldIs, HeldIs, LineIs}
use Rattle.bayou_text.specs.Values.{key_in}

-- ---- vectors

abbrev AreTallies : List Data → List ℕ → Type 0
AreTallies ds counts = (ds ≡ map count_json counts) × AllByRecursion (λ count. count ≤ MAX_WRITES) counts

tallies_found : (ds : List Data) (counts : List ℕ) → all_in tally_in ds ≡ Ok counts → AreTallies ds counts
tallies_found [] counts e = subst (λ (l : List ℕ). AreTallies [] l) (ok_same [] counts e) (refl, tt)
tallies_found (d ∷ ds) counts e =
    let one = bound (tally_in d) (λ one. all_in tally_in ds >>= λ others. Ok (one ∷ others)) counts e in
    let others = bound (all_in tally_in ds) (λ others. Ok (one.0 ∷ others)) counts one.2 in
    let found = number_found 0 MAX_WRITES d one.0 one.1 in
    let rest = tallies_found ds others.0 others.1 in
    subst (λ (l : List ℕ). AreTallies (d ∷ ds) l) (ok_same (one.0 ∷ others.0) counts others.2)
    (ap (λ x. x ∷ ds) found.0 ∙ ap (λ l. count_json one.0 ∷ l) rest.0, (found.1.1, rest.1))

tallies_read : (counts : List ℕ) → AllByRecursion (λ count. count ≤ MAX_WRITES) counts → all_in tally_in (map count_json counts) ≡ Ok counts
tallies_read [] h = refl
tallies_read (count ∷ counts) h = rw (number_read 0 MAX_WRITES (count_json count) count refl (omega arith) h.0, tallies_read counts h.1) refl

vector_of-found : (d : Data) (ds : List Data) (told : List ℕ × ℕ) → d ≡ array (items_of ds) → vector_of ds ≡ Ok told → VectorIs d told.0 told.1
vector_of-found d ds told is e =
    elim (chosen (nat_le 1 (length ds) && nat_le (length ds) SERVERS) (padded_in ds >>= λ vector. Ok (vector, length ds)) (Err (BadShape Form)) (Ok told) e) [
      | inl h ↦
          let both = and_true (nat_le 1 (length ds)) (nat_le (length ds) SERVERS) h.0 in
          let vector = bound (padded_in ds) (λ vector. Ok (vector, length ds)) told h.1 in
          let counts = bound (all_in tally_in ds) (λ counts. Ok (padded counts)) vector.0 vector.1 in
          let each = tallies_found ds counts.0 counts.1 in
          let number : length counts.0 ≡ length ds = sym (ap length each.0 ∙ length-map counts.0 count_json) in
          let these : padded counts.0 ≡ vector.0 = ok_same (padded counts.0) vector.0 counts.2 in
          subst (λ (t : List ℕ × ℕ). VectorIs d t.0 t.1) (ok_same (vector.0, length ds) told vector.2) (record {
            counts = counts.0;
            array_is = is ∙ ap (λ es. array (items_of es)) each.0;
            number_is = number;
            number_in_range = (leb-true _ _ both.0, leb-true _ _ both.1);
            counts_in_range = each.1;
            vector_is = sym these ∙ ap (λ n. counts.0 ++ replicate (SERVERS - n) 0) number;
          })
      | inr h ↦ absurd (cc)
    ]

vector_found : (d : Data) (told : List ℕ × ℕ) → vector_in d ≡ Ok told → VectorIs d told.0 told.1
unfolding vector_in
vector_found d told e =
    let some = there (λ items. vector_of (listed items)) (as_array d) (BadShape Form) told e in
    vector_of-found d (listed some.0) told (array_listed d some.0 some.1) some.2

same_told : (a b : List ℕ) (m n : ℕ) → a ≡ b → m ≡ n → ◌≡◌ {A = Parsed (List ℕ × ℕ)} (Ok (a, m)) (Ok (b, n))
same_told a b m n vectors numbers = cc

pub vector_read : (d : Data) (vector : List ℕ) (n : ℕ) → VectorIs d vector n → vector_in d ≡ Ok (vector, n)
unfolding vector_in
vector_read d vector n is =
    let ds = map count_json is.counts in
    let number : length ds ≡ n = length-map is.counts count_json ∙ is.number_is in
    let fit = counts_fit ds (omega (arith, number, is.number_in_range.0)) (omega (arith, number, is.number_in_range.1)) in
    let made : vector_of ds ≡ Ok (padded is.counts, length ds) = fit ∙ rw (tallies_read is.counts is.counts_in_range) refl in
    let same : padded is.counts ≡ vector = ap (λ m. is.counts ++ replicate (SERVERS - m) 0) is.number_is ∙ sym is.vector_is in
    rw is.array_is (ap vector_of (listed_items ds) ∙ made ∙ same_told (padded is.counts) vector (length ds) n same number)

-- ---- entries

-- what an entry begins with is spelled
record HeadIs (w p a v : Data) (tried : Entry) : Type 0 where
  pub session_is : NumberIs w tried.session.index
  pub place_is : NumberIs p tried.place
  pub place_in_range : tried.place ≤ MAX_PLACES
  pub asks_are : AsksAre a tried.asks
  pub server_is : NumberIs v tried.server.index

tried_found : (w p a v : Data) (tried : Entry) → tried_in w p a v ≡ Ok tried → HeadIs w p a v tried × (tried.what ≡ what.Refused)
unfolding tried_in
tried_found w p a v tried e =
    let session = bound (session_in w) (λ session. place_in p >>= λ number. asks_in a >>= λ wanted. server_in v >>= λ server. entry_of session number wanted server) tried e in
    let place = bound (place_in p) (λ number. asks_in a >>= λ wanted. server_in v >>= λ server. entry_of session.0 number wanted server) tried session.2 in
    let asks = bound (asks_in a) (λ wanted. server_in v >>= λ server. entry_of session.0 place.0 wanted server) tried place.2 in
    let server = bound (server_in v) (λ server. entry_of session.0 place.0 asks.0 server) tried asks.2 in
    let made = entry_of-from session.0 place.0 asks.0 server.0 tried server.2 in
    let counted = number_found 1 MAX_PLACES p place.0 place.1 in (
      record {
        session_is = subst (λ n. NumberIs w n) (sym made.session) (number_found 0 (SESSIONS - 1) w session.0 session.1).0;
        place_is = subst (λ n. NumberIs p n) (sym made.place_is) counted.0;
        place_in_range = omega (arith, made.place_is, counted.1);
        asks_are = subst (λ (x : Asks). AsksAre a x) (sym made.asks_are) (asks_found a asks.0 asks.1);
        server_is = subst (λ n. NumberIs v n) (sym made.server) (number_found 0 (SERVERS - 1) v server.0 server.1).0;
      },
      made.what_is,
    )

-- an entry that begins so, whatever became of the operation
entry_is : (word : List ℕ) (others : List Data) (d w p a v said : Data) (tried : Entry) (became : What)
    → d ≡ form (codes "entry") (w ∷ p ∷ a ∷ v ∷ said ∷ others) → said ≡ string word → HeadIs w p a v tried
    → EntryIs word others d (record tried { what = became })
entry_is word others d w p a v said tried became is word_is head = record {
  session_data = w;
  place_data = p;
  asks_data = a;
  server_data = v;
  form_is = is ∙ ap (λ x. form (codes "entry") (w ∷ p ∷ a ∷ v ∷ x ∷ others)) word_is;
  session_is = head.session_is;
  place_is = head.place_is;
  place_in_range = head.place_in_range;
  asks_are = head.asks_are;
  server_is = head.server_is;
}

refused_found : (d w p a v said : Data) (tried : Entry) (s : Said) → d ≡ form (codes "entry") (w ∷ p ∷ a ∷ v ∷ said ∷ [])
    → HeadIs w p a v tried → tried.what ≡ what.Refused → refused_in tried said ≡ Ok s → LineIs d s
unfolding refused_in
refused_found d w p a v said tried s is head none e =
    elim (chosen (says (codes "refused") said) (Ok (entry tried None)) (Err (BadShape Word)) (Ok s) e) [
      | inl h ↦
          let is_entry = entry_is (codes "refused") [] d w p a v said tried tried.what is (says_is (codes "refused") said h.0) head in
          subst (λ (t : Said). LineIs d t) (ok_same (entry tried None) s h.1) (subst (λ (x : What). ToldIs d tried x None) (sym none) is_entry)
      | inr h ↦ absurd (cc)
    ]

served_found : (d w p a v said key vector : Data) (tried : Entry) (s : Said)
    → d ≡ form (codes "entry") (w ∷ p ∷ a ∷ v ∷ said ∷ key ∷ vector ∷ []) → HeadIs w p a v tried → served_in tried said key vector ≡ Ok s → LineIs d s
unfolding served_in
served_found d w p a v said key vector tried s is head e =
    elim (chosen (says (codes "read") said) (seen_in tried key vector) (Err (BadShape Word)) (Ok s) e) [
      | inl h ↦
          let made : List ℕ → List ℕ × ℕ → Said = λ name counts. entry (record tried { what = what.Read name counts.0 }) (Some counts.1) in
          let name = bound (key_in key) (λ name. vector_in vector >>= λ counts. Ok (made name counts)) s h.1 in
          let counts = bound (vector_in vector) (λ counts. Ok (made name.0 counts)) s name.2 in
          let became = what.Read name.0 counts.0.0 in
          subst (λ (t : Said). LineIs d t) (ok_same (made name.0 counts.0) s counts.2) (record {
            key_data = key;
            vector_data = vector;
            entry_is = entry_is (codes "read") (key ∷ vector ∷ []) d w p a v said tried became is (says_is (codes "read") said h.0) head;
            key_is = key_found key name.0 name.1;
            vector_is = vector_found vector counts.0 counts.1;
          })
      | inr h ↦ absurd (cc)
    ]

accepted_found : (d w p a v said seq clock deps : Data) (tried : Entry) (s : Said)
    → d ≡ form (codes "entry") (w ∷ p ∷ a ∷ v ∷ said ∷ seq ∷ clock ∷ deps ∷ []) → HeadIs w p a v tried
    → accepted_in tried said seq clock deps ≡ Ok s → LineIs d s
unfolding accepted_in
accepted_found d w p a v said seq clock deps tried s is head e =
    elim (chosen (says (codes "write") said) (given_in tried seq clock deps) (Err (BadShape Word)) (Ok s) e) [
      | inl h ↦
          let made : What → ℕ → Said = λ became n. entry (record tried { what = became }) (Some n) in
          let number = bound (seq_in seq)
          (λ number. clock_in clock >>= λ time. vector_in deps >>= λ counts. accepted_of tried.server number time counts.0 >>= λ given. Ok (made given counts.1)) s h.1 in
          let time = bound (clock_in clock)
          (λ time. vector_in deps >>= λ counts. accepted_of tried.server number.0 time counts.0 >>= λ given. Ok (made given counts.1)) s number.2 in
          let counts = bound (vector_in deps) (λ counts. accepted_of tried.server number.0 time.0 counts.0 >>= λ given. Ok (made given counts.1)) s time.2 in
          let given = bound (accepted_of tried.server number.0 time.0 counts.0.0) (λ given. Ok (made given counts.0.1)) s counts.2 in
          let from = accepted_of-from tried.server number.0 time.0 counts.0.0 given.0 given.1 in
          let became : What = what.Write (record { origin = tried.server; seq = number.0; in_range = from.within })
          (record { clock = time.0; origin = tried.server; in_range = from.timely }) counts.0.0 in
          let told : LineIs d (made became counts.0.1) = record {
            seq_data = seq;
            clock_data = clock;
            deps_data = deps;
            entry_is = entry_is (codes "write") (seq ∷ clock ∷ deps ∷ []) d w p a v said tried became is (says_is (codes "write") said h.0) head;
            own_name = refl;
            seq_is = (number_found 1 MAX_WRITES seq number.0 number.1).0;
            own_stamp = refl;
            clock_is = (number_found 1 MAX_WRITES clock time.0 time.1).0;
            deps_are = vector_found deps counts.0 counts.1;
          } in
          subst (λ (t : Said). LineIs d t) (ap (λ x. made x counts.0.1) from.given_is ∙ ok_same (made given.0 counts.0.1) s given.2) told
      | inr h ↦ absurd (cc)
    ]

pub entry_found : (d : Data) (parts : List Data) (s : Said) → d ≡ form (codes "entry") parts → entry_in parts ≡ Ok s → LineIs d s
unfolding entry_in
entry_found d [] s is e = absurd (cc)
entry_found d (w ∷ []) s is e = absurd (cc)
entry_found d (w ∷ p ∷ []) s is e = absurd (cc)
entry_found d (w ∷ p ∷ a ∷ []) s is e = absurd (cc)
entry_found d (w ∷ p ∷ a ∷ v ∷ []) s is e = absurd (cc)
entry_found d (w ∷ p ∷ a ∷ v ∷ said ∷ []) s is e =
    let tried = bound (tried_in w p a v) (λ tried. refused_in tried said) s e in
    let head = tried_found w p a v tried.0 tried.1 in
    refused_found d w p a v said tried.0 s is head.0 head.1 tried.2
entry_found d (w ∷ p ∷ a ∷ v ∷ said ∷ key ∷ []) s is e = absurd (cc)
entry_found d (w ∷ p ∷ a ∷ v ∷ said ∷ key ∷ vector ∷ []) s is e =
    let tried = bound (tried_in w p a v) (λ tried. served_in tried said key vector) s e in
    served_found d w p a v said key vector tried.0 s is (tried_found w p a v tried.0 tried.1).0 tried.2
entry_found d (w ∷ p ∷ a ∷ v ∷ said ∷ seq ∷ clock ∷ deps ∷ []) s is e =
    let tried = bound (tried_in w p a v) (λ tried. accepted_in tried said seq clock deps) s e in
    accepted_found d w p a v said seq clock deps tried.0 s is (tried_found w p a v tried.0 tried.1).0 tried.2
entry_found d (w ∷ p ∷ a ∷ v ∷ said ∷ seq ∷ clock ∷ deps ∷ other ∷ more) s is e = absurd (cc)

-- ---- Writes

-- a Write that is held is spelled
record WriteIs (d : Data) (write : Write) (n : ℕ) : Type 0 where
  pub origin_data : Data
  pub seq_data : Data
  pub clock_data : Data
  pub deps_data : Data
  pub program_data : Data
  pub array_is : d ≡ array (items_of (origin_data ∷ seq_data ∷ clock_data ∷ deps_data ∷ program_data ∷ []))
  pub origin_is : NumberIs origin_data write.wid.origin.index
  pub seq_is : NumberIs seq_data write.wid.seq
  pub clock_is : NumberIs clock_data write.stamp.clock
  pub deps_are : VectorIs deps_data write.deps n
  pub program_is : ProgramIs program_data write.program

members_found : (d : Data) (parts : List Data) (told : Write × ℕ) → d ≡ array (items_of parts) → members_in parts ≡ Ok told → WriteIs d told.0 told.1
unfolding members_in
members_found d [] told is e = absurd (cc)
members_found d (o ∷ []) told is e = absurd (cc)
members_found d (o ∷ q ∷ []) told is e = absurd (cc)
members_found d (o ∷ q ∷ c ∷ []) told is e = absurd (cc)
members_found d (o ∷ q ∷ c ∷ v ∷ []) told is e = absurd (cc)
members_found d (o ∷ q ∷ c ∷ v ∷ p ∷ []) told is e =
    let at = bound (server_in o)
    (λ at. seq_in q >>= λ number. clock_in c >>= λ time. vector_in v >>= λ counts. program_in p >>= λ work. write_of at number time counts.0 work >>= λ w. Ok (w, counts.1))
    told e in
    let number = bound (seq_in q)
    (λ number. clock_in c >>= λ time. vector_in v >>= λ counts. program_in p >>= λ work. write_of at.0 number time counts.0 work >>= λ w. Ok (w, counts.1))
    told at.2 in
    let time = bound (clock_in c)
    (λ time. vector_in v >>= λ counts. program_in p >>= λ work. write_of at.0 number.0 time counts.0 work >>= λ w. Ok (w, counts.1)) told number.2 in
    let counts = bound (vector_in v) (λ counts. program_in p >>= λ work. write_of at.0 number.0 time.0 counts.0 work >>= λ w. Ok (w, counts.1)) told time.2 in
    let work = bound (program_in p) (λ work. write_of at.0 number.0 time.0 counts.0.0 work >>= λ w. Ok (w, counts.0.1)) told counts.2 in
    let made = bound (write_of at.0 number.0 time.0 counts.0.0 work.0) (λ w. Ok (w, counts.0.1)) told work.2 in
    let from = write_of-from at.0 number.0 time.0 counts.0.0 work.0 made.0 made.1 in
    subst (λ (t : Write × ℕ). WriteIs d t.0 t.1) (ok_same (made.0, counts.0.1) told made.2) (record {
      origin_data = o;
      seq_data = q;
      clock_data = c;
      deps_data = v;
      program_data = p;
      array_is = is;
      origin_is = subst (λ n. NumberIs o n) (sym from.origin) (number_found 0 (SERVERS - 1) o at.0 at.1).0;
      seq_is = subst (λ n. NumberIs q n) (sym from.seq_is) (number_found 1 MAX_WRITES q number.0 number.1).0;
      clock_is = subst (λ n. NumberIs c n) (sym from.clock_is) (number_found 1 MAX_WRITES c time.0 time.1).0;
      deps_are = subst (λ (l : List ℕ). VectorIs v l counts.0.1) (sym from.deps_are) (vector_found v counts.0 counts.1);
      program_is = subst (λ (x : Program). ProgramIs p x) (sym from.program_is) (program_found p work.0 work.1);
    })
members_found d (o ∷ q ∷ c ∷ v ∷ p ∷ other ∷ more) told is e = absurd (cc)

write_found : (d : Data) (told : Write × ℕ) → write_in d ≡ Ok told → WriteIs d told.0 told.1
unfolding write_in
write_found d told e =
    let some = there (λ items. members_in (listed items)) (as_array d) (BadShape Form) told e in
    members_found d (listed some.0) told (array_listed d some.0 some.1) some.2

pub held_found : (d : Data) (parts : List Data) (s : Said) → d ≡ form (codes "held") parts → held_in parts ≡ Ok s → LineIs d s
unfolding held_in
held_found d [] s is e = absurd (cc)
held_found d (p ∷ []) s is e = absurd (cc)
held_found d (p ∷ w ∷ []) s is e =
    let at = bound (server_in p) (λ at. write_in w >>= λ told. Ok (held at told.0 told.1)) s e in
    let told = bound (write_in w) (λ told. Ok (held at.0 told.0 told.1)) s at.2 in
    let numbered = number_found 0 (SERVERS - 1) p at.0 at.1 in
    let parts = write_found w told.0 told.1 in
    subst (λ (t : Said). LineIs d t) (ok_same (held at.0 told.0.0 told.0.1) s told.2) (record {
      place_data = p;
      origin_data = parts.origin_data;
      seq_data = parts.seq_data;
      clock_data = parts.clock_data;
      deps_data = parts.deps_data;
      program_data = parts.program_data;
      form_is = is ∙ ap (λ x. form (codes "held") (p ∷ x ∷ [])) parts.array_is;
      place_is = numbered.0;
      place_in_range = omega (arith, numbered.1);
      origin_is = parts.origin_is;
      seq_is = parts.seq_is;
      clock_is = parts.clock_is;
      deps_are = parts.deps_are;
      program_is = parts.program_is;
    })
held_found d (p ∷ w ∷ other ∷ more) s is e = absurd (cc)

-- ---- what is so spelled is read

tried_read : (w p a v : Data) (told : Entry) → HeadIs w p a v told → tried_in w p a v ≡ Ok (record told { what = what.Refused })
unfolding tried_in
tried_read w p a v told is =
    rw (
      number_read 0 (SESSIONS - 1) w told.session.index is.session_is (omega arith) (omega (arith, told.session.in_range)),
      number_read 1 MAX_PLACES p told.place is.place_is (omega (arith, told.in_range)) is.place_in_range,
      asks_read a told.asks is.asks_are,
      number_read 0 (SERVERS - 1) v told.server.index is.server_is (omega arith) (omega (arith, told.server.in_range)),
    ) (entry_of-is told)

head_of_entry : (word : List ℕ) (others : List Data) (d : Data) (told : Entry) (is : EntryIs word others d told)
    → HeadIs is.session_data is.place_data is.asks_data is.server_data told
head_of_entry word others d told is = record {
  session_is = is.session_is;
  place_is = is.place_is;
  place_in_range = is.place_in_range;
  asks_are = is.asks_are;
  server_is = is.server_is;
}

-- an entry is what became of its operation, and the rest
same_became : (told : Entry) (became : What) (counts : Option ℕ) → told.what ≡ became
    → ◌≡◌ {A = Parsed Said} (Ok (entry (record told { what = became }) counts)) (Ok (entry told counts))
same_became told became counts same = ap (λ (x : What). Ok (entry (record told { what = x }) counts)) (sym same)

pub told_read : (d : Data) (told : Entry) (became : What) (counts : Option ℕ) → told.what ≡ became → ToldIs d told became counts
    → (parts : List Data) × (d ≡ form (codes "entry") parts) × (entry_in parts ≡ Ok (entry told counts))
unfolding entry_in refused_in served_in accepted_in
told_read d told what.Refused None same is =
    let head = tried_read _ _ _ _ told (head_of_entry (codes "refused") [] d told is) in (
      is.session_data ∷ is.place_data ∷ is.asks_data ∷ is.server_data ∷ string (codes "refused") ∷ [],
      is.form_is,
      rw head (same_became told what.Refused None same),
    )
told_read d told what.Refused (Some n) same is = absurd is
told_read d told (what.Read key vector) None same is = absurd is
told_read d told (what.Read key vector) (Some n) same is =
    let begun = is.entry_is in
    let head = tried_read _ _ _ _ told (head_of_entry (codes "read") (is.key_data ∷ is.vector_data ∷ []) d told begun) in (
      begun.session_data ∷ begun.place_data ∷ begun.asks_data ∷ begun.server_data ∷ string (codes "read") ∷ is.key_data ∷ is.vector_data ∷ [],
      begun.form_is,
      rw (head, key_read is.key_data key is.key_is, vector_read is.vector_data vector n is.vector_is) (same_became told (what.Read key vector) (Some n) same),
    )
told_read d told (what.Write wid stamp deps) None same is = absurd is
told_read d told (what.Write wid stamp deps) (Some n) same is =
    let begun = is.entry_is in
    let head = tried_read _ _ _ _ told (head_of_entry (codes "write") (is.seq_data ∷ is.clock_data ∷ is.deps_data ∷ []) d told begun) in (
      begun.session_data ∷ begun.place_data ∷ begun.asks_data ∷ begun.server_data ∷ string (codes "write") ∷ is.seq_data ∷ is.clock_data ∷ is.deps_data ∷ [],
      begun.form_is,
      rw (
        head,
        number_read 1 MAX_WRITES is.seq_data wid.seq is.seq_is (omega (arith, wid.in_range)) wid.in_range.1,
        number_read 1 MAX_WRITES is.clock_data stamp.clock is.clock_is (omega (arith, stamp.in_range)) stamp.in_range.1,
        vector_read is.deps_data deps n is.deps_are,
        accepted_of-is told.server wid stamp deps is.own_name is.own_stamp,
      ) (same_became told (what.Write wid stamp deps) (Some n) same),
    )

pub held_read : (d : Data) (place : ℕ) (item : Write) (n : ℕ) (is : HeldIs d place item n)
    → held_in (is.place_data ∷ array (items_of (is.origin_data ∷ is.seq_data ∷ is.clock_data ∷ is.deps_data ∷ is.program_data ∷ [])) ∷ [])
    ≡ Ok (held place item n)
unfolding held_in write_in members_in
held_read d place item n is =
    rw (
      number_read 0 (SERVERS - 1) is.place_data place is.place_is (omega arith) (omega (arith, is.place_in_range)),
      number_read 0 (SERVERS - 1) is.origin_data item.wid.origin.index is.origin_is (omega arith) (omega (arith, item.wid.origin.in_range)),
      number_read 1 MAX_WRITES is.seq_data item.wid.seq is.seq_is (omega (arith, item.wid.in_range)) item.wid.in_range.1,
      number_read 1 MAX_WRITES is.clock_data item.stamp.clock is.clock_is (omega (arith, item.stamp.in_range)) item.stamp.in_range.1,
      vector_read is.deps_data item.deps n is.deps_are,
      program_read is.program_data item.program is.program_is,
      write_of-is item,
    ) refl
