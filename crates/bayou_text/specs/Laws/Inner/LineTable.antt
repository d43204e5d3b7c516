-- Lines that are read are so spelled, by the table; and those that are so spelled are read.
use Rattle.std.proofs.Common.{◌≡◌, inl, inr, ℕ, ◌-◌, ◌<◌, ◌≤◌, List, [], ◌∷◌, length, None, Some, Ok, Err, IsUtf8, codes, refl, ap, ◌∙◌, subst, arith}
use Rattle.serde_json.specs.Data.{Data}
use Rattle.serde_json.specs.Read.{read as json_of}
use Rattle.bayou_base.specs.declared.limits.TheConstants.{SERVERS, SESSIONS, MAX_WRITES, MAX_LINE_BYTES, MAX_FUSE_CALLS, MAX_FUSE_KEPT, MAX_LOST_BYTES}
use Rattle.bayou_text.specs.declared.line.LineFault.TheVariants.{BadShape, NotJson}
use Rattle.bayou_text.specs.declared.line.Shape.TheVariants.{Command}
use Rattle.bayou_text.specs.declared.line.Shape.TheVariants as shape
use Rattle.bayou_text.specs.Laws.Inner.ProgramTable.{program_found, program_read}
use Rattle.bayou_text.specs.Laws.Inner.Readers.{bound, there, word_or, worded_of, listed_items, number_found, number_read, key_found, key_read, asks_found, asks_read}
use Rattle.bayou_text.specs.Laws.Inner.AuditTable.{entry_found, held_found, told_read, held_read}
use Rattle.bayou_text.specs.Asks.{asks_in}
use Rattle.bayou_text.specs.Audit.{entry_in, held_in}
use Rattle.bayou_text.specs.Lines.{servers_in, opening_in, writing_in, reading_in, session_alone_in, alone_in, fusing_in, losing_in, trial_of, bare_in, asked_of, pulling_in, resending_in, exchange_of, retry_of, command_of, spoken_of, line_in, text_line}
use Rattle.bayou_text.specs.Numbers.{count_in, limit_in, session_in, server_in, calls_in, kept_in, lost_in, cut_in}
use Rattle.bayou_text.specs.Programs.{program_in}
use Rattle.bayou_text.specs.Reading.{◌>>=◌, worded}
use Rattle.bayou_text.specs.Said.{Said, servers, session, write, read, again, drop, log, fuse, lose, reopen, restart, pull, resend, totals, judge, survey, book, phase, entry, held}
use Rattle.bayou_text.specs.Spelling.{form}
use Rattle.bayou_text.specs.Table.{BetweenIs, NumberIs, AtServer, ServerIs, SessionAloneIs, ProgramIs, KeyIs, LineIs, Spells}
use Rattle.bayou_text.specs.Values.{key_in}

servers_found : (d : Data) (parts : List Data) (s : Said) → d ≡ form (codes "servers") parts
    → servers_in parts ≡ Ok s → LineIs d s
unfolding servers_in
servers_found d [] s is e = absurd (cc)
servers_found d (c ∷ []) s is e =
    let count = bound (count_in c) (λ n. Ok (servers n None)) s e in
    let counted = number_found 1 SERVERS c count.0 count.1 in
    let same : servers count.0 None ≡ s = cc in
    subst (λ (t : Said). LineIs d t) same (record {
      count_data = c;
      form_is = is;
      count_is = counted.0;
      count_in_range = counted.1;
    })
servers_found d (c ∷ l ∷ []) s is e =
    let count = bound (count_in c) (λ n. limit_in l >>= λ most. Ok (servers n (Some most))) s e in
    let limit = bound (limit_in l) (λ most. Ok (servers count.0 (Some most))) s count.2 in
    let counted = number_found 1 SERVERS c count.0 count.1 in
    let limited = number_found 1 MAX_WRITES l limit.0 limit.1 in
    let same : servers count.0 (Some limit.0) ≡ s = cc in
    subst (λ (t : Said). LineIs d t) same (record {
      count_data = c;
      limit_data = l;
      form_is = is;
      count_is = counted.0;
      count_in_range = counted.1;
      limit_is = limited.0;
      limit_in_range = limited.1;
    })
servers_found d (c ∷ l ∷ other ∷ more) s is e = absurd (cc)

opening_found : (d : Data) (parts : List Data) (s : Said) → d ≡ form (codes "session") parts
    → opening_in parts ≡ Ok s → LineIs d s
unfolding opening_in
opening_found d [] s is e = absurd (cc)
opening_found d (w ∷ []) s is e = absurd (cc)
opening_found d (w ∷ a ∷ []) s is e =
    let who = bound (session_in w) (λ n. asks_in a >>= λ asks. Ok (session n asks)) s e in
    let asks = bound (asks_in a) (λ asks. Ok (session who.0 asks)) s who.2 in
    let numbered = number_found 0 (SESSIONS - 1) w who.0 who.1 in
    let same : session who.0 asks.0 ≡ s = cc in
    subst (λ (t : Said). LineIs d t) same (record {
      who_data = w;
      asks_data = a;
      form_is = is;
      who_is = numbered.0;
      who_in_range = omega (arith, numbered.1);
      asks_are = asks_found a asks.0 asks.1;
    })
opening_found d (w ∷ a ∷ other ∷ more) s is e = absurd (cc)

at_server : (word : List ℕ) (Is : Data → Type 0) (d w p l : Data) (who place : ℕ)
    → d ≡ form word (w ∷ p ∷ l ∷ [])
    → session_in w ≡ Ok who → server_in p ≡ Ok place → Is l → AtServer word Is d who place
at_server word Is d w p l who place is first second last =
    let session_is = number_found 0 (SESSIONS - 1) w who first in
    let server_is = number_found 0 (SERVERS - 1) p place second in
    record {
      who_data = w;
      place_data = p;
      last_data = l;
      form_is = is;
      who_is = session_is.0;
      who_in_range = omega (arith, session_is.1);
      place_is = server_is.0;
      place_in_range = omega (arith, server_is.1);
      last_is = last;
    }

writing_found : (d : Data) (parts : List Data) (s : Said) → d ≡ form (codes "write") parts
    → writing_in parts ≡ Ok s → LineIs d s
unfolding writing_in
writing_found d [] s is e = absurd (cc)
writing_found d (w ∷ []) s is e = absurd (cc)
writing_found d (w ∷ p ∷ []) s is e = absurd (cc)
writing_found d (w ∷ p ∷ l ∷ []) s is e =
    let who = bound (session_in w)
    (λ n. server_in p >>= λ o. program_in l >>= λ program. Ok (write n o program)) s e in
    let place = bound (server_in p) (λ o. program_in l >>= λ program. Ok (write who.0 o program)) s who.2 in
    let program = bound (program_in l) (λ program. Ok (write who.0 place.0 program)) s place.2 in
    let same : write who.0 place.0 program.0 ≡ s = cc in
    subst (λ (t : Said). LineIs d t) same
    (at_server (codes "write") (λ last. ProgramIs last program.0) d w p l who.0 place.0 is who.1 place.1
    (program_found l program.0 program.1))
writing_found d (w ∷ p ∷ l ∷ other ∷ more) s is e = absurd (cc)

reading_found : (d : Data) (parts : List Data) (s : Said) → d ≡ form (codes "read") parts
    → reading_in parts ≡ Ok s → LineIs d s
unfolding reading_in
reading_found d [] s is e = absurd (cc)
reading_found d (w ∷ []) s is e = absurd (cc)
reading_found d (w ∷ p ∷ []) s is e = absurd (cc)
reading_found d (w ∷ p ∷ l ∷ []) s is e =
    let who = bound (session_in w) (λ n. server_in p >>= λ o. key_in l >>= λ key. Ok (read n o key)) s e in
    let place = bound (server_in p) (λ o. key_in l >>= λ key. Ok (read who.0 o key)) s who.2 in
    let key = bound (key_in l) (λ key. Ok (read who.0 place.0 key)) s place.2 in
    let same : read who.0 place.0 key.0 ≡ s = cc in
    subst (λ (t : Said). LineIs d t) same
    (at_server (codes "read") (λ last. KeyIs last key.0) d w p l who.0 place.0 is who.1 place.1
    (key_found l key.0 key.1))
reading_found d (w ∷ p ∷ l ∷ other ∷ more) s is e = absurd (cc)

-- a server's number is read as it stands in the table
server_found : (d : Data) (n : ℕ) → server_in d ≡ Ok n → NumberIs d n × (n < SERVERS)
server_found d n e = let found = number_found 0 (SERVERS - 1) d n e in (found.0, omega (arith, found.1))

server_read : (d : Data) (n : ℕ) → NumberIs d n → n < SERVERS → server_in d ≡ Ok n
server_read d n is low = number_read 0 (SERVERS - 1) d n is (omega arith) (omega arith)

alone_found : (word : List ℕ) (d : Data) (parts : List Data) (place : ℕ) → d ≡ form word parts
    → alone_in parts ≡ Ok place → ServerIs word d place
unfolding alone_in
alone_found word d [] place is e = absurd (cc)
alone_found word d (p ∷ []) place is e =
    let numbered = server_found p place e in
    record { place_data = p; form_is = is; place_is = numbered.0; place_in_range = numbered.1 }
alone_found word d (p ∷ other ∷ more) place is e = absurd (cc)

-- a command that takes a server alone
server_line : (word : List ℕ) (d : Data) (parts : List Data) (what : ℕ → Said) (s : Said)
    → ((place : ℕ) → ServerIs word d place → LineIs d (what place)) → d ≡ form word parts
    → (alone_in parts >>= λ place. Ok (what place)) ≡ Ok s → LineIs d s
server_line word d parts what s line_is is e =
    let place = bound (alone_in parts) (λ n. Ok (what n)) s e in
    let same : what place.0 ≡ s = cc in
    subst (λ (t : Said). LineIs d t) same (line_is place.0 (alone_found word d parts place.0 is place.1))

fusing_found : (d : Data) (parts : List Data) (s : Said) → d ≡ form (codes "fuse") parts
    → fusing_in parts ≡ Ok s → LineIs d s
unfolding fusing_in
fusing_found d [] s is e = absurd (cc)
fusing_found d (p ∷ []) s is e = absurd (cc)
fusing_found d (p ∷ c ∷ []) s is e = absurd (cc)
fusing_found d (p ∷ c ∷ k ∷ []) s is e =
    let place = bound (server_in p)
    (λ o. calls_in c >>= λ calls. kept_in k >>= λ kept. Ok (fuse o calls kept)) s e in
    let calls = bound (calls_in c) (λ calls. kept_in k >>= λ kept. Ok (fuse place.0 calls kept)) s place.2 in
    let kept = bound (kept_in k) (λ kept. Ok (fuse place.0 calls.0 kept)) s calls.2 in
    let numbered = server_found p place.0 place.1 in
    let counted = number_found 1 MAX_FUSE_CALLS c calls.0 calls.1 in
    let measured = number_found 0 MAX_FUSE_KEPT k kept.0 kept.1 in
    let same : fuse place.0 calls.0 kept.0 ≡ s = cc in
    subst (λ (t : Said). LineIs d t) same (record {
      place_data = p;
      calls_data = c;
      kept_data = k;
      form_is = is;
      place_is = numbered.0;
      place_in_range = numbered.1;
      calls_are = counted.0;
      kept_is = measured.0;
      fuse_in_range = (counted.1, measured.1.1);
    })
fusing_found d (p ∷ c ∷ k ∷ other ∷ more) s is e = absurd (cc)

losing_found : (d : Data) (parts : List Data) (s : Said) → d ≡ form (codes "lose") parts
    → losing_in parts ≡ Ok s → LineIs d s
unfolding losing_in
losing_found d [] s is e = absurd (cc)
losing_found d (p ∷ []) s is e = absurd (cc)
losing_found d (p ∷ c ∷ []) s is e =
    let place = bound (server_in p) (λ o. lost_in c >>= λ n. Ok (lose o n)) s e in
    let count = bound (lost_in c) (λ n. Ok (lose place.0 n)) s place.2 in
    let numbered = server_found p place.0 place.1 in
    let counted = number_found 0 MAX_LOST_BYTES c count.0 count.1 in
    let same : lose place.0 count.0 ≡ s = cc in
    subst (λ (t : Said). LineIs d t) same (record {
      place_data = p;
      count_data = c;
      form_is = is;
      place_is = numbered.0;
      place_in_range = numbered.1;
      count_is = counted.0;
      count_in_range = counted.1.1;
    })
losing_found d (p ∷ c ∷ other ∷ more) s is e = absurd (cc)

trial_found : (d : Data) (word : List ℕ) (parts : List Data) (s : Said) → d ≡ form word parts
    → trial_of word parts ≡ Ok s → LineIs d s
unfolding trial_of
trial_found d word parts s is e = elim (word_or d word (codes "fuse") parts (fusing_in parts) _ s is e) [
  | inl h ↦ fusing_found d parts s h.0 h.1
  | inr h ↦ elim (word_or d word (codes "lose") parts (losing_in parts) _ s is h) [
    | inl i ↦ losing_found d parts s i.0 i.1
    | inr i ↦ elim (word_or d word (codes "reopen") parts (alone_in parts >>= λ at. Ok (reopen at)) _ s is i) [
      | inl j ↦ server_line (codes "reopen") d parts reopen s (λ n h. h) j.0 j.1
      | inr j ↦ elim
          (word_or d word (codes "restart") parts (alone_in parts >>= λ at. Ok (restart at)) (Err
          (BadShape Command)) s is j) [
            | inl k ↦ server_line (codes "restart") d parts restart s (λ n h. h) k.0 k.1
            | inr k ↦ absurd (cc)
          ]
    ]
  ]
]

-- a command that takes two servers alone
between : (word : List ℕ) (d t f : Data) (to source : ℕ) → d ≡ form word (t ∷ f ∷ []) → server_in t ≡ Ok to → server_in f ≡ Ok source
    → BetweenIs word d to source
between word d t f to source is first second =
    let one = server_found t to first in
    let other = server_found f source second in
    record { to_data = t; source_data = f; form_is = is; to_is = one.0; to_in_range = one.1; source_is = other.0; source_in_range = other.1 }

pulling_found : (d : Data) (parts : List Data) (s : Said) → d ≡ form (codes "pull") parts
    → pulling_in parts ≡ Ok s → LineIs d s
unfolding pulling_in
pulling_found d [] s is e = absurd (cc)
pulling_found d (t ∷ []) s is e = absurd (cc)
pulling_found d (t ∷ f ∷ []) s is e =
    let to = bound (server_in t) (λ o. server_in f >>= λ from. Ok (pull o from None)) s e in
    let source = bound (server_in f) (λ from. Ok (pull to.0 from None)) s to.2 in
    let same : pull to.0 source.0 None ≡ s = cc in
    subst (λ (l : Said). LineIs d l) same (between (codes "pull") d t f to.0 source.0 is to.1 source.1)
pulling_found d (t ∷ f ∷ k ∷ []) s is e =
    let to = bound (server_in t) (λ o. server_in f >>= λ from. cut_in k >>= λ n. Ok (pull o from (Some n))) s e in
    let source = bound (server_in f) (λ from. cut_in k >>= λ n. Ok (pull to.0 from (Some n))) s to.2 in
    let items = bound (cut_in k) (λ n. Ok (pull to.0 source.0 (Some n))) s source.2 in
    let one = server_found t to.0 to.1 in
    let other = server_found f source.0 source.1 in
    let counted = number_found 0 MAX_WRITES k items.0 items.1 in
    let same : pull to.0 source.0 (Some items.0) ≡ s = cc in
    subst (λ (l : Said). LineIs d l) same (record {
      to_data = t;
      source_data = f;
      items_data = k;
      form_is = is;
      to_is = one.0;
      to_in_range = one.1;
      source_is = other.0;
      source_in_range = other.1;
      items_are = counted.0;
      items_in_range = counted.1.1;
    })
pulling_found d (t ∷ f ∷ k ∷ other ∷ more) s is e = absurd (cc)

resending_found : (d : Data) (parts : List Data) (s : Said) → d ≡ form (codes "resend") parts
    → resending_in parts ≡ Ok s → LineIs d s
unfolding resending_in
resending_found d [] s is e = absurd (cc)
resending_found d (t ∷ []) s is e = absurd (cc)
resending_found d (t ∷ f ∷ []) s is e =
    let to = bound (server_in t) (λ o. server_in f >>= λ from. Ok (resend o from)) s e in
    let source = bound (server_in f) (λ from. Ok (resend to.0 from)) s to.2 in
    let same : resend to.0 source.0 ≡ s = cc in
    subst (λ (l : Said). LineIs d l) same (between (codes "resend") d t f to.0 source.0 is to.1 source.1)
resending_found d (t ∷ f ∷ other ∷ more) s is e = absurd (cc)

bare_found : (what s : Said) (word : List ℕ) (d : Data) (parts : List Data) → (d ≡ form word [] → LineIs d what)
    → d ≡ form word parts → bare_in what parts ≡ Ok s → LineIs d s
unfolding bare_in
bare_found what s word d [] line_is is e =
    let same : what ≡ s = cc in
    subst (λ (l : Said). LineIs d l) same (line_is is)
bare_found what s word d (part ∷ parts) line_is is e = absurd (cc)

asked_found : (d : Data) (word : List ℕ) (parts : List Data) (s : Said) → d ≡ form word parts
    → asked_of word parts ≡ Ok s → LineIs d s
unfolding asked_of
asked_found d word parts s is e = elim (word_or d word (codes "totals") parts (bare_in totals parts) _ s is e) [
  | inl h ↦ bare_found totals s (codes "totals") d parts (λ h. h) h.0 h.1
  | inr h ↦ elim (word_or d word (codes "judge") parts (bare_in judge parts) _ s is h) [
    | inl i ↦ bare_found judge s (codes "judge") d parts (λ h. h) i.0 i.1
    | inr i ↦ elim (word_or d word (codes "survey") parts (bare_in survey parts) _ s is i) [
      | inl j ↦ bare_found survey s (codes "survey") d parts (λ h. h) j.0 j.1
      | inr j ↦ elim (word_or d word (codes "book") parts (bare_in book parts) _ s is j) [
        | inl k ↦ bare_found book s (codes "book") d parts (λ h. h) k.0 k.1
        | inr k ↦ elim (word_or d word (codes "phase") parts (bare_in phase parts) (trial_of word parts) s is k) [
          | inl l ↦ bare_found phase s (codes "phase") d parts (λ h. h) l.0 l.1
          | inr l ↦ trial_found d word parts s is l
        ]
      ]
    ]
  ]
]

exchange_found : (d : Data) (word : List ℕ) (parts : List Data) (s : Said) → d ≡ form word parts
    → exchange_of word parts ≡ Ok s → LineIs d s
unfolding exchange_of
exchange_found d word parts s is e = elim (word_or d word (codes "pull") parts (pulling_in parts) _ s is e) [
  | inl h ↦ pulling_found d parts s h.0 h.1
  | inr h ↦ elim (word_or d word (codes "resend") parts (resending_in parts) (asked_of word parts) s is h) [
    | inl i ↦ resending_found d parts s i.0 i.1
    | inr i ↦ asked_found d word parts s is i
  ]
]

session_alone_found : (word : List ℕ) (d : Data) (parts : List Data) (who : ℕ) → d ≡ form word parts
    → session_alone_in parts ≡ Ok who → SessionAloneIs word d who
unfolding session_alone_in
session_alone_found word d [] who is e = absurd (cc)
session_alone_found word d (w ∷ []) who is e =
    let numbered = number_found 0 (SESSIONS - 1) w who e in
    record { who_data = w; form_is = is; who_is = numbered.0; who_in_range = omega (arith, numbered.1) }
session_alone_found word d (w ∷ other ∷ more) who is e = absurd (cc)

session_line : (word : List ℕ) (d : Data) (parts : List Data) (what : ℕ → Said) (s : Said)
    → ((n : ℕ) → SessionAloneIs word d n → LineIs d (what n)) → d ≡ form word parts
    → (session_alone_in parts >>= λ who. Ok (what who)) ≡ Ok s → LineIs d s
session_line word d parts what s line_is is e =
    let who = bound (session_alone_in parts) (λ n. Ok (what n)) s e in
    let same : what who.0 ≡ s = cc in
    subst (λ (l : Said). LineIs d l) same (line_is who.0 (session_alone_found word d parts who.0 is who.1))

retry_found : (d : Data) (word : List ℕ) (parts : List Data) (s : Said) → d ≡ form word parts
    → retry_of word parts ≡ Ok s → LineIs d s
unfolding retry_of
retry_found d word parts s is e = elim (word_or d word (codes "again") parts (session_alone_in parts >>= λ who. Ok (again who)) _ s is e) [
  | inl h ↦ session_line (codes "again") d parts again s (λ n h. h) h.0 h.1
  | inr h ↦ elim (word_or d word (codes "drop") parts (session_alone_in parts >>= λ who. Ok (drop who)) (exchange_of word parts) s is h) [
    | inl i ↦ session_line (codes "drop") d parts drop s (λ n h. h) i.0 i.1
    | inr i ↦ exchange_found d word parts s is i
  ]
]

command_found : (d : Data) (word : List ℕ) (parts : List Data) (s : Said) → d ≡ form word parts
    → command_of word parts ≡ Ok s → LineIs d s
command_found d word parts s is e = elim
    (word_or d word (codes "servers") parts (servers_in parts) _ s is e) [
      | inl h ↦ servers_found d parts s h.0 h.1
      | inr h ↦ elim (word_or d word (codes "session") parts (opening_in parts) _ s is h) [
        | inl i ↦ opening_found d parts s i.0 i.1
        | inr i ↦ elim (word_or d word (codes "write") parts (writing_in parts) _ s is i) [
          | inl j ↦ writing_found d parts s j.0 j.1
          | inr j ↦ elim (word_or d word (codes "read") parts (reading_in parts) _ s is j) [
            | inl k ↦ reading_found d parts s k.0 k.1
            | inr k ↦ elim
                (word_or d word (codes "log") parts (alone_in parts >>= λ at. Ok (log at))
                (retry_of word parts) s is k) [
                  | inl l ↦ server_line (codes "log") d parts log s (λ n h. h) l.0 l.1
                  | inr l ↦ retry_found d word parts s is l
                ]
          ]
        ]
      ]
    ]

spoken_found : (d : Data) (word : List ℕ) (parts : List Data) (s : Said) → d ≡ form word parts
    → spoken_of word parts ≡ Ok s → LineIs d s
spoken_found d word parts s is e = elim (word_or d word (codes "entry") parts (entry_in parts) _ s is e) [
  | inl h ↦ entry_found d parts s h.0 h.1
  | inr h ↦ elim (word_or d word (codes "held") parts (held_in parts) (command_of word parts) s is h) [
    | inl i ↦ held_found d parts s i.0 i.1
    | inr i ↦ command_found d word parts s is i
  ]
]

pub line_found : (d : Data) (s : Said) → line_in d ≡ Ok s → LineIs d s
unfolding line_in
line_found d s e =
    let some = there (λ parts. spoken_of parts.0 parts.1) (worded d) (BadShape shape.Line) s e in
    spoken_found d some.0.0 some.0.1 s (worded_of d some.0 some.1) some.2

formed : (word : List ℕ) (parts : List Data) (s : Said) → spoken_of word parts ≡ Ok s
    → line_in (form word parts) ≡ Ok s
unfolding line_in
formed word parts s e = ap (spoken_of word) (listed_items parts) ∙ e

session_read : (d : Data) (n : ℕ) → NumberIs d n → n < SESSIONS → session_in d ≡ Ok n
session_read d n is low = number_read 0 (SESSIONS - 1) d n is (omega arith) (omega arith)

alone_read : (place : Data) (n : ℕ) (what : ℕ → Said) → NumberIs place n → n < SERVERS
    → (alone_in (place ∷ []) >>= λ at. Ok (what at)) ≡ Ok (what n)
unfolding alone_in
alone_read place n what is low = rw (server_read place n is low)

session_alone_read : (who : Data) (n : ℕ) (what : ℕ → Said) → NumberIs who n → n < SESSIONS
    → (session_alone_in (who ∷ []) >>= λ m. Ok (what m)) ≡ Ok (what n)
unfolding session_alone_in
session_alone_read who n what is low = rw (session_read who n is low)

pub line_read : (d : Data) (s : Said) → LineIs d s → line_in d ≡ Ok s
unfolding servers_in opening_in writing_in reading_in fusing_in losing_in trial_of bare_in asked_of pulling_in resending_in exchange_of retry_of
line_read d (servers count None) is =
    rw is.form_is (formed _ (is.count_data ∷ []) _
    (rw (number_read 1 SERVERS is.count_data count is.count_is is.count_in_range.0 is.count_in_range.1)))
line_read d (servers count (Some limit)) is =
    rw is.form_is (formed _ (is.count_data ∷ is.limit_data ∷ []) _
    (rw (
      number_read 1 SERVERS is.count_data count is.count_is is.count_in_range.0 is.count_in_range.1,
      number_read 1 MAX_WRITES is.limit_data limit is.limit_is is.limit_in_range.0 is.limit_in_range.1,
    )))
line_read d (session who asks) is =
    rw is.form_is (formed _ (is.who_data ∷ is.asks_data ∷ []) _
    (rw (
      session_read is.who_data who is.who_is is.who_in_range,
      asks_read is.asks_data asks is.asks_are,
    )))
line_read d (write who place program) is =
    rw is.form_is (formed _ (is.who_data ∷ is.place_data ∷ is.last_data ∷ []) _
    (rw (
      session_read is.who_data who is.who_is is.who_in_range,
      server_read is.place_data place is.place_is is.place_in_range,
      program_read is.last_data program is.last_is,
    )))
line_read d (read who place key) is =
    rw is.form_is (formed _ (is.who_data ∷ is.place_data ∷ is.last_data ∷ []) _
    (rw (
      session_read is.who_data who is.who_is is.who_in_range,
      server_read is.place_data place is.place_is is.place_in_range,
      key_read is.last_data key is.last_is,
    )))
line_read d (again who) is =
    rw is.form_is (formed _ (is.who_data ∷ []) _
    (session_alone_read is.who_data who again is.who_is is.who_in_range))
line_read d (drop who) is =
    rw is.form_is (formed _ (is.who_data ∷ []) _
    (session_alone_read is.who_data who drop is.who_is is.who_in_range))
line_read d (log place) is =
    rw is.form_is (formed _ (is.place_data ∷ []) _
    (alone_read is.place_data place log is.place_is is.place_in_range))
line_read d (fuse place calls kept) is =
    rw is.form_is (formed _ (is.place_data ∷ is.calls_data ∷ is.kept_data ∷ []) _
    (rw (
      server_read is.place_data place is.place_is is.place_in_range,
      number_read 1 MAX_FUSE_CALLS is.calls_data calls is.calls_are is.fuse_in_range.0.0
          is.fuse_in_range.0.1,
      number_read 0 MAX_FUSE_KEPT is.kept_data kept is.kept_is (omega arith) is.fuse_in_range.1,
    )))
line_read d (lose place count) is =
    rw is.form_is (formed _ (is.place_data ∷ is.count_data ∷ []) _
    (rw (
      server_read is.place_data place is.place_is is.place_in_range,
      number_read 0 MAX_LOST_BYTES is.count_data count is.count_is (omega arith) is.count_in_range,
    )))
line_read d (reopen place) is =
    rw is.form_is (formed _ (is.place_data ∷ []) _
    (alone_read is.place_data place reopen is.place_is is.place_in_range))
line_read d (restart place) is =
    rw is.form_is (formed _ (is.place_data ∷ []) _
    (alone_read is.place_data place restart is.place_is is.place_in_range))
line_read d (pull to source None) is =
    rw is.form_is (formed _ (is.to_data ∷ is.source_data ∷ []) _
    (rw (
      server_read is.to_data to is.to_is is.to_in_range,
      server_read is.source_data source is.source_is is.source_in_range,
    )))
line_read d (pull to source (Some items)) is =
    rw is.form_is (formed _ (is.to_data ∷ is.source_data ∷ is.items_data ∷ []) _
    (rw (
      server_read is.to_data to is.to_is is.to_in_range,
      server_read is.source_data source is.source_is is.source_in_range,
      number_read 0 MAX_WRITES is.items_data items is.items_are (omega arith) is.items_in_range,
    )))
line_read d (resend to source) is =
    rw is.form_is (formed _ (is.to_data ∷ is.source_data ∷ []) _
    (rw (
      server_read is.to_data to is.to_is is.to_in_range,
      server_read is.source_data source is.source_is is.source_in_range,
    )))
line_read d totals is = rw is (formed (codes "totals") [] totals (λ i. Ok totals))
line_read d judge is = rw is (formed (codes "judge") [] judge (λ i. Ok judge))
line_read d survey is = rw is (formed (codes "survey") [] survey (λ i. Ok survey))
line_read d book is = rw is (formed (codes "book") [] book (λ i. Ok book))
line_read d phase is = rw is (formed (codes "phase") [] phase (λ i. Ok phase))
line_read d (entry told counts) is =
    let told_is = told_read d told told.what counts refl is in
    rw told_is.1 (formed (codes "entry") told_is.0 (entry told counts) told_is.2)
line_read d (held place item counts) is =
    rw is.form_is (formed (codes "held") _ (held place item counts) (held_read d place item counts is))

-- ---- bytes

pub spells_from_line : (bytes : List ℕ) (s : Said) → length bytes ≤ MAX_LINE_BYTES → IsUtf8 bytes
    → text_line bytes ≡ Ok s → Spells bytes s
spells_from_line bytes s short text e =
    let some = there line_in (json_of bytes) NotJson s e in
    record {
      in_length = short;
      utf8 = text;
      json = some.0;
      json_is = some.1;
      line_is = line_found some.0 s some.2;
    }

pub line_from_spells : (bytes : List ℕ) (s : Said) → Spells bytes s → text_line bytes ≡ Ok s
line_from_spells bytes s spells = rw spells.json_is (line_read spells.json s spells.line_is)
