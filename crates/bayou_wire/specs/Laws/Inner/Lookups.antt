-- What is asked beside one key, and what is answered: what is read is what was spelled, and what is spelled is read.
use Rattle.std.proofs.Common.{◌≡◌, ℕ, ◌+◌, ◌*◌, ◌^◌, ◌<◌, ◌≤◌, Bool, true, false, cond, List, [], ◌∷◌, ◌++◌, length, Option, None, Some, refl, sym, ap, subst, ◌∙◌, append_assoc, arith, inl, inr}
use Rattle.std.specs.Prelude.{◌==◌, nat_lt, IfSome}
use Rattle.std.specs.List.{flat_map}
use Rattle.std.specs.Int.{w16, w32}
use Rattle.std.proofs.lemmas.Bool.{ltb-false, le-ltb}
use Rattle.std.proofs.lemmas.Bool.Decides.{nat_tests}
use Rattle.std.proofs.lemmas.List.{length-append}
use Rattle.std.proofs.lemmas.Nat.{be_bytes_2, from_be_bytes-to_be_bytes_2}
use Rattle.std.proofs.lemmas.Option.{none-some, option_and_then_some}
use Rattle.bayou_base.specs.declared.limits.TheConstants.{MAX_FRAME_BYTES, MAX_KEY_BYTES}
use Rattle.bayou_base.specs.declared.value.Value.{Value}
use Rattle.bayou_base.specs.declared.wid.Wid.{Wid}
use Rattle.bayou_lang.specs.Ranges.{AreAtMost, IsKey}
use Rattle.bayou_wire.specs.declared.layout.TheConstants as layout
use Rattle.bayou_wire.specs.declared.layout.TheConstants.{ROWS_AT_ONCE}
use Rattle.bayou_wire.specs.declared.lookup.Became.{Became}
use Rattle.bayou_wire.specs.declared.lookup.Became.TheVariants.{Updated, Merged, Nothing}
use Rattle.bayou_wire.specs.declared.lookup.Fate.{Fate}
use Rattle.bayou_wire.specs.declared.lookup.FateAsked.{FateAsked}
use Rattle.bayou_wire.specs.declared.lookup.Page.{Page}
use Rattle.bayou_wire.specs.declared.lookup.Placed.{Placed}
use Rattle.bayou_wire.specs.declared.lookup.RowsAsked.{RowsAsked}
use Rattle.bayou_wire.specs.Lookups.{IsBecame, IsFate, IsFateAsked, IsPage, IsPlaced, IsRow, IsRowsAsked, became_bytes, fate_asked_bytes, fate_bytes, more_bytes, optional_key_bytes, page_bytes, placed_bytes, row_bytes, rows_asked_bytes, rows_bytes, u16_bytes}
use Rattle.bayou_wire.specs.Inner.Lookups.{became_at, fate_asked_at, fate_at, held_placed_at, more_at, optional_key_at, page_at, placed_at, row_at, rows_asked_at, rows_at}
use Rattle.bayou_wire.specs.Inner.Reading.{Read, both, key_at, made, number_at, prefix_at, times, value_at, vector_at, wid_at}
use Rattle.bayou_wire.specs.Spelling.{short_bytes, u32_bytes, value_bytes, vector_bytes, wid_bytes}
use Rattle.bayou_wire.specs.Laws.Inner.Formats.{IsBytes, IsBytes-behind, IsFormat, IsWide, both_format, byte_format, case_takes, chosen, key_format, made_again, made_format, made_takes, number_format, prefix_format, times_again, times_takes, u32_format, value_format, vector_format, wid_format}
use Rattle.bayou_wire.specs.Laws.Inner.Payloads.{bare_takes, link}
use Rattle.bayou_wire.specs.Laws.Inner.Sizes.{key_is_short, prefix_is_short, members_size, value_size}
use Rattle.bayou_wire.specs.Laws.Inner.Vectors.{length-vector_bytes}

-- ---- what formats are made of

-- a format of the same values, in other words
pub same_format : {T : Type 0} {Is : T → Type 0} {spelling : T → List ℕ} {at : List ℕ → Read T} (Other : T → Type 0)
    → ((x : T) → Is x → Other x) → ((x : T) → Other x → Is x) → IsFormat Is spelling at → IsFormat Other spelling at
same_format Other there back format = record {
  takes = λ bytes x fits e. let t = format.takes bytes x fits e in (there x.0 t.0, t.1);
  again = λ value rest is. format.again value rest (back value is);
}

wide16 : IsWide w16 (2 ^ 16)
wide16 = record {
  len = λ n. refl;
  back = λ bytes len fits. be_bytes_2 bytes _ len fits refl;
  again = λ n lt. from_be_bytes-to_be_bytes_2 n lt;
  below = λ bytes fits. omega (arith, fits 0, fits 1);
}

u16_format : IsFormat (λ n. n < 2 ^ 16) u16_bytes (number_at w16)
u16_format = number_format w16 (2 ^ 16) wide16

-- ---- keys that may be there

-- a key has a byte
key_is_some : (key : List ℕ) → IsKey key → (length key == 0) ≡ false
key_is_some key is =
    elim (length key == 0) as (λ b. (length key == 0) ≡ b → b ≡ false) [
      | true ↦ λ e. absurd (grind (arith, nat_tests))
      | false ↦ λ _. refl
    ] refl

abbrev pub IsOptionalKey : Option (List ℕ) → Type 0
IsOptionalKey key = IfSome key IsKey

pub optional_key_format : IsFormat IsOptionalKey optional_key_bytes optional_key_at
unfolding optional_key_at
optional_key_format = record { takes = takes; again = again }
  where
    some : (bytes : List ℕ) (x : Option (List ℕ) × List ℕ) → IsBytes bytes → made (λ key. Some key) key_at bytes ≡ Some x → IsOptionalKey x.0 × (bytes ≡ optional_key_bytes x.0 ++ x.1)
    some bytes x fits e =
        let t = made_takes (λ key. Some key) key_format bytes x fits e in
        subst (λ (v : Option (List ℕ)). IsOptionalKey v × (bytes ≡ optional_key_bytes v ++ x.1)) (sym t.2) (t.1, t.3)

    takes : (bytes : List ℕ) (x : Option (List ℕ) × List ℕ) → IsBytes bytes → optional_key_at bytes ≡ Some x → IsOptionalKey x.0 × (bytes ≡ optional_key_bytes x.0 ++ x.1)
    takes [] x fits e = absurd (none-some x e)
    takes (len ∷ bytes) x fits e =
        link len 0 (Some (None, bytes)) (made (λ key. Some key) key_at (len ∷ bytes)) x e
        (λ same here. bare_takes IsOptionalKey optional_key_bytes 0 None tt refl len bytes x same here)
        (λ there. some (len ∷ bytes) x fits there)

    again : (key : Option (List ℕ)) (rest : List ℕ) → IsOptionalKey key → optional_key_at (optional_key_bytes key ++ rest) ≡ Some (key, rest)
    again None rest is = refl
    again (Some key) rest is = rw (key_is_some key is) (made_again (λ key. Some key) key_format key rest is)

-- ---- rows

row_format : IsFormat IsRow row_bytes row_at
unfolding row_at
row_format = record { takes = parts.takes; again = parts.again }
  where
    parts : IsFormat IsRow row_bytes (both key_at value_at)
    parts = both_format key_format value_format

rows_format : IsFormat (AreAtMost ROWS_AT_ONCE IsRow) rows_bytes rows_at
unfolding rows_at
rows_format = record { takes = takes; again = again }
  where
    takes : (bytes : List ℕ) (x : List (List ℕ × Value) × List ℕ) → IsBytes bytes → rows_at bytes ≡ Some x → AreAtMost ROWS_AT_ONCE IsRow x.0 × (bytes ≡ rows_bytes x.0 ++ x.1)
    takes bytes x fits e =
        option_and_then_some (λ (count : ℕ × List ℕ). cond (nat_lt layout.ROWS_AT_ONCE count.0) None (times count.0 row_at count.1)) (number_at w16 bytes) x e (λ count first others.
        elim (chosen (nat_lt layout.ROWS_AT_ONCE count.0) None (times count.0 row_at count.1) (Some x) others) [
          | inl h ↦ absurd (none-some x h.1)
          | inr h ↦
              let within : count.0 ≤ ROWS_AT_ONCE = ltb-false _ _ h.0 in
              let t = u16_format.takes bytes count fits first in
              let u = times_takes row_format count.0 count.1 x (IsBytes-behind bytes (u16_bytes count.0) count.1 fits t.1) h.1 in
              let whole : bytes ≡ u16_bytes (length x.0) ++ (flat_map row_bytes x.0 ++ x.1) = t.1 ∙ ap (λ n. u16_bytes n ++ count.1) (sym u.0) ∙ ap (λ s. u16_bytes (length x.0) ++ s) u.2 in
              ((omega (arith, u.0, within), u.1), whole ∙ sym (append_assoc (u16_bytes (length x.0)) (flat_map row_bytes x.0) x.1))
        ])

    again : (rows : List (List ℕ × Value)) (rest : List ℕ) → AreAtMost ROWS_AT_ONCE IsRow rows → rows_at (rows_bytes rows ++ rest) ≡ Some (rows, rest)
    again rows rest are =
        let regrouped : rows_bytes rows ++ rest ≡ u16_bytes (length rows) ++ (flat_map row_bytes rows ++ rest) = append_assoc (u16_bytes (length rows)) (flat_map row_bytes rows) rest in
        let few : length rows < 2 ^ 16 = omega (arith, are.0) in
        let within : nat_lt layout.ROWS_AT_ONCE (length rows) ≡ false = le-ltb _ _ are.0 in
        ap rows_at regrouped ∙ rw (u16_format.again (length rows) (flat_map row_bytes rows ++ rest) few, within) (times_again row_format rows rest are.1)

abbrev Any : {T : Type 0} → T → Type 0
Any x = Unit {0}

more_format : IsFormat {T = Bool} Any more_bytes more_at
unfolding more_at
more_format = record { takes = takes; again = again }
  where
    takes : (bytes : List ℕ) (x : Bool × List ℕ) → IsBytes bytes → more_at bytes ≡ Some x → Unit {0} × (bytes ≡ more_bytes x.0 ++ x.1)
    takes [] x fits e = absurd (none-some x e)
    takes (byte ∷ bytes) x fits e =
        link byte layout.MORE_LEFT (Some (true, bytes)) (cond (byte == layout.NONE_LEFT) (Some (false, bytes)) None) x e
        (λ same here. bare_takes {T = Bool} Any more_bytes layout.MORE_LEFT true tt refl byte bytes x same here)
        (λ there. link byte layout.NONE_LEFT (Some (false, bytes)) None x there
        (λ same here. bare_takes {T = Bool} Any more_bytes layout.NONE_LEFT false tt refl byte bytes x same here)
        (λ none. absurd (none-some x none)))

    again : (more : Bool) (rest : List ℕ) → Unit {0} → more_at (more_bytes more ++ rest) ≡ Some (more, rest)
    again true rest u = refl
    again false rest u = refl

pub rows_asked_format : IsFormat IsRowsAsked rows_asked_bytes rows_asked_at
unfolding rows_asked_at
rows_asked_format = record { takes = parts.takes; again = parts.again }
  where
    parts : IsFormat IsRowsAsked rows_asked_bytes (made (λ (p : List ℕ × (List ℕ × (Option (List ℕ) × ℕ))). record { need = p.0; prefix = p.1.0; after = p.1.1.0; most = p.1.1.1 })
        (both vector_at (both prefix_at (both optional_key_at (number_at w16)))))
    parts = same_format IsRowsAsked (λ x is. (is.0, is.1.0, is.1.1.0, is.1.1.1)) (λ x is. (is.0, (is.1, (is.2, is.3))))
        (made_format _ (λ asked. (asked.need, (asked.prefix, (asked.after, asked.most)))) (λ x. refl) (λ x. refl)
        (both_format vector_format (both_format prefix_format (both_format optional_key_format u16_format))))

pub page_format : IsFormat IsPage page_bytes page_at
unfolding page_at
page_format = record { takes = parts.takes; again = parts.again }
  where
    parts : IsFormat IsPage page_bytes (made (λ (p : List ℕ × (Bool × List (List ℕ × Value))). record { vector = p.0; more = p.1.0; rows = record { items = p.1.1 } }) (both vector_at (both more_at rows_at)))
    parts = same_format IsPage (λ x is. (is.0, is.1.1)) (λ x is. (is.0, (tt, is.1)))
        (made_format _ (λ page. (page.vector, (page.more, page.rows.items))) (λ x. refl) (λ x. refl) (both_format vector_format (both_format more_format rows_format)))

-- ---- what became of a Write

became_format : IsFormat IsBecame became_bytes became_at
unfolding became_at
became_format = record { takes = takes; again = again }
  where
    takes : (bytes : List ℕ) (x : Became × List ℕ) → IsBytes bytes → became_at bytes ≡ Some x → IsBecame x.0 × (bytes ≡ became_bytes x.0 ++ x.1)
    takes [] x fits e = absurd (none-some x e)
    takes (byte ∷ bytes) x fits e =
        link byte layout.WAS_UPDATED _ _ x e
        (λ same here. bare_takes IsBecame became_bytes layout.WAS_UPDATED Updated tt refl byte bytes x same here) (λ e.
        link byte layout.WAS_MERGED _ _ x e
        (λ same here. case_takes IsBecame became_bytes layout.WAS_MERGED Merged byte_format (λ y is. is) (λ y. refl) byte bytes x fits same here) (λ e.
        link byte layout.WAS_NOTHING _ _ x e
        (λ same here. bare_takes IsBecame became_bytes layout.WAS_NOTHING Nothing tt refl byte bytes x same here) (λ none.
        absurd (none-some x none))))

    again : (became : Became) (rest : List ℕ) → IsBecame became → became_at (became_bytes became ++ rest) ≡ Some (became, rest)
    again Updated rest is = refl
    again (Merged alternative) rest is = refl
    again Nothing rest is = refl

placed_format : IsFormat IsPlaced (λ placed. became_bytes placed.became ++ u32_bytes placed.clock) placed_at
unfolding placed_at
placed_format = record { takes = parts.takes; again = parts.again }
  where
    parts : IsFormat IsPlaced (λ placed. became_bytes placed.became ++ u32_bytes placed.clock) (made (λ (p : Became × ℕ). record { became = p.0; clock = p.1 }) (both became_at (number_at w32)))
    parts = made_format _ (λ placed. (placed.became, placed.clock)) (λ x. refl) (λ x. refl) (both_format became_format u32_format)

abbrev IsHeldPlaced : Option Placed → Type 0
IsHeldPlaced placed = IfSome placed IsPlaced

held_placed_format : IsFormat IsHeldPlaced placed_bytes held_placed_at
unfolding held_placed_at
held_placed_format = record { takes = takes; again = again }
  where
    some : (bytes : List ℕ) (x : Option Placed × List ℕ) → IsBytes bytes → made (λ placed. Some placed) placed_at bytes ≡ Some x → IsHeldPlaced x.0 × (bytes ≡ placed_bytes x.0 ++ x.1)
    some bytes x fits e =
        let t = made_takes (λ placed. Some placed) placed_format bytes x fits e in
        subst (λ (v : Option Placed). IsHeldPlaced v × (bytes ≡ placed_bytes v ++ x.1)) (sym t.2) (t.1, t.3)

    takes : (bytes : List ℕ) (x : Option Placed × List ℕ) → IsBytes bytes → held_placed_at bytes ≡ Some x → IsHeldPlaced x.0 × (bytes ≡ placed_bytes x.0 ++ x.1)
    takes [] x fits e = absurd (none-some x e)
    takes (byte ∷ bytes) x fits e =
        link byte layout.NOT_HELD (Some (None, bytes)) (made (λ placed. Some placed) placed_at (byte ∷ bytes)) x e
        (λ same here. bare_takes IsHeldPlaced placed_bytes layout.NOT_HELD None tt refl byte bytes x same here)
        (λ there. some (byte ∷ bytes) x fits there)

    present : (became : Became) (clock : ℕ) (rest : List ℕ) → IsPlaced (record { became = became; clock = clock })
        → held_placed_at (placed_bytes (Some (record { became = became; clock = clock })) ++ rest) ≡ Some (Some (record { became = became; clock = clock }), rest)
    present Updated clock rest is = made_again (λ placed. Some placed) placed_format (record { became = Updated; clock = clock }) rest is
    present (Merged alternative) clock rest is = made_again (λ placed. Some placed) placed_format (record { became = Merged alternative; clock = clock }) rest is
    present Nothing clock rest is = made_again (λ placed. Some placed) placed_format (record { became = Nothing; clock = clock }) rest is

    again : (placed : Option Placed) (rest : List ℕ) → IsHeldPlaced placed → held_placed_at (placed_bytes placed ++ rest) ≡ Some (placed, rest)
    again None rest is = refl
    again (Some placed) rest is = present placed.became placed.clock rest is

pub fate_asked_format : IsFormat IsFateAsked fate_asked_bytes fate_asked_at
unfolding fate_asked_at
fate_asked_format = record { takes = parts.takes; again = parts.again }
  where
    parts : IsFormat IsFateAsked fate_asked_bytes (made (λ (p : List ℕ × Wid). record { need = p.0; wid = p.1 }) (both vector_at wid_at))
    parts = same_format IsFateAsked (λ x is. is.0) (λ x is. (is, tt))
        (made_format _ (λ asked. (asked.need, asked.wid)) (λ x. refl) (λ x. refl) (both_format vector_format wid_format))

pub fate_format : IsFormat IsFate fate_bytes fate_at
unfolding fate_at
fate_format = record { takes = parts.takes; again = parts.again }
  where
    parts : IsFormat IsFate fate_bytes (made (λ (p : List ℕ × Option Placed). record { vector = p.0; placed = p.1 }) (both vector_at held_placed_at))
    parts = made_format _ (λ fate. (fate.vector, fate.placed)) (λ x. refl) (λ x. refl) (both_format vector_format held_placed_format)

-- ---- sizes

pub optional_key_size : (key : Option (List ℕ)) → IsOptionalKey key → length (optional_key_bytes key) ≤ MAX_KEY_BYTES + 1
optional_key_size None is = omega arith
optional_key_size (Some key) is = omega (arith, key_is_short key is)

-- a row has no more bytes than the longest
row_size : (row : List ℕ × Value) → IsRow row → length (row_bytes row) ≤ 67
row_size row is = omega (arith, length-append (short_bytes row.0) (value_bytes row.1), key_is_short row.0 is.0, value_size row.1 is.1)

more_size : (more : Bool) → length (more_bytes more) ≡ 1
more_size true = refl
more_size false = refl

-- so many rows fit into a frame, however long they are
pub page_size : (page : Page) → IsPage page → length (page_bytes page) < MAX_FRAME_BYTES
page_size page is =
    let rows = page.rows.items in
    let sizes : length (flat_map row_bytes rows) ≤ length rows * 67 = members_size IsRow row_bytes 67 row_size rows is.1.1 in
    let whole = length-append (vector_bytes page.vector) (more_bytes page.more ++ rows_bytes rows) in
    let behind = length-append (more_bytes page.more) (rows_bytes rows) in
    let counted : length (rows_bytes rows) ≡ 2 + length (flat_map row_bytes rows) = length-append (u16_bytes (length rows)) (flat_map row_bytes rows) in
    omega (arith, sizes, whole, behind, counted, more_size page.more, length-vector_bytes page.vector, is.1.0)

pub rows_asked_size : (asked : RowsAsked) → IsRowsAsked asked → length (rows_asked_bytes asked) ≤ 256
rows_asked_size asked is =
    let prefix = short_bytes asked.prefix in
    let after = optional_key_bytes asked.after in
    omega (
      arith,
      length-append (vector_bytes asked.need) (prefix ++ (after ++ u16_bytes asked.most)),
      length-append prefix (after ++ u16_bytes asked.most),
      length-append after (u16_bytes asked.most),
      length-vector_bytes asked.need,
      prefix_is_short asked.prefix is.1,
      optional_key_size asked.after is.2,
    )

pub fate_asked_size : (asked : FateAsked) → length (fate_asked_bytes asked) ≤ 256
fate_asked_size asked = omega (arith, length-append (vector_bytes asked.need) (wid_bytes asked.wid), length-vector_bytes asked.need)

became_size : (became : Became) → length (became_bytes became) ≤ 2
became_size Updated = omega arith
became_size (Merged alternative) = omega arith
became_size Nothing = omega arith

placed_size : (placed : Option Placed) → length (placed_bytes placed) ≤ 6
placed_size None = omega arith
placed_size (Some placed) = omega (arith, length-append (became_bytes placed.became) (u32_bytes placed.clock), became_size placed.became)

pub fate_size : (fate : Fate) → length (fate_bytes fate) ≤ 256
fate_size fate = omega (arith, length-append (vector_bytes fate.vector) (placed_bytes fate.placed), length-vector_bytes fate.vector, placed_size fate.placed)
