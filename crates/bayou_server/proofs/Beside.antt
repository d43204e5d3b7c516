-- What a server keeps of Writes and of the tags beside them.
use Rattle.std.proofs.Common.{◌≡◌, ◌≢◌, ℕ, zero, suc, ◌<◌, List, [], ◌∷◌, ◌++◌, Option, None, Some, Contains, drop, get_or, length, refl, sym, ◌∙◌, ap, subst, arith, length-append}
use Rattle.std.specs.Prelude.{IsSome}
use Rattle.std.specs.List.{slice_get}
use Rattle.std.proofs.Math.Seq.{get_or-append_seam}
use Rattle.std.proofs.lemmas.List.{get_or_append_left}
use Rattle.std.proofs.lemmas.List.Elements.{Contains-get_or}
use Rattle.std.proofs.lemmas.List.Quantifiers.{all_pairs_push}
use Rattle.bayou_base.specs.declared.tag.Tag.{Tag}
use Rattle.bayou_lang.specs.declared.write.Write.{Write}
use Rattle.bayou_tags.specs.Tags.{AreDistinct}
use Rattle.bayou_wire.specs.declared.record.Record.{Record}
use Rattle.bayou_server.specs.Server.{AreTags, IsNewTag, records}
use Rattle.bayou_server.proofs.Bodies.{as_many, both_more}

-- the tags are as many as the Writes
pub one_each : (server : ℕ) (held : List Write) (tags : List (Option Tag)) → AreTags server held tags → length tags ≡ length held
one_each server held tags are = sym (as_many (λ (write : Write) (tag : Option Tag). IsSome tag → write.wid.origin.index ≡ server) held tags are.own)

-- what has no element is empty
pub nothing_long : {A : Type 0} (xs : List A) → length xs ≡ 0 → xs ≡ []
nothing_long [] none = refl
nothing_long (x ∷ xs) none = absurd (omega (arith, none))

-- and so are the records
pub many_records : (held : List Write) (tags : List (Option Tag)) → length tags ≡ length held → length (records held tags) ≡ length held
many_records [] tags same = refl
many_records (write ∷ held) [] same = absurd (omega (arith, same))
many_records (write ∷ held) (tag ∷ tags) same = ap suc (many_records held tags (omega (arith, same)))

-- one more of both
pub records-push : (held : List Write) (tags : List (Option Tag)) (write : Write) (tag : Option Tag) → length tags ≡ length held
    → records (held ++ write ∷ []) (tags ++ tag ∷ []) ≡ records held tags ++ record { write = write; tag = tag } ∷ []
records-push [] [] write tag same = refl
records-push [] (t ∷ tags) write tag same = absurd (omega (arith, same))
records-push (w ∷ held) [] write tag same = absurd (omega (arith, same))
records-push (w ∷ held) (t ∷ tags) write tag same =
    ap (λ (l : List Record). record { write = w; tag = t } ∷ l) (records-push held tags write tag (omega (arith, same)))

-- what stands at a place
pub record_at : (held : List Write) (tags : List (Option Tag)) (k : ℕ) (write : Write) (tag : Option Tag) → slice_get held k ≡ Some write → slice_get tags k ≡ Some tag
    → slice_get (records held tags) k ≡ Some (record { write = write; tag = tag })
record_at [] tags k write tag is there = let none : None ≡ Some write = is in absurd cc
record_at (w ∷ held) [] k write tag is there = let none : None ≡ Some tag = there in absurd cc
record_at (w ∷ held) (t ∷ tags) zero write tag is there =
    let one : w ≡ write = cc in
    let other : t ≡ tag = cc in
    ap (λ (x : Write). Some (record { write = x; tag = t })) one ∙ ap (λ (y : Option Tag). Some (record { write = write; tag = y })) other
record_at (w ∷ held) (t ∷ tags) (suc k) write tag is there = record_at held tags k write tag is there

-- the records tell the Writes, and the tags
pub one_of_each : (held others : List Write) (tags more : List (Option Tag)) → length tags ≡ length held → length more ≡ length others → records held tags ≡ records others more
    → (held ≡ others) × (tags ≡ more)
one_of_each [] [] [] [] same also is = (refl, refl)
one_of_each [] [] (t ∷ tags) more same also is = absurd (omega (arith, same))
one_of_each [] [] [] (t ∷ more) same also is = absurd (omega (arith, also))
one_of_each [] (other ∷ others) tags [] same also is = absurd (omega (arith, also))
one_of_each [] (other ∷ others) tags (t ∷ more) same also is = absurd (let fewer = ap (λ (l : List Record). length l) is in omega (arith, fewer))
one_of_each (write ∷ held) others [] more same also is = absurd (omega (arith, same))
one_of_each (write ∷ held) [] (t ∷ tags) more same also is = absurd (let fewer = ap (λ (l : List Record). length l) is in omega (arith, fewer))
one_of_each (write ∷ held) (other ∷ others) (t ∷ tags) [] same also is = absurd (omega (arith, also))
one_of_each (write ∷ held) (other ∷ others) (t ∷ tags) (u ∷ more) same also is =
    let d : Record = record { write = write; tag = t } in
    let first = ap (λ (l : List Record). get_or l 0 d) is in
    let rest = one_of_each held others tags more (omega (arith, same)) (omega (arith, also)) (ap (λ (l : List Record). drop 1 l) is) in (
      ap (λ (w : Write). w ∷ held) (ap (λ (r : Record). r.write) first) ∙ ap (λ (l : List Write). other ∷ l) rest.0,
      ap (λ (o : Option Tag). o ∷ tags) (ap (λ (r : Record). r.tag) first) ∙ ap (λ (l : List (Option Tag)). u ∷ l) rest.1,
    )

-- ---- tags

-- a new tag is at none of the places
differs : (tags : List (Option Tag)) (tag : Option Tag) → IsNewTag tags tag → (k : ℕ) (d : Option Tag) → k < length tags → (t : Tag) → get_or tags k d ≡ Some t → tag ≢ Some t
differs tags None new k d within t is same = absurd cc
differs tags (Some tag) new k d within t is same = new (subst (λ (o : Option Tag). Contains tags o) (is ∙ sym same) (Contains-get_or tags k d within))

pub AreTags-push : (server : ℕ) (held : List Write) (tags : List (Option Tag)) (write : Write) (tag : Option Tag) → AreTags server held tags → (IsSome tag → write.wid.origin.index ≡ server)
    → IsNewTag tags tag → AreTags server (held ++ write ∷ []) (tags ++ tag ∷ [])
AreTags-push server held tags write tag are own new = record {
  own = both_more (λ (w : Write) (t : Option Tag). IsSome t → w.wid.origin.index ≡ server) held tags write tag are.own own;
  distinct = all_pairs_push (λ (earlier later : Option Tag). (t : Tag) → earlier ≡ Some t → later ≢ Some t) tags tag are.distinct (differs tags tag new);
}

pub no_tag : IsSome {T = Tag} None → ⊥
no_tag some = absurd cc

-- the tag of a Write that is held is none of those before it
pub new_before : (before after : List (Option Tag)) (tag : Option Tag) → AreDistinct (before ++ tag ∷ after) → IsNewTag before tag
new_before before after None distinct = tt
new_before before after (Some tag) distinct = λ among.
    let (k, within, is) = among in
    distinct k (length before) (Some tag) within (omega (arith, length-append before (Some tag ∷ after))) tag
    (get_or_append_left before (Some tag ∷ after) (Some tag) k within ∙ is) (get_or-append_seam before (Some tag) after (Some tag))
