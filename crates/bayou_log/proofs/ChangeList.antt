-- Changes of which keys, numbers and texts lie apart: what is added behind them.
use Rattle.std.proofs.Common.{◌≡◌, ℕ, ℤ, suc, ◌+◌, ◌≤◌, List, [], ◌∷◌, ◌++◌, None, Some, length, ap, ◌∙◌, refl, arith, length-append}
use Rattle.bayou_base.specs.declared.value.Value.TheVariants.{Num, Text}
use Rattle.bayou_lang.specs.declared.change.Change.{Change}
use Rattle.bayou_log.specs.declared.change_list.Kind.{Kind}
use Rattle.bayou_log.specs.declared.change_list.Kind.TheVariants.{Nothing, OfNumber, OfText}
use Rattle.bayou_log.specs.Inner.ChangeList.{numbers_in, put_together, texts_in, AreApart, Listed}

abbrev pub list_of : List Change → ℕ → Listed
list_of items room = record { items = items; room = room }

pub numbers_in-append : (kinds more : List Kind) → numbers_in (kinds ++ more) ≡ numbers_in kinds + numbers_in more
numbers_in-append [] more = omega arith
numbers_in-append (Nothing ∷ kinds) more = numbers_in-append kinds more
numbers_in-append (OfNumber ∷ kinds) more = omega (arith, numbers_in-append kinds more)
numbers_in-append (OfText ∷ kinds) more = numbers_in-append kinds more

pub texts_in-append : (kinds more : List Kind) → texts_in (kinds ++ more) ≡ texts_in kinds + texts_in more
texts_in-append [] more = omega arith
texts_in-append (Nothing ∷ kinds) more = texts_in-append kinds more
texts_in-append (OfNumber ∷ kinds) more = texts_in-append kinds more
texts_in-append (OfText ∷ kinds) more = omega (arith, texts_in-append kinds more)

-- no more have a number or a text than there are
pub few-kinds : (kinds : List Kind) → numbers_in kinds + texts_in kinds ≤ length kinds
few-kinds [] = omega arith
few-kinds (Nothing ∷ kinds) = omega (arith, few-kinds kinds)
few-kinds (OfNumber ∷ kinds) = omega (arith, few-kinds kinds)
few-kinds (OfText ∷ kinds) = omega (arith, few-kinds kinds)

pub put_together-append : (keys others : List (List ℕ)) (kinds more : List Kind) (numbers further : List ℤ) (texts added : List (List ℕ))
    → length kinds ≡ length keys → numbers_in kinds ≡ length numbers → texts_in kinds ≡ length texts
    → put_together (keys ++ others) (kinds ++ more) (numbers ++ further) (texts ++ added) ≡ put_together keys kinds numbers texts ++ put_together others more further added
put_together-append [] others [] more [] further [] added one_each counted told = refl
put_together-append [] others [] more [] further (text ∷ texts) added one_each counted told = absurd (omega (arith, told))
put_together-append [] others [] more (number ∷ numbers) further texts added one_each counted told = absurd (omega (arith, counted))
put_together-append [] others (kind ∷ kinds) more numbers further texts added one_each counted told = absurd (omega (arith, one_each))
put_together-append (key ∷ keys) others [] more numbers further texts added one_each counted told = absurd (omega (arith, one_each))
put_together-append (key ∷ keys) others (Nothing ∷ kinds) more numbers further texts added one_each counted told =
    ap (λ changes. record { key = key; value = None } ∷ changes) (put_together-append keys others kinds more numbers further texts added (omega (arith, one_each)) counted told)
put_together-append (key ∷ keys) others (OfNumber ∷ kinds) more [] further texts added one_each counted told = absurd (omega (arith, counted))
put_together-append (key ∷ keys) others (OfNumber ∷ kinds) more (number ∷ numbers) further texts added one_each counted told =
    ap (λ changes. record { key = key; value = Some (Num number) } ∷ changes)
    (put_together-append keys others kinds more numbers further texts added (omega (arith, one_each)) (omega (arith, counted)) told)
put_together-append (key ∷ keys) others (OfText ∷ kinds) more numbers further [] added one_each counted told = absurd (omega (arith, told))
put_together-append (key ∷ keys) others (OfText ∷ kinds) more numbers further (text ∷ texts) added one_each counted told =
    ap (λ changes. record { key = key; value = Some (Text text) } ∷ changes)
    (put_together-append keys others kinds more numbers further texts added (omega (arith, one_each)) counted (omega (arith, told)))

pub length-put_together : (keys : List (List ℕ)) (kinds : List Kind) (numbers : List ℤ) (texts : List (List ℕ))
    → length kinds ≡ length keys → numbers_in kinds ≡ length numbers → texts_in kinds ≡ length texts → length (put_together keys kinds numbers texts) ≡ length keys
length-put_together [] kinds numbers texts one_each counted told = refl
length-put_together (key ∷ keys) [] numbers texts one_each counted told = absurd (omega (arith, one_each))
length-put_together (key ∷ keys) (Nothing ∷ kinds) numbers texts one_each counted told =
    ap suc (length-put_together keys kinds numbers texts (omega (arith, one_each)) counted told)
length-put_together (key ∷ keys) (OfNumber ∷ kinds) [] texts one_each counted told = absurd (omega (arith, counted))
length-put_together (key ∷ keys) (OfNumber ∷ kinds) (number ∷ numbers) texts one_each counted told =
    ap suc (length-put_together keys kinds numbers texts (omega (arith, one_each)) (omega (arith, counted)) told)
length-put_together (key ∷ keys) (OfText ∷ kinds) numbers [] one_each counted told = absurd (omega (arith, told))
length-put_together (key ∷ keys) (OfText ∷ kinds) numbers (text ∷ texts) one_each counted told =
    ap suc (length-put_together keys kinds numbers texts (omega (arith, one_each)) counted (omega (arith, told)))

-- one more key, with what it has
pub put_together-push : (keys more : List (List ℕ)) (kinds sorts : List Kind) (numbers values : List ℤ) (texts words : List (List ℕ)) (key : List ℕ) (kind : Kind)
    (further : List ℤ) (added : List (List ℕ)) → more ≡ keys ++ key ∷ [] → sorts ≡ kinds ++ kind ∷ [] → values ≡ numbers ++ further → words ≡ texts ++ added
    → AreApart keys kinds numbers texts
    → put_together more sorts values words ≡ put_together keys kinds numbers texts ++ put_together (key ∷ []) (kind ∷ []) further added
put_together-push keys more kinds sorts numbers values texts words key kind further added same_keys same_kinds same_numbers same_texts apart =
    ap (λ list. put_together list sorts values words) same_keys
    ∙ ap (λ list. put_together (keys ++ key ∷ []) list values words) same_kinds
    ∙ ap (λ list. put_together (keys ++ key ∷ []) (kinds ++ kind ∷ []) list words) same_numbers
    ∙ ap (put_together (keys ++ key ∷ []) (kinds ++ kind ∷ []) (numbers ++ further)) same_texts
    ∙ put_together-append keys (key ∷ []) kinds (kind ∷ []) numbers further texts added apart.one_each apart.counted apart.told

pub AreApart-push : (keys more : List (List ℕ)) (kinds sorts : List Kind) (numbers values : List ℤ) (texts words : List (List ℕ)) (key : List ℕ) (kind : Kind)
    (further : List ℤ) (added : List (List ℕ)) → more ≡ keys ++ key ∷ [] → sorts ≡ kinds ++ kind ∷ [] → values ≡ numbers ++ further → words ≡ texts ++ added
    → numbers_in (kind ∷ []) ≡ length further → texts_in (kind ∷ []) ≡ length added
    → AreApart keys kinds numbers texts → AreApart more sorts values words
AreApart-push keys more kinds sorts numbers values texts words key kind further added same_keys same_kinds same_numbers same_texts counts tells apart = record {
  one_each = omega (arith, ap {A = List (List ℕ)} length same_keys, length-append keys (key ∷ []), ap {A = List Kind} length same_kinds, length-append kinds (kind ∷ []), apart.one_each);
  counted = omega (arith, ap numbers_in same_kinds, numbers_in-append kinds (kind ∷ []), ap {A = List ℤ} length same_numbers, length-append numbers further, counts, apart.counted);
  told = omega (arith, ap texts_in same_kinds, texts_in-append kinds (kind ∷ []), ap {A = List (List ℕ)} length same_texts, length-append texts added, tells, apart.told);
}

pub AreApart-pop : (keys more : List (List ℕ)) (kinds sorts : List Kind) (numbers values : List ℤ) (texts words : List (List ℕ)) (key : List ℕ) (kind : Kind)
    (further : List ℤ) (added : List (List ℕ)) → more ≡ keys ++ key ∷ [] → sorts ≡ kinds ++ kind ∷ [] → values ≡ numbers ++ further → words ≡ texts ++ added
    → numbers_in (kind ∷ []) ≡ length further → texts_in (kind ∷ []) ≡ length added
    → AreApart more sorts values words → AreApart keys kinds numbers texts
AreApart-pop keys more kinds sorts numbers values texts words key kind further added same_keys same_kinds same_numbers same_texts counts tells apart = record {
  one_each = omega (arith, ap {A = List (List ℕ)} length same_keys, length-append keys (key ∷ []), ap {A = List Kind} length same_kinds, length-append kinds (kind ∷ []), apart.one_each);
  counted = omega (arith, ap numbers_in same_kinds, numbers_in-append kinds (kind ∷ []), ap {A = List ℤ} length same_numbers, length-append numbers further, counts, apart.counted);
  told = omega (arith, ap texts_in same_kinds, texts_in-append kinds (kind ∷ []), ap {A = List (List ℕ)} length same_texts, length-append texts added, tells, apart.told);
}

pub same_list : (changes others : List Change) (room more : ℕ) → changes ≡ others → room ≡ more → list_of changes room ≡ list_of others more
same_list changes others room more same_changes same_room = ap (λ items. list_of items room) same_changes ∙ ap (list_of others) same_room
