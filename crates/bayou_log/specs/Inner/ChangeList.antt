-- Changes of which keys, numbers and texts lie apart.
use Rattle.std.specs.Prelude.{◌≡◌, ℕ, ◌+◌, ℤ, List, [], ◌∷◌, None, Some, length}
use Rattle.bayou_base.specs.declared.value.Value.TheVariants.{Num, Text}
use Rattle.bayou_lang.specs.declared.change.Change.{Change}
use Rattle.bayou_log.specs.declared.change_list.Kind.{Kind}
use Rattle.bayou_log.specs.declared.change_list.Kind.TheVariants.{Nothing, OfNumber, OfText}

-- the changes, and for how many there is room
pub record Listed : Type 0 where
  pub items : List Change
  pub room : ℕ

-- how many have a number
abbrev pub numbers_in : List Kind → ℕ
numbers_in [] = 0
numbers_in (Nothing ∷ kinds) = numbers_in kinds
numbers_in (OfNumber ∷ kinds) = 1 + numbers_in kinds
numbers_in (OfText ∷ kinds) = numbers_in kinds

-- how many have a text
abbrev pub texts_in : List Kind → ℕ
texts_in [] = 0
texts_in (Nothing ∷ kinds) = texts_in kinds
texts_in (OfNumber ∷ kinds) = texts_in kinds
texts_in (OfText ∷ kinds) = 1 + texts_in kinds

-- each key has a kind, each number a key, and each text
pub record AreApart (keys : List (List ℕ)) (kinds : List Kind) (numbers : List ℤ) (texts : List (List ℕ)) : Type 0 where
  pub one_each : length kinds ≡ length keys
  pub counted : numbers_in kinds ≡ length numbers
  pub told : texts_in kinds ≡ length texts

-- the changes, of which each has the next key, and the next number or text where it has one
abbrev pub put_together : List (List ℕ) → List Kind → List ℤ → List (List ℕ) → List Change
put_together [] kinds numbers texts = []
put_together (key ∷ keys) [] numbers texts = []
put_together (key ∷ keys) (Nothing ∷ kinds) numbers texts = record { key = key; value = None } ∷ put_together keys kinds numbers texts
put_together (key ∷ keys) (OfNumber ∷ kinds) [] texts = []
put_together (key ∷ keys) (OfNumber ∷ kinds) (number ∷ numbers) texts = record { key = key; value = Some (Num number) } ∷ put_together keys kinds numbers texts
put_together (key ∷ keys) (OfText ∷ kinds) numbers [] = []
put_together (key ∷ keys) (OfText ∷ kinds) numbers (text ∷ texts) = record { key = key; value = Some (Text text) } ∷ put_together keys kinds numbers texts
