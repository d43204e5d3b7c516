-- What is spent on what is written: this project's own.
use Rattle.std.specs.Prelude.{◌≡◌, ℕ, ◌+◌, ◌-◌, ◌*◌, ◌^◌, ◌≤◌, List, ◌++◌, Option, min}
use Rattle.std.specs.Io.KnownBytes.{Appends}
use Rattle.bayou_base.specs.declared.limits.TheConstants.{MAX_TURNS}
use Rattle.bayou_streams.specs.declared.output.Output.{Output}
use Rattle.bayou_streams.specs.Lines.{counted, line_feeds}

-- how an output stands: what its writer holds, how often that was called, how many line feeds it took, and how many turns are left
pub record Account : Type 0 where
  pub contents : Option (List ℕ)
  pub spent : ℕ
  pub lines : ℕ
  pub turns_left : ℕ

abbrev pub account : {W : Type 0} → (W → Option (List ℕ)) → Output W → Account
account contents output = record { contents = contents output.channel.writer; spent = output.spent; lines = output.lines; turns_left = output.channel.turns_left }

-- An output took the text, and what it spent is what it has less, but for the turns that each line brings: as a count that stands at
-- its greatest tells it.
pub record TakesBytes (old new : Account) (text : List ℕ) : Type 0 where
  pub bytes : Appends old.contents new.contents text
  pub lines : new.lines ≡ counted old.lines (line_feeds text)
  pub turns : new.spent + new.turns_left ≤ old.spent + old.turns_left + MAX_TURNS * line_feeds text
  pub counts : min (old.spent + old.turns_left) (2 ^ 64 - 1) ≤ new.spent + new.turns_left

-- it took a front of the text: nothing, a part of it, or all of it
abbrev pub TakesFront : Account → Account → List ℕ → Type 0
TakesFront old new text = (front rest : List ℕ) × (text ≡ front ++ rest) × TakesBytes old new front

-- Some text was written, with at most so many turns for each line that ends in it, and as many for so many lines more, of which
-- a part was written, or nothing.
pub record Pays (old new : Account) (cut : ℕ) : Type 0 where
  pub text : List ℕ
  pub written : Appends old.contents new.contents text
  pub lines : new.lines ≡ counted old.lines (line_feeds text)
  pub turns : new.spent ≤ old.spent + MAX_TURNS * (line_feeds text + cut)
