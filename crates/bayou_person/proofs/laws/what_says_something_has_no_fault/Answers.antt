use Rattle.bayou_person.specs.Wishes.{words_of}
use Rattle.bayou_person.proofs.Sound.{no_fault}
use Rattle.bayou_person.proofs.laws.what_says_something_has_no_fault.Goals as goal

pub returns : goal.returns
returns c text wish why = no_fault (words_of text) wish why
