use Rattle.bayou_person.specs.Wishes.{words_of}
use Rattle.bayou_person.proofs.Once.{says_once}
use Rattle.bayou_person.proofs.laws.a_line_says_one_thing.Goals as goal

pub returns : goal.returns
returns c text one other = says_once (words_of text) one other
