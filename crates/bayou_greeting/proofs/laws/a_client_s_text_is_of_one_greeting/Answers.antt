use Rattle.bayou_greeting.specs.Laws.Texts.{one_client_text}
use Rattle.bayou_greeting.proofs.laws.a_client_s_text_is_of_one_greeting.Goals as goal

pub returns : goal.returns
returns c nonces others are other_are same = one_client_text nonces others are other_are same
