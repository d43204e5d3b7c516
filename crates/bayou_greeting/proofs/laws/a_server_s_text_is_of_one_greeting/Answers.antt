use Rattle.bayou_greeting.specs.Laws.Texts.{one_server_text}
use Rattle.bayou_greeting.proofs.laws.a_server_s_text_is_of_one_greeting.Goals as goal

pub returns : goal.returns
returns c nonces others id other_id servers other_servers are other_are same = one_server_text nonces others id other_id servers other_servers are other_are same
