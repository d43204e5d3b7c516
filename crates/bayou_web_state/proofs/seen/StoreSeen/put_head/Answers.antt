use Rattle.std.proofs.Common.{◌∷◌, [], codes}
use Rattle.std.proofs.lemmas.Result.{on_ok_weaker}
use Rattle.json.specs.Token.{boolean, key}
use Rattle.bayou_web_state.specs.Parts.{text_token, told_tokens}
use Rattle.bayou_web_state.specs.Seen.{head_tokens}
use Rattle.bayou_web_state.proofs.Chained.{three_pieces}
use Rattle.bayou_web_state.proofs.seen.StoreSeen.put_head.Goals as goal

pub returns-clause-put : goal.returns-clause-put
unfolding head_tokens
returns-clause-put c = on_ok_weaker c.put_told.result (λ last.
    three_pieces c.args.out.now.tokens c.put_text.new.out.tokens c.put_flag.new.out.tokens c.put_told.new.out.tokens
    (key (codes "name") ∷ text_token c.args.self.now.name ∷ []) (key (codes "current") ∷ boolean c.args.self.now.is_current ∷ [])
    (told_tokens c.args.self.now.servers_number c.args.self.now.told)
    c.in_ok-put_text.ensures.put c.in_ok-put_flag.ensures.put last)
    c.put_told.ensures.put
