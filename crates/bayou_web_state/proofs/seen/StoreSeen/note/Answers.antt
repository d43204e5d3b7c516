use Rattle.std.proofs.Common.{◌∙◌, ◌++◌, ◌∷◌, [], ap, refl}
use Rattle.bayou_web_state.specs.declared.seen.NewsItem.{NewsItem}
use Rattle.bayou_web_state.proofs.seen.StoreSeen.note.Goals as goal

pub returns-clause-noted : goal.returns-clause-noted
returns-clause-noted c =
    let last : NewsItem = record { number = c.saturating_add-self.result; text = c.in_ok-text.text; line = c.in_ok-line.line }
    in record {
      notice = last;
      last = c.in_ok-push.ensures.items ∙ ap (λ notices. notices ++ last ∷ []) c.make_room.ensures.room;
      number = refl;
      text = c.in_ok-text.ensures.ok;
    }
