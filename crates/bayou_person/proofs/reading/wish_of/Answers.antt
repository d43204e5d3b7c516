use Rattle.std.proofs.Common.{◌∷◌, ◌∙◌, ◌-◌, ap, drop, length, subst, sym, take}
use Rattle.std.specs.Prelude.{MatchResult}
use Rattle.bayou_person.specs.Wishes.{Faults, Says}
use Rattle.bayou_person.proofs.Telling.{bytes_of, first_word, unknown}
use Rattle.bayou_person.proofs.reading.wish_of.Goals as goal

pub returns-in-at : goal.returns-in-at
returns-in-at c =
    let words = c.args.words.now in
    let same = first_word words _ c.in-len1-up.len_at_least ∙ ap (λ word. word ∷ bytes_of (take (length words - 1) (drop 1 words))) c.in-at.is in
    subst (λ words. MatchResult c.at_in.result (Says words) (Faults words)) (sym same) c.at_in.ensures

pub returns-in-became : goal.returns-in-became
returns-in-became c =
    let words = c.args.words.now in
    let same = first_word words _ c.in-len1-up.len_at_least ∙ ap (λ word. word ∷ bytes_of (take (length words - 1) (drop 1 words))) c.in-became.is in
    subst (λ words. MatchResult c.became_in.result (Says words) (Faults words)) (sym same) c.became_in.ensures

pub returns-in_default-first : goal.returns-in_default-first
returns-in_default-first c =
    let words = c.args.words.now in
    let never = c.in_default-first in
    unknown (bytes_of words) _ (bytes_of (take (length words - 1) (drop 1 words))) (first_word words _ c.in-len1-up.len_at_least)
    never.not-put never.not-add never.not-del never.not-claim never.not-get never.not-at never.not-list never.not-became never.not-servers
    never.not-session never.not-dump
