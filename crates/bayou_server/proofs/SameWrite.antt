-- What `==` tells of a held Write of the given one's name, and of tags.
use Rattle.std.proofs.Common.{◌≡◌, List, Bool, true, false, Contains, Option, None, Some, ap, refl, sym, ◌∙◌, subst}
use Rattle.std.specs.Bool.{Decides}
use Rattle.std.specs.Option.{option_eq}
use Rattle.bayou_base.specs.contracts.tag.TagPartialEq.TheImpl as tag_eq
use Rattle.bayou_base.specs.declared.tag.Tag.{Tag}
use Rattle.bayou_lang.specs.declared.write.Write.{Write}
use Rattle.bayou_lang.specs.Equality.{same_write}
use Rattle.bayou_lang.specs.Laws.Equality.{same_write-decides, tag-decides}
use Rattle.bayou_wire.specs.declared.record.Record.{Record}
use Rattle.bayou_server.specs.Takes.{HasAnother}

-- the two are one, and so the given one is held
pub is_held : (writes : List Write) (held given : Write) (told : Bool) → Contains writes held → told ≡ same_write held given → told ≡ true → Contains writes given
is_held writes held given told among is equal =
    subst (λ (w : Write). Contains writes w) ((same_write-decides held given).0 (sym is ∙ equal)) among

-- the two are not one, and so another one is held
pub is_another : (writes : List Write) (held given : Write) (told : Bool) → Contains writes held → held.wid ≡ given.wid → told ≡ same_write held given → told ≡ false → HasAnother writes given
is_another writes held given told among name is unequal = record {
  other = held;
  among = among;
  name = name;
  differs = λ same. absurd (let yes = (same_write-decides held given).1 same in cc);
}

-- two tags, or none, are one where `==` says so
pub same_tag : (a b : Option Tag) (told : Bool) → told ≡ option_eq (tag_eq.ghosts).eq a b → Decides told (a ≡ b)
same_tag None None told is = (λ yes. refl, λ same. is)
same_tag None (Some b) told is = (λ yes. absurd (cc), λ same. absurd (cc))
same_tag (Some a) None told is = (λ yes. absurd (cc), λ same. absurd (cc))
same_tag (Some a) (Some b) told is = (
  λ yes. ap (λ (t : Tag). Some t) ((tag-decides a b).0 (sym is ∙ yes)),
  λ same. let one : a ≡ b = cc in is ∙ (tag-decides a b).1 one,
)

-- a record is of a Write and a tag
pub is_both : (stored : Record) (write : Write) (tag : Option Tag) → stored.write ≡ write → stored.tag ≡ tag → stored ≡ record { write = write; tag = tag }
is_both stored write tag same_write same_tag =
    ap (λ (w : Write). record { write = w; tag = stored.tag }) same_write ∙ ap (λ (t : Option Tag). record { write = write; tag = t }) same_tag
