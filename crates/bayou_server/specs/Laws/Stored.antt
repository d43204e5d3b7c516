-- Laws of what a journal stores: what it tells of some records begins with what stands for those before the last; and so with what stands
-- for what is held, where it tells of that and of the Write in doubt.
use Rattle.std.specs.Prelude.{◌≡◌, ℕ, List, [], ◌∷◌, ◌++◌, Option, refl}
use Rattle.std.proofs.Common.{ap, subst}
use Rattle.bayou_base.specs.declared.tag.Tag.{Tag}
use Rattle.bayou_journal.specs.Versions.{Body}
use Rattle.bayou_lang.specs.declared.write.Write.{Write}
use Rattle.bayou_wire.specs.declared.record.Record.{Record}
use Rattle.bayou_server.specs.Server.{Core, records, records_of}
use Rattle.bayou_server.specs.Stored.{BeginsWithHeld, Stores, records_with_doubt}

pub begins_before : (id : ℕ) (bodies : List Body) (held : List Record) (last : Record) → Stores id bodies (held ++ last ∷ []) → BeginsWithHeld id held bodies
begins_before id [] [] last stores = absurd stores
begins_before id [] (other ∷ held) last stores = absurd stores
begins_before id (body ∷ bodies) [] last stores = record { front = []; more = body ∷ bodies; stores = tt; split = refl }
begins_before id (body ∷ bodies) (other ∷ held) last stores =
    let begins = begins_before id bodies held last stores.1 in
    record { front = body ∷ begins.front; more = begins.more; stores = (stores.0, begins.stores); split = ap (λ (l : List Body). body ∷ l) begins.split }

-- a Write and a tag more are a record more
pub one_record_more : (held : List Write) (tags : List (Option Tag)) (write : Write) (tag : Option Tag)
    → (last : Record) × (records (held ++ write ∷ []) (tags ++ tag ∷ []) ≡ records held tags ++ last ∷ [])
one_record_more [] [] write tag = (record { write = write; tag = tag }, refl)
one_record_more [] (t ∷ tags) write tag = (record { write = write; tag = t }, refl)
one_record_more (w ∷ held) [] write tag = (record { write = w; tag = tag }, no_tags (held ++ write ∷ []))
  where
    no_tags : (writes : List Write) → record { write = w; tag = tag } ∷ records writes [] ≡ record { write = w; tag = tag } ∷ []
    no_tags [] = refl
    no_tags (other ∷ writes) = refl
one_record_more (w ∷ held) (t ∷ tags) write tag =
    let next = one_record_more held tags write tag in
    (next.0, ap (λ (l : List Record). record { write = w; tag = t } ∷ l) next.1)

pub begins_with_held : (core : Core) (doubt : Write) (bodies : List Body) → Stores core.id bodies (records_with_doubt core doubt) → BeginsWithHeld core.id (records_of core) bodies
begins_with_held core doubt bodies stores =
    let more = one_record_more core.held core.tags doubt core.doubt_tag in
    begins_before core.id bodies (records_of core) more.0 (subst (Stores core.id bodies) more.1 stores)
