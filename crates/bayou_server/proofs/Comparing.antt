-- What a journal tells against the Writes held and the one in doubt.
use Rattle.std.proofs.Common.{◌≡◌, ℕ, ◌+◌, ◌<◌, List, [], ◌∷◌, ◌++◌, Some, length, sym, ◌∙◌, ap, subst, arith, length-append}
use Rattle.std.specs.List.{slice_get}
use Rattle.std.proofs.lemmas.List.{append-nil}
use Rattle.std.proofs.lemmas.Option.{slice_get_within}
use Rattle.bayou_journal.specs.Versions.{Body}
use Rattle.bayou_lang.specs.declared.write.Write.{Write}
use Rattle.bayou_wire.specs.declared.record.Record.{Record}
use Rattle.bayou_server.specs.Server.{Core, records_of}
use Rattle.bayou_server.specs.Stored.{BeginsWithHeld, HasOther, IsBodyOf, Stores, records_with_doubt}
use Rattle.bayou_server.proofs.Bodies.{as_many, at_end, at_place, both_more, in_front, no_more, one_more}
use Rattle.bayou_server.proofs.Beside.{many_records, records-push}

-- how many bodies there are
pub how_many : (id : ℕ) (held : List Record) (bodies : List Body) (begins : BeginsWithHeld id held bodies) → length bodies ≡ length held + length begins.more
how_many id held bodies begins = ap length begins.split ∙ length-append begins.front begins.more ∙ ap (λ n. n + length begins.more) (as_many (IsBodyOf id) begins.front held begins.stores)

-- what stands at the place of one of the Writes held
pub stands_at : (id : ℕ) (held : List Record) (bodies : List Body) (k : ℕ) (body : Body) (stored : Record) → BeginsWithHeld id held bodies → slice_get bodies k ≡ Some body → slice_get held k ≡ Some stored → IsBodyOf id body stored
stands_at id held bodies k body stored begins is there =
    let within : k < length begins.front = omega (arith, slice_get_within held k stored there, as_many (IsBodyOf id) begins.front held begins.stores) in
    at_place (IsBodyOf id) begins.front held k body stored begins.stores (sym (in_front begins.front begins.more k within) ∙ ap (λ (l : List Body). slice_get l k) (sym begins.split) ∙ is) there

-- they are alone
pub held_alone : (id : ℕ) (held : List Record) (bodies : List Body) → BeginsWithHeld id held bodies → length bodies ≡ length held → Stores id bodies held
held_alone id held bodies begins same =
    let none : begins.more ≡ [] = no_more bodies begins.front begins.more begins.split (same ∙ sym (as_many (IsBodyOf id) begins.front held begins.stores)) in
    subst (λ (b : List Body). Stores id b held) (sym (begins.split ∙ ap (λ (l : List Body). begins.front ++ l) none ∙ append-nil begins.front)) begins.stores

-- or the one in doubt stands behind them
pub held_and_doubt : (core : Core) (doubt : Write) (bodies : List Body) (body : Body) → length core.tags ≡ length core.held → BeginsWithHeld core.id (records_of core) bodies
    → length bodies ≡ length core.held + 1 → slice_get bodies (length core.held) ≡ Some body → IsBodyOf core.id body (record { write = doubt; tag = core.doubt_tag })
    → Stores core.id bodies (records_with_doubt core doubt)
held_and_doubt core doubt bodies body same begins longer is stands =
    let last : Record = record { write = doubt; tag = core.doubt_tag } in
    let size : length begins.front ≡ length core.held = as_many (IsBodyOf core.id) begins.front (records_of core) begins.stores ∙ many_records core.held core.tags same in
    let one : begins.more ≡ body ∷ [] =
    one_more bodies begins.front begins.more body begins.split (omega (arith, longer, size)) (ap (slice_get bodies) size ∙ is) in
    subst (Stores core.id bodies) (sym (records-push core.held core.tags doubt core.doubt_tag same))
    (subst (λ (b : List Body). Stores core.id b (records_of core ++ last ∷ [])) (sym (begins.split ∙ ap (λ (l : List Body). begins.front ++ l) one))
    (both_more (IsBodyOf core.id) begins.front (records_of core) body last begins.stores stands))

-- how many stand for what is held and the one in doubt
many_with_doubt : (core : Core) (doubt : Write) (bodies : List Body) → length core.tags ≡ length core.held → Stores core.id bodies (records_with_doubt core doubt) → length bodies ≡ length core.held + 1
many_with_doubt core doubt bodies same stores =
    let more = records-push core.held core.tags doubt core.doubt_tag same in
    omega (
      arith,
      as_many (IsBodyOf core.id) bodies (records_with_doubt core doubt) stores,
      ap (λ (l : List Record). length l) more,
      many_records core.held core.tags same,
      length-append (records_of core) (record { write = doubt; tag = core.doubt_tag } ∷ []),
    )

many_held : (core : Core) (bodies : List Body) → length core.tags ≡ length core.held → Stores core.id bodies (records_of core) → length bodies ≡ length core.held
many_held core bodies same stores = as_many (IsBodyOf core.id) bodies (records_of core) stores ∙ many_records core.held core.tags same

-- or more than one does
pub more_than_doubt : (core : Core) (doubt : Write) (bodies : List Body) → length core.tags ≡ length core.held → BeginsWithHeld core.id (records_of core) bodies → length core.held + 1 < length bodies
    → HasOther core doubt bodies
more_than_doubt core doubt bodies same begins longer = record {
  begins = begins;
  not_held = λ stores. omega (arith, longer, many_held core bodies same stores);
  not_adopted = λ stores. omega (arith, longer, many_with_doubt core doubt bodies same stores);
}

-- or another one
pub other_than_doubt : (core : Core) (doubt : Write) (bodies : List Body) (body : Body) → length core.tags ≡ length core.held → BeginsWithHeld core.id (records_of core) bodies
    → length bodies ≡ length core.held + 1 → slice_get bodies (length core.held) ≡ Some body → ¬ IsBodyOf core.id body (record { write = doubt; tag = core.doubt_tag }) → HasOther core doubt bodies
other_than_doubt core doubt bodies body same begins longer is other = record {
  begins = begins;
  not_held = λ stores. omega (arith, longer, many_held core bodies same stores);
  not_adopted = λ stores.
      let last : Record = record { write = doubt; tag = core.doubt_tag } in
      let more : Stores core.id bodies (records_of core ++ last ∷ []) = subst (Stores core.id bodies) (records-push core.held core.tags doubt core.doubt_tag same) stores in
      other (at_place (IsBodyOf core.id) bodies (records_of core ++ last ∷ []) (length core.held) body last more is
      (subst (λ n. slice_get (records_of core ++ last ∷ []) n ≡ Some last) (many_records core.held core.tags same) (at_end (records_of core) last)));
}
