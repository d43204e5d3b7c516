-- The entries of a journal, one after another.
use Rattle.std.proofs.Common.{◌≡◌, ◌⊎◌, inl, inr, ℕ, ◌+◌, ◌<◌, List, [], ◌∷◌, ◌++◌, Option, Some, All, length, take, drop, sym, ap, subst, arith, length-append}
use Rattle.std.specs.List.{slice_get}
use Rattle.std.specs.Prelude.{IsSome}
use Rattle.std.proofs.lemmas.List.Elements.{All-nil, All-push}
use Rattle.bayou_base.specs.declared.tag.Tag.{Tag}
use Rattle.bayou_journal.specs.Versions.{Body}
use Rattle.bayou_lang.specs.declared.write.Write.{Write}
use Rattle.bayou_lang.specs.Laws.Fitting.{IsSound-empty, IsSound-push}
use Rattle.bayou_log.specs.Log.{Log}
use Rattle.bayou_lang.specs.Ranges.{IsWrite}
use Rattle.bayou_tags.specs.Tags.{TagList}
use Rattle.bayou_wire.specs.Laws.Records.{record_is}
use Rattle.bayou_wire.specs.Records.{SpellsRecord}
use Rattle.bayou_wire.specs.declared.record.Form.{Form}
use Rattle.bayou_wire.specs.declared.record.Form.TheVariants.{Plain, Tagged, Wide}
use Rattle.bayou_wire.specs.declared.record.Record.{Record}
use Rattle.bayou_server.specs.declared.fault.StartFault.{StartFault}
use Rattle.bayou_server.specs.declared.fault.StartFault.TheVariants.{OutOfMemory}
use Rattle.bayou_server.specs.Server.{AreTags, MayFollow, MayHold, records}
use Rattle.bayou_server.specs.Stored.{IsBodyOf, IsTagged, Stores, form_of}
use Rattle.bayou_server.specs.declared.holding.Holding.{Holding}
use Rattle.bayou_server.specs.Inner.Replaying.{IsAdded}
use Rattle.bayou_server.specs.Starts.{RefusesBody, RefusesEntry}
use Rattle.bayou_server.proofs.Bodies.{both_more, split_at, take_next}
use Rattle.bayou_server.proofs.Beside.{AreTags-push, no_tag, one_each, records-push}

-- what may follow may be held
pub MayHold-push : (server count limit : ℕ) (held : List Write) (write : Write) → MayHold server count limit held → MayFollow server count held write
    → length held < limit → MayHold server count limit (held ++ write ∷ [])
MayHold-push server count limit held write holds follows room = record {
  sound = IsSound-push server count held write holds.sound follows.fits follows.own;
  within = omega (arith, length-append held (write ∷ []));
}

-- the Write of what a body stands for has a spelling, and is the server's own where it has a tag
pub write_is : {id : ℕ} (body : Body) (stored : Record) → IsBodyOf id body stored → IsWrite stored.write
write_is body stored is = record_is (form_of body.version) body.bytes stored is.spelled

pub tag_is_own : (id : ℕ) (body : Body) (stored : Record) → IsBodyOf id body stored → IsSome stored.tag → stored.write.wid.origin.index ≡ id
tag_is_own id body stored is = by (form_of body.version) is.spelled is.tagged
  where
    by : (form : Form) → SpellsRecord form body.bytes stored → IsTagged id form stored → IsSome stored.tag → stored.write.wid.origin.index ≡ id
    by Plain spelled tagged some = absurd (no_tag (subst (λ (o : Option Tag). IsSome o) spelled.0 some))
    by Tagged spelled tagged some = tagged.0 some
    by Wide spelled tagged some = tagged.0 some

-- one more body of one more Write and its tag
pub bodies-push : (id : ℕ) (bodies : List Body) (held : List Write) (tags : List (Option Tag)) (stored : Record) (body : Body) (at : ℕ) → length tags ≡ length held
    → Stores id (take at bodies) (records held tags) → slice_get bodies at ≡ Some body → IsBodyOf id body stored
    → Stores id (take (at + 1) bodies) (records (held ++ stored.write ∷ []) (tags ++ stored.tag ∷ []))
bodies-push id bodies held tags stored body at same whole is stands =
    subst (λ (b : List Body). Stores id b (records (held ++ stored.write ∷ []) (tags ++ stored.tag ∷ []))) (sym (take_next bodies at body is))
    (subst (λ (l : List Record). Stores id (take at bodies ++ body ∷ []) l) (sym (records-push held tags stored.write stored.tag same))
    (both_more (IsBodyOf id) (take at bodies) (records held tags) body stored whole stands))

-- what is held so far, of the bodies before this place
pub record SoFar (id count limit at : ℕ) (bodies : List Body) (log : Log) (tags : List (Option Tag)) : Type 0 where
  pub whole : Stores id (take at bodies) (records log.receipts tags)
  pub spelled : All IsWrite log.receipts
  pub holds : MayHold id count limit log.receipts
  pub tagged : AreTags id log.receipts tags
  pub same_count : log.count ≡ count
  pub same_limit : log.limit ≡ limit

-- before the first
pub nothing_so_far : (id count limit : ℕ) (bodies : List Body) (log : Log) (tags : List (Option Tag)) → log.receipts ≡ [] → tags ≡ [] → log.count ≡ count → log.limit ≡ limit
    → SoFar id count limit 0 bodies log tags
nothing_so_far id count limit bodies log tags empty no_tags same_count same_limit = record {
  whole = subst (λ (h : List Write). Stores id [] (records h tags)) (sym empty) (subst (λ (t : List (Option Tag)). Stores id [] (records [] t)) (sym no_tags) tt);
  spelled = subst (λ (h : List Write). All IsWrite h) (sym empty) (All-nil IsWrite);
  holds = subst (λ (h : List Write). MayHold id count limit h) (sym empty) (record { sound = IsSound-empty id count; within = omega arith });
  tagged = subst (λ (h : List Write). AreTags id h tags) (sym empty) (subst (λ (t : List (Option Tag)). AreTags id [] t) (sym no_tags) (record { own = tt; distinct = λ i j d before within. absurd (omega (arith, within)) }));
  same_count = same_count;
  same_limit = same_limit;
}

-- and once the next was added
pub added_so_far : (id count limit at : ℕ) (bodies : List Body) (old new : Holding) (body : Body) → SoFar id count limit at bodies old.log old.tags.tags → slice_get bodies at ≡ Some body
    → IsAdded id old body new → SoFar id count limit (at + 1) bodies new.log new.tags.tags
added_so_far id count limit at bodies old new body so_far is added =
    let stored = added.stored in
    let admitted = added.admitted in
    let follows : MayFollow id count old.log.receipts stored.write = subst (λ (n : ℕ). MayFollow id n old.log.receipts stored.write) so_far.same_count admitted.follows in
    let more : SoFar id count limit (at + 1) bodies (record old.log { receipts = old.log.receipts ++ stored.write ∷ []; room = new.log.room; waiting = new.log.waiting }) (old.tags.tags ++ stored.tag ∷ []) = record {
      whole = bodies-push id bodies old.log.receipts old.tags.tags stored body at (one_each id old.log.receipts old.tags.tags so_far.tagged) so_far.whole is admitted.new.is;
      spelled = All-push IsWrite old.log.receipts stored.write so_far.spelled (write_is body stored admitted.new.is);
      holds = MayHold-push id count limit old.log.receipts stored.write so_far.holds follows (omega (arith, admitted.room, so_far.same_limit));
      tagged = AreTags-push id old.log.receipts old.tags.tags stored.write stored.tag so_far.tagged (tag_is_own id body stored admitted.new.is) admitted.new.new;
      same_count = so_far.same_count;
      same_limit = so_far.same_limit;
    } in
    subst (λ (l : Log). SoFar id count limit (at + 1) bodies l new.tags.tags) (sym added.log)
    (subst (λ (t : List (Option Tag)). SoFar id count limit (at + 1) bodies (record old.log { receipts = old.log.receipts ++ stored.write ∷ []; room = new.log.room; waiting = new.log.waiting }) t)
    (sym (ap (λ (t : TagList). t.tags) added.tags)) more)

-- the entry that the replay stops at, or memory was refused
pub refuses_at_or : (id count limit at : ℕ) (bodies : List Body) (body : Body) (log : Log) (tags : List (Option Tag)) (fault : StartFault) → SoFar id count limit at bodies log tags
    → slice_get bodies at ≡ Some body → (fault ≡ OutOfMemory) ⊎ RefusesBody id log.count log.limit log.receipts tags body fault
    → (fault ≡ OutOfMemory) ⊎ RefusesEntry id count limit bodies fault
refuses_at_or id count limit at bodies body log tags fault so_far is (inl none) = inl none
refuses_at_or id count limit at bodies body log tags fault so_far is (inr why) = inr (record {
  held = log.receipts;
  tags = tags;
  front = take at bodies;
  body = body;
  rest = drop (at + 1) bodies;
  stores = so_far.whole;
  split = split_at bodies at body is;
  spelled = so_far.spelled;
  holds = so_far.holds;
  tagged = so_far.tagged;
  why = subst (λ m. RefusesBody id count m log.receipts tags body fault) so_far.same_limit
      (subst (λ n. RefusesBody id n log.limit log.receipts tags body fault) so_far.same_count why);
})
