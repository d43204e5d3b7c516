-- What has been sent of a dump so far, and how it grows by a part.
use Rattle.std.proofs.Common.{arith, ◌≡◌, ◌<◌, ◌≤◌, ℕ, ◌+◌, List, [], ◌∷◌, ◌++◌, Option, None, Some, Result, Ok, Err, IfErr, IfSome, OnOk, inl, inr, refl, sym, ap, subst, ◌∙◌, append_assoc, length, length-append, take, drop, zero, suc}
use Rattle.std.proofs.KnownBytes.{Appends-nil, Appends-trans}
use Rattle.std.proofs.lemmas.Grind.{flat_map-append}
use Rattle.std.proofs.lemmas.List.{append-nil, map-append, take-append-drop}
use Rattle.std.specs.Int.{w16, to_be_bytes}
use Rattle.std.specs.Io.KnownBytes.{Appends}
use Rattle.bayou_base.specs.declared.limits.TheConstants.{ITEMS_AT_ONCE}
use Rattle.bayou_frames.specs.declared.fault.ChannelFault.{ChannelFault}
use Rattle.bayou_frames.specs.declared.fault.ChannelFault.TheVariants as faults
use Rattle.bayou_frames.specs.Laws.Bytes.{front_behind, front_of_more}
use Rattle.bayou_frames.specs.Spelled.{answer_bytes, item_bytes, items_of}
use Rattle.bayou_frames.specs.Stopping.{IsSendFault}
use Rattle.bayou_lang.specs.declared.write.Write.{Write}
use Rattle.bayou_net.specs.Inner.Dumping.{HasDumped, IsPart, SendsHeld}
use Rattle.bayou_net.specs.Inner.Steps.{DoesOne}
use Rattle.bayou_net.specs.Serving.{Serves, Steps}
use Rattle.bayou_streams.specs.Written.{AppendsFront}
use Rattle.bayou_wire.specs.declared.frame.Frame.{Frame}
use Rattle.bayou_wire.specs.declared.frame.Frame.TheVariants.{Dump, End, Item, Refused}
use Rattle.bayou_base.specs.declared.refusal.Refusal.TheVariants.{OutOfMemory}
use Rattle.bayou_wire.specs.Spelling.{kind_of, payload_bytes}
use Rattle.bayou_wire.specs.Stream.{spelling, spellings}

-- ---- their bytes

spelling_some : (frame : Frame) → 0 < length (spelling frame)
unfolding spelling
spelling_some frame = omega (arith, length-append (to_be_bytes w16 (length (payload_bytes frame) + 1)) (kind_of frame ∷ payload_bytes frame))

item_bytes-append : (writes more : List Write) → item_bytes (writes ++ more) ≡ item_bytes writes ++ item_bytes more
item_bytes-append writes more = ap spellings (map-append Item writes more) ∙ flat_map-append spelling (items_of writes) (items_of more)

item_bytes-some : (writes : List Write) → 0 < length writes → 0 < length (item_bytes writes)
item_bytes-some [] none = absurd (omega arith)
item_bytes-some (write ∷ writes) some = omega (arith, spelling_some (Item write), length-append (spelling (Item write)) (item_bytes writes))

-- a part of some Writes has bytes
pub part_some : (list : Option (List Write)) (place : ℕ) (text : List ℕ) (number : ℕ) → IsPart list place text number → 0 < number → 0 < length text
part_some list place text number (writes, stands, is, counts) some =
    omega (arith, item_bytes-some writes (omega (arith, counts, some)), ap length is)

-- ---- one part after another

drop_front : {X : Type 0} (front rest : List X) → drop (length front) (front ++ rest) ≡ rest
drop_front [] rest = refl
drop_front (x ∷ front) rest = drop_front front rest

-- the part stands behind those before it
next_part : (list : Option (List Write)) (sent part : List Write) (number : ℕ) → number ≡ length sent
    → IfSome list (λ held. (rest : List Write) × (held ≡ sent ++ rest)) → IfSome list (λ held. part ≡ take ITEMS_AT_ONCE (drop number held))
    → IfSome list (λ held. (rest : List Write) × (held ≡ (sent ++ part) ++ rest))
next_part None sent part number counts before is = tt
next_part (Some held) sent part number counts (rest, split) is =
    let left : drop number held ≡ rest = ap (λ n. drop n held) counts ∙ ap (drop (length sent)) split ∙ drop_front sent rest in
    let first : part ≡ take ITEMS_AT_ONCE rest = is ∙ ap (take ITEMS_AT_ONCE) left in (
      drop ITEMS_AT_ONCE rest,
      split ∙ ap (λ more. sent ++ more) (sym (take-append-drop ITEMS_AT_ONCE rest) ∙ ap (λ p. p ++ drop ITEMS_AT_ONCE rest) (sym first))
          ∙ sym (append_assoc sent part (drop ITEMS_AT_ONCE rest)),
    )

-- nothing is left behind a part of none
last_part : (list : Option (List Write)) (sent part : List Write) (number : ℕ) → number ≡ length sent → 0 ≡ length part
    → IfSome list (λ held. (rest : List Write) × (held ≡ sent ++ rest)) → IfSome list (λ held. part ≡ take ITEMS_AT_ONCE (drop number held))
    → IfSome list (λ held. sent ≡ held)
last_part None sent part number counts none before is = tt
last_part (Some held) sent part number counts none ([], split) is = sym (split ∙ append-nil sent)
last_part (Some held) sent part number counts none (write ∷ rest, split) is =
    let left : drop number held ≡ write ∷ rest = ap (λ n. drop n held) counts ∙ ap (drop (length sent)) split ∙ drop_front sent (write ∷ rest) in
    absurd (omega (arith, none, ap length (is ∙ ap (take ITEMS_AT_ONCE) left)))

-- one part more was sent
pub dumped_more : (list : Option (List Write)) (before mid after : Option (List ℕ)) (number : ℕ) (text : List ℕ) (more : ℕ)
    → HasDumped list before mid number → IsPart list number text more → Appends mid after text → HasDumped list before after (number + more)
dumped_more list before mid after number text more (sent, first, wrote, counts) (part, stands, is, some) then = (
  sent ++ part,
  next_part list sent part number counts first stands,
  subst (Appends before after) (sym (item_bytes-append sent part)) (Appends-trans before mid after (item_bytes sent) (item_bytes part) wrote (subst (Appends mid after) is then)),
  omega (arith, counts, some, length-append sent part),
)

-- the first one
pub dumped_first : (list : Option (List Write)) (before after : Option (List ℕ)) (text : List ℕ) (number : ℕ)
    → IsPart list 0 text number → Appends before after text → HasDumped list before after number
dumped_first list before after text number (part, stands, is, counts) wrote = (
  part,
  front list stands,
  subst (Appends before after) is wrote,
  counts,
)
  where
    front : (list : Option (List Write)) → IfSome list (λ held. part ≡ take ITEMS_AT_ONCE held) → IfSome list (λ held. (rest : List Write) × (held ≡ part ++ rest))
    front None stands = tt
    front (Some held) stands = (drop ITEMS_AT_ONCE held, sym (take-append-drop ITEMS_AT_ONCE held) ∙ ap (λ p. p ++ drop ITEMS_AT_ONCE held) (sym stands))

-- all was sent
pub dumped_whole : (list : Option (List Write)) (before after : Option (List ℕ)) (number : ℕ) (text : List ℕ) (more : ℕ)
    → HasDumped list before after number → IsPart list number text more → more ≡ 0 → SendsHeld list before after (Ok number)
dumped_whole list before after number text more (sent, first, wrote, counts) (part, stands, is, some) none =
    (sent, last_part list sent part number counts (omega (arith, some, none)) first stands, wrote, counts)

-- a fault ended it behind so many
pub dumped_part : (list : Option (List Write)) (before mid after : Option (List ℕ)) (number : ℕ) (text : List ℕ) (more : ℕ) (fault : ChannelFault)
    → HasDumped list before mid number → IsPart list number text more → AppendsFront mid after text → SendsHeld list before after (Err fault)
dumped_part None before mid after number text more fault (sent, first, wrote, counts) (part, stands, is, some) then =
    let behind = front_behind before mid after (item_bytes sent) (item_bytes part) wrote (subst (AppendsFront mid after) is then) in
    (sent ++ part, tt, subst (AppendsFront before after) (sym (item_bytes-append sent part)) behind)
dumped_part (Some held) before mid after number text more fault (sent, first, wrote, counts) (part, stands, is, some) then =
    let (rest, split) = next_part (Some held) sent part number counts first stands in
    let behind = front_behind before mid after (item_bytes sent) (item_bytes part) wrote (subst (AppendsFront mid after) is then) in
    let whole : item_bytes held ≡ (item_bytes sent ++ item_bytes part) ++ item_bytes rest =
    ap item_bytes split ∙ item_bytes-append (sent ++ part) rest ∙ ap (λ front. front ++ item_bytes rest) (item_bytes-append sent part) in
    (held, refl, subst (AppendsFront before after) (sym whole) (front_of_more before after (item_bytes sent ++ item_bytes part) (item_bytes rest) behind))

-- nothing more was sent behind so many
pub dumped_stop : (list : Option (List Write)) (before after : Option (List ℕ)) (number : ℕ) (fault : ChannelFault)
    → HasDumped list before after number → SendsHeld list before after (Err fault)
dumped_stop None before after number fault (sent, first, wrote, counts) = (sent, tt, (item_bytes sent, [], sym (append-nil (item_bytes sent)), wrote))
dumped_stop (Some held) before after number fault (sent, (rest, split), wrote, counts) =
    (held, refl, (item_bytes sent, item_bytes rest, ap item_bytes split ∙ item_bytes-append sent rest, wrote))

-- nothing was sent yet
pub dumped_none : (list : Option (List Write)) (before : Option (List ℕ)) → HasDumped list before before 0
dumped_none None before = ([], tt, Appends-nil before, refl)
dumped_none (Some held) before = ([], (held, refl), Appends-nil before, refl)

-- ---- the whole answer

module _ {S : Type 0} (steps : Steps S) where
  -- how it ends that has this reply
  dump_ends : (old new : S) (before after : Option (List ℕ)) (T : Type 0) (result : Result T ChannelFault) (reply : List ℕ) → Serves steps old Dump reply new
      → OnOk result (Appends before after reply) → AppendsFront before after reply → IfErr result IsSendFault → DoesOne {T = T} steps old Dump before after result new
  dump_ends old new before after T (Ok done) reply serves whole part fault = (reply, serves, whole)
  dump_ends old new before after T (Err faults.Write) reply serves whole part fault = (reply, serves, part)
  dump_ends old new before after T (Err faults.TooManyTurns) reply serves whole part fault = (reply, serves, part)
  dump_ends old new before after T (Err faults.OutOfMemory) reply serves whole part fault = (reply, serves, part)
  dump_ends old new before after T (Err faults.Read) reply serves whole part fault = absurd fault
  dump_ends old new before after T (Err faults.Cut) reply serves whole part fault = absurd fault
  dump_ends old new before after T (Err faults.BadFrame) reply serves whole part fault = absurd fault

  -- there was no memory for the first part, which was told, or a front of that
  pub dump_wanting : (old new : S) (before after : Option (List ℕ)) (T : Type 0) (result : Result T ChannelFault) (text : List ℕ) → new ≡ old
      → text ≡ spelling (Refused OutOfMemory) → OnOk result (Appends before after text) → AppendsFront before after text → IfErr result IsSendFault
      → DoesOne {T = T} steps old Dump before after result new
  dump_wanting old new before after T result text same is whole part fault =
      dump_ends old new before after T result text (inr (is, same)) whole part fault

  -- a fault ended it within the Items
  pub dump_broken : (old new : S) (before after : Option (List ℕ)) (T : Type 0) (fault : ChannelFault) → IsSendFault fault → new ≡ old
      → SendsHeld (steps.list old) before after (Err fault) → DoesOne {T = T} steps old Dump before after (Err fault) new
  dump_broken old new before after T fault is same (writes, held, part) =
      dump_ends old new before after T (Err fault) (answer_bytes writes) (inl (writes, held, refl, same)) tt
      (front_of_more before after (item_bytes writes) (spelling (End (length writes))) part) is

  whole_answer : (before mid after : Option (List ℕ)) (T : Type 0) (result : Result T ChannelFault) (items text reply : List ℕ) → Appends before mid items → items ++ text ≡ reply
      → OnOk result (Appends mid after text) → OnOk result (Appends before after reply)
  whole_answer before mid after T (Ok done) items text reply wrote is then = subst (Appends before after) is (Appends-trans before mid after items text wrote then)
  whole_answer before mid after T (Err fault) items text reply wrote is then = tt

  -- all Items were sent, and the End, or a front of it
  pub dump_ended : (old new : S) (before mid after : Option (List ℕ)) (T : Type 0) (result : Result T ChannelFault) (number : ℕ) (text : List ℕ) → new ≡ old
      → SendsHeld (steps.list old) before mid (Ok number) → text ≡ spelling (End number)
      → OnOk result (Appends mid after text) → AppendsFront mid after text → IfErr result IsSendFault → DoesOne {T = T} steps old Dump before after result new
  dump_ended old new before mid after T result number text same (writes, held, wrote, counts) is whole part fault =
      let end : text ≡ spelling (End (length writes)) = is ∙ ap (λ n. spelling (End n)) counts in
      let reply : item_bytes writes ++ text ≡ answer_bytes writes = ap (λ bytes. item_bytes writes ++ bytes) end in
      dump_ends old new before after T result (answer_bytes writes) (inl (writes, held, refl, same))
      (whole_answer before mid after T result (item_bytes writes) text (answer_bytes writes) wrote reply whole)
      (subst (AppendsFront before after) reply (front_behind before mid after (item_bytes writes) text wrote part)) fault
