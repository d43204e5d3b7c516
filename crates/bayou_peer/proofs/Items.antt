-- The Items that are sent, and how they grow by a few at a time.
use Rattle.std.proofs.Common.{arith, ◌≡◌, ◌<◌, ℕ, ◌+◌, List, [], ◌∷◌, ◌++◌, Option, None, Some, Ok, Err, IfSome, refl, sym, ap, subst, get_or, add-one, ◌∙◌, append_assoc, length, length-append, take, drop}
use Rattle.std.proofs.KnownBytes.{Appends-trans}
use Rattle.std.proofs.lemmas.Grind.{flat_map-append}
use Rattle.std.proofs.lemmas.List.{append-nil, map-append, take-append-drop}
use Rattle.std.proofs.Math.Seq.{take-suc}
use Rattle.std.specs.Int.{w16, to_be_bytes}
use Rattle.std.specs.Io.KnownBytes.{Appends}
use Rattle.std.specs.List.{AllByRecursion}
use Rattle.bayou_base.specs.Vector.{raised}
use Rattle.bayou_lang.specs.declared.write.Write.{Write}
use Rattle.bayou_lang.specs.Ranges.{IsWrite}
use Rattle.bayou_lang.specs.Writes.{lacking_of, raised_by}
use Rattle.bayou_frames.specs.declared.fault.ChannelFault.{ChannelFault}
use Rattle.bayou_peer.specs.Offers.{Answers, Sends}
use Rattle.bayou_peer.specs.Inner.Sending.{HasSent, SendsBatch, SendsItems}
use Rattle.bayou_frames.specs.Laws.Bytes.{front_behind, front_of_more, front_of_whole}
use Rattle.bayou_wire.specs.Laws.Frames.{spelling_of}
use Rattle.bayou_frames.specs.Spelled.{answer_bytes, item_bytes, items_of}
use Rattle.bayou_streams.specs.Written.{AppendsFront}
use Rattle.bayou_wire.specs.declared.frame.Frame.{Frame}
use Rattle.bayou_wire.specs.declared.frame.Frame.TheVariants.{End, Item}
use Rattle.bayou_wire.specs.Spelling.{SpellsFrame, kind_of, payload_bytes}
use Rattle.bayou_wire.specs.Stream.{spelling, spellings}

-- ---- their bytes

spelling_some : (frame : Frame) → 0 < length (spelling frame)
unfolding spelling
spelling_some frame = omega (arith, length-append (to_be_bytes w16 (length (payload_bytes frame) + 1)) (kind_of frame ∷ payload_bytes frame))

item_bytes-append : (writes more : List Write) → item_bytes (writes ++ more) ≡ item_bytes writes ++ item_bytes more
item_bytes-append writes more = ap spellings (map-append Item writes more) ∙ flat_map-append spelling (items_of writes) (items_of more)

pub item_bytes-some : (writes : List Write) → 0 < length writes → 0 < length (item_bytes writes)
item_bytes-some [] none = absurd (omega arith)
item_bytes-some (write ∷ writes) some = omega (arith, spelling_some (Item write), length-append (spelling (Item write)) (item_bytes writes))

pub item_bytes-of : (written text : List ℕ) (batch writes : List Write) → written ≡ text → text ≡ item_bytes batch → batch ≡ writes → written ≡ item_bytes writes
item_bytes-of written text batch writes is spelled same = is ∙ spelled ∙ ap item_bytes same

-- the Item of one more Write
pub item_bytes-push : (writes : List Write) (write : Write) (text bytes : List ℕ) → text ≡ item_bytes writes → SpellsFrame bytes (Item write) → text ++ bytes ≡ item_bytes (writes ++ write ∷ [])
item_bytes-push writes write text bytes is spells =
    ap (λ text. text ++ bytes) is ∙ ap (λ bytes. item_bytes writes ++ bytes) (spelling_of (Item write) bytes spells ∙ sym (append-nil (spelling (Item write))))
    ∙ sym (item_bytes-append writes (write ∷ []))

-- ---- more of a list

pub all-append : {X : Type 0} (P : X → Type 0) (xs ys : List X) → AllByRecursion P xs → AllByRecursion P ys → AllByRecursion P (xs ++ ys)
all-append P [] ys all more = more
all-append P (x ∷ xs) ys all more = (all.0, all-append P xs ys all.1 more)

pub take-one_more : {X : Type 0} (xs : List X) (k : ℕ) (x : X) → k < length xs → x ≡ get_or xs k x → take (k + 1) xs ≡ take k xs ++ x ∷ []
take-one_more xs k x within is = ap (λ n. take n xs) (add-one k) ∙ take-suc xs k x within ∙ ap (λ x. take k xs ++ x ∷ []) (sym is)

pub raised_by-push : (counts : List ℕ) (writes : List Write) (write : Write) → raised_by counts (writes ++ write ∷ []) ≡ raised (raised_by counts writes) write.wid
raised_by-push counts [] write = refl
raised_by-push counts (first ∷ writes) write = raised_by-push (raised counts first.wid) writes write

pub raised_to : (told now : List ℕ) (batch writes : List Write) → now ≡ raised_by told batch → batch ≡ writes → now ≡ raised_by told writes
raised_to told now batch writes is same = is ∙ ap (raised_by told) same

-- ---- a batch

-- what is lacking is the batch, and what is lacking once that is counted
pub lacks_on : (list : Option (List Write)) (told now : List ℕ) (writes : List Write) (most : ℕ) → now ≡ raised_by told writes
    → IfSome list (λ held. writes ≡ take most (lacking_of told held)) → IfSome list (λ held. lacking_of (raised_by told writes) held ≡ drop most (lacking_of told held))
    → IfSome list (λ held. lacking_of told held ≡ writes ++ lacking_of now held)
lacks_on None told now writes most raises is others = tt
lacks_on (Some held) told now writes most raises is others =
    sym (take-append-drop most (lacking_of told held)) ∙ ap (λ first. first ++ drop most (lacking_of told held)) (sym is)
    ∙ ap (λ rest. writes ++ rest) (sym (ap (λ counts. lacking_of counts held) raises ∙ others))

-- a fault ended it
pub sends_fault : (spelled : List Write → List ℕ) (writes : List Write) (before after : Option (List ℕ)) (fault : ChannelFault) → AppendsFront before after (spelled writes)
    → Sends spelled writes before after (Err fault)
sends_fault spelled writes before after fault part = record { whole = tt; part = part; number = tt; each = tt }

-- ---- one batch after another

-- one batch more
pub sent_more : (list : Option (List Write)) (counts told now : List ℕ) (before mid after : Option (List ℕ)) (number more : ℕ)
    → HasSent list counts told before mid number → SendsBatch list told now mid after (Ok more) → HasSent list counts now before after (number + more)
sent_more list counts told now before mid after number more (sent, lacks, wrote, counted, each) (writes, others, sends) = (
  sent ++ writes,
  lacks_more list lacks others,
  subst (Appends before after) (sym (item_bytes-append sent writes)) (Appends-trans before mid after (item_bytes sent) (item_bytes writes) wrote sends.whole),
  omega (arith, counted, sends.number, length-append sent writes),
  all-append IsWrite sent writes each sends.each,
)
  where
    lacks_more : (list : Option (List Write)) → IfSome list (λ held. lacking_of counts held ≡ sent ++ lacking_of told held)
        → IfSome list (λ held. lacking_of told held ≡ writes ++ lacking_of now held) → IfSome list (λ held. lacking_of counts held ≡ (sent ++ writes) ++ lacking_of now held)
    lacks_more None lacks others = tt
    lacks_more (Some held) lacks others = lacks ∙ ap (λ rest. sent ++ rest) others ∙ sym (append_assoc sent writes (lacking_of now held))

-- a batch of none is behind the last
pub sent_whole : (list : Option (List Write)) (counts told now : List ℕ) (before mid after : Option (List ℕ)) (number more : ℕ)
    → HasSent list counts told before mid number → SendsBatch list told now mid after (Ok more) → more ≡ 0 → IfSome list (λ held. lacking_of told held ≡ [])
    → SendsItems list counts before after (Ok number)
sent_whole list counts told now before mid after number more (sent, lacks, wrote, counted, each) ([], others, sends) none all =
    let whole = subst (Appends before after) (append-nil (item_bytes sent)) (Appends-trans before mid after (item_bytes sent) [] wrote sends.whole) in (
      sent,
      is_all list lacks all,
      record { whole = whole; part = front_of_whole before after (item_bytes sent) whole; number = counted; each = each },
    )
  where
    is_all : (list : Option (List Write)) → IfSome list (λ held. lacking_of counts held ≡ sent ++ lacking_of told held) → IfSome list (λ held. lacking_of told held ≡ [])
        → IfSome list (λ held. sent ≡ lacking_of counts held)
    is_all None lacks all = tt
    is_all (Some held) lacks all = sym (lacks ∙ ap (λ rest. sent ++ rest) all ∙ append-nil sent)
sent_whole list counts told now before mid after number more sent (write ∷ writes, others, sends) none all = absurd (omega (arith, sends.number, none))

-- a fault ends a batch
pub sent_part : (list : Option (List Write)) (counts told now : List ℕ) (before mid after : Option (List ℕ)) (number : ℕ) (fault : ChannelFault)
    → HasSent list counts told before mid number → SendsBatch list told now mid after (Err fault) → SendsItems list counts before after (Err fault)
sent_part None counts told now before mid after number fault (sent, lacks, wrote, counted, each) (writes, others, sends) =
    let part = front_behind before mid after (item_bytes sent) (item_bytes writes) wrote sends.part in
    (sent ++ writes, tt, sends_fault item_bytes (sent ++ writes) before after fault (subst (AppendsFront before after) (sym (item_bytes-append sent writes)) part))
sent_part (Some held) counts told now before mid after number fault (sent, lacks, wrote, counted, each) (writes, others, sends) =
    let all = lacking_of counts held in
    let rest = lacking_of now held in
    let bytes : item_bytes all ≡ item_bytes sent ++ (item_bytes writes ++ item_bytes rest) =
    ap item_bytes (lacks ∙ ap (λ rest. sent ++ rest) others) ∙ item_bytes-append sent (writes ++ rest) ∙ ap (λ more. item_bytes sent ++ more) (item_bytes-append writes rest) in
    let part = front_behind before mid after (item_bytes sent) (item_bytes writes ++ item_bytes rest) wrote (front_of_more mid after (item_bytes writes) (item_bytes rest) sends.part) in
    (all, refl, sends_fault item_bytes all before after fault (subst (AppendsFront before after) (sym bytes) part))

-- ---- the End behind them

-- the Items were not all sent
pub answers_items : (list : Option (List Write)) (counts : List ℕ) (before after : Option (List ℕ)) (fault : ChannelFault) → SendsItems list counts before after (Err fault)
    → Answers list counts before after (Err fault)
answers_items list counts before after fault (writes, lacks, sends) =
    (writes, lacks, sends_fault answer_bytes writes before after fault (front_of_more before after (item_bytes writes) (spelling (End (length writes))) sends.part))

-- they were, and no End
pub answers_part : (list : Option (List Write)) (counts : List ℕ) (before mid after : Option (List ℕ)) (number : ℕ) (bytes : List ℕ) (fault : ChannelFault)
    → SendsItems list counts before mid (Ok number) → SpellsFrame bytes (End number) → AppendsFront mid after bytes → Answers list counts before after (Err fault)
answers_part list counts before mid after number bytes fault (writes, lacks, sends) spells part =
    let end : bytes ≡ spelling (End (length writes)) = spelling_of (End number) bytes spells ∙ ap (λ n. spelling (End n)) sends.number in
    let text = front_behind before mid after (item_bytes writes) (spelling (End (length writes))) sends.whole (subst (AppendsFront mid after) end part) in
    (writes, lacks, sends_fault answer_bytes writes before after fault text)

-- all was sent
pub answers_whole : (list : Option (List Write)) (counts : List ℕ) (before mid after : Option (List ℕ)) (number : ℕ) (bytes : List ℕ)
    → SendsItems list counts before mid (Ok number) → SpellsFrame bytes (End number) → Appends mid after bytes → Answers list counts before after (Ok number)
answers_whole list counts before mid after number bytes (writes, lacks, sends) spells wrote =
    let end : bytes ≡ spelling (End (length writes)) = spelling_of (End number) bytes spells ∙ ap (λ n. spelling (End n)) sends.number in
    let whole = Appends-trans before mid after (item_bytes writes) (spelling (End (length writes))) sends.whole (subst (Appends mid after) end wrote) in
    (writes, lacks, record { whole = whole; part = front_of_whole before after (answer_bytes writes) whole; number = sends.number; each = sends.each })
