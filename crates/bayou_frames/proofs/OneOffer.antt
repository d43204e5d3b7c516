-- One input begins with one Offer, or with none.
use Rattle.std.proofs.Common.{◌≡◌, ℕ, List, [], ◌++◌, Ok, Err, inl, inr, sym, ap, subst, ◌∙◌, append_assoc}
use Rattle.std.proofs.lemmas.List.{append-nil}
use Rattle.bayou_frames.specs.declared.fault.ChannelFault.TheVariants.{BadFrame, Cut}
use Rattle.bayou_frames.specs.First.{BeginsWith, IsNoOffer, OfferOf}
use Rattle.bayou_wire.specs.Laws.Frames.{begins_one, faulty_on, not_faulty, not_partial, partial_not_faulty}
use Rattle.bayou_wire.specs.declared.frame.Frame.{Frame}
use Rattle.bayou_wire.specs.declared.frame.Frame.TheVariants.{Offer}
use Rattle.bayou_wire.specs.Stream.{IsFaulty, IsPartial, spelling}

-- the input begins with what was read of it
begins_on : (input read left : List ℕ) (frame : Frame) → input ≡ read ++ left → BeginsWith read frame → BeginsWith input frame
begins_on input read left frame whole (framed, (behind, is)) =
    (framed, (behind ++ left, whole ∙ ap (λ s. s ++ left) is ∙ append_assoc (spelling frame) behind left))

no_offer_on : (input read left : List ℕ) → input ≡ read ++ left → IsNoOffer read → IsNoOffer input
no_offer_on input read left whole (inl (fault, faulty)) = inl (fault, subst (λ (s : List ℕ). IsFaulty s fault) (sym whole) (faulty_on read left fault faulty))
no_offer_on input read left whole (inr (frame, begins, other)) = inr (frame, begins_on input read left frame whole begins, other)

one_frame : (input : List ℕ) (a b : Frame) → BeginsWith input a → BeginsWith input b → a ≡ b
one_frame input a b (is_a, (x, e)) (is_b, (y, f)) = (begins_one a b x y is_a is_b (sym e ∙ f)).0

partial_on : (input read left : List ℕ) → input ≡ read ++ left → left ≡ [] → IsPartial read → IsPartial input
partial_on input read left whole none partial = subst IsPartial (sym (whole ∙ ap (λ s. read ++ s) none ∙ append-nil read)) partial

pub one_offer : (input counts others : List ℕ) → OfferOf input (Ok counts) → OfferOf input (Ok others) → counts ≡ others
one_offer input counts others (read, left, whole, begins) (again, over, same, beginning) =
    let one = one_frame input (Offer counts) (Offer others) (begins_on input read left (Offer counts) whole begins) (begins_on input again over (Offer others) same beginning) in
    cc

pub offer_not_cut : (input counts : List ℕ) → OfferOf input (Ok counts) → OfferOf input (Err Cut) → ⊥
offer_not_cut input counts (read, left, whole, begins) (again, over, same, (none, partial)) =
    let (framed, (behind, is)) = begins_on input read left (Offer counts) whole begins in
    not_partial input (Offer counts) behind framed is (partial_on input again over same none partial)

pub offer_not_bad : (input counts : List ℕ) → OfferOf input (Ok counts) → OfferOf input (Err BadFrame) → ⊥
offer_not_bad input counts (read, left, whole, begins) (again, over, same, bad) =
    of_input (begins_on input read left (Offer counts) whole begins) (no_offer_on input again over same bad)
  where
    of_input : BeginsWith input (Offer counts) → IsNoOffer input → ⊥
    of_input (framed, (behind, is)) (inl (fault, faulty)) = not_faulty input (Offer counts) behind fault framed is faulty
    of_input begins (inr (frame, beginning, other)) = other counts (one_frame input frame (Offer counts) beginning begins)

pub cut_not_bad : (input : List ℕ) → OfferOf input (Err Cut) → OfferOf input (Err BadFrame) → ⊥
cut_not_bad input (read, left, whole, (none, partial)) (again, over, same, bad) = of_input (partial_on input read left whole none partial) (no_offer_on input again over same bad)
  where
    of_input : IsPartial input → IsNoOffer input → ⊥
    of_input partial (inl (fault, faulty)) = partial_not_faulty input fault partial faulty
    of_input partial (inr (frame, (framed, (behind, is)), other)) = not_partial input frame behind framed is partial
