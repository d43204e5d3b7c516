use Rattle.std.proofs.Common.{rules, ◌∷◌, [], refl}
use Rattle.bayou_wire.specs.declared.frame.Frame.TheVariants.{Write as WriteFrame}
use Rattle.bayou_remember.proofs.Requests.{no_vectors}
use Rattle.bayou_remember.proofs.decode.asking.Goals as goal

pub returns-in_err-reads : goal.returns-in_err-reads
returns-in_err-reads c need = rw c.from_residual.ensures (λ kept by.
    no_vectors c.args.head c.args.asked.server c.args.frames.now (WriteFrame c.args.tag need c.args.asked.program) kept c.requires.at c.in_err-reads.ensures by)

-- src/decode.rt:118:1
pub returns : goal.returns
returns c need = (
  record {
    whose = search rules;
    asks_are = search rules;
    begun_is = search rules;
    asked_within = rw (c.new.ensures, c.resume-session.ensures.value) c.requires.begun;
    server_is = search rules;
    asking = WriteFrame c.args.tag need c.args.asked.program ∷ [];
    asked = rw c.new.ensures (rw c.resume-session.ensures.value (c.args.tag.number, c.args.tag, need, refl, (refl, refl, refl), refl));
    frames_are = search rules;
  },
  λ run. rw (c.new.ensures, c.resume-session.ensures.value) refl,
)
