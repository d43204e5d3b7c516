use Rattle.std.proofs.Common.{arith, ◌≡◌, ◌∙◌, ◌+◌, ◌-◌, ◌++◌, ℕ, List, ap, length, min, sym, take}
use Rattle.std.specs.List.{slice_range}
use Rattle.std.proofs.Math.Seq.{take-length}
use Rattle.std.proofs.lemmas.Grind.{common_steps}
use Rattle.bayou_base.specs.declared.limits.TheConstants.{MAX_LINE_BYTES}
use Rattle.bayou_connect.proofs.Parting.{gives_end, gives_more, put_part}
use Rattle.bayou_connect.proofs.lines.InputLines.take_into.Goals as goal

pub returns-in-Some : goal.returns-in-Some
returns-in-Some g c =
    let had = c.args.line.now.items in
    let room = MAX_LINE_BYTES + 1 - length had in
    let rest = slice_range c.args.self.now.piece c.args.self.now.from c.args.self.now.to in
    let count : c.min.result ≡ min c.in-Some.at room = grind (arith, common_steps) in (
      take c.in-Some.at rest,
      gives_end c.args.self.now.piece c.args.self.now.from c.args.self.now.to c.in-Some.at (g.R.Read.remaining c.args.self.now.reader) c.args.self.now.has_ended
          (sym c.in-Some.is ∙ c.line_feed_in-found.ensures),
      c.in_ok-extend_from_slice.ensures.items ∙ ap (λ (n : ℕ). had ++ take n rest) count ∙ ap (λ (l : List ℕ). had ++ l) (put_part c.in-Some.at room rest),
    )

pub returns-in-None : goal.returns-in-None
returns-in-None g c =
    let had = c.args.line.now.items in
    let room = MAX_LINE_BYTES + 1 - length had in
    let rest = slice_range c.args.self.now.piece c.args.self.now.from c.args.self.now.to in
    let count : c.min.result ≡ min (length rest) room = grind (arith, common_steps) in (
      rest,
      gives_more c.args.self.now.piece c.args.self.now.from c.args.self.now.to (g.R.Read.remaining c.args.self.now.reader) c.args.self.now.has_ended c.requires (omega arith)
          (sym c.in-None.is ∙ c.line_feed_in-found.ensures),
      c.in_ok-extend_from_slice.ensures.items ∙ ap (λ (n : ℕ). had ++ take n rest) count ∙ ap (λ (l : List ℕ). had ++ l) (put_part (length rest) room rest)
          ∙ ap (λ (l : List ℕ). had ++ take room l) (take-length rest),
    )
