use Rattle.std.proofs.Common.{◌<◌, ◌+◌, ◌++◌, length, sym, subst, arith}
use Rattle.bayou_base.specs.declared.limits.TheConstants.{MAX_LINE_BYTES}
use Rattle.bayou_script.proofs.Cut.{Cuts, Cuts-part, refused_long}
use Rattle.bayou_script.proofs.text.TextReader.go_on.Goals as goal

pub returns-then-part-saturating_sub : goal.returns-then-part-saturating_sub
returns-then-part-saturating_sub g c bytes read =
    let line = c.args.self.now.line.items in
    let part = c.args.part.now in
    let long : MAX_LINE_BYTES < length line + length part = omega arith in
    refused_long g.F.Front.order bytes read.ended line part c.args.self.now.number read.front c.requires read.cut read.in_order read.number long

pub returns : goal.returns
returns g c bytes read = record {
  ended = read.ended;
  front = read.front;
  cut = subst (Cuts (bytes ++ c.args.part.now) read.ended) (sym c.in_ok-extend_from_slice.ensures.items)
      (Cuts-part c.args.part.now bytes read.ended c.args.self.now.line.items c.requires read.cut);
  number = read.number;
  in_order = read.in_order;
  kept = read.kept;
}
