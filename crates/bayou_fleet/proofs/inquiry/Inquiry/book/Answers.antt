use Rattle.std.proofs.Common.{refl}
use Rattle.bayou_fleet.proofs.inquiry.Inquiry.book.Goals as goal

pub returns-clause-answered : goal.returns-clause-answered
returns-clause-answered g c = (_, refl, c.sent.ensures.same)
