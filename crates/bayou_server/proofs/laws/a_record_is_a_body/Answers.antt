use Rattle.std.proofs.Common.{arith}
use Rattle.bayou_server.specs.Stored.{form_of}
use Rattle.bayou_server.proofs.Deciding.{are_bodies}
use Rattle.bayou_server.proofs.laws.a_record_is_a_body.Goals as goal

pub returns-clause-one : goal.returns-clause-one
returns-clause-one c = λ id body stored is.
    let size = c.a_record_is_spelled_by_a_body.ensures (form_of body.version) body.bytes stored is.spelled in
    record { some = size.0; within = omega (arith, size.1) }

pub returns-clause-each : goal.returns-clause-each
returns-clause-each c = λ id bodies stored stores. are_bodies (λ body one n. returns-clause-one c n body one) id bodies stored stores
