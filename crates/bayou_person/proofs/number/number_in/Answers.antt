use Rattle.std.proofs.Common.{refl, rules, w64}
use Rattle.std.proofs.lemmas.Fmt.{parse-signed_decimal}
use Rattle.bayou_person.proofs.number.number_in.Goals as goal

pub returns-in_default : goal.returns-in_default
returns-in_default c = (
  refl,
  λ number reads.
      let parsed = parse-signed_decimal w64 number c.args.word.now c.parse.result reads.fits reads.fits.sfits reads.is c.parse.ensures.value.0 in
      search rules,
)

pub returns-in_default-2 : goal.returns-in_default-2
returns-in_default-2 c = (
  refl,
  λ number reads.
      let parsed = parse-signed_decimal w64 number c.args.word.now c.parse.result reads.fits reads.fits.sfits reads.is c.parse.ensures.value.0 in
      absurd (cc),
)
