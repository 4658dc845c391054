use Rattle.std.proofs.Common.{ap, length, arith, w64}
use Rattle.std.specs.Fmt.{signed_decimal}
use Rattle.std.proofs.lemmas.Int.{to_z-of_z}
use Rattle.report.proofs.Rows.{report_length}
use Rattle.report.proofs.text_width.Goals as goal

pub returns-clause-exact : goal.returns-clause-exact
returns-clause-exact c = omega (arith, report_length c.args.lines.now c.args.sum, ap (λ z. length (signed_decimal z)) (to_z-of_z w64 c.args.sum c.ranges.sum))
