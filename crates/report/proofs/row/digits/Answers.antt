use Rattle.std.proofs.Common.{length, decimal, sym, ap, ◌∙◌, arith}
use Rattle.std.proofs.lemmas.Fmt.{decimal_digit}
use Rattle.report.proofs.Widths.{digits_of}
use Rattle.report.proofs.row.digits.Goals as goal

pub returns-in-Some-clause-exact : goal.returns-in-Some-clause-exact
returns-in-Some-clause-exact c = omega (arith, digits_of c.in-Some.power c.args.number (omega (arith, c.ranges.number)) c.in-Some.ensures.power_le c.in-Some.ensures.next_power_gt)

pub returns-in-None-clause-exact : goal.returns-in-None-clause-exact
returns-in-None-clause-exact c = ap length (sym (decimal_digit 0 (omega arith))) ∙ ap (λ n. length (decimal n)) (sym c.in-None.ensures.none)
