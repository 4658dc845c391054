use Rattle.std.proofs.Common.{◌≤◌, length, nat_abs, decimal, ap, sym, ◌∙◌, arith, w64}
use Rattle.std.specs.Fmt.{signed_decimal}
use Rattle.std.proofs.lemmas.Int.{ints, to_z-of_z}
use Rattle.report.specs.Texts.{Written}
use Rattle.report.proofs.Puts.{written_more}
use Rattle.report.proofs.Spelling.{signed_below, signed_above}
use Rattle.report.proofs.page.Page.put_number.Goals as goal
use Rattle.report.proofs.page.Page.put_number.Goals.{then-number-lt0, else-number-lt0}

pub returns : goal.returns
returns c =
    let page = c.args.self.now in
    let z = c.args.number in
    let mid = c.put-2.new.self in
    let low : page.at ≤ length page.text.now = omega (arith, c.requires) in
    let size = c.unsigned_abs.ensures.value ∙ ap nat_abs (to_z-of_z w64 z c.ranges.number) in
    let after : Written c.if-number-lt0.self (decimal (nat_abs z)) mid = rw (c.as_bytes.ensures.value ∙ c.format.ensures.text ∙ ap decimal size) at c.put-2.ensures in
    let signed : Written page (signed_decimal z) mid = elim c.if-number-lt0.branch [
      | then-number-lt0 w ↦ rw (sym (signed_below z (omega (arith, ints)))) at (written_more low w.put.ensures (rw w.self-is at after))
      | else-number-lt0 w ↦ rw (sym (signed_above z (omega (arith, ints)))) at (rw w.self-is at after)
    ] in
    written_more low signed c.put-3.ensures
