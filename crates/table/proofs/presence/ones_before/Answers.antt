use Rattle.std.proofs.Common.{◌+◌, ◌-◌, ◌*◌, ◌/◌, ◌%◌, get_or, ap, ◌∙◌, arith}
use lib.Bits.{bit_and}
use lib.Count.{ones}
use Rattle.std.proofs.lemmas.Nat.{and_mask, one_shl}
use Rattle.table.specs.Presence.{marked}
use Rattle.table.proofs.Counts.{marked_low}
use Rattle.table.proofs.presence.ones_before.Goals as goal

pub returns : goal.returns
returns c =
    let xs = c.args.present.now in
    let i = c.args.cell / 8 in
    let r = c.args.cell % 8 in
    ap (λ v. ones v + marked xs (8 * i)) (ap (λ v. bit_and (get_or xs i 0) (v - 1)) (one_shl r 8 (omega arith)) ∙ and_mask (get_or xs i 0) r)
    ∙ marked_low xs i r (omega arith) ∙ ap (marked xs) (omega arith)
