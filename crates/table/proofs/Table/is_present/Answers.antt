use Rattle.std.proofs.Common.{◌/◌, ◌%◌, eqb, get_or, ap}
use Rattle.std.proofs.lemmas.Nat.Bits.{shr_and_one}
use Rattle.table.proofs.Table.is_present.Goals as goal

pub returns : goal.returns
returns c = ap (λ v. eqb v 1) (shr_and_one (get_or c.args.self.now.present.now (c.args.cell / 8) 0) (c.args.cell % 8))
