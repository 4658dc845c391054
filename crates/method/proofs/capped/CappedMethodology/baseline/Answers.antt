use Rattle.std.proofs.Common.{◌≡◌, ◌≤◌, pos, ap, ◌∙◌, arith, w32, to_z}
use Rattle.std.proofs.lemmas.Int.{ints}
use Rattle.method.specs.Caps.{below}
use Rattle.method.proofs.capped.CappedMethodology.baseline.Goals as goal

small : (c : goal.After-capped_floor) → c.capped_floor.result ≤ 6000
small c = let e = c.args.e.now in rw c.capped_floor.ensures (below e.v e.w e.a e.n e.some.0 e.limits.0)

pub overflow_cast-result : goal.overflow_cast-result
overflow_cast-result c = let b = small c in omega (arith, ints)

pub returns : goal.returns
returns c =
    let b = small c in
    let same : to_z w32 c.capped_floor.result ≡ pos c.capped_floor.result = omega (arith, ints) in
    record { value = same ∙ ap pos c.capped_floor.ensures; bounds = (omega (arith, ints), omega (arith, ints)) }
