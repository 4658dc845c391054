use Rattle.std.proofs.Common.{◌≡◌, ◌+◌, ◌*◌, ℤ, pos, negsuc, ◌-ℤ◌, ◌≤ℤ◌, ◌∙◌, arith, w32, w64, to_z, of_z, rules}
use Rattle.std.proofs.lemmas.Int.{ints}
use Rattle.method.specs.Sizes.{sizes, sound}
use Rattle.method.specs.Additive.{within}
use Rattle.method.specs.Baseline.{additive_of}
use Rattle.method.specs.declared.energies.Energies.{Energies}
use Rattle.method.proofs.similar.SimilarDaysMethodology.baseline.Goals as goal

abbrev additive : Energies → ℤ
additive e = additive_of e.v e.w e.a e.n e.m

-- the quotient is the additive baseline, within its bounds
value : (c : goal.After-rounded_down) → c.rounded_down.result ≡ additive c.args.e.now
value c =
    let e = c.args.e.now in
    let z = sizes e.v e.w e.a e.n e.m (search rules) (search rules) (sound e) in
    let over : to_z w64 (e.n * e.m) ≡ pos (e.n * e.m) = omega (arith, ints) in
    let sum : to_z w64 (of_z w64 (to_z w64 (e.m * e.v + e.n * e.a) -ℤ to_z w64 e.w)) ≡ pos (e.m * e.v + e.n * e.a) -ℤ pos e.w = omega (arith, ints) in
    simp (c.from-m.ensures, c.from-n.ensures, over, sum) at c.rounded_down.ensures

bounds : (c : goal.After-rounded_down) → (negsuc 4999 ≤ℤ c.rounded_down.result) × (c.rounded_down.result ≤ℤ pos 10000)
bounds c = rw (value c) (within _ _ _ _ _ (sound c.args.e.now))

pub overflow_cast-result : goal.overflow_cast-result
overflow_cast-result c = let b = bounds c in omega (arith, ints)

pub returns : goal.returns
returns c =
    let b = bounds c in
    let same : to_z w32 (of_z w32 (to_z w64 (of_z w64 c.rounded_down.result))) ≡ c.rounded_down.result = omega (arith, ints) in
    record { value = same ∙ value c; bounds = rw same b }
