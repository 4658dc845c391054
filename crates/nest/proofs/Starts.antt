-- The layers with nothing entered. Assumes nothing.
use Rattle.std.proofs.Common.{◌≡◌, ℕ, ◌+◌, ◌-◌, arith}
use Rattle.std.proofs.lemmas.Bool.Decides.{nat_tests}
use Rattle.store.specs.Meaning.{Meaning, Empty}
use Rattle.store.specs.Pairs.{paired}
use Rattle.store.specs.Shifts.{shifted}
use Rattle.nest.specs.Runs.{Fresh}

-- a table of 2 points and a sparse store with 3 slots, as one store 2 ahead
pub fresh : (k : ℕ) (a b : Meaning) → k ≡ 2 → Empty 2 8 8 a → Empty 1 8 3 b → Fresh (shifted k (paired a b))
fresh k a b e ea eb = record {
  points = omega (arith, ea.points, eb.points);
  span = omega (arith, ea.span, eb.span);
  none = λ p q. grind (arith, nat_tests, ea.none p (q + k), eb.none (p - a.points) (q + k));
  first = grind (arith, nat_tests, ea.points, eb.points, ea.all 0);
  last = grind (arith, nat_tests, ea.points, eb.points, eb.all (2 - a.points));
}
