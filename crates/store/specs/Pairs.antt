-- Two stores as one: the points of the first, then those of the second, at most 4,096; the smaller span. Assumes nothing.
use Rattle.std.specs.Prelude.{◌≡◌, ℕ, ◌+◌, ◌-◌, ◌≤◌, min, Bool, true, false, cond, ◌&&◌, Some, None, Option, nat_lt}
use Rattle.std.proofs.Common.{ap, arith}
use Rattle.std.proofs.lemmas.Bool.Decides.{nat_tests}
use Rattle.store.specs.declared.pair.Side.{Side}
use Rattle.store.specs.declared.pair.Side.TheVariants.{First, Second}
use Rattle.store.specs.declared.Reading.{Reading}
use Rattle.store.specs.Meaning.{Meaning, Sound}

abbrev pub points_of : Meaning → Meaning → ℕ
points_of a b = min 4096 (a.points + b.points)

abbrev pub span_of : Meaning → Meaning → ℕ
span_of a b = min a.span b.span

-- which of the two has the point p, and the point there, if one has it
abbrev pub side_of : Meaning → Meaning → ℕ → Option Side
side_of a b p = cond (nat_lt p (points_of a b)) (Some (cond (nat_lt p a.points) (First p) (Second (p - a.points)))) None

abbrev pub paired : Meaning → Meaning → Meaning
paired a b = record {
  points = points_of a b;
  span = span_of a b;
  at = λ p q. cond (nat_lt p (points_of a b) && nat_lt q (span_of a b)) (cond (nat_lt p a.points) (a.at p q) (b.at (p - a.points) q)) None;
  free = λ p. cond (nat_lt p (points_of a b)) (cond (nat_lt p a.points) (a.free p) (b.free (p - a.points))) 0;
}

-- what holds of both ways holds of what is chosen
small_cond : (b : Bool) (x y : Option Reading) (v : Reading) → (x ≡ Some v → v.energy ≤ 5000) → (y ≡ Some v → v.energy ≤ 5000) → cond b x y ≡ Some v → v.energy ≤ 5000
small_cond true x y v f g e = f e
small_cond false x y v f g e = g e

no_small : (v : Reading) → None ≡ Some v → v.energy ≤ 5000
no_small v e = absurd cc

not_chosen : {X : Type 0} (b : Bool) (x y : X) → b ≡ false → cond b x y ≡ y
not_chosen b x y e = ap (λ c. cond c x y) e

pub paired_sound : (a b : Meaning) → Sound a → Sound b → Sound (paired a b)
paired_sound a b sa sb = record {
  some = omega (arith, sa.some);
  most = omega arith;
  wide = omega (arith, sa.wide);
  small = λ p q v. grind (arith, nat_tests, sa.small p q v, sb.small (p - a.points) q v);
  past_points = λ p q h. grind (arith, nat_tests, h);
  past_span = λ p q h. grind (arith, nat_tests, h);
  past_free = λ p h. grind (arith, nat_tests, h);
}
