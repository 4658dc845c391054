-- A store whose place p is place p + k of the one below. Assumes nothing.
use Rattle.std.specs.Prelude.{ℕ, ◌+◌, ◌-◌, cond, Some, None, Option, nat_le}
use Rattle.std.proofs.Common.{arith}
use Rattle.refusal.specs.declared.MakeFault.{MakeFault}
use Rattle.refusal.specs.declared.MakeFault.TheVariants.{Limits}
use Rattle.store.specs.Meaning.{Meaning, Sound}

-- a clock runs at most 288 intervals ahead
abbrev pub clock_fault : ℕ → Option MakeFault
clock_fault k = cond (nat_le k 288) None (Some Limits)

-- what a clock that was asked to run k ahead does run
abbrev pub ahead_of : ℕ → ℕ
ahead_of k = cond (nat_le k 288) k 0

abbrev pub shifted : ℕ → Meaning → Meaning
shifted k m = record { points = m.points; span = m.span - k; at = λ p q. m.at p (q + k); free = m.free }

pub shifted_sound : (k : ℕ) (m : Meaning) → Sound m → Sound (shifted k m)
shifted_sound k m b = record {
  some = b.some;
  most = b.most;
  wide = omega (arith, b.wide);
  small = λ p q v. b.small p (q + k) v;
  past_points = λ p q. b.past_points p (q + k);
  past_span = λ p q h. b.past_span p (q + k) (omega arith);
  past_free = b.past_free;
}
