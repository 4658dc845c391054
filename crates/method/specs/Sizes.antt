-- Energies are sound, and what is computed of them fits 64 bits. Assumes nothing.
use Rattle.std.specs.Prelude.{ℕ, ◌*◌, ◌<◌, ◌≤◌}
use Rattle.std.proofs.Common.{mul-le-mul, arith}
use Rattle.std.proofs.Math.Nat.{mul-pos}
use Rattle.method.specs.Energy.{Sound}
use Rattle.method.specs.declared.energies.Energies.{Energies}

pub sound : (e : Energies) → Sound e.v e.w e.a e.n e.m
sound e = record { days = e.some.0; intervals = e.some.1; interval = e.limits.0; window = e.limits.1; event = e.limits.2 }

pub product : (n m : ℕ) → 0 < n → 0 < m → 0 < n * m
product n m h k = mul-pos h k

-- energies over at most 65535 days of at most 65535 intervals fit 64 bits
pub record Sizes (v w a n m : ℕ) : Type 0 where
  pub mv : m * v ≤ 21474181125000
  pub na : n * a ≤ 21474181125000
  pub ww : w ≤ 21474181125000
  pub some : 0 < n * m
  pub nm : n * m ≤ 4294836225

pub sizes : (v w a n m : ℕ) → n ≤ 65535 → m ≤ 65535 → Sound v w a n m → Sizes v w a n m
sizes v w a n m hn hm s =
    let some : 0 < n * m = mul-pos s.days s.intervals in
    let nm : n * m ≤ 65535 * 65535 = mul-le-mul hn hm in
    let vv : v ≤ 327675000 = omega arith in
    let aa : a ≤ 327675000 = omega arith in
    let mv : m * v ≤ 65535 * 327675000 = mul-le-mul hm vv in
    let na : n * a ≤ 65535 * 327675000 = mul-le-mul hn aa in
    record { mv = mv; na = na; ww = omega arith; some = some; nm = nm }
