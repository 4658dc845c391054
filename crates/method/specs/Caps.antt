-- The capped baseline: its fraction lies from four to six fifths of the plain one, it rises with A, and it has bounds. Assumes nothing.
use Rattle.std.specs.Prelude.{◌≡◌, ℕ, ◌*◌, ◌/◌, ◌<◌, ◌≤◌, ◌==◌, nat_lt}
use Rattle.std.proofs.Common.{◌∙◌, ⊎_elim, mul-le-mul_left, mul-le-mul_right, mul_comm, mul_assoc, mul_left_comm, le_trans, arith}
use Rattle.std.proofs.Math.Nat.{div-le_of_le-mul}
use Rattle.std.proofs.lemmas.Bool.{cond-true, cond-false, cases_Bool, eqb-true, eqb-false, ltb-true, ltb-false}
use Rattle.std.proofs.lemmas.Bool.Decides.{nat_tests}
use Rattle.method.specs.Baseline.{top, under}
use Rattle.method.specs.Rounding.{quotients_le}

-- v times a bound on 5 n a
low_edge : (v w a n : ℕ) → 4 * w ≤ 5 * n * a → 4 * v * w ≤ v * a * (5 * n)
low_edge v w a n h = let k : v * (4 * w) ≤ v * (5 * n * a) = mul-le-mul_left v h in simp (mul_assoc, mul_left_comm) (simp (mul_assoc, mul_comm, mul_left_comm) at k)

high_edge : (v w a n : ℕ) → 5 * n * a ≤ 6 * w → v * a * (5 * n) ≤ 6 * v * w
high_edge v w a n h = let k : v * (5 * n * a) ≤ v * (6 * w) = mul-le-mul_left v h in simp (mul_assoc, mul_left_comm) (simp (mul_assoc, mul_comm, mul_left_comm) at k)

-- which of the four cases holds, and what each gives
pub data Case (v w a n : ℕ) : Type 0 where
  plain : w ≡ 0 → top v w a n ≡ v → under w a n ≡ n → Case v w a n
  low : 0 < w → 5 * n * a < 4 * w → top v w a n ≡ 4 * v → under w a n ≡ 5 * n → Case v w a n
  high : 0 < w → 6 * w < 5 * n * a → top v w a n ≡ 6 * v → under w a n ≡ 5 * n → Case v w a n
  between : 0 < w → 4 * w ≤ 5 * n * a → 5 * n * a ≤ 6 * w → top v w a n ≡ v * a → under w a n ≡ w → Case v w a n

pub cases : (v w a n : ℕ) → Case v w a n
cases v w a n =
    ⊎_elim
    (λ e. plain (eqb-true w 0 e) (cond-true _ _ _ e) (cond-true _ _ _ e))
    (λ e. let p : 0 < w = omega (arith, eqb-false w 0 e) in
    ⊎_elim
    (λ f. low p (ltb-true _ _ f) (cond-false _ _ _ e ∙ cond-true _ _ _ f) (cond-false _ _ _ e ∙ cond-true _ _ _ f))
    (λ f. ⊎_elim
    (λ g. high p (ltb-true _ _ g) (cond-false _ _ _ e ∙ cond-false _ _ _ f ∙ cond-true _ _ _ g) (cond-false _ _ _ e ∙ cond-false _ _ _ f ∙ cond-true _ _ _ g))
    (λ g. between p (ltb-false _ _ f) (ltb-false _ _ g) (cond-false _ _ _ e ∙ cond-false _ _ _ f ∙ cond-false _ _ _ g) (cond-false _ _ _ e ∙ cond-false _ _ _ f ∙ cond-false _ _ _ g))
    (cases_Bool (nat_lt (6 * w) (5 * n * a))))
    (cases_Bool (nat_lt (5 * n * a) (4 * w))))
    (cases_Bool (w == 0))

-- before rounding, the baseline is from four to six fifths of V / n
pub within_caps : (v w a n : ℕ) → (4 * v * under w a n ≤ 5 * n * top v w a n) × (5 * n * top v w a n ≤ 6 * v * under w a n)
within_caps v w a n =
    elim (cases v w a n) [
      | plain z t u ↦ rw (t, u) (let e : n * v ≡ v * n = mul_comm n v in (omega (arith, mul_assoc 4 v n, mul_assoc 5 n v), omega (arith, mul_assoc 6 v n, mul_assoc 5 n v)))
      | low p f t u ↦ rw (t, u) (simp (mul_assoc, mul_comm, mul_left_comm) (omega arith), simp (mul_assoc, mul_comm, mul_left_comm) (omega arith))
      | high p f t u ↦ rw (t, u) (simp (mul_assoc, mul_comm, mul_left_comm) (omega arith), simp (mul_assoc, mul_comm, mul_left_comm) (omega arith))
      | between p f g t u ↦ rw (t, u) (rw (mul_comm (5 * n) (v * a)) (low_edge v w a n f), rw (mul_comm (5 * n) (v * a)) (high_edge v w a n g))
    ]

-- it rises with A
pub rises : (v w a b n : ℕ) → 0 < n → a ≤ b → top v w a n / under w a n ≤ top v w b n / under w b n
rises v w a b n hn h =
    let k : 5 * n * a ≤ 5 * n * b = mul-le-mul_left (5 * n) h in
    let five : 0 < 5 * n = omega arith in
    elim (cases v w a n) [
      | plain z t u ↦ elim (cases v w b n) [
        | plain _ t' u' ↦ rw (t, u, t', u') (omega arith)
        | low p _ _ _ ↦ absurd (omega arith)
        | high p _ _ _ ↦ absurd (omega arith)
        | between p _ _ _ _ ↦ absurd (omega arith)
      ]
      | low p f t u ↦ elim (cases v w b n) [
        | plain z _ _ ↦ absurd (omega arith)
        | low _ _ t' u' ↦ rw (t, u, t', u') (omega arith)
        | high _ _ t' u' ↦ rw (t, u, t', u') (quotients_le (4 * v) (5 * n) (6 * v) (5 * n) five five (mul-le-mul_right (5 * n) (omega arith)))
        | between _ f' _ t' u' ↦ rw (t, u, t', u') (quotients_le (4 * v) (5 * n) (v * b) w five p (low_edge v w b n f'))
      ]
      | high p f t u ↦ elim (cases v w b n) [
        | plain z _ _ ↦ absurd (omega arith)
        | low _ f' _ _ ↦ absurd (omega arith)
        | high _ _ t' u' ↦ rw (t, u, t', u') (omega arith)
        | between _ _ g' _ _ ↦ absurd (omega arith)
      ]
      | between p f g t u ↦ elim (cases v w b n) [
        | plain z _ _ ↦ absurd (omega arith)
        | low _ f' _ _ ↦ absurd (omega arith)
        | high _ _ t' u' ↦ rw (t, u, t', u') (quotients_le (v * a) w (6 * v) (5 * n) p five (high_edge v w a n g))
        | between _ _ _ t' u' ↦ rw (t, u, t', u') (quotients_le (v * a) w (v * b) w p p (mul-le-mul_right w (mul-le-mul_left v h)))
      ]
    ]

-- it is at most 6000
pub below : (v w a n : ℕ) → 0 < n → v ≤ 5000 * n → top v w a n / under w a n ≤ 6000
below v w a n hn h =
    elim (cases v w a n) [
      | plain z t u ↦ rw (t, u) (div-le_of_le-mul n (omega arith))
      | low p f t u ↦ rw (t, u) (div-le_of_le-mul (5 * n) (omega arith))
      | high p f t u ↦ rw (t, u) (div-le_of_le-mul (5 * n) (omega arith))
      | between p f g t u ↦ rw (t, u) (le_trans (quotients_le (v * a) w (6 * v) (5 * n) p (omega arith) (high_edge v w a n g)) (div-le_of_le-mul (5 * n) (omega arith)))
    ]

-- the capped fraction is over a number above 0
pub under_some : (v w a n : ℕ) → 0 < n → 0 < under w a n
under_some v w a n h = grind (arith, nat_tests)
