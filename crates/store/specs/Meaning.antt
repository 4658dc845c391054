-- What a meter store holds, and what entering and voiding do to it. Assumes nothing.
use Rattle.std.specs.Prelude.{◌≡◌, ℕ, ◌+◌, ◌-◌, ◌≤◌, Bool, cond, ◌&&◌, is_some, Some, None, Option, Result, MatchResult, ◌≢◌, nat_le, nat_lt}
use Rattle.refusal.specs.Refusals.{Refusal, plain}
use Rattle.store.specs.declared.Reading.{Reading}
use Rattle.store.specs.declared.StoreFault.{StoreFault}
use Rattle.store.specs.declared.StoreFault.TheVariants.{Beyond, TooLarge, Full, Nothing}

-- the number of each cause
abbrev pub store_refusal : StoreFault → Refusal
store_refusal Beyond = plain 1
store_refusal TooLarge = plain 2
store_refusal Full = plain 3
store_refusal Nothing = plain 4

-- the reading or none, by point and place
abbrev pub Readings : Type 0
Readings = ℕ → ℕ → Option Reading

pub record Meaning : Type 0 where
  pub points : ℕ
  pub span : ℕ
  pub at : Readings
  pub free : ℕ → ℕ

-- what every store owes: its limits, readings up to 5,000, and nothing beyond
pub record Sound (m : Meaning) : Type 0 where
  pub some : 1 ≤ m.points
  pub most : m.points ≤ 4096
  pub wide : m.span ≤ 1179648
  pub small : (p q : ℕ) (v : Reading) → m.at p q ≡ Some v → v.energy ≤ 5000
  pub past_points : (p q : ℕ) → m.points ≤ p → m.at p q ≡ None
  pub past_span : (p q : ℕ) → m.span ≤ q → m.at p q ≡ None
  pub past_free : (p : ℕ) → m.points ≤ p → m.free p ≡ 0

-- m has n points and w places, with no reading, and f places free at each point
pub record Empty (n w f : ℕ) (m : Meaning) : Type 0 where
  pub points : m.points ≡ n
  pub span : m.span ≡ w
  pub none : (p q : ℕ) → m.at p q ≡ None
  pub all : (p : ℕ) → m.free p ≡ cond (nat_lt p n) f 0

abbrev pub inside : Meaning → ℕ → ℕ → Bool
inside m p q = nat_lt p m.points && nat_lt q m.span

-- why a reading is refused, if it is
abbrev pub entry_fault : Meaning → ℕ → ℕ → Reading → Option StoreFault
entry_fault m p q v =
    cond (inside m p q)
    (cond (nat_le v.energy 5000) (cond (is_some (m.at p q)) None (cond (nat_lt 0 (m.free p)) None (Some Full))) (Some TooLarge))
    (Some Beyond)

-- why nothing is voided, if so
abbrev pub void_fault : Meaning → ℕ → ℕ → Option StoreFault
void_fault m p q = cond (inside m p q) (cond (is_some (m.at p q)) None (Some Nothing)) (Some Beyond)

-- m' is m with o at the place q of the point p, and f free there
pub record Changed (m m' : Meaning) (p q : ℕ) (o : Option Reading) (f : ℕ) : Type 0 where
  pub points : m'.points ≡ m.points
  pub span : m'.span ≡ m.span
  pub here : m'.at p q ≡ o
  pub elsewhere : (i j : ℕ) → ((i ≡ p) × (j ≡ q) → ⊥) → m'.at i j ≡ m.at i j
  pub count : m'.free p ≡ f
  pub others : (i : ℕ) → (i ≢ p) → m'.free i ≡ m.free i

-- what entering v at the place q of the point p makes of m, with the answer r
abbrev pub Entered : {U : Type 0} → Meaning → Meaning → ℕ → ℕ → Reading → Result U StoreFault → Type 0
Entered m m' p q v r = MatchResult r
    (λ _. (entry_fault m p q v ≡ None) × Changed m m' p q (Some v) (m.free p - cond (is_some (m.at p q)) 0 1))
    (λ e. (entry_fault m p q v ≡ Some e) × (m' ≡ m))

-- what voiding the place q of the point p makes of m, with the answer r
abbrev pub Voided : {U : Type 0} → Meaning → Meaning → ℕ → ℕ → Result U StoreFault → Type 0
Voided m m' p q r = MatchResult r
    (λ _. (void_fault m p q ≡ None) × Changed m m' p q None (m.free p + 1))
    (λ e. (void_fault m p q ≡ Some e) × (m' ≡ m))
