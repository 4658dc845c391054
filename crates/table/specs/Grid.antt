-- What a table holds: readings in rows of one point each, with a presence bit for each reading. Assumes nothing.
use Rattle.std.specs.Prelude.{◌≡◌, ℕ, ◌+◌, ◌*◌, ◌<◌, ◌≤◌, Bool, true, false, cond, ◌&&◌, List, length, Some, None, Option, nat_le, nat_lt, slice_index}
use Rattle.std.proofs.Common.{refl, arith}
use Rattle.std.proofs.lemmas.Nat.{mul-add-lt}
use Rattle.std.proofs.lemmas.Bool.Decides.{nat_tests}
use Rattle.refusal.specs.declared.MakeFault.{MakeFault}
use Rattle.refusal.specs.declared.MakeFault.TheVariants.{Limits}
use Rattle.store.specs.declared.Reading.{Reading}
use Rattle.store.specs.Meaning.{Meaning, Sound}
use Rattle.table.specs.Presence.{bit, clear}

-- whether a table of so many points and places fits its limits, and lists of r readings and b bytes
abbrev pub table_fits : ℕ → ℕ → ℕ → ℕ → Bool
table_fits points span r b = nat_le 1 points && (nat_le points 16 && (nat_le span 1179648 && (nat_le (points * span) r && nat_le (points * span) (8 * b))))

-- why such a table is not made, if so
abbrev pub table_fault : ℕ → ℕ → ℕ → ℕ → Option MakeFault
table_fault points span r b = cond (table_fits points span r b) None (Some Limits)

-- the points of what is made: as asked, or one where there is a fault
abbrev pub made_points : Option MakeFault → ℕ → ℕ
made_points None n = n
made_points (Some e) n = 1

-- the places of what is made: as asked, or none where there is a fault
abbrev pub made_span : Option MakeFault → ℕ → ℕ
made_span None n = n
made_span (Some e) n = 0

-- the reading of the cell k where it is marked as present
abbrev pub reading_at : List ℕ → List ℕ → ℕ → Option Reading
reading_at rs ps k = cond (bit ps k) (Some (record { energy = slice_index rs k })) None

-- the cell of the place q of the point p, where n points of w places have it
abbrev pub cell_of : ℕ → ℕ → ℕ → ℕ → Option ℕ
cell_of n w p q = cond (nat_lt p n && nat_lt q w) (Some (p * w + q)) None

-- place q of point p is the cell p * span + q
abbrev pub grid : ℕ → ℕ → List ℕ → List ℕ → Meaning
grid points span rs ps = record {
  points = points;
  span = span;
  at = λ p q. cond (nat_lt p points && nat_lt q span) (reading_at rs ps (p * span + q)) None;
  free = λ p. cond (nat_lt p points) (clear ps (p * span) span) 0;
}

-- the cells from n on have the readings and the marks that they had
abbrev pub Kept : ℕ → List ℕ → List ℕ → List ℕ → List ℕ → Type 0
Kept n rs ps rs' ps' = (k : ℕ) → n ≤ k → (slice_index rs' k ≡ slice_index rs k) × (bit ps' k ≡ bit ps k)

-- the lists are as long as they were
pub record SameLengths (rs ps rs' ps' : List ℕ) : Type 0 where
  pub readings : length rs' ≡ length rs
  pub bytes : length ps' ≡ length ps

-- the marked cells below n have readings up to 5,000
abbrev pub Small : ℕ → List ℕ → List ℕ → Type 0
Small n rs ps = (k : ℕ) → (k < n) × (bit ps k ≡ true) → slice_index rs k ≤ 5000

chosen_small : (b : Bool) (x : Option Reading) (v : Reading) → (b ≡ true → x ≡ Some v → v.energy ≤ 5000) → cond b x None ≡ Some v → v.energy ≤ 5000
chosen_small true x v f e = f refl e
chosen_small false x v f e = absurd cc

some_small : (w : ℕ) (v : Reading) → w ≤ 5000 → Some (record { energy = w }) ≡ Some v → v.energy ≤ 5000
some_small w v h e = let z : w ≡ v.energy = cc in omega arith

-- a table within its limits, with small readings, is what every store owes
pub grid_sound : (points span : ℕ) (rs ps : List ℕ) → (1 ≤ points) × (points ≤ 16) × (span ≤ 1179648) → Small (points * span) rs ps → Sound (grid points span rs ps)
grid_sound points span rs ps limits small = record {
  some = limits.0;
  most = omega (arith, limits.1);
  wide = limits.2;
  small = λ p q v. grind (arith, nat_tests, mul-add-lt p span q points, small (p * span + q));
  past_points = λ p q h. grind (arith, nat_tests, h);
  past_span = λ p q h. grind (arith, nat_tests, h);
  past_free = λ p h. grind (arith, nat_tests, h);
}
