-- A short run of calls on a store, and its answers. Assumes nothing.
use Rattle.std.specs.Prelude.{◌≡◌, ℕ, cond, Some, None, Option, Ok, Err, nat_le}
use Rattle.store.specs.declared.Reading.{Reading}
use Rattle.store.specs.declared.StoreFault.TheVariants.{Nothing}
use Rattle.store.specs.Meaning.{Meaning}
use Rattle.nest.specs.declared.Seen.{Seen}

-- three points of six places with no reading, eight places free at the first point and three at the last
pub record Fresh (m : Meaning) : Type 0 where
  pub points : m.points ≡ 3
  pub span : m.span ≡ 6
  pub none : (p q : ℕ) → m.at p q ≡ None
  pub first : m.free 0 ≡ 8
  pub last : m.free 2 ≡ 3

-- what stands where an energy is entered: readings above 5,000 are declined
abbrev pub taken : ℕ → Option Reading
taken e = cond (nat_le e 5000) (Some (record { energy = e })) None

-- the answers of the run with the energies x and y
abbrev pub seen : ℕ → ℕ → Seen
seen x y = record {
  first = taken x;
  voiding = cond (nat_le x 5000) (Ok tt) (Err Nothing);
  voided = None;
  second = taken y;
  neighbour = None;
  free = cond (nat_le y 5000) 2 3;
}
