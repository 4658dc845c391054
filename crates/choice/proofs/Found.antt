-- The days that lie before a day, as a chain finds them. Assumes nothing.
use Rattle.std.proofs.Common.{◌≡◌, ℕ, zero, suc, ◌≤◌, List, [], ◌∷◌, ◌++◌, take, length, Option, refl, ap, ◌∙◌, arith, length-take, take_all}
use Rattle.std.specs.declared.iter.Rev.{Rev}
use Rattle.std.specs.declared.ops.Range.{Range}
use Rattle.std.specs.Iterator.{AlwaysYields}
use Rattle.std.specs.Iterator.Adapters.{rev_source, rev_steps}
use Rattle.std.proofs.iter.runs.Sources.{nat_range_steps_back}
use Rattle.std.proofs.lemmas.Iterator.{YieldsList}
use Rattle.choice.specs.Choice.{days_before}

-- what is taken of a list suffices for what is taken of a longer one
pub take_longer : (n : ℕ) (xs ys : List ℕ) → take n (take n xs ++ ys) ≡ take n (xs ++ ys)
take_longer zero xs ys = refl
take_longer (suc n) [] ys = refl
take_longer (suc n) (x ∷ xs) ys = ap (λ r. x ∷ r) (take_longer n xs ys)

-- a call gives the day just below the end, until the end is 0
yields_before : (d : ℕ) (s : Rev (Range ℕ)) → (rev_source s).start ≡ 0 → (rev_source s).end ≡ d → AlwaysYields (rev_steps nat_range_steps_back) (λ x. x) s (days_before d)
yields_before zero s low high = λ x t p. omega (arith, p.1.0)
yields_before (suc d) s low high = (
  λ t p. omega (arith, p.1.0),
  λ x t p. (omega (arith, p.1.1, p.1.2), yields_before d t (p.0 ∙ low) (omega (arith, p.1.2))),
)

-- the numbers below d, from the back
pub YieldsList-before : {d : ℕ} {s : Rev (Range ℕ)} → rev_source s ≡ record { start = 0; end = d } → YieldsList (rev_steps nat_range_steps_back) (λ x. x) s (days_before d)
YieldsList-before {d} {s} h = record { runs = yields_before d s (ap (λ r. r.start) h) (ap (λ r. r.end) h) }

-- what a chain gives, as a clause says it
pub given : {S : Type 0} {steps : S → Option ℕ → S → Type 0} {s : S} {ys : List ℕ} → YieldsList steps (λ x. x) s ys → AlwaysYields steps (λ x. x) s ys
given e = e.runs

-- as many as are wanted are taken, where there is room for them
pub all_fit : (room n m : ℕ) (xs : List ℕ) → n ≡ m → n ≤ room → take room (take n xs) ≡ take m xs
all_fit room n m xs e h = let few : length (take n xs) ≤ room = omega (arith, length-take n xs) in take_all _ _ few ∙ ap (λ k. take k xs) e
