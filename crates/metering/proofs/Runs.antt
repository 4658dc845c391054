-- The first trouble on neighbouring numbers, and on lists one after another. Assumes nothing.
use Rattle.std.proofs.Common.{◌≡◌, ℕ, zero, suc, ◌+◌, ◌-◌, ◌<◌, ◌≤◌, List, [], ◌∷◌, ◌++◌, Some, None, Option, sym, refl, ap, ◌∙◌, add-zero, arith}
use Rattle.std.specs.List.{range_with_len}
use Rattle.metering.specs.Sums.{or_else, first_in}

or_none : {Y : Type 0} (o : Option Y) → or_else o None ≡ o
or_none None = refl
or_none (Some y) = refl

or_assoc : {Y : Type 0} (o p q : Option Y) → or_else (or_else o p) q ≡ or_else o (or_else p q)
or_assoc None p q = refl
or_assoc (Some y) p q = refl

pub first_append : {X Y : Type 0} (f : X → Option Y) (xs ys : List X) → first_in f (xs ++ ys) ≡ or_else (first_in f xs) (first_in f ys)
first_append f [] ys = refl
first_append f (x ∷ xs) ys = ap (or_else (f x)) (first_append f xs ys) ∙ sym (or_assoc (f x) (first_in f xs) (first_in f ys))

pub first_push : {X Y : Type 0} (f : X → Option Y) (xs : List X) (y : X) → first_in f (xs ++ (y ∷ [])) ≡ or_else (first_in f xs) (f y)
first_push f xs y = first_append f xs (y ∷ []) ∙ ap (or_else (first_in f xs)) (or_none (f y))

module _ {Y : Type 0} (f : ℕ → Option Y) where
  -- no trouble before b: none on the numbers from a up to it
  pub none_between : (a n : ℕ) → ((k : ℕ) → a ≤ k → k < a + n → f k ≡ None) → first_in f (range_with_len a n) ≡ None
  none_between a zero none = refl
  none_between a (suc n) none =
      ap (λ o. or_else o (first_in f (range_with_len (a + 1) n))) (none a (omega arith) (omega arith))
      ∙ none_between (a + 1) n (λ k h lt. none k (omega (arith, h)) (omega (arith, lt)))

  first_after : (a n i b : ℕ) (y : Y) → a + i ≡ b → b < a + n → ((k : ℕ) → a ≤ k → k < b → f k ≡ None) → f b ≡ Some y → first_in f (range_with_len a n) ≡ Some y
  first_after a zero i b y e lt none here = absurd (omega (arith, e, lt))
  first_after a (suc n) zero b y e lt none here = ap (λ o. or_else o (first_in f (range_with_len (a + 1) n))) (ap f (sym (add-zero a) ∙ e) ∙ here)
  first_after a (suc n) (suc i) b y e lt none here =
      ap (λ o. or_else o (first_in f (range_with_len (a + 1) n))) (none a (omega arith) (omega (arith, e)))
      ∙ first_after (a + 1) n i b y (omega (arith, e)) (omega (arith, lt)) (λ k h. none k (omega (arith, h))) here

  -- trouble at b and none before it: the first is that of b
  pub first_between : (a n b : ℕ) (y : Y) → a ≤ b → b < a + n → ((k : ℕ) → a ≤ k → k < b → f k ≡ None) → f b ≡ Some y → first_in f (range_with_len a n) ≡ Some y
  first_between a n b y h lt none here = first_after a n (b - a) b y (omega (arith, h)) lt none here
