-- What entering or voiding makes of a store, and what it answers, is fixed. Assumes nothing.
use Rattle.std.proofs.Common.{◌≡◌, ℕ, Some, Ok, Err, Option, Result, sym, refl, ◌∙◌, arith}
use mathlib.Core.Path.{fun_ext}
use Rattle.store.specs.declared.Reading.{Reading}
use Rattle.store.specs.declared.StoreFault.{StoreFault}
use Rattle.store.specs.Meaning.{Meaning, Changed, Entered}

-- two meanings that agree in each part are one
pub same_meaning : (a b : Meaning) → a.points ≡ b.points → a.span ≡ b.span → ((p q : ℕ) → a.at p q ≡ b.at p q) → ((p : ℕ) → a.free p ≡ b.free p) → a ≡ b
same_meaning a b points span at free =
    λ i. record { points = points i; span = span i; at = fun_ext (λ p. fun_ext (at p)) i; free = fun_ext free i }

module _ (m a b : Meaning) (p q : ℕ) (o : Option Reading) (f : ℕ) (x : Changed m a p q o f) (y : Changed m b p q o f) where
  changed_once : a ≡ b
  changed_once =
      same_meaning a b (x.points ∙ sym y.points) (x.span ∙ sym y.span)
      (λ i j. grind (arith, x.here, y.here, x.elsewhere i j, y.elsewhere i j))
      (λ i. grind (arith, x.count, y.count, x.others i, y.others i))

pub entered_once : (m a b : Meaning) (p q : ℕ) (v : Reading) (r s : Result (Unit {0}) StoreFault) → Entered m a p q v r → Entered m b p q v s → (r ≡ s) × (a ≡ b)
entered_once m a b p q v (Ok u) (Ok w) x y = (refl, changed_once m a b p q (Some v) _ x.1 y.1)
entered_once m a b p q v (Ok u) (Err e) x y = absurd (grind (arith, x.0, y.0))
entered_once m a b p q v (Err e) (Ok u) x y = absurd (grind (arith, x.0, y.0))
entered_once m a b p q v (Err e) (Err d) x y = (grind (arith, x.0, y.0), x.1 ∙ sym y.1)
