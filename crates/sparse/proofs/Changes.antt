-- What an edit of the register makes of a sparse store. Assumes nothing.
use Rattle.std.proofs.Common.{◌≡◌, ℕ, ◌+◌, ◌-◌, ◌<◌, ◌≤◌, Bool, true, false, cond, eqb, List, length, Some, None, Ok, Err, Option, Result, is_ok, sym, refl, ◌∙◌, arith}
use Rattle.std.proofs.lemmas.Bool.{eqb-true}
use Rattle.std.proofs.lemmas.Bool.Decides.{nat_tests}
use Rattle.register.specs.declared.RegisterFault.{RegisterFault}
use Rattle.register.specs.Rising.{Rising}
use Rattle.register.specs.Order.{seek, Removed, Finds, Counts}
use Rattle.register.proofs.Lookups.{seek_some}
use Rattle.store.specs.Meaning.{Changed, void_fault}
use Rattle.sparse.specs.declared.PlacedReading.{PlacedReading}
use Rattle.sparse.specs.Places.{place_of, one_point, Placed}

-- a record w at the place k may stand among the records
abbrev Fitting : ℕ → ℕ → Option PlacedReading → Type 0
Fitting span k w = (r : PlacedReading) → w ≡ Some r → (k < span) × (r.energy ≤ 5000)

placed_split : (span k q : ℕ) (w o : Option PlacedReading) (r : PlacedReading) (b : Bool) → eqb q k ≡ b → Fitting span k w → Fitting span q o → cond b w o ≡ Some r → (q < span) × (r.energy ≤ 5000)
placed_split span k q w o r true b f g e = let z = eqb-true q k b in (omega (arith, (f r e).0), (f r e).1)
placed_split span k q w o r false b f g e = g r e

-- records stay within the span, and readings up to 5,000
pub placed_after : {T : Type 0} (span k : ℕ) (w : Option PlacedReading) (xs ys : List PlacedReading) (o : Result T RegisterFault) → Finds place_of k w xs ys o → Fitting span k w → Placed span xs → Placed span ys
placed_after span k w xs ys (Ok u) f h placed q r e = placed_split span k q w (seek place_of q xs) r (eqb q k) refl h (placed q) (sym (f q) ∙ e)
placed_after span k w xs ys (Err u) f h placed q r e = placed q r (sym (f q) ∙ e)

pub fitting : (span k e : ℕ) → k < span → e ≤ 5000 → Fitting span k (Some (record { place = k; energy = e }))
fitting span k e h l r q = let z : e ≡ r.energy = cc in (h, omega arith)

pub fitting_none : (span k : ℕ) → Fitting span k None
fitting_none span k r q = absurd cc

-- a record is taken out
pub voided : (span n n' : ℕ) (xs ys : List PlacedReading) (p q : ℕ) (o : Result PlacedReading RegisterFault) → is_ok o ≡ true → p < 1 → q < span → Rising place_of xs → length xs ≤ n → Removed place_of xs ys q o → Finds place_of q None xs ys o → Counts (length xs - 1) xs ys o → n' ≡ n → (void_fault (one_point span n xs) p q ≡ None) × Changed (one_point span n xs) (one_point span n' ys) p q None ((one_point span n xs).free p + 1)
voided span n n' xs ys p q (Ok old) ok h k rise most done finds l same =
    let there = done.0 in
    let some : 0 < length xs = omega (arith, (seek_some place_of q xs rise old there).0) in (
      grind (arith, nat_tests),
      record {
        points = refl;
        span = refl;
        here = grind (arith, nat_tests, finds q);
        elsewhere = λ i j d. grind (arith, nat_tests, finds j);
        count = grind (arith, nat_tests);
        others = λ i d. grind (arith, nat_tests);
      },
    )
voided span n n' xs ys p q (Err e) ok h k rise most done finds l same = absurd cc
