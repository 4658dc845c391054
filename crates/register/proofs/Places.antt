-- Where a key stands in a rising list. Assumes nothing.
use Rattle.std.proofs.Common.{◌≡◌, ℕ, zero, suc, ◌-◌, ◌<◌, ◌≤◌, Bool, true, false, cond, eqb, leb, ltb, List, [], ◌∷◌, length, get_or, Some, None, Option, Result, Ok, Err, sym, refl, ap, ◌∙◌, ⊎_elim, arith}
use Rattle.std.specs.List.{slice_get}
use Rattle.std.specs.List.Sorted.{IsBinarySearchResult, IsPartitionPoint, IsPartitionedBy, IsSearchInRange}
use Rattle.std.specs.Ordering.{nat_cmp}
use Rattle.std.proofs.lemmas.Option.{slice_get-get_or}
use Rattle.std.proofs.lemmas.Cmp.{ranked}
use Rattle.std.proofs.lemmas.Bool.{ltb-true, ltb-false, cases_lt, ne_eqb, leb-true, leb-false, cond-false}
use Rattle.std.proofs.lemmas.Bool.Decides.{nat_tests}
use Rattle.register.specs.Rising.{Rising}
use Rattle.register.specs.Order.{first, spot, seek, Located}

-- the first that passes
pub first_within : {X : Type 0} (p : X → Bool) (xs : List X) → first p xs ≤ length xs
first_within p [] = omega arith
first_within p (x ∷ xs) = let h = first_within p xs in grind (arith, nat_tests)

not_yet : (b : Bool) (n : ℕ) → 0 < cond b 0 n → b ≡ false
not_yet true n h = absurd (omega arith)
not_yet false n h = refl

further : (b : Bool) (i n : ℕ) → suc i < cond b 0 (suc n) → i < n
further true i n h = absurd (omega arith)
further false i n h = omega arith

pub first_fails : {X : Type 0} (p : X → Bool) (xs : List X) (i : ℕ) (d : X) → i < first p xs → p (get_or xs i d) ≡ false
first_fails p [] i d h = absurd (omega arith)
first_fails p (x ∷ xs) zero d h = not_yet (p x) _ h
first_fails p (x ∷ xs) (suc i) d h = first_fails p xs i d (further (p x) i (first p xs) h)

pass_split : {X : Type 0} (p : X → Bool) (x : X) (xs : List X) (d : X) (f : ℕ) (b : Bool) → p x ≡ b → (f < length xs → p (get_or xs f d) ≡ true) → cond b 0 (suc f) < suc (length xs) → p (get_or (x ∷ xs) (cond b 0 (suc f)) d) ≡ true
pass_split p x xs d f true e k h = e
pass_split p x xs d f false e k h = k (omega arith)

pub first_passes : {X : Type 0} (p : X → Bool) (xs : List X) (d : X) → first p xs < length xs → p (get_or xs (first p xs) d) ≡ true
first_passes p [] d h = absurd (omega arith)
first_passes p (x ∷ xs) d h = pass_split p x xs d (first p xs) (p x) refl (first_passes p xs d) h

-- no key is above one after it
rises : {X : Type 0} (key : X → ℕ) (xs : List X) → Rising key xs → (i j : ℕ) (d : X) → i ≤ j → j < length xs → key (get_or xs i d) ≤ key (get_or xs j d)
rises key xs rise i j d h l = grind (arith, rise i j d, λ (e : i ≡ j). ap (λ a. key (get_or xs a d)) e)

-- the spot of a key splits the list
module _ {X : Type 0} (key : X → ℕ) (k : ℕ) (xs : List X) where
  pub spot_within : spot key k xs ≤ length xs
  spot_within = first_within (λ x. leb k (key x)) xs

  pub spot_below : (i : ℕ) (d : X) → i < spot key k xs → key (get_or xs i d) < k
  spot_below i d h = leb-false k (key (get_or xs i d)) (first_fails (λ x. leb k (key x)) xs i d h)

  pub spot_at : (d : X) → spot key k xs < length xs → k ≤ key (get_or xs (spot key k xs) d)
  spot_at d h = leb-true k (key (get_or xs (spot key k xs) d)) (first_passes (λ x. leb k (key x)) xs d h)

  module _ (rise : Rising key xs) where
    pub spot_above : (i : ℕ) (d : X) → spot key k xs < i → i < length xs → k < key (get_or xs i d)
    spot_above i d h l = omega (arith, spot_at d (omega arith), rise (spot key k xs) i d (h, l))

    pub spot_from : (i : ℕ) (d : X) → spot key k xs ≤ i → i < length xs → k ≤ key (get_or xs i d)
    spot_from i d h l = omega (arith, spot_at d (omega arith), rises key xs rise (spot key k xs) i d h l)

  split_at : (i : ℕ) (d : X) → i ≤ length xs → ((j : ℕ) (d : X) → j < i → key (get_or xs j d) < k) → ((j : ℕ) (d : X) → i ≤ j → j < length xs → k ≤ key (get_or xs j d)) → i ≡ spot key k xs
  split_at i d le low high = grind (arith, spot_within, spot_below i d, spot_at d, low (spot key k xs) d, high i d)

-- the rank that splits the keys below k from the others is the spot
split_is_spot : {X : Type 0} (key : X → ℕ) (k : ℕ) (xs : List X) (i : ℕ) → i ≤ length xs → ((j : ℕ) (d : X) → j < i → key (get_or xs j d) < k) → ((j : ℕ) (d : X) → i ≤ j → j < length xs → k ≤ key (get_or xs j d)) → i ≡ spot key k xs
split_is_spot key k [] i le low high = omega (arith, le)
split_is_spot key k (x ∷ xs) i le low high = split_at key k (x ∷ xs) i x le low high

-- a rank whose record has the key k is the spot of k
pub spot_is : {X : Type 0} (key : X → ℕ) (k : ℕ) (xs : List X) → Rising key xs → (i : ℕ) (d : X) → i < length xs → key (get_or xs i d) ≡ k → i ≡ spot key k xs
spot_is key k xs rise i d l e = grind (arith, spot_below key k xs i d, spot_above key k xs rise i d)

-- a key that stands nowhere
pub absent : {X : Type 0} (key : X → ℕ) (k : ℕ) (xs : List X) → ((i : ℕ) (d : X) → i < length xs → key (get_or xs i d) ≡ k → ⊥) → seek key k xs ≡ None
absent key k [] n = refl
absent key k (x ∷ xs) n =
    cond-false (eqb k (key x)) (Some x) (seek key k xs) (ne_eqb k (key x) (λ e. n 0 x (omega arith) (sym e)))
    ∙ absent key k xs (λ i d l e. n (suc i) d (omega arith) e)

-- in a rising list no record whose key is below k comes after one whose key is not
pub rising_parts : {X : Type 0} (key : X → ℕ) (k : ℕ) (xs : List X) → Rising key xs → IsPartitionedBy (λ x. ltb (key x) k) xs
rising_parts key k xs rise i j d h l e = let w = rises key xs rise i j d h l in grind (arith, nat_tests)

-- the rank where the library parts the keys below k from the others is the spot
pub parted : {X : Type 0} (key : X → ℕ) (k : ℕ) (xs : List X) (i : ℕ) → i ≤ length xs → IsPartitionPoint (λ x. ltb (key x) k ≡ true) (λ x. ltb (key x) k ≡ false) xs i → i ≡ spot key k xs
parted key k xs i l parts =
    split_is_spot key k xs i l
    (λ j d h. ltb-true (key (get_or xs j d)) k (parts.0 j d (omega arith) h))
    (λ j d h m. ltb-false (key (get_or xs j d)) k (parts.1 j d h m))

-- what the library's binary search for k says of a rising list
pub located : {X : Type 0} (key : X → ℕ) (k : ℕ) (xs : List X) → Rising key xs → (r : Result ℕ ℕ) → IsSearchInRange r (length xs) → IsBinarySearchResult (λ x. nat_cmp (key x) k) xs r → Located key k xs r
located key k [] rise (Ok i) l h = absurd (omega arith)
located key k (x ∷ xs) rise (Ok i) l h =
    let at = λ (d : _). ranked _ k _ (sym (h d)) in
    (l, at, spot_is key k (x ∷ xs) rise i x l (at x))
located key k xs rise (Err i) l h =
    let parts = h (λ a b d m n. let w = rises key xs rise a b d m n in grind (arith, nat_tests)) in
    let low : (j : ℕ) (d : _) → j < i → key (get_or xs j d) < k = λ j d m. ranked _ k _ (sym (parts.0 j d (omega arith) m)) in
    let high : (j : ℕ) (d : _) → i ≤ j → j < length xs → k < key (get_or xs j d) = λ j d m n. ranked _ k _ (sym (parts.1 j d m n)) in (
      l,
      split_is_spot key k xs i l low (λ j d m n. omega (arith, high j d m n)),
      absent key k xs (λ j d n e. ⊎_elim (λ m. omega (arith, low j d m)) (λ m. omega (arith, high j d m n)) (cases_lt j i)),
    )

-- a key above the last of a rising list has its place at the end
pub past_last : {X : Type 0} (key : X → ℕ) (k : ℕ) (xs : List X) → Rising key xs → (last : Option X) → last ≡ slice_get xs (length xs - 1) → ((y : X) → last ≡ Some y → key y < k) → Located key k xs (Err (length xs))
past_last key k xs rise last is below =
    let low : (j : ℕ) (d : _) → j < length xs → key (get_or xs j d) < k = λ j d m.
    let at = below (get_or xs (length xs - 1) d) (is ∙ slice_get-get_or xs (length xs - 1) d (omega arith)) in
    omega (arith, at, rises key xs rise j (length xs - 1) d (omega arith) (omega arith))
    in (
      omega arith,
      split_is_spot key k xs (length xs) (omega arith) low (λ j d m n. absurd (omega arith)),
      absent key k xs (λ j d n e. omega (arith, low j d n)),
    )
