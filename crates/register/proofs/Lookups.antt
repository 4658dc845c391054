-- What a look-up by key finds, before and after an edit. Assumes nothing.
use Rattle.std.proofs.Common.{◌≡◌, ℕ, zero, suc, ◌<◌, ◌≤◌, Bool, true, false, cond, eqb, List, [], ◌∷◌, length, get_or, set, Some, None, Option, Result, Ok, Err, sym, refl, ap, ◌∙◌, ⊎_elim, arith}
use Rattle.std.specs.List.{insert, remove, slice_get}
use Rattle.std.specs.Result.{result_ok}
use Rattle.std.proofs.lemmas.Option.{slice_get-get_or, slice_get_past}
use Rattle.std.proofs.lemmas.Bool.{cases_lt, eqb-true, eq-eqb, ne_eqb, cond-true, cond-false}
use Rattle.std.proofs.lemmas.List.{get_or_default}
use Rattle.std.proofs.lemmas.Bool.Decides.{nat_tests}
use Rattle.register.specs.Rising.{Rising}
use Rattle.register.specs.Order.{spot, seek, Located}
use Rattle.register.proofs.Places.{absent, spot_is}

none_parts : {X : Type 0} (b : Bool) (x : X) (o : Option X) → cond b (Some x) o ≡ None → (b ≡ false) × (o ≡ None)
none_parts true x o e = absurd cc
none_parts false x o e = (refl, e)

-- where a look-up finds nothing, no record has the key
pub seek_none : {X : Type 0} (key : X → ℕ) (k : ℕ) (xs : List X) → seek key k xs ≡ None → (i : ℕ) (d : X) → i < length xs → key (get_or xs i d) ≡ k → ⊥
seek_none key k [] n i d h e = omega arith
seek_none key k (x ∷ xs) n zero d h e = let f = (none_parts (eqb k (key x)) x (seek key k xs) n).0 in grind (arith, nat_tests)
seek_none key k (x ∷ xs) n (suc i) d h e = seek_none key k xs (none_parts (eqb k (key x)) x (seek key k xs) n).1 i d (omega arith) e

-- where there is a record at a rank
pub nth_some : {X : Type 0} (xs : List X) (i : ℕ) (y : X) → slice_get xs i ≡ Some y → (i < length xs) × ((d : X) → get_or xs i d ≡ y)
nth_some xs i y e =
    ⊎_elim
    (λ (l : i < length xs). (l, λ d. let w = slice_get-get_or xs i d l in cc))
    (λ (l : length xs ≤ i). let w = slice_get_past xs i l in absurd cc)
    (cases_lt i (length xs))

-- y stands in xs, and has the key k
record Stands {X : Type 0} (key : X → ℕ) (k : ℕ) (xs : List X) (y : X) : Type 0 where
  rank : ℕ
  lt : rank < length xs
  at : (d : X) → get_or xs rank d ≡ y
  keyed : key y ≡ k

stands_split : {X : Type 0} (key : X → ℕ) (k : ℕ) (x y : X) (xs : List X) (b : Bool) → eqb k (key x) ≡ b → (seek key k xs ≡ Some y → Stands key k xs y) → cond b (Some x) (seek key k xs) ≡ Some y → Stands key k (x ∷ xs) y
stands_split key k x y xs true b h e = let z : x ≡ y = cc in record { rank = 0; lt = omega arith; at = λ d. z; keyed = ap key (sym z) ∙ sym (eqb-true k (key x) b) }
stands_split key k x y xs false b h e = let r = h e in record { rank = suc r.rank; lt = omega (arith, r.lt); at = r.at; keyed = r.keyed }

-- what a look-up finds stands there
stands : {X : Type 0} (key : X → ℕ) (k : ℕ) (xs : List X) (y : X) → seek key k xs ≡ Some y → Stands key k xs y
stands key k [] y e = absurd cc
stands key k (x ∷ xs) y e = stands_split key k x y xs (eqb k (key x)) refl (stands key k xs y) e

pub seek_key : {X : Type 0} (key : X → ℕ) (k : ℕ) (xs : List X) (y : X) → seek key k xs ≡ Some y → key y ≡ k
seek_key key k xs y e = (stands key k xs y e).keyed

-- k stands at s and nowhere else
pub record Sole {X : Type 0} (key : X → ℕ) (k : ℕ) (xs : List X) (s : ℕ) : Type 0 where
  pub lt : s < length xs
  pub at : (d : X) → key (get_or xs s d) ≡ k
  pub only : (i : ℕ) (d : X) → i < length xs → key (get_or xs i d) ≡ k → i ≡ s

module _ {X : Type 0} (key : X → ℕ) (k : ℕ) where
  pub sole : (xs : List X) (s : ℕ) → Rising key xs → s < length xs → ((d : X) → key (get_or xs s d) ≡ k) → Sole key k xs s
  sole xs s rise l a = record {
    lt = l;
    at = a;
    only = λ i d m e. spot_is key k xs rise i d m e ∙ sym (spot_is key k xs rise s d l (a d));
  }

  -- the tail, where k is not at the head
  later : (x : X) (xs : List X) (s : ℕ) → Sole key k (x ∷ xs) (suc s) → Sole key k xs s
  later x xs s h = record {
    lt = omega (arith, h.lt);
    at = h.at;
    only = λ i d m e. omega (arith, h.only (suc i) d (omega arith) e);
  }

  not_head : (x : X) (xs : List X) (s : ℕ) → Sole key k (x ∷ xs) (suc s) → eqb k (key x) ≡ false
  not_head x xs s h = ne_eqb k (key x) (λ e. omega (arith, h.only 0 x (omega arith) (sym e)))

  not_tail : (x : X) (xs : List X) → Sole key k (x ∷ xs) 0 → seek key k xs ≡ None
  not_tail x xs h = absent key k xs (λ i d l e. omega (arith, h.only (suc i) d (omega arith) e))

  pub seek_sole : (xs : List X) (s : ℕ) → Sole key k xs s → (d : X) → seek key k xs ≡ Some (get_or xs s d)
  seek_sole [] s h d = absurd (omega (arith, h.lt))
  seek_sole (x ∷ xs) zero h d = cond-true (eqb k (key x)) (Some x) (seek key k xs) (eq-eqb k (key x) (sym (h.at x)))
  seek_sole (x ∷ xs) (suc s) h d = cond-false (eqb k (key x)) (Some x) (seek key k xs) (not_head x xs s h) ∙ seek_sole xs s (later x xs s h) d

-- a test for k before one for m, where k is not m ..
moved : {X : Type 0} (j k m : ℕ) (x y o : X) → eqb k m ≡ false → cond (eqb j m) x (cond (eqb j k) y o) ≡ cond (eqb j k) y (cond (eqb j m) x o)
moved j k m x y o e = grind (arith, nat_tests)

-- .. and where it is
gone : {X : Type 0} (j k m : ℕ) (x n o : X) → m ≡ k → (j ≡ k → o ≡ n) → o ≡ cond (eqb j k) n (cond (eqb j m) x o)
gone j k m x n o e f = grind (arith, nat_tests)

over : {X : Type 0} (j k m : ℕ) (x y o : X) → m ≡ k → cond (eqb j k) y o ≡ cond (eqb j k) y (cond (eqb j m) x o)
over j k m x y o e = grind (arith, nat_tests)

module _ {X : Type 0} (key : X → ℕ) where
  -- the record at a rank is found by its key
  pub seek_at : (k : ℕ) (xs : List X) → Rising key xs → (i : ℕ) (d : X) → i < length xs → key (get_or xs i d) ≡ k → seek key k xs ≡ Some (get_or xs i d)
  seek_at k xs rise i d l e = seek_sole key k xs i (sole key k xs i rise l (λ f. ap key (get_or_default xs i f d l) ∙ e)) d

  -- .. which is what `get` gives there
  pub seek_at_rank : (k : ℕ) (xs : List X) → Rising key xs → (i : ℕ) → i < length xs → ((d : X) → key (get_or xs i d) ≡ k) → seek key k xs ≡ slice_get xs i
  seek_at_rank k [] rise i l e = absurd (omega (arith, l))
  seek_at_rank k (x ∷ xs) rise i l e = seek_at k (x ∷ xs) rise i x l (e x) ∙ sym (slice_get-get_or (x ∷ xs) i x l)

  -- .. where a search stops
  pub seek_located : (k : ℕ) (xs : List X) → Rising key xs → (r : Result ℕ ℕ) → Located key k xs r → (i : ℕ) → result_ok r ≡ Some i → seek key k xs ≡ slice_get xs i
  seek_located k xs rise (Ok j) h i e = let z : j ≡ i = cc in seek_at_rank k xs rise j h.0 h.1 ∙ ap (slice_get xs) z
  seek_located k xs rise (Err j) h i e = cc

  -- what a look-up finds stands at the spot of its key
  pub seek_some : (k : ℕ) (xs : List X) → Rising key xs → (y : X) → seek key k xs ≡ Some y → (spot key k xs < length xs) × ((d : X) → get_or xs (spot key k xs) d ≡ y)
  seek_some k xs rise y e =
      let r = stands key k xs y e in
      let s : r.rank ≡ spot key k xs = spot_is key k xs rise r.rank y r.lt (ap key (r.at y) ∙ r.keyed) in
      (omega (arith, r.lt), λ d. ap (λ i. get_or xs i d) (sym s) ∙ r.at d)

  -- after an insertion
  pub seek_inserted : (y : X) (xs : List X) (s : ℕ) → seek key (key y) xs ≡ None → (j : ℕ) → seek key j (insert xs s y) ≡ cond (eqb j (key y)) (Some y) (seek key j xs)
  seek_inserted y [] zero n j = refl
  seek_inserted y [] (suc s) n j = refl
  seek_inserted y (x ∷ xs) zero n j = refl
  seek_inserted y (x ∷ xs) (suc s) n j =
      let p = none_parts (eqb (key y) (key x)) x (seek key (key y) xs) n in
      ap (λ o. cond (eqb j (key x)) (Some x) o) (seek_inserted y xs s p.1 j)
      ∙ moved j (key y) (key x) (Some x) (Some y) (seek key j xs) p.0

  -- after a removal
  pub seek_removed : (k : ℕ) (xs : List X) (s : ℕ) → Sole key k xs s → (j : ℕ) → seek key j (remove xs s) ≡ cond (eqb j k) None (seek key j xs)
  seek_removed k [] s h j = absurd (omega (arith, h.lt))
  seek_removed k (x ∷ xs) zero h j = gone j k (key x) (Some x) None (seek key j xs) (h.at x) (λ e. ap (λ i. seek key i xs) e ∙ not_tail key k x xs h)
  seek_removed k (x ∷ xs) (suc s) h j =
      ap (λ o. cond (eqb j (key x)) (Some x) o) (seek_removed k xs s (later key k x xs s h) j)
      ∙ moved j k (key x) (Some x) None (seek key j xs) (not_head key k x xs s h)

  -- after a record is replaced
  pub seek_set : (y : X) (xs : List X) (s : ℕ) → Sole key (key y) xs s → (j : ℕ) → seek key j (set xs s y) ≡ cond (eqb j (key y)) (Some y) (seek key j xs)
  seek_set y [] s h j = absurd (omega (arith, h.lt))
  seek_set y (x ∷ xs) zero h j = over j (key y) (key x) (Some x) (Some y) (seek key j xs) (h.at x)
  seek_set y (x ∷ xs) (suc s) h j =
      ap (λ o. cond (eqb j (key x)) (Some x) o) (seek_set y xs s (later key (key y) x xs s h) j)
      ∙ moved j (key y) (key x) (Some x) (Some y) (seek key j xs) (not_head key (key y) x xs s h)
