-- The first trouble on sources one after another. Assumes nothing.
use Rattle.std.proofs.Common.{◌≡◌, ℕ, ◌+◌, ◌<◌, List, [], ◌∷◌, ◌++◌, length, get_or, take, drop, Some, None, Option, Result, sym, refl, ap, ◌∙◌, subst, take-append-drop}
use Rattle.std.specs.List.{flat_map}
use Rattle.std.proofs.lemmas.List.{take_more, at_drop_more}
use Rattle.metering.specs.Sums.{or_else, first_in}
use Rattle.metering.specs.Trial.{Tried}
use Rattle.metering.proofs.Runs.{first_append, first_push}

module _ {X Y : Type 0} (f : X → Option Y) where
  -- no trouble on the front: that of the whole is that of the rest
  pub first_rest : (xs ys : List X) → first_in f xs ≡ None → first_in f (xs ++ ys) ≡ first_in f ys
  first_rest xs ys none = first_append f xs ys ∙ ap (λ o. or_else o (first_in f ys)) none

  -- trouble on the front is that of the whole
  pub first_front : (xs ys : List X) (y : Y) → first_in f xs ≡ Some y → first_in f (xs ++ ys) ≡ Some y
  first_front xs ys y some = first_append f xs ys ∙ ap (λ o. or_else o (first_in f ys)) some

  pub tried_rest : {T : Type 0} (r : Result T Y) (xs ys : List X) → first_in f xs ≡ None → Tried r (first_in f ys) → Tried r (first_in f (xs ++ ys))
  tried_rest r xs ys none t = subst (Tried r) (sym (first_rest xs ys none)) t

  -- one more of a list
  pub first_take : (xs : List X) (i : ℕ) (d : X) → i < length xs → first_in f (take i xs) ≡ None → f (get_or xs i d) ≡ None → first_in f (take (i + 1) xs) ≡ None
  first_take xs i d lt none here = ap (first_in f) (take_more xs i d lt) ∙ first_push f (take i xs) (get_or xs i d) ∙ ap (λ o. or_else o (f (get_or xs i d))) none ∙ here

  pub first_at : (xs ys : List X) (i : ℕ) (d : X) (y : Y) → i < length xs → first_in f (take i xs) ≡ None → f (get_or xs i d) ≡ Some y → first_in f (xs ++ ys) ≡ Some y
  first_at xs ys i d y lt none here =
      let e : first_in f (drop i xs) ≡ Some y = at_drop_more (first_in f) xs i d lt ∙ ap (λ o. or_else o (first_in f (drop (i + 1) xs))) here in
      first_front xs ys y (ap (first_in f) (sym (take-append-drop i xs)) ∙ first_rest (take i xs) (drop i xs) none ∙ e)

  -- lists one after another
  pub first_joined : {D : Type 0} (g : D → List X) (ds : List D) → first_in f (flat_map g ds) ≡ first_in (λ d. first_in f (g d)) ds
  first_joined g [] = refl
  first_joined g (d ∷ ds) = first_append f (g d) (flat_map g ds) ∙ ap (or_else (first_in f (g d))) (first_joined g ds)
