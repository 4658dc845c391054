-- The law of the choice, by one day more at a time. Assumes nothing.
use Rattle.std.proofs.Common.{◌≡◌, ℕ, zero, suc, ◌<◌, ◌≤◌, Bool, true, false, ◌⊎◌, List, [], ◌∷◌, sym, refl, ap, inl, inr, ⊎_elim, eq-or-lt_of_le, arith}
use Rattle.std.specs.List.{ContainsAt as Has, AllByRecursion}
use Rattle.std.proofs.ByRecursion.{All-weaker, has_append_right}
use Rattle.std.proofs.lemmas.Bool.{cases_Bool, lt-ltb}
use Rattle.choice.specs.Choice.{chosen}
use Rattle.choice.specs.Claims.{matching_between, WellChosen, ChoiceLaw}

here_or_earlier : (x d : ℕ) → x < suc d → (x ≡ d) ⊎ (x < d)
here_or_earlier x d h = let l : x ≤ d = omega arith in eq-or-lt_of_le l

has_here : (d x : ℕ) (days : List ℕ) → x ≡ d → Has (d ∷ days) x
has_here d x days s = (0, omega arith, λ _. sym s)

module _ (p e : ℕ → Bool) where
  between_other : (x d : ℕ) → p d ≡ false → matching_between p x (suc d) ≡ matching_between p x d
  between_other x d no-match = simp no-match

  between_match : (x d : ℕ) → p d ≡ true → x < d → matching_between p x (suc d) ≡ suc (matching_between p x d)
  between_match x d match later = let t = lt-ltb x d later in simp (match, t)

  later_day : (d : ℕ) (days : List ℕ) → AllByRecursion (λ x. (x < d) × (p x ≡ true) × (e x ≡ false)) days → AllByRecursion (λ x. (x < suc d) × (p x ≡ true) × (e x ≡ false)) days
  later_day d days = All-weaker (λ x. (x < d) × (p x ≡ true) × (e x ≡ false)) (λ x. (x < suc d) × (p x ≡ true) × (e x ≡ false)) (λ x h. (omega (arith, h.0), h.1, h.2)) days

  well_none : (want span d : ℕ) → ((x : ℕ) → x < d → matching_between p x d < span → 0 ≡ want) → WellChosen p e want span d []
  well_none want span d h = record { fit = tt; down = tt; few = omega arith; whole = λ x l m u b. inr (h x l b, tt) }

  well_other : {want span d : ℕ} {days : List ℕ} → p d ≡ false → WellChosen p e want span d days → WellChosen p e want span (suc d) days
  well_other {want} {span} {d} {days} no-match w = record {
    fit = later_day d days w.fit;
    down = w.down;
    few = w.few;
    whole = λ x l m u b. elim (here_or_earlier x d l) [
      | inl s ↦ cc
      | inr earlier ↦ w.whole x earlier m u (omega (arith, b, between_other x d no-match))
    ];
  }

  well_skipped : {want span d : ℕ} {days : List ℕ} → p d ≡ true → e d ≡ true → WellChosen p e want span d days → WellChosen p e want (suc span) (suc d) days
  well_skipped {want} {span} {d} {days} match pass w = record {
    fit = later_day d days w.fit;
    down = w.down;
    few = w.few;
    whole = λ x l m u b. elim (here_or_earlier x d l) [
      | inl s ↦ cc
      | inr earlier ↦ w.whole x earlier m u (omega (arith, b, between_match x d match earlier))
    ];
  }

  well_taken : {want span d : ℕ} {days : List ℕ} → p d ≡ true → e d ≡ false → WellChosen p e want span d days → WellChosen p e (suc want) (suc span) (suc d) (d ∷ days)
  well_taken {want} {span} {d} {days} match pass w = record {
    fit = ((omega arith, match, pass), later_day d days w.fit);
    down = (All-weaker (λ x. (x < d) × (p x ≡ true) × (e x ≡ false)) (λ x. x < d) (λ x h. h.0) days w.fit, w.down);
    few = omega (arith, w.few);
    whole = λ x l m u b. elim (here_or_earlier x d l) [
      | inl s ↦ inl (has_here d x days s)
      | inr earlier ↦ ⊎_elim (λ h. inl (has_append_right (d ∷ []) days x h)) (λ h. inr (ap suc h.0, (earlier, h.1)))
          (w.whole x earlier m u (omega (arith, b, between_match x d match earlier)))
    ];
  }

  -- a matching day more
  well_matched : (d : ℕ) → p d ≡ true → ((want span : ℕ) → WellChosen p e want span d (chosen p e want span d)) → (want span : ℕ) → WellChosen p e want span (suc d) (chosen p e want span (suc d))
  unfolding chosen
  well_matched d match below zero span = well_none zero span (suc d) (λ x l b. refl)
  well_matched d match below (suc want) zero = well_none (suc want) zero (suc d) (λ x l b. omega arith)
  well_matched d match below (suc want) (suc span) = elim (cases_Bool (e d)) [
    | inl pass ↦ simp (match, pass) (well_skipped match pass (below (suc want) span))
    | inr pass ↦ simp (match, pass) (well_taken match pass (below want span))
  ]

  well : (d want span : ℕ) → WellChosen p e want span d (chosen p e want span d)
  unfolding chosen
  well zero zero span = well_none zero span zero (λ x l b. refl)
  well zero (suc want) zero = well_none (suc want) zero zero (λ x l b. omega arith)
  well zero (suc want) (suc span) = well_none (suc want) (suc span) zero (λ x l b. omega arith)
  well (suc d) want span = elim (cases_Bool (p d)) [
    | inl match ↦ well_matched d match (well d) want span
    | inr no-match ↦ simp no-match (well_other no-match (well d want span))
  ]

pub law : ChoiceLaw
law p e want span d = well p e d want span
