-- Sources without trouble keep every energy of a line within its limits. Assumes nothing.
use Rattle.std.proofs.Common.{◌≡◌, ℕ, ◌+◌, ◌-◌, ◌*◌, ◌<◌, ◌≤◌, Bool, true, false, cond, leb, List, [], ◌∷◌, ◌++◌, length, Some, None, sum_by, Option, sym, refl, ◌∙◌, subst, mul_assoc, mul_comm, arith, leb-true}
use Rattle.std.specs.List.{All, range_with_len}
use Rattle.std.proofs.lemmas.List.Elements.{All-nil, All-cons, All-weaker}
use Rattle.std.proofs.lemmas.List.FromFn.{length-range_with_len, get_or-range_with_len}
use Rattle.std.proofs.lemmas.List.Sums.{sum_by-le}
use Rattle.method.specs.Energy.{Sound}
use Rattle.metering.specs.Sums.{or_else, first_in}
use Rattle.metering.specs.declared.SourceFault.{SourceFault}
use Rattle.metering.specs.Energy.{Meters, energy_at, missing_at, trouble_at, places}
use Rattle.metering.proofs.Runs.{first_append}
use Rattle.settlement.proofs.Sources.{first_joined}
use Rattle.settlement.specs.Lines.{Terms, chosen_days, day_sources, trouble, used, v_of, w_of, a_of, Usable}

-- neither of two is some
or_parts : {Y : Type 0} (o p : Option Y) → or_else o p ≡ None → (o ≡ None) × (p ≡ None)
or_parts None p e = (refl, e)
or_parts (Some y) p e = cc

module _ {X Y : Type 0} (f : X → Option Y) where
  -- no trouble on a list: none with any of it, and none on a part
  none_all : (xs : List X) → first_in f xs ≡ None → All (λ x. f x ≡ None) xs
  none_all [] e = All-nil (λ x. f x ≡ None)
  none_all (x ∷ xs) e = let p = or_parts (f x) (first_in f xs) e in All-cons (λ x. f x ≡ None) x xs p.0 (none_all xs p.1)

  none_parts : (xs ys : List X) → first_in f (xs ++ ys) ≡ None → (first_in f xs ≡ None) × (first_in f ys ≡ None)
  none_parts xs ys e = or_parts (first_in f xs) (first_in f ys) (sym (first_append f xs ys) ∙ e)

kept_below : (b : Bool) (n : ℕ) (f : SourceFault) → leb n 5000 ≡ b → cond b None (Some f) ≡ None → n ≤ 5000
kept_below true n f e h = leb-true n 5000 e
kept_below false n f e h = cc

module _ (r : Meters) where
  low : (q : ℕ) → trouble_at r q ≡ None → energy_at r q ≤ 5000
  low q e = let p = or_parts (missing_at r q) _ e in kept_below (leb (energy_at r q) 5000) (energy_at r q) _ refl p.1

  -- a stretch without trouble, and each place of it
  stretch_low : (a n : ℕ) → first_in (trouble_at r) (range_with_len a n) ≡ None → sum_by (energy_at r) (range_with_len a n) ≤ n * 5000
  stretch_low a n e =
      let most = sum_by-le (energy_at r) 5000 (range_with_len a n) (All-weaker _ _ low (range_with_len a n) (none_all (trouble_at r) (range_with_len a n) e)) in
      omega (arith, most, length-range_with_len a n)

  place_low : (a n i q : ℕ) → i < n → a + i ≡ q → first_in (trouble_at r) (range_with_len a n) ≡ None → energy_at r q ≤ 5000
  place_low a n i q h at e =
      let here = none_all (trouble_at r) (range_with_len a n) e i 0 (omega (arith, h, length-range_with_len a n)) in
      low q (subst (λ p. trouble_at r p ≡ None) (get_or-range_with_len a n i 0 h ∙ at) here)

  module _ (x : Terms) (none : trouble r x ≡ None) where
    abbrev Free : ℕ → Type 0
    Free d = first_in (trouble_at r) (day_sources x d) ≡ None

    days_free : first_in (λ d. first_in (trouble_at r) (day_sources x d)) (x.days ++ (x.day ∷ [])) ≡ None
    days_free = sym (first_joined (trouble_at r) (day_sources x) (x.days ++ (x.day ∷ []))) ∙ none

    before_free : All Free x.days
    before_free = none_all _ x.days (none_parts _ x.days (x.day ∷ []) days_free).0

    day_free : Free x.day
    day_free = (or_parts _ None (none_parts _ x.days (x.day ∷ []) days_free).1).0

    window_low : (d : ℕ) → Free d → used r x x.window x.width d ≤ x.width * 5000
    window_low d e = stretch_low _ x.width (none_parts (trouble_at r) (places x.intervals d x.window x.width) (places x.intervals d x.start x.count) e).0

    -- the energies of each line of the event are within their limits
    module _ (hn : 0 < chosen_days x) (hm : 0 < x.width) (i : ℕ) (from : x.start ≤ i) (below : i < x.start + x.count) where
      interval_low : (d : ℕ) → Free d → energy_at r (d * x.intervals + i) ≤ 5000
      interval_low d e =
          place_low (d * x.intervals + x.start) x.count (i - x.start) _ (omega (arith, from, below)) (omega (arith, from))
          (none_parts (trouble_at r) (places x.intervals d x.window x.width) (places x.intervals d x.start x.count) e).1

      sound : Sound (v_of r x i) (w_of r x) (a_of r x) (chosen_days x) x.width
      sound =
          let n = length x.days in
          let m = x.width in
          let v = sum_by-le (used r x i 1) 5000 x.days (All-weaker Free (λ d. used r x i 1 d ≤ 5000) (λ d e. omega (arith, interval_low d e)) x.days before_free) in
          let w = sum_by-le (used r x x.window m) (m * 5000) x.days (All-weaker Free (λ d. used r x x.window m d ≤ m * 5000) window_low x.days before_free) in
          let k : n * (m * 5000) ≡ 5000 * (n * m) = sym (mul_assoc n m 5000) ∙ mul_comm (n * m) 5000 in
          record {
            days = hn;
            intervals = hm;
            interval = omega (arith, v);
            window = omega (arith, w, k);
            event = omega (arith, window_low x.day day_free);
          }

      pub usable : Usable r x i
      usable = record { sound = sound; low = interval_low x.day day_free }
