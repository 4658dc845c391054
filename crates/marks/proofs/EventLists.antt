-- The events of a book, in the order of their first places. Assumes nothing.
use Rattle.std.proofs.Common.{◌≡◌, ℕ, zero, suc, ◌+◌, ◌-◌, ◌*◌, ◌%◌, ◌<◌, ◌≤◌, Bool, true, false, cond, not, ◌&&◌, eqb, ltb, leb, List, [], ◌∷◌, length, get_or, is_some, Some, None, filter, Option, sym, refl, ap, ◌∙◌, subst, ⊎_elim, arith}
use Rattle.std.specs.List.{slice_get, insert, remove}
use Rattle.std.proofs.lemmas.Option.{slice_get-get_or}
use Rattle.std.proofs.lemmas.List.Edits.{length-insert, get_or-insert_below, get_or-insert_at, get_or-insert_above, length-remove, get_or-remove_below, get_or-remove_above}
use Rattle.std.proofs.lemmas.List.{get_or_default}
use Rattle.std.proofs.lemmas.Bool.{cases_lt, cases_order, cases_Bool, both_ways, or_left, or_right, or_from, or_parts, and_from, and_parts, and_left, and_right, eqb-true, eqb-false, eq-eqb, ne_eqb, ltb-true, ltb-false, lt-ltb, le-ltb, leb-true, le-leb, lt-leb, cond-true, cond-false, not-false, not_from_false}
use Rattle.calendar.specs.declared.Resolution.{Resolution}
use Rattle.calendar.specs.declared.Resolution.TheVariants.{HalfHours, FiveMinutes}
use Rattle.calendar.specs.Days.{intervals_of, hour_of}
use Rattle.register.specs.Rising.{Rising}
use Rattle.register.specs.Order.{seek, spot}
use Rattle.register.proofs.Places.{spot_below, spot_from, spot_within, absent}
use Rattle.register.proofs.Lookups.{nth_some, seek_some, seek_key}
use Rattle.marks.specs.declared.Event.{Event}
use Rattle.marks.specs.Keys.{event_key}
use Rattle.marks.specs.Events.{end_of, day_in, well_placed, in_book, Placed, Apart}
use Rattle.marks.specs.Marked.{some_of, event_day, overlapping, starts_before, ends_after, open_event, closely_before, leads, last_of, lead_of, LeadRank}

-- ---- some of a list

pub some_true : {X : Type 0} (p : X → Bool) (xs : List X) (i : ℕ) (d : X) → i < length xs → p (get_or xs i d) ≡ true → some_of p xs ≡ true
some_true p [] i d l e = absurd (omega arith)
some_true p (x ∷ xs) zero d l e = or_left (p x) (some_of p xs) e
some_true p (x ∷ xs) (suc i) d l e = or_right (p x) (some_of p xs) (some_true p xs i d (omega arith) e)

pub some_false : {X : Type 0} (p : X → Bool) (xs : List X) → ((i : ℕ) (d : X) → i < length xs → p (get_or xs i d) ≡ false) → some_of p xs ≡ false
some_false p [] n = refl
some_false p (x ∷ xs) n = or_from (p x) (some_of p xs) (n 0 x (omega arith)) (some_false p xs (λ i d l. n (suc i) d (omega arith)))

pub some_none : {X : Type 0} (p : X → Bool) (xs : List X) → some_of p xs ≡ false → (i : ℕ) (d : X) → i < length xs → p (get_or xs i d) ≡ false
some_none p [] n i d l = absurd (omega arith)
some_none p (x ∷ xs) n zero d l = (or_parts (p x) (some_of p xs) n).0
some_none p (x ∷ xs) n (suc i) d l = some_none p xs (or_parts (p x) (some_of p xs) n).1 i d (omega arith)

-- ---- what holds of each, or of each two, after an edit

module _ {X : Type 0} (xs : List X) (s : ℕ) where
  module _ (x : X) (le : s ≤ length xs) where
    in_above : (i : ℕ) (d : X) → s < i → get_or (insert xs s x) i d ≡ get_or xs (i - 1) d
    in_above i d h = let e : i ≡ (i - 1) + 1 = omega arith in ap (λ j. get_or (insert xs s x) j d) e ∙ get_or-insert_above xs s x d (i - 1) (omega arith) le

    in_at : (i : ℕ) (d : X) → i ≡ s → get_or (insert xs s x) i d ≡ x
    in_at i d e = ap (λ j. get_or (insert xs s x) j d) e ∙ get_or-insert_at xs s x d le

    pub each_inserted : (P : X → Type 0) → ((i : ℕ) (d : X) → i < length xs → P (get_or xs i d)) → P x → (i : ℕ) (d : X) → i < length (insert xs s x) → P (get_or (insert xs s x) i d)
    each_inserted P all one i d l =
        let n = length-insert xs s x le in
        ⊎_elim
        (λ (e : i ≡ s). subst P (sym (in_at i d e)) one)
        (⊎_elim
        (λ (m : i < s). subst P (sym (get_or-insert_below xs s x d i m le)) (all i d (omega arith)))
        (λ (m : s < i). subst P (sym (in_above i d m)) (all (i - 1) d (omega arith))))
        (cases_order i s)

    module _ (R : X → X → Type 0) (all : (i j : ℕ) (d : X) → (i < j) × (j < length xs) → R (get_or xs i d) (get_or xs j d)) (low : (i : ℕ) (d : X) → i < s → R (get_or xs i d) x) (high : (j : ℕ) (d : X) → s ≤ j → j < length xs → R x (get_or xs j d)) where
      below_with : (i j : ℕ) (d : X) → i < j → j < length xs + 1 → i < s → R (get_or xs i d) (get_or (insert xs s x) j d)
      below_with i j d h l m =
          let P : X → Type 0 = λ y. R (get_or xs i d) y in
          ⊎_elim
          (λ (e : j ≡ s). subst P (sym (in_at j d e)) (low i d m))
          (⊎_elim
          (λ (k : j < s). subst P (sym (get_or-insert_below xs s x d j k le)) (all i j d (h, omega arith)))
          (λ (k : s < j). subst P (sym (in_above j d k)) (all i (j - 1) d (omega arith, omega arith))))
          (cases_order j s)

      pub pairs_inserted : (i j : ℕ) (d : X) → (i < j) × (j < length (insert xs s x)) → R (get_or (insert xs s x) i d) (get_or (insert xs s x) j d)
      pairs_inserted i j d (h, l) =
          let n = length-insert xs s x le in
          let P : X → Type 0 = λ y. R y (get_or (insert xs s x) j d) in
          ⊎_elim
          (λ (e : i ≡ s). subst P (sym (in_at i d e)) (subst (λ y. R x y) (sym (in_above j d (omega arith))) (high (j - 1) d (omega arith) (omega arith))))
          (⊎_elim
          (λ (m : i < s). subst P (sym (get_or-insert_below xs s x d i m le)) (below_with i j d h (omega arith) m))
          (λ (m : s < i). subst P (sym (in_above i d m)) (subst (λ y. R (get_or xs (i - 1) d) y) (sym (in_above j d (omega arith))) (all (i - 1) (j - 1) d (omega arith, omega arith)))))
          (cases_order i s)

  module _ (lt : s < length xs) where
    pub each_removed : (P : X → Type 0) → ((i : ℕ) (d : X) → i < length xs → P (get_or xs i d)) → (i : ℕ) (d : X) → i < length (remove xs s) → P (get_or (remove xs s) i d)
    each_removed P all i d l =
        let n = length-remove xs s lt in
        ⊎_elim
        (λ (m : i < s). subst P (sym (get_or-remove_below xs s d i m lt)) (all i d (omega arith)))
        (λ (m : s ≤ i). subst P (sym (get_or-remove_above xs s d i m lt)) (all (i + 1) d (omega arith)))
        (cases_lt i s)

    pub pairs_removed : (R : X → X → Type 0) → ((i j : ℕ) (d : X) → (i < j) × (j < length xs) → R (get_or xs i d) (get_or xs j d)) → (i j : ℕ) (d : X) → (i < j) × (j < length (remove xs s)) → R (get_or (remove xs s) i d) (get_or (remove xs s) j d)
    pairs_removed R all i j d (h, l) =
        let n = length-remove xs s lt in
        ⊎_elim
        (λ (m : j < s). subst (λ y. R y (get_or (remove xs s) j d)) (sym (get_or-remove_below xs s d i (omega arith) lt)) (subst (λ y. R (get_or xs i d) y) (sym (get_or-remove_below xs s d j m lt)) (all i j d (h, omega arith))))
        (λ (m : s ≤ j).
        ⊎_elim
        (λ (k : i < s). subst (λ y. R y (get_or (remove xs s) j d)) (sym (get_or-remove_below xs s d i k lt)) (subst (λ y. R (get_or xs i d) y) (sym (get_or-remove_above xs s d j m lt)) (all i (j + 1) d (omega arith, omega arith))))
        (λ (k : s ≤ i). subst (λ y. R y (get_or (remove xs s) j d)) (sym (get_or-remove_above xs s d i k lt)) (subst (λ y. R (get_or xs (i + 1) d) y) (sym (get_or-remove_above xs s d j m lt)) (all (i + 1) (j + 1) d (omega arith, omega arith))))
        (cases_lt i s))
        (cases_lt j s)

-- ---- days and places

pub day_rises : (r : Resolution) (a b : ℕ) → a ≤ b → day_in r a ≤ day_in r b
day_rises HalfHours a b h = omega arith
day_rises FiveMinutes a b h = omega arith

pub day_below : (r : Resolution) (a d : ℕ) → a < d * intervals_of r → day_in r a < d
day_below HalfHours a d h = omega arith
day_below FiveMinutes a d h = omega arith

pub day_from : (r : Resolution) (a d : ℕ) → d * intervals_of r ≤ a → d ≤ day_in r a
day_from HalfHours a d h = omega arith
day_from FiveMinutes a d h = omega arith

-- ---- whether a day has an event, by the first event from its start on

nth_none : {X : Type 0} (xs : List X) (i : ℕ) → slice_get xs i ≡ None → length xs ≤ i
nth_none xs i e =
    ⊎_elim
    (λ (l : i < length xs). absurd (hit xs i e l))
    (λ l. l)
    (cases_lt i (length xs))
  where
    hit : {X : Type 0} (xs : List X) (i : ℕ) → slice_get xs i ≡ None → i < length xs → ⊥
    hit [] i e l = omega arith
    hit (x ∷ xs) zero e l = let z : ◌≡◌ {A = ℕ} 0 1 = cc in omega arith
    hit (x ∷ xs) (suc i) e l = hit xs i e (omega arith)

-- an event, where there is one, is on the day d
abbrev pub on_day : Resolution → ℕ → Option Event → Bool
on_day r d None = false
on_day r d (Some e) = eqb (day_in r e.first) d

module _ (r : Resolution) (es : List Event) (rise : Rising event_key es) (d i : ℕ) (at : i ≡ spot event_key (d * intervals_of r) es) where
  abbrev on : Event → Bool
  on e = eqb (day_in r e.first) d

  early : (j : ℕ) (f : Event) → j < i → on (get_or es j f) ≡ false
  early j f h =
      let b = spot_below event_key (d * intervals_of r) es j f (omega arith) in
      let g = day_below r (get_or es j f).first d b in
      ne_eqb (day_in r (get_or es j f).first) d (λ q. omega arith)

  day_none : slice_get es i ≡ None → event_day r es d ≡ false
  day_none n = let l = nth_none es i n in some_false on es (λ j f h. early j f (omega arith))

  later : (e : Event) → slice_get es i ≡ Some e → on e ≡ false → (j : ℕ) (f : Event) → i ≤ j → j < length es → on (get_or es j f) ≡ false
  later e n no' j f h l =
      let s = nth_some es i e n in
      let w : (get_or es i f).first ≡ e.first = ap event_key (s.1 f) in
      let k : d * intervals_of r ≤ (get_or es i f).first = spot_from event_key (d * intervals_of r) es rise i f (omega arith) s.0 in
      let a = day_from r e.first d (omega arith) in
      let up : e.first ≤ (get_or es j f).first = ⊎_elim (λ (m : i < j). omega (arith, rise i j f (m, l))) (λ (m : j ≤ i). let q : i ≡ j = omega arith in let v = ap (λ x. (get_or es x f).first) q in omega arith) (cases_lt i j) in
      let b = day_rises r e.first (get_or es j f).first up in
      let c = eqb-false (day_in r e.first) d no' in
      ne_eqb (day_in r (get_or es j f).first) d (λ q. c (omega arith))

  day_some : (e : Event) → slice_get es i ≡ Some e → event_day r es d ≡ on e
  day_some e n =
      let s = nth_some es i e n in
      ⊎_elim
      (λ (y : on e ≡ true). some_true on es i e s.0 (ap on (s.1 e) ∙ y) ∙ sym y)
      (λ (y : on e ≡ false). some_false on es (λ j f l. ⊎_elim (λ (m : j < i). early j f m) (λ (m : i ≤ j). later e n y j f m l) (cases_lt j i)) ∙ sym y)
      (cases_Bool (on e))

  pub day_told : (o : Option Event) → slice_get es i ≡ o → event_day r es d ≡ on_day r d o
  day_told None n = day_none n
  day_told (Some e) n = day_some e n

-- ---- whether an event overlaps another, by its neighbours

-- where an event lies in a book
within : (r : Resolution) (days f n : ℕ) → days ≤ 4096 → day_in r f < days → f % intervals_of r + n ≤ intervals_of r → f + n ≤ 1179648
within HalfHours days f n h k l = omega arith
within FiveMinutes days f n h k l = omega arith

module _ (r : Resolution) (days f n : ℕ) (fit : days ≤ 4096) (on : day_in r f < days) (ok : well_placed r f n ≡ true) where
  pub has_interval : 1 ≤ n
  has_interval = leb-true 1 n (and_parts (leb 1 n) _ ok).0

  pub ends_in_book : f + n ≤ 1179648
  ends_in_book =
      let q = (and_parts (leb 1 n) _ ok).1 in
      within r days f n fit on (leb-true (f % intervals_of r + n) (intervals_of r) (and_parts (leb (4 * hour_of r) (f % intervals_of r)) _ q).1)

module _ (r : Resolution) (days : ℕ) (fit : days ≤ 4096) (es : List Event) (rise : Rising event_key es) (placed : Placed r days es) (apart : Apart es) where
  parts : (i : ℕ) (d : Event) → i < length es → (day_in r (get_or es i d).first < days) × (well_placed r (get_or es i d).first (get_or es i d).count ≡ true)
  parts i d l =
      let p = and_parts (ltb (day_in r (get_or es i d).first) days) _ (placed i d l) in
      (ltb-true (day_in r (get_or es i d).first) days p.0, p.1)

  long : (i : ℕ) (d : Event) → i < length es → 1 ≤ (get_or es i d).count
  long i d l = has_interval r days (get_or es i d).first (get_or es i d).count fit (parts i d l).0 (parts i d l).1

  pub ends : (i : ℕ) (d : Event) → i < length es → end_of (get_or es i d) ≤ 1179648
  ends i d l = ends_in_book r days (get_or es i d).first (get_or es i d).count fit (parts i d l).0 (parts i d l).1

  pub nth_ends : (i : ℕ) (e : Event) → slice_get es i ≡ Some e → end_of e ≤ 1179648
  nth_ends i e n = let s = nth_some es i e n in let w = ap end_of (s.1 e) in omega (arith, ends i e s.0)

  module _ (f n i : ℕ) (at : i ≡ spot event_key f es) where
    from : (j : ℕ) (d : Event) → i ≤ j → j < length es → f ≤ (get_or es j d).first
    from j d h l = spot_from event_key f es rise j d (omega arith) l

    before : (j : ℕ) (d : Event) → j < i → (get_or es j d).first < f
    before j d h = spot_below event_key f es j d (omega arith)

    both : (e : Event) → e.first < f + n → f < end_of e → overlapping f n e ≡ true
    both e h k = and_from (ltb e.first (f + n)) (ltb f (end_of e)) (lt-ltb e.first (f + n) h) (lt-ltb f (end_of e) k)

    -- room after and before the spot
    abbrev ClearAfter : Type 0
    ClearAfter = (j : ℕ) (d : Event) → i ≤ j → j < length es → f + n ≤ (get_or es j d).first

    abbrev ClearBefore : Type 0
    ClearBefore = (j : ℕ) (d : Event) → j < i → end_of (get_or es j d) ≤ f

    clear : ClearAfter → ClearBefore → some_of (overlapping f n) es ≡ false
    clear after' before' = some_false (overlapping f n) es (λ j d l.
        ⊎_elim
        (λ (m : j < i). and_right (ltb (get_or es j d).first (f + n)) (ltb f (end_of (get_or es j d))) (le-ltb f (end_of (get_or es j d)) (before' j d m)))
        (λ (m : i ≤ j). and_left (ltb (get_or es j d).first (f + n)) (ltb f (end_of (get_or es j d))) (le-ltb (get_or es j d).first (f + n) (after' j d m l)))
        (cases_lt j i))

    -- the event from the spot on
    next_meets : (o : Option Event) → slice_get es i ≡ o → starts_before (f + n) o ≡ true → some_of (overlapping f n) es ≡ true
    next_meets None q h = absurd cc
    next_meets (Some e) q h =
        let s = nth_some es i e q in
        let w = s.1 e in
        let a : e.first ≡ (get_or es i e).first = ap event_key (sym w) in
        let b : e.count ≡ (get_or es i e).count = ap (λ (x : Event). x.count) (sym w) in
        let c = from i e (omega arith) s.0 in
        let l = long i e s.0 in
        some_true (overlapping f n) es i e s.0 (ap (overlapping f n) w ∙ both e (ltb-true e.first (f + n) h) (omega arith))

    next_clear : (o : Option Event) → slice_get es i ≡ o → starts_before (f + n) o ≡ false → ClearAfter
    next_clear None q h j d k l = absurd (omega (arith, nth_none es i q))
    next_clear (Some e) q h j d k l =
        let s = nth_some es i e q in
        let t = ltb-false e.first (f + n) h in
        let w : (get_or es i d).first ≡ e.first = ap event_key (s.1 d) in
        ⊎_elim
        (λ (m : i < j). omega (arith, rise i j d (m, l)))
        (λ (m : j ≤ i). let p : i ≡ j = omega arith in let v = ap (λ x. (get_or es x d).first) p in omega arith)
        (cases_lt i j)

    -- the event before the spot
    last_meets : (o : Option Event) → 0 < i → slice_get es (i - 1) ≡ o → ends_after f o ≡ true → some_of (overlapping f n) es ≡ true
    last_meets None z q h = let y : ◌≡◌ {A = ℕ} 0 1 = cc in absurd (omega arith)
    last_meets (Some e) z q h =
        let s = nth_some es (i - 1) e q in
        let w = s.1 e in
        let a : e.first ≡ (get_or es (i - 1) e).first = ap event_key (sym w) in
        let c = before (i - 1) e (omega arith) in
        some_true (overlapping f n) es (i - 1) e s.0 (ap (overlapping f n) w ∙ both e (omega arith) (ltb-true f (end_of e) h))

    last_clear : (o : Option Event) → i ≤ length es → 0 < i → slice_get es (i - 1) ≡ o → ends_after f o ≡ false → ClearBefore
    last_clear None le z q h j d k = absurd (omega (arith, nth_none es (i - 1) q))
    last_clear (Some e) le z q h j d k =
        let s = nth_some es (i - 1) e q in
        let t = ltb-false f (end_of e) h in
        let w : end_of (get_or es (i - 1) d) ≡ end_of e = ap end_of (s.1 d) in
        let v : (get_or es (i - 1) d).first ≡ e.first = ap event_key (s.1 d) in
        ⊎_elim
        (λ (m : j < i - 1). omega (arith, apart j (i - 1) d (m, s.0)))
        (λ (m : i - 1 ≤ j). let p : i - 1 ≡ j = omega arith in let u = ap (λ x. end_of (get_or es x d)) p in omega arith)
        (cases_lt j (i - 1))

    -- the two decide for all
    pub meets_next : starts_before (f + n) (slice_get es i) ≡ true → some_of (overlapping f n) es ≡ true
    meets_next h = next_meets (slice_get es i) refl h

    pub meets_none : starts_before (f + n) (slice_get es i) ≡ false → i ≡ 0 → some_of (overlapping f n) es ≡ false
    meets_none h z = clear (next_clear (slice_get es i) refl h) (λ j d k. absurd (omega arith))

    pub meets_last : starts_before (f + n) (slice_get es i) ≡ false → 0 < i → i ≤ length es → some_of (overlapping f n) es ≡ ends_after f (slice_get es (i - 1))
    meets_last h z le =
        ⊎_elim
        (λ (y : ends_after f (slice_get es (i - 1)) ≡ true). last_meets (slice_get es (i - 1)) z refl y ∙ sym y)
        (λ (y : ends_after f (slice_get es (i - 1)) ≡ false). clear (next_clear (slice_get es i) refl h) (last_clear (slice_get es (i - 1)) le z refl y) ∙ sym y)
        (cases_Bool (ends_after f (slice_get es (i - 1))))

    -- and the other way
    module _ (free : some_of (overlapping f n) es ≡ false) where
      parted : (j : ℕ) (d : Event) → j < length es → (get_or es j d).first < f + n → f < end_of (get_or es j d) → ⊥
      parted j d l h k = both_ways (overlapping f n (get_or es j d)) (some_none (overlapping f n) es free j d l) (both (get_or es j d) h k)

      pub free_after : ClearAfter
      free_after j d h l = ⊎_elim (λ (m : (get_or es j d).first < f + n). absurd (parted j d l m (omega (arith, from j d h l, long j d l)))) (λ m. m) (cases_lt (get_or es j d).first (f + n))

      pub free_before : i ≤ length es → ClearBefore
      free_before le j d h = ⊎_elim (λ (m : f < end_of (get_or es j d)). absurd (parted j d (omega arith) (omega (arith, before j d h)) m)) (λ m. m) (cases_lt f (end_of (get_or es j d)))

      pub unseen : 1 ≤ n → seek event_key f es ≡ None
      unseen h = absent event_key f es (λ j d l e. parted j d l (omega arith) (omega (arith, long j d l)))

  -- an event that overlaps none comes in, and one goes out
  module _ (f n : ℕ) (on : day_in r f < days) (ok : well_placed r f n ≡ true) (free : some_of (overlapping f n) es ≡ false) where
    abbrev at_spot : ℕ
    at_spot = spot event_key f es

    pub placed_inserted : Placed r days (insert es at_spot (open_event f n))
    placed_inserted = each_inserted es at_spot (open_event f n) (spot_within event_key f es) (λ e. in_book r days e ≡ true) placed (and_from (ltb (day_in r f) days) _ (lt-ltb (day_in r f) days on) ok)

    pub apart_inserted : Apart (insert es at_spot (open_event f n))
    apart_inserted =
        pairs_inserted es at_spot (open_event f n) (spot_within event_key f es) (λ a b. end_of a ≤ b.first) apart
        (free_before f n at_spot refl free (spot_within event_key f es))
        (free_after f n at_spot refl free)

  pub placed_removed : (s : ℕ) → s < length es → Placed r days (remove es s)
  placed_removed s lt = each_removed es s lt (λ e. in_book r days e ≡ true) placed

  pub apart_removed : (s : ℕ) → s < length es → Apart (remove es s)
  apart_removed s lt = pairs_removed es s lt (λ a b. end_of a ≤ b.first) apart

  -- ---- the lead, by the event just before

  not_before : (k j : ℕ) (d e : Event) → k ≤ j → j < length es → closely_before r (get_or es k d) (get_or es j e) ≡ false
  not_before k j d e h l =
      let v : (get_or es k d).first ≡ (get_or es k e).first = ap event_key (get_or_default es k d e (omega arith)) in
      let up : (get_or es k e).first ≤ (get_or es j e).first = ⊎_elim (λ (m : k < j). omega (arith, rise k j e (m, l))) (λ (m : j ≤ k). let q : k ≡ j = omega arith in let u = ap (λ x. (get_or es x e).first) q in omega arith) (cases_lt k j) in
      and_right (eqb (day_in r (get_or es j e).first) (day_in r (get_or es k d).first)) _ (and_left (ltb (get_or es j e).first (get_or es k d).first) _ (le-ltb (get_or es j e).first (get_or es k d).first (omega arith)))

  pub leads_first : (d : Event) → leads r es (get_or es 0 d) ≡ true
  leads_first d = not_from_false (some_of (closely_before r (get_or es 0 d)) es) (some_false (closely_before r (get_or es 0 d)) es (λ j e l. not_before 0 j d e (omega arith) l))

  -- an event before the one just before is no closer
  no_closer : (a b l : Event) → a.first ≤ b.first → b.first < l.first → end_of a ≤ end_of b → closely_before r l b ≡ false → closely_before r l a ≡ false
  no_closer a b l h k m n =
      ⊎_elim
      (λ (y : closely_before r l a ≡ true).
      let p = and_parts (eqb (day_in r a.first) (day_in r l.first)) _ y in
      let q = and_parts (ltb a.first l.first) _ p.1 in
      let e = eqb-true (day_in r a.first) (day_in r l.first) p.0 in
      let u = ltb-true l.first (end_of a + 4 * hour_of r) q.1 in
      let g = day_rises r a.first b.first h in
      let g' = day_rises r b.first l.first (omega arith) in
      let t : closely_before r l b ≡ true =
      and_from (eqb (day_in r b.first) (day_in r l.first)) _ (eq-eqb (day_in r b.first) (day_in r l.first) (omega arith))
      (and_from (ltb b.first l.first) _ (lt-ltb b.first l.first k) (lt-ltb l.first (end_of b + 4 * hour_of r) (omega arith))) in
      absurd (both_ways (closely_before r l b) n t))
      (λ y. y)
      (cases_Bool (closely_before r l a))

  module _ (k : ℕ) (d : Event) (lt : k + 1 < length es) where
    abbrev l : Event
    l = get_or es (k + 1) d

    far : closely_before r l (get_or es k d) ≡ false → (j : ℕ) (e : Event) → j < length es → closely_before r l (get_or es j e) ≡ false
    far n j e h =
        ⊎_elim
        (λ (m : k < j). not_before (k + 1) j d e (omega arith) h)
        (λ (m : j ≤ k).
        let v : get_or es j e ≡ get_or es j d = get_or_default es j e d h in
        ap (closely_before r l) v ∙
        ⊎_elim
        (λ (y : j < k). no_closer (get_or es j d) (get_or es k d) l (omega (arith, rise j k d (y, omega arith))) (rise k (k + 1) d (omega arith, lt)) (omega (arith, apart j k d (y, omega arith))) n)
        (λ (y : k ≤ j). let q : j ≡ k = omega arith in ap (λ x. closely_before r l (get_or es x d)) q ∙ n)
        (cases_lt j k))
        (cases_lt k j)

    pub leads_next : leads r es l ≡ not (closely_before r l (get_or es k d))
    leads_next =
        ⊎_elim
        (λ (y : closely_before r l (get_or es k d) ≡ true). ap not (some_true (closely_before r l) es k d (omega arith) y ∙ sym y))
        (λ (y : closely_before r l (get_or es k d) ≡ false). ap not (some_false (closely_before r l) es (far y) ∙ sym y))
        (cases_Bool (closely_before r l (get_or es k d)))

  -- two events in a row, as they are read
  pub leads_after : (i : ℕ) (a b d : Event) → 0 < i → slice_get es (i - 1) ≡ Some a → slice_get es i ≡ Some b → (a.first < b.first) × (end_of a ≤ b.first) × (leads r es (get_or es i d) ≡ not (closely_before r b a))
  leads_after i a b d z p q =
      let k = i - 1 in
      let e : i ≡ k + 1 = omega arith in
      let s = nth_some es k a p in
      let t = nth_some es i b q in
      let u : get_or es k d ≡ a = s.1 d in
      let v : get_or es i d ≡ b = t.1 d in
      let w : get_or es (k + 1) d ≡ b = ap (λ j. get_or es j d) (sym e) ∙ v in
      let x : (get_or es k d).first < (get_or es i d).first = rise k i d (omega arith, t.0) in
      let y : end_of (get_or es k d) ≤ (get_or es i d).first = apart k i d (omega arith, t.0) in
      let x1 = ap event_key u in
      let x2 = ap event_key v in
      let x3 = ap end_of u in (
        omega arith,
        omega arith,
        ap (λ j. leads r es (get_or es j d)) e ∙ leads_next k d (omega (arith, t.0)) ∙ ap (λ l. not (closely_before r l (get_or es k d))) w ∙ ap (λ m. not (closely_before r b m)) u,
      )

  -- down to the lead all events are of one day
  module _ (i k : ℕ) (lr : LeadRank r es i k) (l : i < length es) (d : Event) where
    same_day : (n : ℕ) → k + n ≤ i → day_in r (get_or es (k + n) d).first ≡ day_in r (get_or es k d).first
    same_day zero h = let e : k + 0 ≡ k = omega arith in ap (λ j. day_in r (get_or es j d).first) e
    same_day (suc n) h =
        let m = k + n in
        let e : k + suc n ≡ m + 1 = omega arith in
        let f : leads r es (get_or es (m + 1) d) ≡ false = lr.later (m + 1) d (omega arith, omega arith) in
        let g : not (closely_before r (get_or es (m + 1) d) (get_or es m d)) ≡ false = sym (leads_next m d (omega arith)) ∙ f in
        let t = not-false (closely_before r (get_or es (m + 1) d) (get_or es m d)) g in
        let q = eqb-true (day_in r (get_or es m d).first) (day_in r (get_or es (m + 1) d).first) (and_parts (eqb (day_in r (get_or es m d).first) (day_in r (get_or es (m + 1) d).first)) _ t).0 in
        ap (λ j. day_in r (get_or es j d).first) e ∙ sym q ∙ same_day n (omega arith)

-- ---- the last of a list that passes

none_kept : {X : Type 0} (p : X → Bool) (xs : List X) → ((i : ℕ) (d : X) → i < length xs → p (get_or xs i d) ≡ false) → filter p xs ≡ []
none_kept p [] n = refl
none_kept p (x ∷ xs) n = cond-false (p x) (x ∷ filter p xs) (filter p xs) (n 0 x (omega arith)) ∙ none_kept p xs (λ i d l. n (suc i) d (omega arith))

last_more : {X : Type 0} (x y : X) (xs : List X) → last_of xs ≡ Some y → last_of (x ∷ xs) ≡ Some y
last_more x y [] e = absurd cc
last_more x y (z ∷ zs) e = e

last_step : {X : Type 0} (b : Bool) (x y : X) (xs : List X) → last_of xs ≡ Some y → last_of (cond b (x ∷ xs) xs) ≡ Some y
last_step true x y xs e = last_more x y xs e
last_step false x y xs e = e

pub last_kept : {X : Type 0} (p : X → Bool) (xs : List X) (k : ℕ) (d : X) → k < length xs → p (get_or xs k d) ≡ true → ((j : ℕ) (e : X) → k < j → j < length xs → p (get_or xs j e) ≡ false) → last_of (filter p xs) ≡ Some (get_or xs k d)
last_kept p [] k d l y n = absurd (omega arith)
last_kept p (x ∷ xs) zero d l y n =
    ap last_of (cond-true (p x) (x ∷ filter p xs) (filter p xs) y ∙ ap (λ ks. x ∷ ks) (none_kept p xs (λ i e h. n (suc i) e (omega arith) (omega arith))))
last_kept p (x ∷ xs) (suc k) d l y n =
    last_step (p x) x (get_or xs k d) (filter p xs) (last_kept p xs k d (omega arith) y (λ j e h m. n (suc j) e (omega arith) (omega arith)))

module _ (r : Resolution) (days : ℕ) (fit : days ≤ 4096) (es : List Event) (rise : Rising event_key es) (placed : Placed r days es) (apart : Apart es) where
  -- the event at the lead's rank is the lead
  pub lead_found : (i k f : ℕ) (d : Event) → LeadRank r es i k → i < length es → (get_or es i d).first ≡ f → lead_of r es f ≡ Some (get_or es k d)
  lead_found i k f d lr l at =
      let w = lr.within in
      let p : Event → Bool = λ l. eqb (day_in r l.first) (day_in r f) && (leb l.first f && leads r es l) in
      let e : k + (i - k) ≡ i = omega arith in
      let same : day_in r (get_or es k d).first ≡ day_in r f = sym (same_day r days fit es rise placed apart i k lr l d (i - k) (omega arith)) ∙ ap (λ j. day_in r (get_or es j d).first) e ∙ ap (day_in r) at in
      let low : (get_or es k d).first ≤ f = ⊎_elim (λ (m : k < i). omega (arith, rise k i d (m, l))) (λ (m : i ≤ k). let q : k ≡ i = omega arith in let u = ap (λ x. (get_or es x d).first) q in omega arith) (cases_lt k i) in
      last_kept p es k d (omega arith)
      (and_from (eqb (day_in r (get_or es k d).first) (day_in r f)) _ (eq-eqb (day_in r (get_or es k d).first) (day_in r f) same) (and_from (leb (get_or es k d).first f) _ (le-leb (get_or es k d).first f low) (lr.found d)))
      (λ j g h m.
      and_right (eqb (day_in r (get_or es j g).first) (day_in r f)) _
      (⊎_elim
      (λ (u : i < j). let v : (get_or es i g).first ≡ f = ap event_key (get_or_default es i g d l) ∙ at in and_left (leb (get_or es j g).first f) _ (lt-leb (get_or es j g).first f (omega (arith, rise i j g (u, m)))))
      (λ (u : j ≤ i). and_right (leb (get_or es j g).first f) _ (lr.later j g (h, u)))
      (cases_lt i j)))

  module _ (f i k : ℕ) (at : i ≡ spot event_key f es) (lr : i < length es → LeadRank r es i k) where
    lead_read : (o : Option Event) → seek event_key f es ≡ o → is_some o ≡ true → slice_get es k ≡ lead_of r es f
    lead_read None q h = absurd cc
    lead_read (Some e) q h =
        let s = seek_some event_key f es rise e q in
        let l : i < length es = omega (arith, s.0) in
        let g : (get_or es i e).first ≡ f = ap (λ j. (get_or es j e).first) at ∙ ap event_key (s.1 e) ∙ seek_key event_key f es e q in
        let w = (lr l).within in
        slice_get-get_or es k e (omega arith) ∙ sym (lead_found i k f e (lr l) l g)

    -- the lead of an event that stands
    pub lead_stands : is_some (seek event_key f es) ≡ true → slice_get es k ≡ cond (is_some (seek event_key f es)) (lead_of r es f) None
    lead_stands h = lead_read (seek event_key f es) refl h ∙ sym (cond-true (is_some (seek event_key f es)) (lead_of r es f) None h)
