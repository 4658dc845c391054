-- What a mark makes of a book, and what is answered, is fixed. Assumes nothing.
use Rattle.std.proofs.Common.{◌≡◌, ℕ, Some, None, Ok, Err, Option, Result, sym, refl, ◌∙◌, arith}
use mathlib.Core.Path.{fun_ext}
use Rattle.marks.specs.declared.MarkFault.{MarkFault}
use Rattle.marks.specs.Marked.{DaySet, Marking, DayMarked, EventMarked, SameButHolidays, SameButExclusions, SameButEvents}

-- a cause that is found stands alone
one_cause : {U : Type 0} (f : Option MarkFault) (e : MarkFault) → f ≡ None → f ≡ Some e → U
one_cause f e n s = absurd cc

-- two sets with the same days and the same room are one
same_days : (s t : DaySet) → ((d : ℕ) → s.has d ≡ t.has d) → s.free ≡ t.free → s ≡ t
same_days s t has free = λ i. record { has = fun_ext has i; free = free i }

-- two markings that agree in each part are one
same_marking : (a b : Marking) → a.resolution ≡ b.resolution → a.days ≡ b.days → a.holidays ≡ b.holidays → a.exclusions ≡ b.exclusions → a.events ≡ b.events → a.event_slots ≡ b.event_slots → a ≡ b
same_marking a b resolution days holidays exclusions events slots =
    λ i. record { resolution = resolution i; days = days i; holidays = holidays i; exclusions = exclusions i; events = events i; event_slots = slots i }

day_once : (days : ℕ) (s t t' : DaySet) (d : ℕ) (r r' : Result (Unit {0}) MarkFault) → DayMarked days s t d r → DayMarked days s t' d r' → (r ≡ r') × (t ≡ t')
day_once days s t t' d (Ok u) (Ok v) x y = (refl, same_days t t' (λ k. x.1 k ∙ sym (y.1 k)) (omega (arith, x.2, y.2)))
day_once days s t t' d (Ok u) (Err e) x y = one_cause _ e x.0 y.0
day_once days s t t' d (Err e) (Ok u) x y = one_cause _ e y.0 x.0
day_once days s t t' d (Err e) (Err f) x y = let p = x.0 in let q = y.0 in (cc, x.1 ∙ sym y.1)

event_once : (b a a' : Marking) (first count : ℕ) (r r' : Result (Unit {0}) MarkFault) → EventMarked b a first count r → EventMarked b a' first count r' → (r ≡ r') × (a.events ≡ a'.events)
event_once b a a' first count (Ok u) (Ok v) x y = (refl, x.1 ∙ sym y.1)
event_once b a a' first count (Ok u) (Err e) x y = one_cause _ e x.0 y.0
event_once b a a' first count (Err e) (Ok u) x y = one_cause _ e y.0 x.0
event_once b a a' first count (Err e) (Err f) x y = let p = x.0 in let q = y.0 in (cc, x.1 ∙ sym y.1)

module _ (b a a' : Marking) (r r' : Result (Unit {0}) MarkFault) where
  pub holiday_once : (d : ℕ) → DayMarked b.days b.holidays a.holidays d r × SameButHolidays b a → DayMarked b.days b.holidays a'.holidays d r' × SameButHolidays b a' → (r ≡ r') × (a ≡ a')
  holiday_once d x y =
      let once = day_once b.days b.holidays a.holidays a'.holidays d r r' x.0 y.0 in
      let s = x.1 in
      let t = y.1 in
      (once.0, same_marking a a' (s.resolution ∙ sym t.resolution) (s.days ∙ sym t.days) once.1 (s.exclusions ∙ sym t.exclusions) (s.events ∙ sym t.events) (s.event_slots ∙ sym t.event_slots))

  pub exclusion_once : (d : ℕ) → DayMarked b.days b.exclusions a.exclusions d r × SameButExclusions b a → DayMarked b.days b.exclusions a'.exclusions d r' × SameButExclusions b a' → (r ≡ r') × (a ≡ a')
  exclusion_once d x y =
      let once = day_once b.days b.exclusions a.exclusions a'.exclusions d r r' x.0 y.0 in
      let s = x.1 in
      let t = y.1 in
      (once.0, same_marking a a' (s.resolution ∙ sym t.resolution) (s.days ∙ sym t.days) (s.holidays ∙ sym t.holidays) once.1 (s.events ∙ sym t.events) (s.event_slots ∙ sym t.event_slots))

  pub marked_once : (first count : ℕ) → EventMarked b a first count r × SameButEvents b a → EventMarked b a' first count r' × SameButEvents b a' → (r ≡ r') × (a ≡ a')
  marked_once first count x y =
      let once = event_once b a a' first count r r' x.0 y.0 in
      let s = x.1 in
      let t = y.1 in
      (once.0, same_marking a a' (s.resolution ∙ sym t.resolution) (s.days ∙ sym t.days) (s.holidays ∙ sym t.holidays) (s.exclusions ∙ sym t.exclusions) once.1 (s.event_slots ∙ sym t.event_slots))
