-- What marking an event finds and makes. Assumes nothing.
use Rattle.std.proofs.Common.{◌≡◌, ℕ, ◌+◌, ◌<◌, Bool, true, false, cond, ltb, List, length, is_some, Some, None, Ok, Err, Result, subst, sym, refl, ap, ◌∙◌, ⊎_elim, arith}
use Rattle.std.proofs.lemmas.Bool.{cases_Bool, both_ways, ltb-true, lt-ltb, cond-true, cond-false}
use Rattle.register.specs.declared.RegisterFault.{RegisterFault}
use Rattle.register.specs.declared.RegisterFault.TheVariants as register
use Rattle.register.specs.Held.{held, capacity}
use Rattle.register.specs.Order.{seek, refusal, spot, Inserted, Removed}
use Rattle.register.proofs.Lookups.{seek_some}
use Rattle.marks.specs.declared.Event.{Event}
use Rattle.marks.specs.declared.Marks.{Marks}
use Rattle.marks.specs.declared.MarkFault.TheVariants.{DayBeyond, Misplaced, Overlap, Full}
use Rattle.marks.specs.Keys.{event_key}
use Rattle.marks.specs.Faults.{mark_fault}
use Rattle.marks.specs.Events.{day_in, well_placed, Placed, Apart}
use Rattle.marks.specs.Marked.{Marking, marking, day_within, some_of, overlapping, open_event, event_fault}
use Rattle.marks.proofs.EventLists.{has_interval, ends_in_book, unseen, placed_inserted, apart_inserted, placed_removed, apart_removed}

-- a place has a day of the book
day_there : (b : Marking) (f : ℕ) → is_some (day_within b f) ≡ true → day_in b.resolution f < b.days
day_there b f h =
    ⊎_elim
    (λ (y : ltb (day_in b.resolution f) b.days ≡ true). ltb-true (day_in b.resolution f) b.days y)
    (λ (y : ltb (day_in b.resolution f) b.days ≡ false). absurd (both_ways (is_some (day_within b f)) (ap is_some (cond-false (ltb (day_in b.resolution f) b.days) (Some (day_in b.resolution f)) None y)) h))
    (cases_Bool (ltb (day_in b.resolution f) b.days))

-- what a register says of an event that does not stand in it
module _ (cap : ℕ) (es : List Event) (x : Event) (new : seek event_key x.first es ≡ None) where
  by_room : refusal event_key cap es x ≡ cond (ltb (length es) cap) None (Some register.Full)
  by_room = ap (λ o. cond (is_some o) (Some register.Taken) (cond (ltb (length es) cap) None (Some register.Full))) new

  no_room : (e : RegisterFault) → refusal event_key cap es x ≡ Some e → ltb (length es) cap ≡ false
  no_room f e =
      ⊎_elim
      (λ (y : ltb (length es) cap ≡ true). let q = sym by_room ∙ e in let w = cond-true (ltb (length es) cap) None (Some register.Full) y in absurd cc)
      (λ y. y)
      (cases_Bool (ltb (length es) cap))

-- an event that lies in a day of the book and overlaps none
module _ (m : Marks) (f n : ℕ) (there : is_some (day_within (marking m) f) ≡ true) (ok : well_placed m.resolution f n ≡ true) (meets : f + n < 4294967296 → false ≡ some_of (overlapping f n) (held m.events)) where
  pub on_day : day_in m.resolution f < m.days
  on_day = day_there (marking m) f there

  pub meets_no_event : some_of (overlapping f n) (held m.events) ≡ false
  meets_no_event = sym (meets (omega (arith, ends_in_book m.resolution m.days f n m.fit.1 on_day ok)))

  new_event : seek event_key f (held m.events) ≡ None
  new_event = unseen m.resolution m.days m.fit.1 (held m.events) m.events.rising m.placed m.apart f n (spot event_key f (held m.events)) refl meets_no_event (has_interval m.resolution m.days f n m.fit.1 on_day ok)

  fault_by_room : event_fault (marking m) f n ≡ cond (ltb (length (held m.events)) (capacity m.events)) None (Some Full)
  fault_by_room =
      cond-true (ltb (day_in m.resolution f) m.days) _ (Some DayBeyond) (lt-ltb (day_in m.resolution f) m.days on_day)
      ∙ cond-true (well_placed m.resolution f n) _ (Some Misplaced) ok
      ∙ cond-false (some_of (overlapping f n) (held m.events)) (Some Overlap) _ meets_no_event

  is_full : (e : RegisterFault) → refusal event_key (capacity m.events) (held m.events) (open_event f n) ≡ Some e → event_fault (marking m) f n ≡ Some Full
  is_full g e = fault_by_room ∙ cond-false (ltb (length (held m.events)) (capacity m.events)) None (Some Full) (no_room (capacity m.events) (held m.events) (open_event f n) new_event g e)

  -- how the register's refusal is told
  full_only : (b : Bool) (e : RegisterFault) → cond b None (Some register.Full) ≡ Some e → e ≡ register.Full
  full_only true e h = absurd cc
  full_only false e h = cc

  pub refused_as : (e : RegisterFault) → refusal event_key (capacity m.events) (held m.events) (open_event f n) ≡ Some e → event_fault (marking m) f n ≡ Some (mark_fault e)
  refused_as e h =
      let full : e ≡ register.Full = full_only (ltb (length (held m.events)) (capacity m.events)) e (sym (by_room (capacity m.events) (held m.events) (open_event f n) new_event) ∙ h) in
      is_full e h ∙ ap (λ x. Some (mark_fault x)) (sym full)

  -- the events stay placed and apart, whether the register takes it or not
  pub marked_placed : {T : Type 0} (cap : ℕ) (ys : List Event) (o : Result T RegisterFault) → Inserted event_key cap (held m.events) ys (open_event f n) o → Placed m.resolution m.days ys
  marked_placed cap ys (Ok u) h = subst (Placed m.resolution m.days) (sym h.1) (placed_inserted m.resolution m.days m.fit.1 (held m.events) m.events.rising m.placed m.apart f n on_day ok meets_no_event)
  marked_placed cap ys (Err e) h = subst (Placed m.resolution m.days) (sym h.1) m.placed

  pub marked_apart : {T : Type 0} (cap : ℕ) (ys : List Event) (o : Result T RegisterFault) → Inserted event_key cap (held m.events) ys (open_event f n) o → Apart ys
  marked_apart cap ys (Ok u) h = subst Apart (sym h.1) (apart_inserted m.resolution m.days m.fit.1 (held m.events) m.events.rising m.placed m.apart f n on_day ok meets_no_event)
  marked_apart cap ys (Err e) h = subst Apart (sym h.1) m.apart

-- so they do where an event is taken out
module _ (m : Marks) (f : ℕ) (ys : List Event) where
  pub lifted_placed : (o : Result Event RegisterFault) → Removed event_key (held m.events) ys f o → Placed m.resolution m.days ys
  lifted_placed (Ok old) h =
      let lt = (seek_some event_key f (held m.events) m.events.rising old h.0).0 in
      subst (Placed m.resolution m.days) (sym h.1) (placed_removed m.resolution m.days m.fit.1 (held m.events) m.events.rising m.placed m.apart (spot event_key f (held m.events)) lt)
  lifted_placed (Err e) h = subst (Placed m.resolution m.days) (sym h.2) m.placed

  pub lifted_apart : (o : Result Event RegisterFault) → Removed event_key (held m.events) ys f o → Apart ys
  lifted_apart (Ok old) h =
      let lt = (seek_some event_key f (held m.events) m.events.rising old h.0).0 in
      subst Apart (sym h.1) (apart_removed m.resolution m.days m.fit.1 (held m.events) m.events.rising m.placed m.apart (spot event_key f (held m.events)) lt)
  lifted_apart (Err e) h = subst Apart (sym h.2) m.apart
