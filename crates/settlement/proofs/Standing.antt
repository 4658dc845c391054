-- An event that stands in a book lies on one of its days, and has no more intervals than a day. Assumes nothing.
use Rattle.std.proofs.Common.{◌≡◌, ℕ, ◌<◌, ◌≤◌, true, Some, subst, arith, ltb-true}
use Rattle.std.proofs.lemmas.Bool.{and_parts}
use Rattle.std.proofs.lemmas.Bool.Decides.{nat_tests}
use Rattle.calendar.specs.declared.Resolution.{Resolution}
use Rattle.calendar.specs.declared.Resolution.TheVariants.{HalfHours, FiveMinutes}
use Rattle.register.specs.Held.{held}
use Rattle.register.specs.Order.{spot}
use Rattle.register.proofs.Lookups.{seek_key, seek_some}
use Rattle.marks.specs.declared.Event.{Event}
use Rattle.marks.specs.Keys.{event_key}
use Rattle.marks.specs.Events.{day_in, well_placed, in_book}
use Rattle.settlement.specs.declared.Book.{Book}
use Rattle.settlement.specs.Books.{book_marking}
use Rattle.settlement.specs.Settles.{event_in}

few : (r : Resolution) (f n : ℕ) → well_placed r f n ≡ true → n ≤ 288
few HalfHours f n h = grind (arith, nat_tests)
few FiveMinutes f n h = grind (arith, nat_tests)

module _ (b : Book) (first : ℕ) (e : Event) (stands : event_in (book_marking b) first ≡ Some e) where
  stood : in_book b.marks.resolution b.marks.days e ≡ true
  stood =
      let at = seek_some event_key first (held b.marks.events) b.marks.events.rising e stands in
      subst (λ (v : Event). in_book b.marks.resolution b.marks.days v ≡ true) (at.1 e) (b.marks.placed (spot event_key first (held b.marks.events)) e at.0)

  pub on_a_day : day_in b.marks.resolution first < b.marks.days
  on_a_day =
      let k : e.first ≡ first = seek_key event_key first (held b.marks.events) e stands in
      subst (λ (p : ℕ). day_in b.marks.resolution p < b.marks.days) k (ltb-true _ _ (and_parts _ _ stood).0)

  pub few_intervals : e.count ≤ 288
  few_intervals = few b.marks.resolution e.first e.count (and_parts _ _ stood).1
