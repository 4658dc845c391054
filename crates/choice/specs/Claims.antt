-- What holds of every choice of days, and a worked figure. Assumes nothing.
use Rattle.std.specs.Prelude.{◌≡◌, ℕ, ◌<◌, ◌≤◌, Bool, true, false, ◌&&◌, ◌⊎◌, List, [], ◌∷◌, length, filter, nat_lt}
use Rattle.std.specs.List.{ContainsAt as Has, AllByRecursion}
use Rattle.calendar.specs.Days.{place_of}
use Rattle.calendar.specs.declared.Resolution.TheVariants.{FiveMinutes}
use Rattle.marks.specs.Marked.{Marking, day_set, no_days, open_event}
use Rattle.method.specs.Methods.{similar_rules}
use Rattle.choice.specs.Choice.{days_before, chosen, selected_days}

-- the days go down: each is later than all that follow it
abbrev pub GoingDown : List ℕ → Type 0
GoingDown [] = Unit {0}
GoingDown (x ∷ xs) = AllByRecursion (λ y. y < x) xs × GoingDown xs

-- how many matching days lie after x and before d
abbrev pub matching_between : (ℕ → Bool) → ℕ → ℕ → ℕ
matching_between matching x d = length (filter (λ y. matching y && nat_lt x y) (days_before d))

-- what holds of the days chosen before d
pub record WellChosen (matching passed : ℕ → Bool) (want span d : ℕ) (days : List ℕ) : Type 0 where
  -- each is before d, matches and is not passed over
  pub fit : AllByRecursion (λ x. (x < d) × (matching x ≡ true) × (passed x ≡ false)) days
  pub down : GoingDown days
  pub few : length days ≤ want
  -- none is left out: a day among the latest `span` matching days that is not passed over is chosen, or as many as are wanted are chosen, all later than it
  pub whole : (x : ℕ) → x < d → matching x ≡ true → passed x ≡ false → matching_between matching x d < span →
      Has days x ⊎ ((length days ≡ want) × AllByRecursion (λ y. x < y) days)

-- whatever matches and is passed over, the days are well chosen
abbrev pub ChoiceLaw : Type 0
ChoiceLaw = (matching passed : ℕ → Bool) (want span d : ℕ) → WellChosen matching passed want span d (chosen matching passed want span d)

-- a book in which day 387 is a holiday and day 388 has an event
abbrev pub worked_book : Marking
worked_book = record {
  resolution = FiveMinutes;
  days = 390;
  holidays = day_set (record { day = 387 } ∷ []) 1;
  exclusions = no_days 0;
  events = open_event (place_of 288 388 168) 1 ∷ [];
  event_slots = 1;
}

-- the days that methodology 5 selects for day 389 of it
abbrev pub ChoiceFigures : Type 0
ChoiceFigures = selected_days (similar_rules (record {})) worked_book 389
    ≡ 386 ∷ 385 ∷ 382 ∷ 381 ∷ 380 ∷ 379 ∷ 378 ∷ 375 ∷ 374 ∷ 373 ∷ []
