-- Which days are selected: of the latest `span` matching days before d, the latest `want` of those that are left. Assumes nothing.
use Rattle.std.specs.Prelude.{ℕ, zero, suc, Bool, not, ◌&&◌, ◌||◌, List, [], ◌∷◌, take, filter}
use Rattle.marks.specs.Marked.{Marking, kind_in, event_day}
use Rattle.method.specs.Rules.{Rules}
use Rattle.choice.specs.declared.Days.{Days}

-- the days before d, the latest first
abbrev pub days_before : ℕ → List ℕ
days_before zero = []
days_before (suc d) = d ∷ days_before d

-- of the latest `span` matching days before d, the latest `want` that are not passed over
unfoldable pub chosen : (ℕ → Bool) → (ℕ → Bool) → ℕ → ℕ → ℕ → List ℕ
chosen matching passed want span d = take want (filter (λ x. not (passed x)) (take span (filter matching (days_before d))))

-- the latest `want` days before d that pass
unfoldable pub latest : (ℕ → Bool) → ℕ → ℕ → List ℕ
latest passing want d = take want (filter passing (days_before d))

-- a day that matches the day d
abbrev pub matching_day : Rules → Marking → ℕ → ℕ → Bool
matching_day r b d x = r.matches (kind_in b d) (kind_in b x)

-- a day that has an event
abbrev pub has_event : Marking → ℕ → Bool
has_event b x = event_day b.resolution b.events x

-- a day that has an event or is excluded
abbrev pub set_aside : Marking → ℕ → Bool
set_aside b x = has_event b x || b.exclusions.has x

-- the days selected for the day d, where some days are passed over
abbrev pub drawn_by : (ℕ → Bool) → Rules → Marking → ℕ → List ℕ
drawn_by passed r b d = chosen (λ x. matching_day r b d x) passed (r.wanted (kind_in b d)) 50 d

-- the selected days of the day d: event days are passed over
abbrev pub selected_days : Rules → Marking → ℕ → List ℕ
selected_days r b d = drawn_by (λ x. has_event b x) r b d

-- the selected days in an assessment: exclusions are passed over too
abbrev pub assessed_days : Rules → Marking → ℕ → List ℕ
assessed_days r b d = drawn_by (λ x. set_aside b x) r b d

-- a day that a load can be tested on: it is served, has no event and is not excluded
abbrev pub testing_day : Rules → Marking → ℕ → Bool
testing_day r b x = r.serves (kind_in b x) && not (set_aside b x)

-- the test days of an assessment on the day d
abbrev pub test_days : Rules → Marking → ℕ → List ℕ
test_days r b d = latest (λ x. testing_day r b x) r.tests d

-- the days that were found
abbrev pub days_of : {N : ℕ} → Days N → List ℕ
days_of s = take s.count s.days

-- the test days that were found
abbrev pub test_days_of : Days 50 → List ℕ
test_days_of s = days_of s
