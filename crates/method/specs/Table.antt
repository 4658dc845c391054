-- The settings of the methodologies by number, and what they say of a day.
use Rattle.std.specs.Prelude.{ℕ, ◌-◌, Bool, true, false, Some, None, Option, List, [], ◌∷◌, slice_index_or}
use Rattle.calendar.specs.declared.DayKind.{DayKind}
use Rattle.method.specs.declared.settings.Matching.{Matching}
use Rattle.method.specs.declared.settings.Count.{Count}
use Rattle.method.specs.declared.settings.Settings.{Settings}

-- whether a day is a business day
abbrev pub is_business : DayKind → Bool
is_business DayKind.Business = true
is_business DayKind.NonBusiness = false

-- whether a day is none
abbrev pub is_other : DayKind → Bool
is_other DayKind.Business = false
is_other DayKind.NonBusiness = true

-- whether two days are of one kind
abbrev pub alike : DayKind → DayKind → Bool
alike DayKind.Business past = is_business past
alike DayKind.NonBusiness past = is_other past

-- whether an event on a day of the kind is served: by the one kind that is named, else always
abbrev pub serving : Option DayKind → DayKind → Bool
serving None kind = true
serving (Some only) kind = alike only kind

-- whether a past day matches the event's day, by the kinds that match
abbrev pub agrees : Matching → DayKind → DayKind → Bool
agrees Matching.All day past = true
agrees (Matching.Only kind) day past = alike kind past
agrees Matching.SameKind day past = alike day past

-- whether the settings serve a day
abbrev pub served_by : Settings → DayKind → Bool
served_by s kind = serving s.only kind

-- whether the settings match a past day to the event's day
abbrev pub matched_by : Settings → DayKind → DayKind → Bool
matched_by s day past = agrees s.matching day past

-- the count for a day
abbrev pub count_on : Settings → DayKind → Count
count_on s DayKind.Business = s.business
count_on s DayKind.NonBusiness = s.non_business

-- days wanted, and the least that will do
abbrev pub counted : ℕ → ℕ → Count
counted most least = record { wanted = most; minimum = least }

-- the settings of one methodology
abbrev pub row : Option DayKind → Matching → Count → Count → ℕ → Settings
row s m b o t = record { only = s; matching = m; business = b; non_business = o; test_days = t }

-- the methodologies 1 to 5: the one kind served (None: all), kinds that match, counts on a business day and on another, test days
abbrev pub rows : List Settings
rows =
    row None Matching.All (counted 10 5) (counted 10 5) 50
    ∷ row (Some DayKind.Business) (Matching.Only DayKind.Business) (counted 10 5) (counted 10 5) 50
    ∷ row (Some DayKind.NonBusiness) (Matching.Only DayKind.NonBusiness) (counted 4 4) (counted 4 4) 20
    ∷ row None Matching.SameKind (counted 10 5) (counted 4 4) 50
    ∷ row None Matching.SameKind (counted 10 10) (counted 10 10) 50
    ∷ []

-- the settings of a number from 1 to 5
abbrev pub settings_of : ℕ → Settings
settings_of number = slice_index_or rows (number - 1) (row None Matching.All (counted 1 1) (counted 1 1) 1)
