-- What a trial answers, where o is the first trouble. Assumes nothing.
use Rattle.std.specs.Prelude.{◌≡◌, Some, None, Option, Result, MatchResult}

abbrev pub Tried : {T E : Type 0} → Result T E → Option E → Type 0
Tried r o = MatchResult r (λ _. o ≡ None) (λ e. o ≡ Some e)
