-- The rules of a methodology, and the laws that every methodology's rules keep.
use Rattle.std.specs.Prelude.{ℕ, ◌≤◌, Bool, ℤ, pos, negsuc, ◌≤ℤ◌}
use Rattle.method.specs.Energy.{Sound}
use Rattle.method.specs.Table.{served_by, matched_by, count_on}
use Rattle.calendar.specs.declared.DayKind.{DayKind}
use Rattle.method.specs.declared.settings.Settings.{Settings}

-- which event days are served; of an event's day, then a past day, whether they match; days wanted, and the least; test days; the baseline of V, W, A, n and m
pub record Rules : Type 0 where
  pub serves : DayKind → Bool
  pub matches : DayKind → DayKind → Bool
  pub wanted : DayKind → ℕ
  pub minimum : DayKind → ℕ
  pub tests : ℕ
  pub baseline : ℕ → ℕ → ℕ → ℕ → ℕ → ℤ

-- the rules that settings and a baseline make
abbrev pub set_by : Settings → (ℕ → ℕ → ℕ → ℕ → ℕ → ℤ) → Rules
set_by s b = record {
  serves = λ kind. served_by s kind;
  matches = λ day past. matched_by s day past;
  wanted = λ day. (count_on s day).wanted;
  minimum = λ day. (count_on s day).minimum;
  tests = s.test_days;
  baseline = b;
}

-- from one to ten days are selected
abbrev pub FromOneToTen : ℕ → ℕ → Type 0
FromOneToTen least most = (1 ≤ least) × (least ≤ most) × (most ≤ 10)

-- what holds of every methodology's rules
pub record Lawful (r : Rules) : Type 0 where
  pub counts : (k : DayKind) → FromOneToTen (r.minimum k) (r.wanted k)
  -- from one to fifty matching days are looked through
  pub tested : (1 ≤ r.tests) × (r.tests ≤ 50)
  -- the baseline lies from -5000 to 10000
  pub within : (v w a n m : ℕ) → Sound v w a n m → (negsuc 4999 ≤ℤ r.baseline v w a n m) × (r.baseline v w a n m ≤ℤ pos 10000)
  -- more energy on the event's day never lowers the baseline
  pub rises : (v w a b n m : ℕ) → Sound v w b n m → a ≤ b → r.baseline v w a n m ≤ℤ r.baseline v w b n m
