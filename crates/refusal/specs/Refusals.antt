-- How a declined call is told: a number, and the values that go with it. Assumes nothing.
use Rattle.std.specs.Prelude.{List, [], ℕ}
use Rattle.refusal.specs.declared.MakeFault.{MakeFault}
use Rattle.refusal.specs.declared.MakeFault.TheVariants.{Limits}

pub record Refusal : Type 0 where
  pub number : ℕ
  pub values : List ℕ

-- a refusal with no values
abbrev pub plain : ℕ → Refusal
plain n = record { number = n; values = [] }

-- a making whose numbers or lists are against its limits
abbrev pub make_refusal : MakeFault → Refusal
make_refusal Limits = plain 22
