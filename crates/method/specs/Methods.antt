-- The methodologies, their numbers and their rules.
use Rattle.std.specs.Prelude.{ℕ, cond, Ok, Err, Result, ◌==◌}
use Rattle.refusal.specs.Refusals.{Refusal, plain}
use Rattle.method.specs.Baseline.{capped_of, additive_of}
use Rattle.method.specs.Rules.{Rules, set_by}
use Rattle.method.specs.Table.{settings_of}
use Rattle.method.specs.declared.capped.Capped.{Capped}
use Rattle.method.specs.declared.similar.SimilarDays.{SimilarDays}
use Rattle.method.specs.declared.numbered.Numbered.{Numbered}
use Rattle.method.specs.declared.catalogue.MethodFault.{MethodFault}

-- the numbers of the capped methodologies
abbrev pub number_of : Capped → ℕ
number_of Capped.AllDays = 1
number_of Capped.BusinessDays = 2
number_of Capped.NonBusinessDays = 3
number_of Capped.Composite = 4

-- the rules of methodologies 1 to 4
abbrev pub capped_rules : Capped → Rules
capped_rules s = set_by (settings_of (number_of s)) capped_of

-- the rules of methodology 5
abbrev pub similar_rules : SimilarDays → Rules
similar_rules s = set_by (settings_of 5) additive_of

-- the rules of a methodology by number are those of the one that it is
abbrev pub numbered_rules : Numbered → Rules
numbered_rules (Numbered.Capped s) = capped_rules s
numbered_rules (Numbered.SimilarDays s) = similar_rules s

abbrev pub method_refusal : MethodFault → Refusal
method_refusal MethodFault.Unknown = plain 21

-- the methodology of a number; a number other than 1 to 5 has none
abbrev pub known : ℕ → Result Numbered MethodFault
known number =
    cond (number == 1) (Ok (Numbered.Capped Capped.AllDays))
    (cond (number == 2) (Ok (Numbered.Capped Capped.BusinessDays))
    (cond (number == 3) (Ok (Numbered.Capped Capped.NonBusinessDays))
    (cond (number == 4) (Ok (Numbered.Capped Capped.Composite))
    (cond (number == 5) (Ok (Numbered.SimilarDays (record {}))) (Err MethodFault.Unknown)))))
