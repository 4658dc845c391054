-- The refusals of settling. Assumes nothing.
use Rattle.std.specs.Prelude.{[], ◌∷◌}
use Rattle.metering.specs.Energy.{source_refusal}
use Rattle.refusal.specs.Refusals.{Refusal, plain}
use Rattle.settlement.specs.declared.SettleFault.{SettleFault}
use Rattle.settlement.specs.declared.SettleFault.TheVariants.{Unit, Methodology, NoEvent, NotServed, TooFewDays, ShortList, Source}

abbrev pub settle_refusal : SettleFault → Refusal
settle_refusal Unit = plain 18
settle_refusal Methodology = plain 21
settle_refusal NoEvent = plain 11
settle_refusal NotServed = plain 13
settle_refusal (TooFewDays day) = record { number = 14; values = day ∷ [] }
settle_refusal ShortList = plain 17
settle_refusal (Source f) = source_refusal f
