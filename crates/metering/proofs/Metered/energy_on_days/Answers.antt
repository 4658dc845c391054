use Rattle.std.proofs.Common.{arith, rules}
use Rattle.std.proofs.lemmas.Iterator.{YieldsList-from_slice}
use Rattle.std.proofs.lemmas.Iterator.Adapters.{fits_from_length, at_most_from_yields_List}
use Rattle.metering.proofs.Metered.energy_on_days.Goals as goal

pub sum-requires-clause-fits : goal.sum-requires-clause-fits
sum-requires-clause-fits g c =
    fits_from_length _ _ 10 _ (at_most_from_yields_List (YieldsList-from_slice c.days.result.now cc) c.days.ensures.few) c.map.ensures.closure (omega arith) (λ x r q k. search rules)
