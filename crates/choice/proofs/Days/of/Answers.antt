use Rattle.std.proofs.Common.{rules, [], ◌∷◌, map-id}
use Rattle.std.proofs.lemmas.Iterator.Consumers.{YieldsList-at, YieldsList-end}
use Rattle.choice.proofs.Found.{take_longer}
use Rattle.choice.proofs.Days.of.Goals as goal

pub loop-day-preserved : goal.loop-day-preserved
loop-day-preserved g c =
    let (_, _, so_far) = c.loop-day.invariant in
    let longer = take_longer g.row.N c.loop-day.yielded (c.in-Some.day ∷ []) in
    (search rules, search rules, cc)

pub returns : goal.returns
returns g c xs yields =
    let (_, _, so_far) = c.loop-day.invariant in
    let seen =
    YieldsList-end {steps = g.I.Iterator.next_gives}
    (YieldsList-at c.into_iter-day-iterator.ensures.into_iter_gives (record { runs = yields })) c.loop-day.yielded c.loop-day.day-iterator c.loop-day.yielded_by _ _ c.in-None.is
    c.next.ensures.steps in
    cc (map-id c.loop-day.yielded)
