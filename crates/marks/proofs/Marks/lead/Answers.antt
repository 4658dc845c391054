use Rattle.std.proofs.Common.{◌≡◌, true, is_some, sym, ap, ◌∙◌}
use Rattle.std.proofs.lemmas.Bool.{not_from_false}
use Rattle.register.specs.Held.{held}
use Rattle.register.specs.Order.{seek}
use Rattle.marks.specs.Keys.{event_key}
use Rattle.marks.proofs.EventLists.{lead_stands}
use Rattle.marks.proofs.Marks.lead.Goals as goal

pub returns : goal.returns
returns c =
    let s = c.args.self.now in
    let es = held s.events in
    let f = c.args.first in
    let h : is_some (seek event_key f es) ≡ true = ap is_some (sym c.event_at.ensures) ∙ c.is_none.ensures ∙ not_from_false c.is_none.result c.if-is_none.false in
    c.get.ensures
    ∙ lead_stands s.resolution s.days s.fit.1 es s.events.rising s.placed s.apart f c.first_at-rank.result c.lead_rank.result c.first_at-rank.ensures.is c.lead_rank.ensures h
