use Rattle.std.proofs.Common.{sym, ◌∙◌}
use Rattle.register.specs.Held.{held}
use Rattle.register.proofs.Lookups.{seek_located}
use Rattle.register.proofs.Register.find.Goals as goal

pub returns : goal.returns
returns g c =
    let s = c.args.self.now in
    c.get.ensures ∙ sym (seek_located g.R.Record.keyed c.args.key (held s) s.rising c.locate.result c.locate.ensures c.in_ok-ok.field-0 (sym c.ok.ensures.value ∙ c.in_ok-ok.was))
