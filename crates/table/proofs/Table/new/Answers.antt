use Rattle.std.proofs.Common.{◌≡◌, ◌*◌, false, cond, length, None, Option, sym, ap, ◌∙◌, subst, rules}
use Rattle.std.proofs.lemmas.Bool.{lt-ltb}
use Rattle.refusal.specs.declared.MakeFault.{MakeFault}
use Rattle.store.specs.Meaning.{Empty}
use Rattle.table.specs.Presence.{bit}
use Rattle.table.specs.Grid.{grid, table_fault, made_points, made_span}
use Rattle.table.proofs.Changes.{empty}
use Rattle.table.proofs.Table.new.Goals as goal

pub returns-clause-empty : goal.returns-clause-empty
returns-clause-empty c =
    let n = c.args.points in
    let w = c.args.span in
    let rs = c.args.readings.now in
    let ps = c.clear_below.new.present in
    let sound : table_fault n w (length rs) (length c.args.present.now) ≡ None = search rules in
    let F : Option MakeFault → Type 0 = λ e. Empty (made_points e n) (made_span e w) (made_span e w) (grid n w rs ps) in
    subst F (sym sound) (empty n w rs ps (λ k h. c.clear_below.ensures k ∙ ap (λ b. cond b false (bit c.args.present.now k)) (lt-ltb k (n * w) h)))
