use Rattle.std.proofs.Common.{◌≡◌, ◌*◌, ◌/◌, ◌%◌, ◌++◌, replicate, drop, sym, ap, ◌∙◌, subst, arith}
use Rattle.std.proofs.lemmas.List.{length-take}
use Rattle.table.specs.Presence.{Cleared}
use Rattle.table.proofs.Cells.{cleared_bytes, cleared_low}
use Rattle.table.proofs.presence.clear_below.Goals as goal

pub returns-then-rest-gt0 : goal.returns-then-rest-gt0
returns-then-rest-gt0 c =
    let ps = c.args.present.now in
    let n = c.args.cells in
    let i = n / 8 in
    let zeros : c.fill.new.self ≡ replicate i 0 = c.fill.ensures.after (λ y e. e) ∙ ap (λ k. replicate k 0) (omega (arith, length-take i ps)) in
    let whole : Cleared (8 * i) ps (c.fill.new.self ++ drop i ps) = subst (λ zs. Cleared (8 * i) ps (zs ++ drop i ps)) (sym zeros) (cleared_bytes ps i (omega arith)) in
    cleared_low ps (c.fill.new.self ++ drop i ps) i (n % 8) n (omega arith) (omega arith) (omega arith) (omega arith) whole
