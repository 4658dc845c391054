use Rattle.std.proofs.Common.{rules, ◌≡◌, ◌≤◌, length, get_or, ℤ, pos, ap, subst, ◌∙◌, arith, w64, SFits}
use Rattle.std.specs.List.{flat_map}
use Rattle.std.proofs.lemmas.Int.{to_z-of_z}
use Rattle.std.proofs.lemmas.List.{take_all}
use Rattle.report.specs.Texts.{piece, row_text, Written}
use Rattle.report.proofs.Puts.{turn_room, turn}
use Rattle.report.proofs.Rows.{bytes, row_bytes}
use Rattle.report.proofs.page.Page.put_line.Goals as goal

pub put_number-requires : goal.put_number-requires
put_number-requires c =
    let list = c.columns-number-items.result in
    let i = c.loop-number.number-index in
    let all : length (flat_map bytes list) ≡ length (row_text c.args.line.now) = ap (λ ps. length (flat_map bytes ps)) c.columns-number-items.ensures ∙ ap length (row_bytes c.args.line.now) in
    let fits : SFits w64 (get_or list i (pos 0, 0)).0 = search rules in
    let number = ap (λ (z : ℤ). length (piece z (get_or list i (pos 0, 0)).1)) (to_z-of_z w64 _ fits) in
    omega (arith, number, turn_room bytes list i (pos 0, 0) (search rules) (omega (arith, c.requires, all)) c.loop-number.invariant)

pub loop-number-preserved : goal.loop-number-preserved
loop-number-preserved c =
    let list = c.columns-number-items.result in
    let i = c.loop-number.number-index in
    let fits : SFits w64 (get_or list i (pos 0, 0)).0 = search rules in
    turn bytes list i (pos 0, 0) (search rules) (omega (arith, c.requires)) c.loop-number.invariant
    (subst (λ (z : ℤ). Written c.loop-number.self (piece z (get_or list i (pos 0, 0)).1) c.put_number.new.self) (to_z-of_z w64 _ fits) c.put_number.ensures)

pub returns : goal.returns
returns c =
    let list = c.columns-number-items.result in
    let past : length list ≤ c.loop-number.number-index = search rules in
    subst (λ ds. Written c.args.self.now ds c.loop-number.self)
    (ap (flat_map bytes) (take_all _ list past ∙ c.columns-number-items.ensures) ∙ row_bytes c.args.line.now)
    c.loop-number.invariant
