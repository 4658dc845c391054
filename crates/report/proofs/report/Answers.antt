use Rattle.std.proofs.Common.{rules, Ok, ◌≡◌, ℕ, ◌+◌, ◌≤◌, List, ◌++◌, length, take, drop, ℤ, ap, subst, ◌∙◌, zero-add, arith, length-append, w64}
use Rattle.std.proofs.lemmas.Int.{to_z-of_z}
use Rattle.std.proofs.lemmas.List.{take_all}
use Rattle.settlement.specs.declared.Line.{Line}
use Rattle.report.specs.declared.page.Page.{Page}
use Rattle.report.specs.Texts.{piece, heading, sum_label, rows_text, row_text, report_text, Put, Written, Reported}
use Rattle.report.proofs.Puts.{written_more, written_room, turn_room, turn}
use Rattle.report.proofs.report.Goals as goal

-- the parts of a text that fits
record Fits (lines : List Line) (sum : ℤ) (n : ℕ) : Type 0 where
  pub all : 0 + length (report_text lines sum) ≤ n
  pub rows : 0 + length (heading ++ rows_text lines) ≤ n
  pub labelled : 0 + length (heading ++ rows_text lines ++ sum_label) ≤ n

fits : (lines : List Line) (sum : ℤ) (w n : ℕ) → w ≡ length (report_text lines sum) → w ≤ n → Fits lines sum n
fits lines sum w n e h =
    let end = length-append (heading ++ rows_text lines ++ sum_label) (piece sum 10) in
    let label = length-append (heading ++ rows_text lines) sum_label in
    record { all = omega arith; rows = omega arith; labelled = omega arith }

-- all lines are written
all_written : (lines : List Line) (i : ℕ) {page last : Page} → length lines ≤ i → Written page (rows_text (take i lines)) last → Written page (rows_text lines) last
all_written lines i {page} {last} h p = subst (λ ls. Written page (rows_text ls) last) (take_all i lines h) p

pub put-requires : goal.put-requires
unfolding heading
put-requires c =
    let f = fits _ _ _ _ c.text_width.ensures.exact c.if-text_width-text.false in
    omega (arith, f.rows, length-append heading (rows_text c.args.lines.now))

pub put_line-requires : goal.put_line-requires
unfolding heading
put_line-requires c =
    let lines = c.args.lines.now in
    let f = fits _ _ _ _ c.text_width.ensures.exact c.if-text_width-text.false in
    turn_room row_text lines _ _ c.loop-line-test.true (written_room (rows_text lines) f.rows c.put.ensures) c.loop-line.invariant

pub loop-line-preserved : goal.loop-line-preserved
unfolding heading
loop-line-preserved c =
    let lines = c.args.lines.now in
    let f = fits _ _ _ _ c.text_width.ensures.exact c.if-text_width-text.false in
    turn row_text lines _ _ c.loop-line-test.true (omega (arith, written_room (rows_text lines) f.rows c.put.ensures)) c.loop-line.invariant c.put_line.ensures

pub put-requires-2 : goal.put-requires-2
unfolding heading sum_label
put-requires-2 c =
    let lines = c.args.lines.now in
    let f = fits _ _ _ _ c.text_width.ensures.exact c.if-text_width-text.false in
    let rows = written_more (omega arith) c.put.ensures (all_written lines _ c.loop-line-test.false c.loop-line.invariant) in
    written_room sum_label f.labelled rows

pub put_number-requires : goal.put_number-requires
unfolding heading sum_label
put_number-requires c =
    let lines = c.args.lines.now in
    let f = fits _ _ _ _ c.text_width.ensures.exact c.if-text_width-text.false in
    let rows = written_more (omega arith) c.put.ensures (all_written lines _ c.loop-line-test.false c.loop-line.invariant) in
    written_room (piece _ 10) f.all (written_more (omega arith) rows c.put-2.ensures)

-- a text of another number that is the same
told : {text after : List ℕ} (lines : List Line) {z y : ℤ} {next : ℕ} → z ≡ y → 0 + length (report_text lines z) ≤ length text → Put text 0 (report_text lines z) after next → Reported lines y text after (Ok next)
told {text} {after} lines {z} {next = next} e h p =
    let k = zero-add (length (report_text lines z)) in
    subst (λ b. Reported lines b text after (Ok next)) e (omega (arith, h), p.place ∙ k, p.whole ∙ ap (λ n. report_text lines z ++ drop n text) k)

pub returns-clause-reported : goal.returns-clause-reported
unfolding heading sum_label
returns-clause-reported c =
    let lines = c.args.lines.now in
    let f = fits _ _ _ _ c.text_width.ensures.exact c.if-text_width-text.false in
    let rows = written_more (omega arith) c.put.ensures (all_written lines _ c.loop-line-test.false c.loop-line.invariant) in
    let all = written_more (omega arith) (written_more (omega arith) rows c.put-2.ensures) c.put_number.ensures in
    let t = told lines (to_z-of_z w64 c.args.sum c.ranges.sum) f.all all.put in
    let same = all.same in
    (t.0, t.1, search rules)
