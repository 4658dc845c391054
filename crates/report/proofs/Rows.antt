-- The text and the length of a line, and the length of a report. Assumes nothing.
use Rattle.std.proofs.Common.{◌≡◌, ℕ, ◌+◌, ◌*◌, ◌≤◌, min, List, [], ◌∷◌, length, ℤ, pos, arith, append_assoc, length-append}
use Rattle.std.specs.List.{flat_map, sum_by}
use Rattle.std.proofs.lemmas.List.{append-nil}
use Rattle.std.proofs.lemmas.List.Sums.{sum_by-cons}
use Rattle.std.specs.Fmt.{signed_decimal}
use Rattle.settlement.specs.declared.Line.{Line}
use Rattle.report.specs.Texts.{piece, heading, sum_label, row_text, rows_text, report_text}

-- the numbers of a line, each with the byte that ends it
abbrev pub columns : Line → List (ℤ × ℕ)
columns line = (pos line.day, 32) ∷ (pos line.interval, 32) ∷ (pos line.days, 32) ∷ (line.baseline, 32) ∷ (pos line.metered, 32) ∷ (line.reduction, 10) ∷ []

-- the bytes of a number and of what ends it, and how many these are
abbrev pub bytes : ℤ × ℕ → List ℕ
bytes p = piece p.0 p.1

abbrev pub room : ℤ × ℕ → ℕ
room p = length (signed_decimal p.0) + 1

-- a line is the bytes of its numbers
pub row_bytes : (line : Line) → flat_map bytes (columns line) ≡ row_text line
unfolding row_text
row_bytes line = simp (append_assoc, append-nil)

pub row_length : (line : Line) → sum_by room (columns line) ≡ length (row_text line)
unfolding row_text
row_length line = simp length-append (omega arith)

-- the length of the text is that of its parts
pub report_length : (lines : List Line) (sum : ℤ) → length (report_text lines sum) ≡ 49 + (length (signed_decimal sum) + 1) + length (rows_text lines)
unfolding heading sum_label
report_length lines sum = simp length-append (omega arith)

-- a sum of numbers that are at most m
pub capped : {X : Type 0} (f : X → ℕ) (m : ℕ) (xs : List X) → sum_by (λ x. min (f x) m) xs ≤ m * length xs
capped f m [] = omega arith
capped f m (x ∷ xs) = omega (arith, sum_by-cons (λ y. min (f y) m) x xs, capped f m xs)
