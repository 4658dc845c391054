-- The text of a settlement, byte for byte, and what a call that writes it leaves. Assumes nothing.
use Rattle.std.specs.Prelude.{◌≡◌, ℕ, ◌+◌, ◌*◌, ◌<◌, ◌≤◌, List, [], ◌∷◌, ◌++◌, length, take, drop, ℤ, pos, Ok, Err, codes, Result}
use Rattle.std.specs.List.{flat_map}
use Rattle.std.specs.Fmt.{signed_decimal}
use Rattle.refusal.specs.Refusals.{Refusal, plain}
use Rattle.settlement.specs.declared.Line.{Line}
use Rattle.report.specs.declared.page.Page.{Page}
use Rattle.report.specs.declared.ReportFault.{ReportFault}
use Rattle.report.specs.declared.ReportFault.TheVariants.{ShortBuffer}

-- a text that does not fit has no values to tell
abbrev pub report_refusal : ReportFault → Refusal
report_refusal ShortBuffer = plain 17

-- a number in decimal, with a minus below zero, and the byte that ends it
abbrev pub piece : ℤ → ℕ → List ℕ
piece b end = signed_decimal b ++ end ∷ []

-- the names of the columns
unfoldable pub heading : List ℕ
heading = codes "day interval days baseline metered reduction\n"

-- what stands before the sum
unfoldable pub sum_label : List ℕ
sum_label = codes "sum "

-- a line: its fields with one space between them, and a line feed
unfoldable pub row_text : Line → List ℕ
row_text line =
    piece (pos line.day) 32 ++ piece (pos line.interval) 32 ++ piece (pos line.days) 32
    ++ piece line.baseline 32 ++ piece (pos line.metered) 32 ++ piece line.reduction 10

-- the lines one after another
abbrev pub rows_text : List Line → List ℕ
rows_text lines = flat_map row_text lines

-- the heading, the lines, and the sum on a line of its own
abbrev pub report_text : List Line → ℤ → List ℕ
report_text lines sum = heading ++ rows_text lines ++ sum_label ++ piece sum 10

-- the most bytes that a text of n lines takes: 49 around the lines, and 21 a number
abbrev pub most_bytes : ℕ → ℕ
most_bytes n = 70 + 126 * n

-- bytes are put at `at`, with the rest as it was, and `next` is the place after them
pub record Put (before : List ℕ) (at : ℕ) (bytes after : List ℕ) (next : ℕ) : Type 0 where
  pub whole : after ≡ take at before ++ (bytes ++ drop (at + length bytes) before)
  pub place : next ≡ at + length bytes

-- bytes are put on a page after those that are there, and the page is still one of the same buffer
pub record Written (before : Page) (bytes : List ℕ) (after : Page) : Type 0 where
  pub put : Put before.text.now before.at bytes after.text.now after.at
  pub same : after.text.ghost_name ≡ before.text.ghost_name

-- a text that fits stands at the start of the buffer, with the rest as it was and its length for an answer;
-- for one that does not fit the buffer stays as it was
abbrev pub Reported : List Line → ℤ → List ℕ → List ℕ → Result ℕ ReportFault → Type 0
Reported lines sum before after (Ok size) =
    (length (report_text lines sum) ≤ length before) × (size ≡ length (report_text lines sum))
    × (after ≡ report_text lines sum ++ drop (length (report_text lines sum)) before)
Reported lines sum before after (Err ShortBuffer) = (length before < length (report_text lines sum)) × (after ≡ before)
