-- What a book's marks are. Assumes nothing.
use Rattle.marks.specs.Marked.{Marking, Orderly, marking}
use Rattle.marks.specs.Marked as marked
use Rattle.settlement.specs.declared.Book.{Book}

abbrev pub book_marking : Book → Marking
book_marking b = marking b.marks

-- a book keeps its marks in order
pub orderly : (b : Book) → Orderly b.marks
orderly b = marked.orderly b.marks
