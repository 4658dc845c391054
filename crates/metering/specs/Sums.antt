-- The first trouble on a list. Assumes nothing.
use Rattle.std.specs.Prelude.{List, [], ◌∷◌, Some, None, Option}

-- the first, or else the second
abbrev pub or_else : {Y : Type 0} → Option Y → Option Y → Option Y
or_else (Some y) o = Some y
or_else None o = o

-- the first trouble on a list
abbrev pub first_in : {X Y : Type 0} → (X → Option Y) → List X → Option Y
first_in f [] = None
first_in f (x ∷ xs) = or_else (f x) (first_in f xs)
