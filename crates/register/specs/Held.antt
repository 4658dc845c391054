-- What a register holds, whatever its fields are. Assumes nothing.
use Rattle.std.specs.Prelude.{ℕ, List, length, take}
use Rattle.register.specs.declared.Register.{Register}

-- the records, by rank
abbrev pub held : {R : Type 0} {g : _} → Register R g → List R
held r = take r.used r.slots.now

-- how many records there is room for
abbrev pub capacity : {R : Type 0} {g : _} → Register R g → ℕ
capacity r = length r.slots.now
