use Rattle.std.proofs.Common.{◌≡◌, ℕ, ◌<◌, ◌≤◌, false, length, get_or}
use Rattle.register.specs.Held.{held}
use Rattle.marks.specs.declared.Event.{Event}
use Rattle.marks.specs.Marked.{leads}
use Rattle.marks.proofs.Marks.lead_rank.Given as goal

-- none after those still to look at leads
abbrev pub invariant-loop-at : goal.invariant-loop-at
invariant-loop-at l = l.rank < length (held l.self.events) → (j : ℕ) (d : Event) → (l.at < j) × (j ≤ l.rank) →
    leads l.self.resolution (held l.self.events) (get_or (held l.self.events) j d) ≡ false
