-- A trial that stopped, and one of two that follow one another. Assumes nothing.
use Rattle.std.proofs.Common.{◌≡◌, IsErrAnd, Some, Option, Result, sym, ap, ◌∙◌, subst}
use Rattle.std.proofs.lemmas.Result.{err_from_is_err_and}
use Rattle.metering.specs.Trial.{Tried}

-- an answer that carries the fault e on
pub tried_on : {T E : Type 0} (r : Result T E) (e : E) (o : Option E) → IsErrAnd r (λ x. x ≡ e) → o ≡ Some e → Tried r o
tried_on {T} {E} r e o b h =
    let y = err_from_is_err_and r b in
    subst (λ (x : Result T E). Tried x o) (sym y.1) (h ∙ ap Some (sym y.2))
