-- By the sides of the room, or by the sums.
use Rattle.std.proofs.Common.{inl, inr, ⊎_elim, refl}
use Rattle.plan_check.proofs.Each.{untrue}
use Rattle.plan_check.proofs.chain.is_tight.Goals as goal

pub returns-then-are_beyond_one_side : goal.returns-then-are_beyond_one_side
returns-then-are_beyond_one_side c = (λ e. inr (c.if-are_beyond_one_side.ensures.0 refl), λ h. refl)

pub returns : goal.returns
returns c = (λ e. inl (c.one_holds.ensures.0 e), λ h. ⊎_elim c.one_holds.ensures.1 (λ k. absurd (untrue (c.if-are_beyond_one_side.ensures.1 k))) h)
