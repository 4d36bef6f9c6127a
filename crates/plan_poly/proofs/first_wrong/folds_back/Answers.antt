use Rattle.std.proofs.Common.{inl, refl}
use Rattle.plan_poly.proofs.first_wrong.folds_back.Goals as goal

pub returns-then-is_beyond : goal.returns-then-is_beyond
returns-then-is_beyond c = (λ t. inl (c.if-is_beyond.ensures.0 refl), λ f. c.if-is_beyond.true)
