-- An ordering tells one sign of a number, so two orderings that tell the sign of one number are one.
use Rattle.std.proofs.Common.{◌≡◌, ◌==◌, ℕ, zero, suc, ℤ, pos, true, false, not, refl, sym, ap, subst, ◌∙◌}
use Rattle.std.proofs.lemmas.Bool.{not-false}
use Rattle.std.proofs.lemmas.Bool.Decides.{Decides-eqb}
use Rattle.std.specs.Ordering.{ordering_index}
use Rattle.std.specs.declared.cmp.Ordering.{Ordering}
use Rattle.std.specs.declared.cmp.Ordering.TheVariants.{Less, Equal, Greater}
use Rattle.plan_grid.specs.FractionOrder.{order_is_cmp}
use Rattle.plan_grid.specs.Order.{IsSign}

-- the ordering of that index
abbrev ordering_at : ℕ → Ordering
ordering_at zero = Less
ordering_at (suc zero) = Equal
ordering_at (suc (suc n)) = Greater

at_index : (o : Ordering) → ordering_at (ordering_index o) ≡ o
at_index Less = refl
at_index Equal = refl
at_index Greater = refl

pub sign_differs : (o s : Ordering) (t : ℤ) → true ≡ not (ordering_index o == ordering_index s) → IsSign o t → ¬ (IsSign s t)
sign_differs o s t test h k =
    let same : o ≡ s = order_is_cmp o t (pos 0) h ∙ sym (order_is_cmp s t (pos 0) k) in
    let equal = (Decides-eqb (ordering_index o) (ordering_index s)).1 (ap ordering_index same) in
    absurd (let both = rw equal at test in cc)

pub sign_same : (o s : Ordering) (t : ℤ) → false ≡ not (ordering_index o == ordering_index s) → IsSign o t → IsSign s t
sign_same o s t test h =
    let equal = (Decides-eqb (ordering_index o) (ordering_index s)).0 (not-false _ (sym test)) in
    subst (λ r. IsSign r t) (sym (at_index o) ∙ ap ordering_at equal ∙ at_index s) h
