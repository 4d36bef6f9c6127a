-- The heights of bars at one x, and of each height the bar of the least number; these are the spans of a slab.
use Rattle.std.proofs.Common.{◌≡◌, ⊎_elim, ℕ, ◌+◌, ◌<◌, ◌≤◌, sym, subst, ◌∙◌, List, [], ◌∷◌, ◌++◌, get_or, length, All, Any, arith}
use Rattle.std.proofs.lemmas.List.{get_or_default}
use Rattle.std.proofs.lemmas.List.Elements.{All-push}
use Rattle.plan_spec.specs.Vector.{Vector}
use Rattle.plan_plane.proofs.Lists.{any_left, any_right, any_here}
use Rattle.plan_grid.specs.Fraction.{SameValue}
use Rattle.plan_slab.specs.declared.bar.Bar.{Bar}
use Rattle.plan_slab.specs.declared.rungs.Rung.{Rung}
use Rattle.plan_slab.specs.Heights.{IsLevel}
use Rattle.plan_slab.specs.Rungs.{level_at, IsRungOf, AreLeastOf, AreFirstOf}
use Rattle.plan_slab.specs.Seen.{strand_seen}
use Rattle.plan_slab.proofs.XValues.{order_nat, all_of_each}

pub record RungsSoFar (m : Vector) (bars : List Bar) (i : ℕ) (gs : List Rung) : Type 0 where
  pub each : All (λ g. Any (IsRungOf m g) bars) gs
  pub all : (k : ℕ) (d : Bar) → k < i → Any (λ g. IsRungOf m g (get_or bars k d)) gs

pub one_rung_more : (m : Vector) (bars : List Bar) (i : ℕ) (gs : List Rung) (b : Bar) (g : Rung) → RungsSoFar m bars i gs → i < length bars → b ≡ get_or bars i b → IsRungOf m g b → RungsSoFar m bars (i + 1) (gs ++ g ∷ [])
one_rung_more m bars i gs b g h within is rung = record {
  each = All-push (λ g. Any (IsRungOf m g) bars) gs g h.each (i, b, within, sym is, rung);
  all = λ k d less. ⊎_elim
      (λ l. any_left (λ g. IsRungOf m g (get_or bars k d)) gs (g ∷ []) (h.all k d l))
      (λ e. any_right (λ g. IsRungOf m g (get_or bars k d)) gs (g ∷ []) (any_here (λ g. IsRungOf m g (get_or bars k d)) g [] (subst (IsRungOf m g) (subst (λ j. b ≡ get_or bars j d) (sym e) (is ∙ get_or_default bars i b d within)) rung)))
      (order_nat k i less);
}

pub rungs_in_range : (m : Vector) (bars : List Bar) (i : ℕ) (gs : List Rung) → RungsSoFar m bars i gs → All (λ g. IsLevel g.level) gs
rungs_in_range m bars i gs h k d within = let (j, b, below, is, rung) = h.each k d within in rung.in_range

pub first_of : (m : Vector) (bars : List Bar) (i : ℕ) (gs hs : List Rung) → i ≡ length bars → RungsSoFar m bars i gs → AreLeastOf gs hs → AreFirstOf m bars hs
first_of m bars i gs hs e h l = record {
  each = all_of_each (λ g. Any (IsRungOf m g) bars) gs hs l.each h.each;
  rising = l.rising;
  all = λ k d within. found (get_or bars k d) (h.all k d (omega (arith, within, e)));
}
  where
    found : (b : Bar) → Any (λ g. IsRungOf m g b) gs → Any (λ h. (h.number ≤ b.number) × SameValue h.level (level_at m (strand_seen b.strand))) hs
    found b (k, g, within, is, rung) =
        let (j, h, below, at, (upto, same)) = subst (λ g. Any (λ h. (h.number ≤ g.number) × SameValue h.level g.level) hs) is (l.all k g within) in
        (j, h, below, at, (omega (arith, upto, rung.number), subst (SameValue h.level) rung.level same))
