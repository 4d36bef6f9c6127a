-- What is left is found by the case of the next part.
use Rattle.std.proofs.Common.{◌≡◌, ◌∙◌, ℕ, ◌+◌, suc, ◌<◌, ◌≤◌, Bool, true, false, cond, List, [], ◌∷◌, ◌++◌, length, get_or, drop, append_assoc, add-one, drop-cons, refl, sym, ap}
use Rattle.std.proofs.lemmas.List.{drop_all}
use Rattle.std.proofs.lemmas.Result.{IfOk-weaker}
use Rattle.plan_grid.specs.Fraction.{Fraction}
use Rattle.plan_convex.specs.Parameter.{at_most}
use Rattle.plan_convex.specs.declared.part.Part.{Part}
use Rattle.plan_bound.specs.Gaps.{last_gap, gaps}
use Rattle.plan_bound.proofs.gaps.gaps.Goals as goal
use Rattle.plan_bound.proofs.gaps.gaps.Goals.{then-not-is_at_most-2, then-is_at_most+in_ok-push, else-is_at_most, else-not-is_at_most-2}

-- the gaps from c to e by where the first part begins and ends
abbrev by_case : (begins passed gap : Bool) (c e : Fraction) (p : Part) (ps : List Part) → List Part
by_case begins passed gap c e p ps =
    cond begins (cond passed (gaps c e ps) (cond gap (record { from = c; to = p.from } ∷ gaps p.to e ps) (gaps p.to e ps))) (last_gap c e)

module _ (found all parts : List Part) (c e : Fraction) (i : ℕ) (p : Part) (within : i < length parts) (is : p ≡ get_or parts i p) (left : found ++ gaps c e (drop i parts) ≡ all) where
  next : (begins passed gap : Bool) → at_most p.from e ≡ begins → at_most p.to c ≡ passed → at_most c p.from ≡ gap → found ++ by_case begins passed gap c e p (drop (i + 1) parts) ≡ all
  next begins passed gap hs ht hu =
      let this : drop i parts ≡ p ∷ drop (i + 1) parts = rw add-one (drop-cons parts i p within ∙ ap (λ q. q ∷ drop (suc i) parts) (sym is)) in
      (λ j. found ++ by_case (sym hs j) (sym ht j) (sym hu j) c e p (drop (i + 1) parts)) ∙ ap (λ l. found ++ gaps c e l) (sym this) ∙ left

  given : at_most p.from e ≡ true → at_most p.to c ≡ false → at_most c p.from ≡ true → (found ++ record { from = c; to = p.from } ∷ []) ++ gaps p.to e (drop (i + 1) parts) ≡ all
  given hs ht hu = rw append_assoc (next true false true hs ht hu)

at_end : (found all parts : List Part) (c e : Fraction) (i : ℕ) → length parts ≤ i → found ++ gaps c e (drop i parts) ≡ all → found ++ last_gap c e ≡ all
at_end found all parts c e i beyond left = ap (λ l. found ++ gaps c e l) (sym (drop_all i parts beyond)) ∙ left

pub loop-part-init : goal.loop-part-init
loop-part-init c = rw c.new-found.ensures.items refl

pub returns-then-not-is_at_most : goal.returns-then-not-is_at_most
returns-then-not-is_at_most c =
    let p = c.part-item.result in
    let from = c.loop-part.from in
    let all = gaps c.args.within.from c.args.within.to c.args.parts.now in
    let stopped = next c.loop-part.found.items all c.args.parts.now from c.args.within.to c.loop-part.part-index p c.loop-part-test.true c.part-item.is c.loop-part.invariant false (at_most p.to from) (at_most from p.from) (sym c.if-not-is_at_most.ensures.value) refl refl in
    IfOk-weaker c.with_last.result _ _ (λ v made. made ∙ stopped) c.with_last.ensures

pub loop-part-preserved : goal.loop-part-preserved
loop-part-preserved c =
    let found = c.loop-part.found.items in
    let parts = c.args.parts.now in
    let from = c.loop-part.from in
    let to = c.args.within.to in
    let i = c.loop-part.part-index in
    let p = c.part-item.result in
    let all = gaps c.args.within.from to parts in
    let begins = sym c.if-not-is_at_most.ensures.value in
    elim c.if-not-is_at_most-2.branch [
      | then-not-is_at_most-2 w ↦
          let beyond = sym w.if-not-is_at_most-2.ensures.value in
          elim w.if-is_at_most.branch [
            | then-is_at_most+in_ok-push v ↦
                rw (w.found-is, w.from-is, v.found-is, v.in_ok-push.ensures.items)
                (given found all parts from to i p c.loop-part-test.true c.part-item.is c.loop-part.invariant begins beyond (sym v.if-is_at_most.ensures.value))
            | else-is_at_most v ↦
                rw (w.found-is, w.from-is, v.found-is)
                (next found all parts from to i p c.loop-part-test.true c.part-item.is c.loop-part.invariant true false false begins beyond (sym v.if-is_at_most.ensures.value))
          ]
      | else-not-is_at_most-2 w ↦
          rw (w.found-is, w.from-is)
          (next found all parts from to i p c.loop-part-test.true c.part-item.is c.loop-part.invariant true true (at_most from p.from) begins (sym w.if-not-is_at_most-2.ensures.value) refl)
    ]

pub returns : goal.returns
returns c =
    IfOk-weaker c.with_last-2.result _ _
    (λ v made. made ∙ at_end c.loop-part.found.items (gaps c.args.within.from c.args.within.to c.args.parts.now) c.args.parts.now c.loop-part.from c.args.within.to c.loop-part.part-index c.loop-part-test.false c.loop-part.invariant)
    c.with_last-2.ensures
