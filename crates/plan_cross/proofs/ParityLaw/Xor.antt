-- The laws of exclusive or: of its terms in any order, equal ones cancel.
use Rattle.std.proofs.Common.{◌≡◌, Bool, true, false, not, ◌&&◌, refl, sym, ap, ◌∙◌}
use Rattle.std.specs.Bool.{beq}
use Rattle.plan_spec.specs.Parity.{xor}

-- as code computes it
pub xor_is : (x y : Bool) → xor x y ≡ not (beq x y)
xor_is true true = refl
xor_is true false = refl
xor_is false true = refl
xor_is false false = refl

pub xor_false : (x : Bool) → xor x false ≡ x
xor_false true = refl
xor_false false = refl

pub xor_same : (x : Bool) → xor x x ≡ false
xor_same true = refl
xor_same false = refl

pub xor_comm : (x y : Bool) → xor x y ≡ xor y x
xor_comm true true = refl
xor_comm true false = refl
xor_comm false true = refl
xor_comm false false = refl

pub xor_assoc : (x y z : Bool) → xor (xor x y) z ≡ xor x (xor y z)
xor_assoc true true true = refl
xor_assoc true true false = refl
xor_assoc true false z = refl
xor_assoc false y z = refl

pub xor_middle : (a b c d : Bool) → xor (xor a b) (xor c d) ≡ xor (xor a c) (xor b d)
xor_middle a b c d =
    xor_assoc a b (xor c d) ∙ ap (xor a) (sym (xor_assoc b c d) ∙ ap (λ x. xor x d) (xor_comm b c) ∙ xor_assoc c b d) ∙ sym (xor_assoc a c (xor b d))

pub and_xor : (k m n : Bool) → xor (k && m) (k && n) ≡ (k && xor m n)
and_xor true m n = refl
and_xor false m n = refl

pub cancelled : {x y : Bool} → x ≡ y → xor x y ≡ false
cancelled {x} {y} e = ap (λ v. xor v y) e ∙ xor_same y

pub same_from_xor : (x y : Bool) → xor x y ≡ false → x ≡ y
same_from_xor true true e = refl
same_from_xor true false e = e
same_from_xor false y e = sym e
