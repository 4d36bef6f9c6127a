-- The order of points by x, and by y, is an order.
use Rattle.std.proofs.Common.{◌⊎◌, inl, inr, ◌*ℤ◌, refl, sym, arith}
use Rattle.plan_exact.specs.Sign.{is_less, is_equal, is_greater}
use Rattle.plan_exact.proofs.Laws.{linear}
use Rattle.plan_exact.proofs.Signs.{order_of, le_of_lt}
use Rattle.plan_spec.specs.Vector.{Vector, IsPoint, LeX, LtX, LtY, SameX, SameY}
use Rattle.plan_plane.proofs.Segment.Between.{flip}
use Rattle.plan_plane.proofs.Segment.ByX.{leX_trans, ltX_leX, leX_ltX}
use Rattle.plan_plane.proofs.Rising.Lists.{IsOrder}

same_le : (a b : Vector) → SameX a b → LeX a b
same_le a b e = omega (arith, linear)

same_ge : (a b : Vector) → SameX a b → LeX b a
same_ge a b e = omega (arith, linear)

both : (a b : Vector) → LeX a b → LeX b a → SameX a b
both a b h k = omega (arith, linear)

pub order_x : IsOrder IsPoint LtX SameX
order_x = record {
  refl = λ a ha. refl;
  sym = λ a b ha hb e. sym e;
  trans = λ a b c ha hb hc e f. both a c (leX_trans a b c ha hb hc (same_le a b e) (same_le b c f)) (leX_trans c b a hc hb ha (same_ge b c f) (same_ge a b e));
  less = λ a b c ha hb hc h k. ltX_leX a b c ha hb hc h (le_of_lt k);
  less_equal = λ a b c ha hb hc h e. ltX_leX a b c ha hb hc h (same_le b c e);
  equal_less = λ a b c ha hb hc e h. leX_ltX a b c ha hb hc (same_le a b e) h;
  apart = λ a b ha hb h e. omega (arith, linear);
  total = λ a b ha hb. total a b;
}
  where
    total : (a b : Vector) → LtX a b ⊎ (SameX a b ⊎ LtX b a)
    total a b = elim (order_of (a.x *ℤ b.w) (b.x *ℤ a.w)) [
      | is_less h ↦ inl h
      | is_equal h ↦ inr (inl h)
      | is_greater h ↦ inr (inr h)
    ]

pub order_y : IsOrder IsPoint LtY SameY
order_y = record {
  refl = λ a ha. refl;
  sym = λ a b ha hb e. sym e;
  trans = λ a b c. order_x.trans (flip a) (flip b) (flip c);
  less = λ a b c. order_x.less (flip a) (flip b) (flip c);
  less_equal = λ a b c. order_x.less_equal (flip a) (flip b) (flip c);
  equal_less = λ a b c. order_x.equal_less (flip a) (flip b) (flip c);
  apart = λ a b. order_x.apart (flip a) (flip b);
  total = λ a b. order_x.total (flip a) (flip b);
}

-- ---- another point with the x of one, in its place
pub before_alike : (a b z : Vector) → IsPoint a → IsPoint b → IsPoint z → SameX a b → LeX a z → LeX b z
before_alike a b z ha hb hz e h = leX_trans b a z hb ha hz (same_ge a b e) h

pub after_alike : (a b z : Vector) → IsPoint a → IsPoint b → IsPoint z → SameX a b → LeX z a → LeX z b
after_alike a b z ha hb hz e h = leX_trans z a b hz ha hb h (same_le a b e)
