-- A robot has one box, and so one room in a frame.
use Rattle.std.proofs.Common.{◌≡◌, ℤ, ◌≤ℤ◌, ◌-ℤ◌, List, All, Any, sym, subst, ◌∙◌, arith}
use Rattle.plan_exact.proofs.Laws.{linear}
use Rattle.plan_spec.specs.Vector.{Vector, spot}
use Rattle.plan_spec.specs.Frame.{Frame}
use Rattle.plan_spec.specs.Room.{IsBox, IsRoom, room}
use Rattle.plan_plane.proofs.Lists.{any_with}

module _ (f : Vector → ℤ) (vs : List Vector) (m n : ℤ) where
  at_most : All (λ v. m ≤ℤ f v) vs → Any (λ v. f v ≡ n) vs → m ≤ℤ n
  at_most all some = let a = any_with (λ v. m ≤ℤ f v) (λ v. f v ≡ n) (λ v. m ≤ℤ n) (λ v h e. subst (λ z. m ≤ℤ z) e h) vs all some in a.4

  at_least : All (λ v. f v ≤ℤ m) vs → Any (λ v. f v ≡ n) vs → n ≤ℤ m
  at_least all some = let a = any_with (λ v. f v ≤ℤ m) (λ v. f v ≡ n) (λ v. n ≤ℤ m) (λ v h e. subst (λ z. z ≤ℤ m) e h) vs all some in a.4

both_ways : (m n : ℤ) → m ≤ℤ n → n ≤ℤ m → m ≡ n
both_ways m n h k = omega (arith, linear, h, k)

-- a least number that some vector has is one, and a greatest
one_least : (f : Vector → ℤ) (vs : List Vector) (m n : ℤ) → All (λ v. m ≤ℤ f v) vs → Any (λ v. f v ≡ m) vs → All (λ v. n ≤ℤ f v) vs → Any (λ v. f v ≡ n) vs → m ≡ n
one_least f vs m n all_m some_m all_n some_n = both_ways m n (at_most f vs m n all_m some_n) (at_most f vs n m all_n some_m)

one_greatest : (f : Vector → ℤ) (vs : List Vector) (m n : ℤ) → All (λ v. f v ≤ℤ m) vs → Any (λ v. f v ≡ m) vs → All (λ v. f v ≤ℤ n) vs → Any (λ v. f v ≡ n) vs → m ≡ n
one_greatest f vs m n all_m some_m all_n some_n = both_ways m n (at_least f vs n m all_n some_m) (at_least f vs m n all_m some_n)

pub one_room : (robot : List Vector) (frame r t : Frame) → IsRoom robot frame r → IsRoom robot frame t → r ≡ t
one_room robot frame r t h k = h.is_room ∙ same ∙ sym k.is_room
  where
    a : IsBox robot h.box
    a = h.is_box

    b : IsBox robot k.box
    b = k.is_box

    left : h.box.low.x ≡ k.box.low.x
    left = one_least (λ v. v.x) robot h.box.low.x k.box.low.x a.left a.leftmost b.left b.leftmost

    right : h.box.high.x ≡ k.box.high.x
    right = one_greatest (λ v. v.x) robot h.box.high.x k.box.high.x a.right a.rightmost b.right b.rightmost

    lower : h.box.low.y ≡ k.box.low.y
    lower = one_least (λ v. v.y) robot h.box.low.y k.box.low.y a.below a.lowest b.below b.lowest

    upper : h.box.high.y ≡ k.box.high.y
    upper = one_greatest (λ v. v.y) robot h.box.high.y k.box.high.y a.above a.highest b.above b.highest

    same : room h.box frame ≡ room k.box frame
    same = λ i. record { low = spot (frame.low.x -ℤ left i) (frame.low.y -ℤ lower i); high = spot (frame.high.x -ℤ right i) (frame.high.y -ℤ upper i) }
