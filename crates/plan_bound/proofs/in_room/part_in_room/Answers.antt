-- Each of the four steps is that of one side of the room.
use Rattle.std.proofs.Common.{rules, ◌≡◌, ℤ, ◌-ℤ◌, ◌<◌, ◌≤◌, ◌^◌, unsigned_abs, SFits, to_z-of_z, w32, arith}
use Rattle.std.proofs.lemmas.Int.{ints}
use Rattle.plan_grid.specs.declared.bounds.TheConstants.{MOST_COORDINATE}
use Rattle.plan_bound.proofs.RoomPart.{room_part, whole_in_range}
use Rattle.plan_bound.proofs.in_room.part_in_room.Goals as goal

ahead_in_range : (l a b : ℤ) → unsigned_abs a ≤ MOST_COORDINATE → unsigned_abs b ≤ MOST_COORDINATE → unsigned_abs ((b -ℤ l) -ℤ (a -ℤ l)) < 2 ^ 25
ahead_in_range l a b ha hb = omega (arith, ints)

behind_in_range : (h a b : ℤ) → unsigned_abs a ≤ MOST_COORDINATE → unsigned_abs b ≤ MOST_COORDINATE → unsigned_abs ((h -ℤ b) -ℤ (h -ℤ a)) < 2 ^ 25
behind_in_range h a b ha hb = omega (arith, ints)

pub where_not_negative-right_of_left-requires : goal.where_not_negative-right_of_left-requires
where_not_negative-right_of_left-requires c =
    let s : SFits w32 c.args.room.low.x = search rules in
    let a : SFits w32 c.args.a.x = search rules in
    let b : SFits w32 c.args.b.x = search rules in
    rw (simp to_z-of_z at c.way.ensures, simp to_z-of_z at c.way-2.ensures) (ahead_in_range c.args.room.low.x c.args.a.x c.args.b.x c.requires.a_bounded.x c.requires.b_bounded.x)

pub where_not_negative-left_of_right-requires : goal.where_not_negative-left_of_right-requires
where_not_negative-left_of_right-requires c =
    let s : SFits w32 c.args.room.high.x = search rules in
    let a : SFits w32 c.args.a.x = search rules in
    let b : SFits w32 c.args.b.x = search rules in
    rw (simp to_z-of_z at c.way-3.ensures, simp to_z-of_z at c.way-4.ensures) (behind_in_range c.args.room.high.x c.args.a.x c.args.b.x c.requires.a_bounded.x c.requires.b_bounded.x)

pub where_not_negative-above_bottom-requires : goal.where_not_negative-above_bottom-requires
where_not_negative-above_bottom-requires c =
    let s : SFits w32 c.args.room.low.y = search rules in
    let a : SFits w32 c.args.a.y = search rules in
    let b : SFits w32 c.args.b.y = search rules in
    rw (simp to_z-of_z at c.way-5.ensures, simp to_z-of_z at c.way-6.ensures) (ahead_in_range c.args.room.low.y c.args.a.y c.args.b.y c.requires.a_bounded.y c.requires.b_bounded.y)

pub where_not_negative-requires : goal.where_not_negative-requires
where_not_negative-requires c =
    let s : SFits w32 c.args.room.high.y = search rules in
    let a : SFits w32 c.args.a.y = search rules in
    let b : SFits w32 c.args.b.y = search rules in
    rw (simp to_z-of_z at c.way-7.ensures, simp to_z-of_z at c.way-8.ensures) (behind_in_range c.args.room.high.y c.args.a.y c.args.b.y c.requires.a_bounded.y c.requires.b_bounded.y)

pub returns : goal.returns
returns c =
    let a = c.args.a in
    let b = c.args.b in
    let low = c.args.room.low in
    let high = c.args.room.high in
    let ax : SFits w32 c.args.a.x = search rules in
    let ay : SFits w32 c.args.a.y = search rules in
    let bx : SFits w32 c.args.b.x = search rules in
    let by : SFits w32 c.args.b.y = search rules in
    let lx : SFits w32 c.args.room.low.x = search rules in
    let ly : SFits w32 c.args.room.low.y = search rules in
    let hx : SFits w32 c.args.room.high.x = search rules in
    let hy : SFits w32 c.args.room.high.y = search rules in
    let w1 : c.way.result ≡ a.x -ℤ low.x = simp to_z-of_z at c.way.ensures in
    let w2 : c.way-2.result ≡ b.x -ℤ low.x = simp to_z-of_z at c.way-2.ensures in
    let w3 : c.way-3.result ≡ high.x -ℤ a.x = simp to_z-of_z at c.way-3.ensures in
    let w4 : c.way-4.result ≡ high.x -ℤ b.x = simp to_z-of_z at c.way-4.ensures in
    let w5 : c.way-5.result ≡ a.y -ℤ low.y = simp to_z-of_z at c.way-5.ensures in
    let w6 : c.way-6.result ≡ b.y -ℤ low.y = simp to_z-of_z at c.way-6.ensures in
    let w7 : c.way-7.result ≡ high.y -ℤ a.y = simp to_z-of_z at c.way-7.ensures in
    let w8 : c.way-8.result ≡ high.y -ℤ b.y = simp to_z-of_z at c.way-8.ensures in
    let p = c.where_not_negative-right_of_left in
    let q = c.where_not_negative-left_of_right in
    let r = c.where_not_negative-above_bottom in
    let u = c.where_not_negative in
    let in_range = u.ensures.in_range (r.ensures.in_range (q.ensures.in_range (p.ensures.in_range (rw c.whole.ensures whole_in_range)))) in
    record {
      from = in_range.0.share;
      to = in_range.1.share;
      exact = room_part c.args.room a b p.result q.result r.result u.result c.requires.wide c.requires.tall (rw (c.whole.ensures, w1, w2) at p.ensures.value) (rw (w3, w4) at q.ensures.value) (rw (w5, w6) at r.ensures.value) (rw (w7, w8) at u.ensures.value);
    }
