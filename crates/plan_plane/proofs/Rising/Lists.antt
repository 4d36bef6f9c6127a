-- Rising lists: two with the same values are equal place by place, and each list has one.
use Rattle.std.proofs.Common.{◌≡◌, ◌⊎◌, inl, inr, ⊎_elim, suc, List, [], ◌∷◌, length, get_or, All, Any, AllPairs, subst, arith}
use Rattle.std.specs.List.{AllZip}
use Rattle.std.proofs.lemmas.List.{get_or_default}
use Rattle.std.proofs.lemmas.List.Elements.{All-nil, All-cons, All-head, All-tail, length_all_zip}
use Rattle.std.proofs.lemmas.List.Kept.{AllPairs-cons}
use Rattle.plan_plane.proofs.Lists.{any_here, any_there, any_cases, any_none, any_with}

-- lt and eq are an order and its equality, among what has P
pub record IsOrder {X : Type 0} (P : X → Type 0) (lt eq : X → X → Type 0) : Type 0 where
  pub refl : (x : X) → P x → eq x x
  pub sym : (x y : X) → P x → P y → eq x y → eq y x
  pub trans : (x y z : X) → P x → P y → P z → eq x y → eq y z → eq x z
  pub less : (x y z : X) → P x → P y → P z → lt x y → lt y z → lt x z
  pub less_equal : (x y z : X) → P x → P y → P z → lt x y → eq y z → lt x z
  pub equal_less : (x y z : X) → P x → P y → P z → eq x y → lt y z → lt x z
  pub apart : (x y : X) → P x → P y → lt x y → ¬ (eq x y)
  pub total : (x y : X) → P x → P y → lt x y ⊎ (eq x y ⊎ lt y x)

-- zs rises and has the values of xs, no others
pub record IsRisingOf {X : Type 0} (P : X → Type 0) (lt eq : X → X → Type 0) (xs zs : List X) : Type 0 where
  pub points : All P zs
  pub rising : AllPairs lt zs
  pub each : All (λ z. Any (eq z) xs) zs
  pub all : All (λ x. Any (eq x) zs) xs

pub rest_after : {X : Type 0} (lt : X → X → Type 0) (x : X) (xs : List X) → AllPairs lt (x ∷ xs) → All (lt x) xs
rest_after lt x xs h k d within = h 0 (suc k) d (omega arith) (omega arith)

pub rising_tail : {X : Type 0} (lt : X → X → Type 0) (x : X) (xs : List X) → AllPairs lt (x ∷ xs) → AllPairs lt xs
rising_tail lt x xs h i j d less within = h (suc i) (suc j) d (omega arith) (omega arith)

-- a fact of one element and one of all, together
combined : {X : Type 0} (P Q : X → Type 0) {R : Type 0} → ((x : X) → P x → Q x → R) → (xs : List X) → All P xs → Any Q xs → R
combined P Q f xs all (k, x, within, e, h) = f x (subst P e (all k x within)) h

-- ---- two lists with the same values
-- y is a value of the tail that x heads: x is before it
head_before : {X : Type 0} {P : X → Type 0} {lt eq : X → X → Type 0} (o : IsOrder P lt eq) (x y : X) (xs : List X) → P x → P y → All P xs → All (lt x) xs → Any (eq y) xs → lt x y
head_before {X} {P} {lt} {eq} o x y xs hx hy hs after some =
    combined (λ z. P z × lt x z) (eq y) (λ z h e. o.less_equal x z y hx h.0 hy h.1 (o.sym y z hy h.0 e)) xs (λ k d within. (hs k d within, after k d within)) some

heads_equal : {X : Type 0} {P : X → Type 0} {lt eq : X → X → Type 0} (o : IsOrder P lt eq) (x y : X) (xs ys : List X) → P x → P y → All P xs → All P ys → All (lt x) xs → All (lt y) ys → Any (eq x) (y ∷ ys) → Any (eq y) (x ∷ xs) → eq x y
heads_equal {X} {P} {lt} {eq} o x y xs ys hx hy hxs hys after_x after_y has_x has_y =
    ⊎_elim (λ e. e) (λ in_ys. ⊎_elim (λ e. o.sym y x hy hx e) (λ in_xs. absurd (o.apart x x hx hx (o.less x y x hx hy hx (head_before o x y xs hx hy hxs after_x in_xs) (head_before o y x ys hy hx hys after_y in_ys)) (o.refl x hx))) (any_cases (eq y) x xs has_y)) (any_cases (eq x) y ys has_x)

-- what comes after the head is a value of the other list's tail
in_tail : {X : Type 0} {P : X → Type 0} {lt eq : X → X → Type 0} (o : IsOrder P lt eq) (x y : X) (xs ys : List X) → P x → P y → All P xs → eq x y → All (lt x) xs → All (λ z. Any (eq z) (y ∷ ys)) xs → All (λ z. Any (eq z) ys) xs
in_tail {X} {P} {lt} {eq} o x y xs ys hx hy hs e after has k d within =
    let z = get_or xs k d in
    let hz = hs k d within in
    ⊎_elim (λ f. absurd (o.apart x z hx hz (after k d within) (o.trans x y z hx hy hz e (o.sym z y hz hy f)))) (λ some. some) (any_cases (eq z) y ys (has k d within))

pub same_rising : {X : Type 0} {P : X → Type 0} {lt eq : X → X → Type 0} (o : IsOrder P lt eq) (xs ys : List X) → All P xs → All P ys → AllPairs lt xs → AllPairs lt ys → All (λ x. Any (eq x) ys) xs → All (λ y. Any (eq y) xs) ys → AllZip eq xs ys
same_rising o [] [] hx hy rx ry ex ey = tt
same_rising {eq = eq} o [] (y ∷ ys) hx hy rx ry ex ey = absurd (any_none (eq y) (ey 0 y (omega arith)))
same_rising {eq = eq} o (x ∷ xs) [] hx hy rx ry ex ey = absurd (any_none (eq x) (ex 0 x (omega arith)))
same_rising {P = P} {lt = lt} {eq = eq} o (x ∷ xs) (y ∷ ys) hx hy rx ry ex ey =
    let px = All-head P x xs hx in
    let py = All-head P y ys hy in
    let pxs = All-tail P x xs hx in
    let pys = All-tail P y ys hy in
    let ax = rest_after lt x xs rx in
    let ay = rest_after lt y ys ry in
    let e = heads_equal o x y xs ys px py pxs pys ax ay (ex 0 x (omega arith)) (ey 0 y (omega arith)) in (
      e,
      same_rising o xs ys pxs pys (rising_tail lt x xs rx) (rising_tail lt y ys ry)
          (in_tail o x y xs ys px py pxs e ax (All-tail (λ z. Any (eq z) (y ∷ ys)) x xs ex))
          (in_tail o y x ys xs py px pys (o.sym x y px py e) ay (All-tail (λ z. Any (eq z) (x ∷ xs)) y ys ey)),
    )

-- what x equals some element of, where each of those equals some element of ys
any_through : {X : Type 0} {P : X → Type 0} {lt eq : X → X → Type 0} (o : IsOrder P lt eq) (x w : X) (ys : List X) → P x → P w → All P ys → eq x w → Any (eq w) ys → Any (eq x) ys
any_through {P = P} {eq = eq} o x w ys hx hw hy e some = any_with P (eq w) (eq x) (λ y h f. o.trans x w y hx hw h e f) ys hy some

through : {X : Type 0} {P : X → Type 0} {lt eq : X → X → Type 0} (o : IsOrder P lt eq) (ws xs ys : List X) → All P ws → IsRisingOf P lt eq ws xs → IsRisingOf P lt eq ws ys → All (λ x. Any (eq x) ys) xs
through {P = P} {eq = eq} o ws xs ys hw rx ry k d within =
    let x = get_or xs k d in
    let hx = rx.points k d within in
    combined (λ w. P w × Any (eq w) ys) (eq x) (λ w h e. any_through o x w ys hx h.0 ry.points e h.1) ws (λ j d below. (hw j d below, ry.all j d below)) (rx.each k d within)

-- two rising lists of the same values
pub one_rising : {X : Type 0} {P : X → Type 0} {lt eq : X → X → Type 0} (o : IsOrder P lt eq) (ws xs ys : List X) → All P ws → IsRisingOf P lt eq ws xs → IsRisingOf P lt eq ws ys → AllZip eq xs ys
one_rising o ws xs ys hw rx ry = same_rising o xs ys rx.points ry.points rx.rising ry.rising (through o ws xs ys hw rx ry) (through o ws ys xs hw ry rx)

pub same_length : {X : Type 0} {P : X → Type 0} {lt eq : X → X → Type 0} (o : IsOrder P lt eq) (ws xs ys : List X) → All P ws → IsRisingOf P lt eq ws xs → IsRisingOf P lt eq ws ys → length xs ≡ length ys
same_length {eq = eq} o ws xs ys hw rx ry = length_all_zip eq xs ys (one_rising o ws xs ys hw rx ry)

-- ---- each list has one
-- ws is zs with x inserted, unless it was there
record Inserted {X : Type 0} (P : X → Type 0) (lt eq : X → X → Type 0) (x : X) (zs ws : List X) : Type 0 where
  points : All P ws
  rising : AllPairs lt ws
  each : All (λ w. eq w x ⊎ Any (eq w) zs) ws
  has : Any (eq x) ws
  keeps : All (λ z. Any (eq z) ws) zs

itself : {X : Type 0} {P : X → Type 0} {lt eq : X → X → Type 0} (o : IsOrder P lt eq) (zs : List X) → All P zs → All (λ z. Any (eq z) zs) zs
itself {eq = eq} o zs hz k d within = (k, get_or zs k d, within, get_or_default zs k (get_or zs k d) d within, o.refl (get_or zs k d) (hz k d within))

all_there : {X Y : Type 0} (R : Y → X → Type 0) (x : X) (xs : List X) (ys : List Y) → All (λ y. Any (R y) xs) ys → All (λ y. Any (R y) (x ∷ xs)) ys
all_there R x xs ys h k d within = any_there (R (get_or ys k d)) x xs (h k d within)

alone : {X : Type 0} {P : X → Type 0} {lt eq : X → X → Type 0} (o : IsOrder P lt eq) (x : X) → P x → Inserted P lt eq x [] (x ∷ [])
alone {P = P} {lt = lt} {eq = eq} o x hx = record {
  points = All-cons P x [] hx (All-nil P);
  rising = λ i j d less within. absurd (omega arith);
  each = All-cons (λ w. eq w x ⊎ Any (eq w) []) x [] (inl (o.refl x hx)) (All-nil (λ w. eq w x ⊎ Any (eq w) []));
  has = any_here (eq x) x [] (o.refl x hx);
  keeps = All-nil (λ z. Any (eq z) (x ∷ []));
}

before : {X : Type 0} {P : X → Type 0} {lt eq : X → X → Type 0} (o : IsOrder P lt eq) (x z : X) (zs : List X) → P x → P z → All P zs → AllPairs lt (z ∷ zs) → lt x z → Inserted P lt eq x (z ∷ zs) (x ∷ (z ∷ zs))
before {P = P} {lt = lt} {eq = eq} o x z zs hx hz hzs rising h = record {
  points = All-cons P x (z ∷ zs) hx all;
  rising = AllPairs-cons lt x (z ∷ zs) (All-cons (lt x) z zs h (λ k d within. o.less x z (get_or zs k d) hx hz (hzs k d within) h (rest_after lt z zs rising k d within))) rising;
  each = All-cons (λ w. eq w x ⊎ Any (eq w) (z ∷ zs)) x (z ∷ zs) (inl (o.refl x hx)) (λ k d within. inr (itself o (z ∷ zs) all k d within));
  has = any_here (eq x) x (z ∷ zs) (o.refl x hx);
  keeps = all_there eq x (z ∷ zs) (z ∷ zs) (itself o (z ∷ zs) all);
}
  where
    all : All P (z ∷ zs)
    all = All-cons P z zs hz hzs

there : {X : Type 0} {P : X → Type 0} {lt eq : X → X → Type 0} (o : IsOrder P lt eq) (x z : X) (zs : List X) → P x → P z → All P zs → AllPairs lt (z ∷ zs) → eq x z → Inserted P lt eq x (z ∷ zs) (z ∷ zs)
there {P = P} {lt = lt} {eq = eq} o x z zs hx hz hzs rising e = record {
  points = all;
  rising = rising;
  each = λ k d within. inr (itself o (z ∷ zs) all k d within);
  has = any_here (eq x) z zs e;
  keeps = itself o (z ∷ zs) all;
}
  where
    all : All P (z ∷ zs)
    all = All-cons P z zs hz hzs

after : {X : Type 0} {P : X → Type 0} {lt eq : X → X → Type 0} (o : IsOrder P lt eq) (x z : X) (zs ws : List X) → P x → P z → All P zs → AllPairs lt (z ∷ zs) → lt z x → Inserted P lt eq x zs ws → Inserted P lt eq x (z ∷ zs) (z ∷ ws)
after {P = P} {lt = lt} {eq = eq} o x z zs ws hx hz hzs rising h i = record {
  points = All-cons P z ws hz i.points;
  rising = AllPairs-cons lt z ws (λ k d within. let w = get_or ws k d in let hw = i.points k d within in
      ⊎_elim (λ e. o.less_equal z x w hz hx hw h (o.sym w x hw hx e)) (λ some. head_before o z w zs hz hw hzs (rest_after lt z zs rising) some) (i.each k d within)) i.rising;
  each = All-cons (λ w. eq w x ⊎ Any (eq w) (z ∷ zs)) z ws (inr (any_here (eq z) z zs (o.refl z hz))) (λ k d within. ⊎_elim inl (λ some. inr (any_there (eq (get_or ws k d)) z zs some)) (i.each k d within));
  has = any_there (eq x) z ws i.has;
  keeps = All-cons (λ y. Any (eq y) (z ∷ ws)) z zs (any_here (eq z) z ws (o.refl z hz)) (all_there eq z ws zs i.keeps);
}

insert : {X : Type 0} {P : X → Type 0} {lt eq : X → X → Type 0} (o : IsOrder P lt eq) (x : X) (zs : List X) → P x → All P zs → AllPairs lt zs → (ws : List X) × Inserted P lt eq x zs ws
insert o x [] hx hzs rising = (x ∷ [], alone o x hx)
insert {P = P} {lt = lt} o x (z ∷ zs) hx hzs rising =
    let hz = All-head P z zs hzs in
    let rest = All-tail P z zs hzs in
    let more = insert o x zs hx rest (rising_tail lt z zs rising) in
    ⊎_elim (λ h. (x ∷ (z ∷ zs), before o x z zs hx hz rest rising h)) (λ t. ⊎_elim (λ e. (z ∷ zs, there o x z zs hx hz rest rising e)) (λ h. (z ∷ more.0, after o x z zs more.0 hx hz rest rising h more.1)) t) (o.total x z hx hz)

pub rising_of : {X : Type 0} {P : X → Type 0} {lt eq : X → X → Type 0} (o : IsOrder P lt eq) (xs : List X) → All P xs → (zs : List X) × IsRisingOf P lt eq xs zs
rising_of {P = P} {eq = eq} o [] h = ([], record { points = All-nil P; rising = λ i j d less within. absurd (omega arith); each = All-nil (λ z. Any (eq z) []); all = All-nil (λ x. Any (eq x) []) })
rising_of {P = P} {eq = eq} o (x ∷ xs) h =
    let hx = All-head P x xs h in
    let hxs = All-tail P x xs h in
    let (zs, r) = rising_of o xs hxs in
    let (ws, i) = insert o x zs hx r.points r.rising in (
      ws,
      record {
        points = i.points;
        rising = i.rising;
        each = λ k d within. let w = get_or ws k d in let hw = i.points k d within in
            ⊎_elim (λ e. any_here (eq w) x xs e) (λ some. any_there (eq w) x xs (combined (λ z. P z × Any (eq z) xs) (eq w) (λ z g e. any_through o w z xs hw g.0 hxs e g.1) zs (λ j d below. (r.points j d below, r.each j d below)) some)) (i.each k d within);
        all = All-cons (λ y. Any (eq y) ws) x xs i.has (λ k d within. let y = get_or xs k d in let hy = hxs k d within in
            combined (λ z. P z × Any (eq z) ws) (eq y) (λ z g e. any_through o y z ws hy g.0 i.points e g.1) zs (λ j d below. (r.points j d below, i.keeps j d below)) (r.all k d within));
      },
    )
