-- What becomes of readers, and of what their lanes said, in a round.
use Rattle.std.proofs.Common.{◌≡◌, ℕ, zero, suc, ◌+◌, ◌-◌, ◌<◌, ◌≤◌, ◌⊎◌, inl, inr, ⊎_elim, List, [], ◌∷◌, ◌++◌, length, map, take, drop, get_or, slice_get, set, All, Option, Some, None, Result, Ok, Err, Vec, refl, sym, ap, ◌∙◌, subst, arith}
use Rattle.std.specs.Prelude.{IfOk}
use Rattle.std.specs.List.{AllZip}
use Rattle.std.proofs.lemmas.List.{append-nil}
use mathlib.Core.List.{IsPrefix}
use Rattle.logbook.specs.Pages.{Book}
use Rattle.plan_shelf.specs.Known.{Known}
use Rattle.plan_crew.specs.declared.ends.Said.{Said}
use Rattle.plan_crew.specs.declared.job.Outcome.{Outcome}
use Rattle.plan_crew.specs.declared.work.Work.{Work}
use Rattle.plan_crew.specs.Edited.{AreEdits}
use Rattle.plan_crew.specs.Lane.{Answers}
use Rattle.plan_crew.specs.Works.{GoesOn, AllGoOn, HasSaid, Worked, AllSettle, AllSaid}
use Rattle.plan_crew.proofs.Answering.{carried, take_next, take_whole}
use Rattle.plan_crew.proofs.Prefixes.{prefix_self, prefix_trans}

pub goes_self : {E : Type 0} (r : Known E) → GoesOn r r
goes_self r = (refl, prefix_self r.list)

pub goes_trans : {E : Type 0} (r s t : Known E) → GoesOn r s → GoesOn s t → GoesOn r t
goes_trans r s t h k = (k.0 ∙ h.0, prefix_trans r.list s.list t.list h.1 k.1)

module _ {J E C Q F A : Type 0} where
  pub all_self : (ws : List (Work J E C Q F A)) → AllGoOn ws ws
  all_self [] = tt
  all_self (w ∷ ws) = (goes_self w.reader, all_self ws)

  pub all_trans : (us vs ws : List (Work J E C Q F A)) → AllGoOn us vs → AllGoOn vs ws → AllGoOn us ws
  all_trans [] [] [] h k = tt
  all_trans [] [] (w ∷ ws) h k = absurd k
  all_trans [] (v ∷ vs) ws h k = absurd h
  all_trans (u ∷ us) [] ws h k = absurd h
  all_trans (u ∷ us) (v ∷ vs) [] h k = absurd k
  all_trans (u ∷ us) (v ∷ vs) (w ∷ ws) h k = (goes_trans u.reader v.reader w.reader h.0 k.0, all_trans us vs ws h.1 k.1)

  pub all_length : (vs ws : List (Work J E C Q F A)) → AllGoOn vs ws → length ws ≡ length vs
  all_length [] [] h = refl
  all_length [] (w ∷ ws) h = absurd h
  all_length (v ∷ vs) [] h = absurd h
  all_length (v ∷ vs) (w ∷ ws) h = let rest = all_length vs ws h.1 in omega (arith, rest)

  pub all_at : (vs ws : List (Work J E C Q F A)) (k : ℕ) (d : Work J E C Q F A) → k < length vs → AllGoOn vs ws → GoesOn (get_or vs k d).reader (get_or ws k d).reader
  all_at [] ws k d lt h = absurd (omega arith)
  all_at (v ∷ vs) [] k d lt h = absurd h
  all_at (v ∷ vs) (w ∷ ws) zero d lt h = h.0
  all_at (v ∷ vs) (w ∷ ws) (suc k) d lt h = all_at vs ws k d (omega arith) h.1

  -- the reader at one place goes on
  pub all_set : (vs ws : List (Work J E C Q F A)) (k : ℕ) (w d : Work J E C Q F A) → k < length ws → AllGoOn vs ws → GoesOn (get_or ws k d).reader w.reader → AllGoOn vs (set ws k w)
  all_set vs [] k w d lt h new = absurd (omega arith)
  all_set [] (x ∷ ws) k w d lt h new = absurd h
  all_set (v ∷ vs) (x ∷ ws) zero w d lt h new = (goes_trans v.reader x.reader w.reader h.0 new, h.1)
  all_set (v ∷ vs) (x ∷ ws) (suc k) w d lt h new = (h.0, all_set vs ws k w d (omega arith) h.1 new)

  pub each_goes : (vs ws : List (Work J E C Q F A)) → length ws ≡ length vs
      → ((k : ℕ) (d : Work J E C Q F A) → k < length vs → GoesOn (get_or vs k d).reader (get_or ws k d).reader) → AllGoOn vs ws
  each_goes [] [] same h = tt
  each_goes [] (w ∷ ws) same h = absurd (omega arith)
  each_goes (v ∷ vs) [] same h = absurd (omega arith)
  each_goes (v ∷ vs) (w ∷ ws) same h = (h 0 v (omega arith), each_goes vs ws (omega arith) (λ k d lt. h (suc k) d (omega arith)))

  -- readers of one shelf stay with it
  pub shelf_at : (vs ws : List (Work J E C Q F A)) (b : Book) (k : ℕ) (d : Work J E C Q F A)
      → All (λ w. w.reader.shelf ≡ b) vs → AllGoOn vs ws → k < length ws → (get_or ws k d).reader.shelf ≡ b
  shelf_at vs ws b k d all goes lt =
      let long = all_length vs ws goes in
      let within : k < length vs = omega (arith, lt, long) in
      (all_at vs ws k d within goes).0 ∙ all k d within

  pub all_of_shelf : (vs ws : List (Work J E C Q F A)) (b : Book) → All (λ w. w.reader.shelf ≡ b) vs → AllGoOn vs ws → All (λ w. w.reader.shelf ≡ b) ws
  all_of_shelf vs ws b all goes k d lt = shelf_at vs ws b k d all goes lt

-- what holds of the items below a number holds below the next, once the item there is written
pub below_set : {X : Type 0} (P : ℕ → X → X → Type 0) (xs : List X) (k : ℕ) (x : X) (j : ℕ) (d : X)
    → k < length xs → ((i : ℕ) (e : X) → i < k → P i e (get_or xs i e)) → ((e : X) → P k e x) → j < k + 1 → P j d (get_or (set xs k x) j d)
below_set P [] k x j d lt h new le = absurd (omega arith)
below_set P (y ∷ xs) zero x zero d lt h new le = new d
below_set P (y ∷ xs) zero x (suc j) d lt h new le = absurd (omega arith)
below_set P (y ∷ xs) (suc k) x zero d lt h new le = h 0 d (omega arith)
below_set P (y ∷ xs) (suc k) x (suc j) d lt h new le = below_set (λ i e z. P (suc i) e z) xs k x j d (omega arith) (λ i e l. h (suc i) e (omega arith)) new (omega arith)

-- and those from the next on stay
pub above_set : {X : Type 0} (xs : List X) (k : ℕ) (x : X) (j : ℕ) (d : X) → k < j → get_or (set xs k x) j d ≡ get_or xs j d
above_set [] k x j d lt = refl
above_set (y ∷ xs) k x zero d lt = absurd (omega arith)
above_set (y ∷ xs) zero x (suc j) d lt = refl
above_set (y ∷ xs) (suc k) x (suc j) d lt = above_set xs k x j d (omega arith)

pub same_at : {X : Type 0} (xs : List X) (k : ℕ) (d e : X) → k < length xs → get_or xs k d ≡ get_or xs k e
same_at [] k d e lt = absurd (omega arith)
same_at (x ∷ xs) zero d e lt = refl
same_at (x ∷ xs) (suc k) d e lt = same_at xs k d e (omega arith)

pub map_set : {X Y : Type 0} (f : X → Y) (xs : List X) (k : ℕ) (x d : X) → k < length xs → f x ≡ f (get_or xs k d) → map f (set xs k x) ≡ map f xs
map_set f [] k x d lt is = refl
map_set f (y ∷ xs) zero x d lt is = ap (λ z. z ∷ map f xs) is
map_set f (y ∷ xs) (suc k) x d lt is = ap (λ l. f y ∷ l) (map_set f xs k x d (omega arith) is)

-- the same of the items of two lists
pub below_set_at : {X : Type 0} (R : X → X → Type 0) (xs ys : List X) (k : ℕ) (e y : X) (j : ℕ) (d : X)
    → length ys ≡ length xs → k < length ys → ((i : ℕ) (d : X) → i < k → R (get_or xs i d) (get_or ys i d)) → R (get_or xs k e) y → j < k + 1 → R (get_or xs j d) (get_or (set ys k y) j d)
below_set_at R xs ys k e y j d long lt h new le =
    below_set (λ i d z. R (get_or xs i d) z) ys k y j d lt h (λ d. subst (λ x. R x y) (same_at xs k e d (omega (arith, lt, long))) new) le

below : (k n : ℕ) → (k < n) ⊎ (n ≤ k)
below k zero = inr (omega arith)
below zero (suc n) = inl (omega arith)
below (suc k) (suc n) = ⊎_elim (λ h. inl (omega (arith, h))) (λ h. inr (omega (arith, h))) (below k n)

pub zip_push : {X Y : Type 0} (R : X → Y → Type 0) (xs : List X) (ys : List Y) (x : X) (y : Y) → AllZip R xs ys → R x y → AllZip R (xs ++ x ∷ []) (ys ++ y ∷ [])
zip_push R [] [] x y h r = (r, tt)
zip_push R [] (w ∷ ys) x y h r = absurd h
zip_push R (v ∷ xs) [] x y h r = absurd h
zip_push R (v ∷ xs) (w ∷ ys) x y h r = (h.0, zip_push R xs ys x y h.1 r)

map_at : {X Y : Type 0} (f : X → Y) (xs : List X) (k : ℕ) (d : X) → k < length xs → get_or (map f xs) k (f d) ≡ f (get_or xs k d)
map_at f [] k d lt = refl
map_at f (x ∷ xs) zero d lt = refl
map_at f (x ∷ xs) (suc k) d lt = map_at f xs k d (omega arith)

map_length : {X Y : Type 0} (f : X → Y) (xs : List X) → length (map f xs) ≡ length xs
map_length f [] = refl
map_length f (x ∷ xs) = let rest = map_length f xs in omega (arith, rest)

pub take_map : {X Y : Type 0} (f : X → Y) (xs : List X) (k : ℕ) (x : X) → k < length xs → x ≡ get_or xs k x → take (k + 1) (map f xs) ≡ take k (map f xs) ++ f x ∷ []
take_map f xs k x lt is = take_next (map f xs) k (f x) (omega (arith, lt, map_length f xs)) (ap f is ∙ sym (map_at f xs k x lt))

drop_past : {X : Type 0} (xs : List X) (k : ℕ) → length xs ≤ k → drop k xs ≡ []
drop_past [] zero le = refl
drop_past [] (suc k) le = refl
drop_past (x ∷ xs) zero le = absurd (omega arith)
drop_past (x ∷ xs) (suc k) le = drop_past xs k (omega arith)

-- a slice that is written back over a list as long
pub written_back : {X : Type 0} (len : ℕ) (new old : List X) → length new ≡ length old → length old ≤ len → take len (new ++ drop (length new) old) ≡ new
written_back len new old long le =
    let past : drop (length new) old ≡ [] = drop_past old (length new) (omega (arith, long)) in
    rw (past, append-nil new) (take_whole new len (omega (arith, long, le)))

-- readers that stand in lanes
module _ {J E C Q F A : Type 0} where
  pub moved_shelf : (ws : List (Work J E C Q F A)) (rs : List (Known E)) (b : Book) → map (λ w. w.reader) ws ≡ rs → All (λ r. r.shelf ≡ b) rs → All (λ w. w.reader.shelf ≡ b) ws
  moved_shelf ws rs b is all k d lt =
      let there : get_or rs k d.reader ≡ (get_or ws k d).reader = ap (λ l. get_or l k d.reader) (sym is) ∙ map_at (λ w. w.reader) ws k d lt in
      ap (λ r. r.shelf) (sym there) ∙ all k d.reader (let long : length rs ≡ length ws = ap length (sym is) ∙ map_length (λ w. w.reader) ws in omega (arith, lt, long))

  goes_mapped : (vs ws : List (Work J E C Q F A)) → AllGoOn vs ws → AllZip GoesOn (map (λ w. w.reader) vs) (map (λ w. w.reader) ws)
  goes_mapped [] [] h = tt
  goes_mapped [] (w ∷ ws) h = absurd h
  goes_mapped (v ∷ vs) [] h = absurd h
  goes_mapped (v ∷ vs) (w ∷ ws) h = (h.0, goes_mapped vs ws h.1)

  pub moved_goes : (vs ws : List (Work J E C Q F A)) (rs ss : List (Known E)) → map (λ w. w.reader) vs ≡ rs → ss ≡ map (λ w. w.reader) ws → AllGoOn vs ws → AllZip GoesOn rs ss
  moved_goes vs ws rs ss in_is out_is h =
      subst (λ (l : List (Known E)). AllZip GoesOn l ss) in_is (subst (λ (l : List (Known E)). AllZip GoesOn (map (λ w. w.reader) vs) l) (sym out_is) (goes_mapped vs ws h))

pub readers_self : {E : Type 0} (rs : List (Known E)) → AllZip GoesOn rs rs
readers_self [] = tt
readers_self (r ∷ rs) = (goes_self r, readers_self rs)

-- lists of equal readers are as long, and go on
module _ {J E C Q F A : Type 0} where
  pub equal_readers : (vs ws : List (Work J E C Q F A)) → map (λ w. w.reader) ws ≡ map (λ w. w.reader) vs → AllGoOn vs ws
  equal_readers [] [] is = tt
  equal_readers [] (w ∷ ws) is = absurd (cc is)
  equal_readers (v ∷ vs) [] is = absurd (cc is)
  equal_readers (v ∷ vs) (w ∷ ws) is =
      let same : w.reader ≡ v.reader = cc is in
      (subst (λ r. GoesOn v.reader r) (sym same) (goes_self v.reader), equal_readers vs ws (cc is))

module _ {E Q A : Type 0} (version_of : E → ℕ) (gives : E → Q → A → Type 0) where
  pub lower : (list : List E) (from higher : ℕ) (questions : List Q) (said : List (ℕ × A)) → from ≤ higher → Answers version_of gives list higher questions said → Answers version_of gives list from questions said
  lower list from higher [] [] le h = tt
  lower list from higher [] (s ∷ said) le h = absurd h
  lower list from higher (q ∷ questions) [] le h = absurd h
  lower list from higher (q ∷ questions) (s ∷ said) le h = (h.0, omega (arith, le, h.1), h.2, h.3)

  -- and carried to a longer list
  pub longer : (list more : List E) (from : ℕ) (questions : List Q) (said : List (ℕ × A)) → IsPrefix list more → Answers version_of gives list from questions said → Answers version_of gives more from questions said
  longer list more from [] [] p h = tt
  longer list more from [] (s ∷ said) p h = absurd h
  longer list more from (q ∷ questions) [] p h = absurd h
  longer list more from (q ∷ questions) (s ∷ said) p h = (h.0, h.1, carried version_of gives list more h.0 q s p h.2, longer list more h.0 questions said p h.3)

  -- what was said for a beginning of a list is said for the list
  has_said : {J C F X Y : Type 0} (list more : List E) (from higher : ℕ) (questions : List Q) (said : Option (Result (Vec (Said J E C Q F A) X) Y))
      → from ≤ higher → IsPrefix list more → HasSaid version_of gives list higher questions said → HasSaid version_of gives more from questions said
  has_said list more from higher questions None le p h = tt
  has_said list more from higher questions (Some (Err e)) le p h = tt
  has_said list more from higher questions (Some (Ok v)) le p h =
      longer list more from questions (map (λ s. (s.version, s.answer)) v.items) p (lower list from higher questions (map (λ s. (s.version, s.answer)) v.items) le h)

  settled_said : {J C F : Type 0} (list : List E) (from : ℕ) (questions : List Q) (ran after : Work J E C Q F A) (higher : ℕ)
      → from ≤ higher → HasSaid version_of gives ran.reader.list higher questions ran.said
      → (after.said ≡ None) ⊎ ((after.said ≡ ran.said) × IsPrefix ran.reader.list list) → HasSaid version_of gives list from questions after.said
  settled_said list from questions ran after higher le h settles = ⊎_elim
      (λ gone. subst (λ s. HasSaid version_of gives list from questions s) (sym gone) tt)
      (λ kept. subst (λ s. HasSaid version_of gives list from questions s) (sym kept.0) (has_said ran.reader.list list from higher questions ran.said le kept.1 h))
      settles

  -- readers that were told of a list, ran, and settled with a longer one, have said what holds of that one
  pub all_said : {J C F Z : Type 0} (before list : List E) (told ran settled : List (Work J E C Q F A)) (lanes : List (Vec Q Z))
      → All (λ w. length before ≤ length w.reader.list) told → Worked version_of gives told ran lanes → AllSettle list ran settled
      → AllSaid version_of gives list (length before - 1) settled lanes
  all_said before list told ran settled lanes knows worked settle = record {
    each = (λ k d e lt within.
        let at_ran : k < length ran = omega (arith, lt, settle.count) in
        let at_told : k < length told = omega (arith, at_ran, worked.count) in
        let one = worked.each k d at_told in
        settled_said list (length before - 1) (get_or lanes k e).items (get_or ran k d) (get_or settled k d) (length (get_or told k d).reader.list - 1)
        (let least = knows k d at_told in omega (arith, least)) (one.said e within) (settle.each k d at_ran).said);
  }

  -- what is taken from a lane that nobody took from before
  pub taken_said : {J C F Z : Type 0} (list : List E) (from : ℕ) (works now : List (Work J E C Q F A)) (lanes : List (Vec Q Z)) (k : ℕ) (e : Vec Q Z) (said : _)
      → AllSaid version_of gives list from works lanes → map (λ w. w.reader) now ≡ map (λ w. w.reader) works → ((d : Work J E C Q F A) → get_or now k d ≡ get_or works k d)
      → ((d : Work J E C Q F A) → k < length now → said ≡ (get_or now k d).said) → (length now ≤ k → said ≡ None) → k < length lanes
      → HasSaid version_of gives list from (get_or lanes k e).items said
  taken_said list from works [] lanes k e said all readers same some none within = subst (λ s. HasSaid version_of gives list from (get_or lanes k e).items s) (sym (none (omega arith))) tt
  taken_said list from works (w ∷ now) lanes k e said all readers same some none within =
      let long : length (w ∷ now) ≡ length works = sym (map_length (λ v. v.reader) (w ∷ now)) ∙ (ap length readers ∙ map_length (λ v. v.reader) works) in
      ⊎_elim
      (λ lt. subst (λ s. HasSaid version_of gives list from (get_or lanes k e).items s) (sym (some w lt ∙ ap (λ v. v.said) (same w))) (all.each k w e (omega (arith, lt, long)) within))
      (λ le. subst (λ s. HasSaid version_of gives list from (get_or lanes k e).items s) (sym (none le)) tt)
      (below k (length (w ∷ now)))

  -- the last entry's answers will do from each place on
  pub last_or : {J C F X Y : Type 0} (list : List E) (questions : List Q) (said : Option (Result (Vec (Said J E C Q F A) X) Y)) (r : Result (Vec (Said J E C Q F A) X) Y)
      → IfOk r (λ v. Answers version_of gives list (length list - 1) questions (map (λ s. (s.version, s.answer)) v.items))
      → IfOk r (λ v. (from : ℕ) → from < length list → HasSaid version_of gives list from questions said → Answers version_of gives list from questions (map (λ s. (s.version, s.answer)) v.items))
  last_or list questions said (Ok v) h = λ from lt has. lower list from (length list - 1) questions (map (λ s. (s.version, s.answer)) v.items) (omega (arith, lt)) h
  last_or list questions said (Err e) h = tt

  -- one lane's answers, once lists that are equal are told apart no more
  pub one_lane : {J C F X Y : Type 0} (list told : List E) (from : ℕ) (questions asked got : List Q) (said : Option (Result (Vec (Said J E C Q F A) X) Y)) (answers : List (ℕ × A))
      → told ≡ list → asked ≡ questions → got ≡ questions → from < length list → HasSaid version_of gives list from got said
      → ((from : ℕ) → from < length told → HasSaid version_of gives told from asked said → Answers version_of gives told from asked answers)
      → Answers version_of gives list from questions answers
  one_lane list told from questions asked got said answers told_is asked_is got_is lt has told_of =
      let kept : HasSaid version_of gives told from asked said = subst (λ (l : List E). HasSaid version_of gives l from asked said) (sym told_is) (subst (λ (q : List Q). HasSaid version_of gives list from q said) (got_is ∙ sym asked_is) has) in
      let given = told_of from (subst (λ (l : List E). from < length l) (sym told_is) lt) kept in
      subst (λ (q : List Q). Answers version_of gives list from q answers) asked_is (subst (λ (l : List E). Answers version_of gives l from asked answers) told_is given)

  pub worked_goes : {J C F Z : Type 0} (vs ws : List (Work J E C Q F A)) (lanes : List (Vec Q Z)) → Worked version_of gives vs ws lanes → AllGoOn vs ws
  worked_goes vs ws lanes h = each_goes vs ws h.count (λ k d lt. (h.each k d lt).reader)

last_there : {X : Type 0} (xs : List X) → 0 < length xs → (x : X) × (slice_get xs (length xs - 1) ≡ Some x)
last_there [] lt = absurd (omega arith)
last_there (x ∷ []) lt = (x, refl)
last_there (x ∷ y ∷ xs) lt =
    let rest = last_there (y ∷ xs) (omega arith) in
    let at : length (x ∷ y ∷ xs) - 1 ≡ suc (length (y ∷ xs) - 1) = omega arith in
    (rest.0, rw at rest.1)

module _ {E C F : Type 0} (version_of : E → ℕ) (makes : E → C → Outcome E F → Type 0) where
  -- a list with entries began with some
  pub first_there : (before after : List E) (changes : List C) (ends : List (Result ℕ F))
      → AreEdits version_of makes before after changes ends → 0 < length after → (x : E) × (slice_get before (length before - 1) ≡ Some x)
  first_there before after [] [] h lt = last_there before (subst (λ l. 0 < length l) h lt)
  first_there before after [] (e ∷ ends) h lt = absurd h
  first_there before after (c ∷ changes) [] h lt = absurd h
  first_there before after (c ∷ changes) (e ∷ ends) h lt = (h.1.entry, h.1.entry_is)
