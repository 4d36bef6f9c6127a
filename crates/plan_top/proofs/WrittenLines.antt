-- Lines that are written one after another: what those that are left do from here on, all of them do from the start.
use Rattle.std.proofs.Common.{◌≡◌, ℕ, zero, suc, ◌+◌, ◌≤◌, List, [], ◌∷◌, ◌++◌, length, take, Some, None, Result, Ok, Err, refl, sym, ap, subst, ◌∙◌, append_assoc, append-nil, length-append, arith}
use Rattle.std.specs.List.{concat}
use Rattle.plan_wire.specs.Stream.{Appends}
use Rattle.plan_top.specs.Outcome.{Told}
use Rattle.plan_top.specs.Played.{LinesOutcome}
use Rattle.plan_top.specs.Session.{Line}
use Rattle.plan_top.specs.declared.halt.Halt.{Halt}
use Rattle.plan_top.specs.declared.halt.Halt.TheVariants as halt
use Rattle.plan_top.proofs.Replies.{appends_both, part_behind}

concat_both : (xs ys : List Line) → concat (xs ++ ys) ≡ concat xs ++ concat ys
concat_both [] ys = refl
concat_both (x ∷ xs) ys = ap (λ t. x ++ t) (concat_both xs ys) ∙ sym (append_assoc x (concat xs) (concat ys))

take_past : {X : Type 0} (xs ys : List X) (k : ℕ) → take (length xs + k) (xs ++ ys) ≡ xs ++ take k ys
take_past [] ys k = let at : 0 + k ≡ k = omega arith in ap (λ n. take n ys) at
take_past (x ∷ xs) ys k = let at : length (x ∷ xs) + k ≡ suc (length xs + k) = omega arith in ap (λ n. take n (x ∷ xs ++ ys)) at ∙ ap (λ l. x ∷ l) (take_past xs ys k)

take_front : {X : Type 0} (xs ys : List X) (n : ℕ) → n ≤ length xs → take n (xs ++ ys) ≡ take n xs
take_front xs ys zero le = refl
take_front [] ys (suc n) le = absurd (omega arith)
take_front (x ∷ xs) ys (suc n) le = ap (λ l. x ∷ l) (take_front xs ys n (omega arith))

take_some : {X : Type 0} (xs ys : List X) (k : ℕ) → (n : ℕ) × (take n (xs ++ ys) ≡ take k xs)
take_some [] ys zero = (0, refl)
take_some [] ys (suc k) = (0, refl)
take_some (x ∷ xs) ys zero = (0, refl)
take_some (x ∷ xs) ys (suc k) = let rest = take_some xs ys k in (suc rest.0, ap (λ l. x ∷ l) rest.1)

-- lines behind those that are written
pub behind : {U : Type 0} (xs ys : List Line) (before mid after : Told) (r : Result U Halt) → Appends before mid (concat xs) → LinesOutcome ys mid after r → LinesOutcome (xs ++ ys) before after r
behind xs ys before mid after (Ok u) first then = rw (concat_both xs ys) (appends_both before mid after (concat xs) (concat ys) first then)
behind xs ys before mid after (Err halt.WriteFault) first then = rw (concat_both xs ys) (part_behind before mid after (concat xs) (concat ys) first then)
behind xs ys before mid after (Err halt.NoMemory) first (k, then) =
    (length xs + k, rw (take_past xs ys k, concat_both xs (take k ys)) (appends_both before mid after (concat xs) (concat (take k ys)) first then))

-- lines of which one is not written, before others
cut_before : (xs ys : List Line) (before after : Told) (e : Halt) → LinesOutcome {U = Unit {0}} xs before after (Err e) → LinesOutcome {U = Unit {0}} (xs ++ ys) before after (Err e)
cut_before xs ys before after halt.WriteFault (n, within, put) =
    let longer = length-append (concat xs) (concat ys) in
    rw (concat_both xs ys) (n, omega arith, subst (Appends before after) (sym (take_front (concat xs) (concat ys) n within)) put)
cut_before xs ys before after halt.NoMemory (k, put) =
    let some = take_some xs ys k in
    (some.0, subst (λ (l : List Line). Appends before after (concat l)) (sym some.1) put)

-- what these lines do from here on, all lines do from the start
pub record AreLeft (all left : List Line) (before mid : Told) : Type 0 where
  pub together : (after : Told) (r : Result (Unit {0}) Halt) → LinesOutcome left mid after r → LinesOutcome all before after r

pub all_left : (all : List Line) (before : Told) → AreLeft all all before before
all_left all before = record { together = λ after r h. h }

-- the next are written
pub fewer_left : {all rest : List Line} {before mid : Told} (after : Told) (next left : List Line) (u : Unit {0}) → rest ≡ next ++ left → AreLeft all rest before mid → LinesOutcome {U = Unit {0}} next mid after (Ok u) → AreLeft all left before after
fewer_left {all = all} {before = before} {mid = mid} after next left u parts l put =
    let both = subst (λ (lines : List Line). AreLeft all lines before mid) parts l in
    record { together = λ end r h. both.together end r (behind next left mid after end r put h) }

-- one of the next is not
pub cut_left : {all rest : List Line} {before mid : Told} (after : Told) (next left : List Line) (e : Halt) → rest ≡ next ++ left → AreLeft all rest before mid → LinesOutcome {U = Unit {0}} next mid after (Err e) → LinesOutcome {U = Unit {0}} all before after (Err e)
cut_left {all = all} {before = before} {mid = mid} after next left e parts l put =
    let both = subst (λ (lines : List Line). AreLeft all lines before mid) parts l in
    both.together after (Err e) (cut_before next left mid after e put)

pub none_more : (told : Told) → Appends told told []
none_more None = refl
none_more (Some bytes) = ap Some (sym (append-nil bytes))

-- none are left
pub none_left : {all : List Line} {before mid : Told} (u : Unit {0}) → AreLeft all [] before mid → LinesOutcome {U = Unit {0}} all before mid (Ok u)
none_left {mid = mid} u l = l.together mid (Ok u) (none_more mid)
