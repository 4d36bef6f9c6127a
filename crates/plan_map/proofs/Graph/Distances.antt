-- Distances by local conditions are distances: no walk is shorter, and one is as short.
use Rattle.std.proofs.Common.{◌≡◌, ℕ, zero, suc, List, [], ◌∷◌, length, Option, Some, None, ◌<◌, refl, sym, ap, ◌∙◌, arith}
use Rattle.plan_spec.specs.Walks.{Leads}
use Rattle.plan_map.specs.Distances.{IsWithin, AreDistances, AreDistancesUntil, AreDistancesBelow}

pub same_some : (a b : ℕ) → Some a ≡ Some b → a ≡ b
same_some a b e = cc

-- a walk of n steps exists only where the distance is at most n
pub no_shorter_below : (next : ℕ → ℕ → Type 0) (goal bound : ℕ) (dist : ℕ → Option ℕ) → AreDistancesBelow next goal bound dist → (r : ℕ) (ns : List ℕ) → Leads next goal r ns → length ns < bound → IsWithin dist r (length ns)
no_shorter_below next goal bound dist are r [] e few = record { distance = 0; is_some = ap dist e ∙ are.at_goal; at_most = omega arith }
no_shorter_below next goal bound dist are r (n ∷ ns) (step, rest) few =
    let w = no_shorter_below next goal bound dist are n ns rest (omega (arith, few)) in
    let v = are.around r n w.distance step w.is_some (omega (arith, few, w.at_most)) in
    record { distance = v.distance; is_some = v.is_some; at_most = omega (arith, v.at_most, w.at_most) }

pub below_all : (next : ℕ → ℕ → Type 0) (goal bound : ℕ) (dist : ℕ → Option ℕ) → AreDistances next goal dist → AreDistancesBelow next goal bound dist
below_all next goal bound dist are = record { only_goal = are.only_goal; at_goal = are.at_goal; around = λ n m d step e few. are.around n m d step e }

pub no_shorter : (next : ℕ → ℕ → Type 0) (goal : ℕ) (dist : ℕ → Option ℕ) → AreDistances next goal dist → (r : ℕ) (ns : List ℕ) → Leads next goal r ns → IsWithin dist r (length ns)
no_shorter next goal dist are r ns leads = no_shorter_below next goal (suc (length ns)) dist (below_all next goal (suc (length ns)) dist are) r ns leads (omega arith)

-- ---- a search that may end early
pub of_none : {next : ℕ → ℕ → Type 0} {goal : ℕ} {dist : ℕ → Option ℕ} → AreDistancesUntil next goal None dist → AreDistances next goal dist
of_none are = record { at_goal = are.at_goal; only_goal = are.only_goal; down = are.down; around = λ n m d step e. are.around n m d step e (λ r k f g. absurd (cc)) }

pub of_unseen : {next : ℕ → ℕ → Type 0} {goal : ℕ} {dist : ℕ → Option ℕ} (r : ℕ) → AreDistancesUntil next goal (Some r) dist → dist r ≡ None → AreDistances next goal dist
of_unseen {dist = dist} r are none = record { at_goal = are.at_goal; only_goal = are.only_goal; down = are.down; around = λ n m d step e. are.around n m d step e (λ q k f g. absurd (let h : dist r ≡ dist q = ap dist (same_some r q f) in let l : None ≡ Some k = sym none ∙ h ∙ g in cc)) }

pub of_seen : {next : ℕ → ℕ → Type 0} {goal : ℕ} {dist : ℕ → Option ℕ} (r bound : ℕ) → AreDistancesUntil next goal (Some r) dist → dist r ≡ Some bound → AreDistancesBelow next goal bound dist
of_seen {dist = dist} r bound are is = record {
  only_goal = are.only_goal;
  at_goal = are.at_goal;
  around = λ n m d step e few. are.around n m d step e (λ q k f g. let h : dist r ≡ dist q = ap dist (same_some r q f) in omega (arith, few, same_some bound k (sym is ∙ h ∙ g)));
}

-- a walk of as many steps as the distance says
pub record Walk (next : ℕ → ℕ → Type 0) (goal r d : ℕ) : Type 0 where
  pub steps : List ℕ
  pub leads : Leads next goal r steps
  pub long : length steps ≡ d

pub walk_of : (next : ℕ → ℕ → Type 0) (goal : ℕ) (dist : ℕ → Option ℕ) → AreDistances next goal dist → (d r : ℕ) → dist r ≡ Some d → Walk next goal r d
walk_of next goal dist are zero r e = record { steps = []; leads = are.only_goal r e; long = refl }
walk_of next goal dist are (suc d) r e =
    let n = are.down r d e in
    let w = walk_of next goal dist are d n.at n.nearer in
    record { steps = n.at ∷ w.steps; leads = (n.neighbour, w.leads); long = ap suc w.long }
