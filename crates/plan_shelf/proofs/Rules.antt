-- Each step keeps the rule of the two copies, since what is shown stays of one shelf, and a view that changes is then of that shelf.
use Rattle.std.proofs.Common.{◌≡◌, ℕ, List, [], ◌∷◌, ◌++◌, fold, ap, ◌∙◌, Option, Some, None, set, refl, sym, subst, ⊎_elim}
use mathlib.Core.Option.{some}
use lib.ListN.{get_elem?}
use Rattle.left_right.specs.Register.{Admits, TurnsAt, Forks, Merges}
use Rattle.atomic_table.proofs.Lists.{at_set, at_snoc}
use Rattle.logbook.specs.declared.tokens.Seen.{Seen}
use Rattle.plan_shelf.specs.declared.history.History.{History}
use Rattle.plan_shelf.specs.declared.told.Told.{Told}
use Rattle.plan_shelf.specs.declared.rule.Shown.{Shown}
use Rattle.plan_shelf.specs.Views.{IsOf, AllOf}

-- a reader that is handed out has seen nothing yet
pub admits : {T : Type 0} → Admits {V = Option (Seen T ℕ History)} (λ (x : Shown T). AllOf x.told.seen.book) None
admits x views h seat v at = ⊎_elim (h seat v) (λ e. subst (IsOf x.told.seen.book) e tt) (at_snoc views None v seat at)

-- whoever takes or shows an entry has then seen the shelf of what is shown
pub sees : {T : Type 0} (seat : ℕ) (v : Option (Seen T ℕ History)) (x y : Shown T) → y.told.seen.book ≡ x.told.seen.book
    → TurnsAt (λ (x : Shown T). AllOf x.told.seen.book) seat v x y (λ v x y w. IsOf x.told.seen.book v × (w ≡ Some y.told.seen))
sees seat v x y same views h at = (
  Some y.told.seen,
  (λ j u e. ⊎_elim (λ t. subst (IsOf y.told.seen.book) t.1 refl) (λ t. subst (λ b. IsOf b u) (sym same) (h j u t.1)) (at_set views seat j (Some y.told.seen) u e)),
  (h seat v at, refl),
)

-- where each operation sets the state, the last one is what counts
last_counts : {S O : Type 0} (f : O → S) (s : S) (xs : List O) (o : O) → fold (λ (before : S) (next : O). f next) s (xs ++ o ∷ []) ≡ f o
last_counts f s [] o = refl
last_counts f s (x ∷ xs) o = last_counts f (f x) xs o

-- what the last operation sets may be shown, where it is of the shelf that is shown
pub shows : {T : Type 0} (seat : ℕ) (v : Option (Seen T ℕ History)) (x y : Shown T) (before pending : List (Told T)) (last : Told T)
    → pending ≡ before ++ last ∷ [] → y.told.seen ≡ fold (λ _ n. n.seen) x.told.seen pending → last.seen.book ≡ x.told.seen.book
    → TurnsAt (λ (x : Shown T). AllOf x.told.seen.book) seat v x y (λ v x y w. IsOf x.told.seen.book v × (w ≡ Some y.told.seen))
shows seat v x y before pending last all is same =
    let seen : y.told.seen ≡ last.seen = is ∙ (ap (fold (λ _ n. n.seen) x.told.seen) all ∙ last_counts (λ n. n.seen) x.told.seen before last) in
    sees seat v x y (ap (λ s. s.book) seen ∙ same)

-- the writer's view is known to one more
pub forks : {T : Type 0} (seat : ℕ) (v : Option (Seen T ℕ History)) → Forks (λ (x : Shown T). AllOf x.told.seen.book) seat v v v
forks seat v x views h at j u e = ⊎_elim
    (λ (o : get_elem? (set views seat v) j ≡ some u). ⊎_elim (λ t. subst (IsOf x.told.seen.book) t.1 (h seat v at)) (λ t. h j u t.1) (at_set views seat j v u o))
    (λ (same : v ≡ u). subst (IsOf x.told.seen.book) same (h seat v at)) (at_snoc (set views seat v) v u j e)

-- a reader takes in what the writer knows
pub merges : {T : Type 0} (seat : ℕ) (v : Option (Seen T ℕ History)) (other : ℕ) (w : Option (Seen T ℕ History)) → Merges (λ (x : Shown T). AllOf x.told.seen.book) seat v other w w None
merges seat v other w x views h at apart there j u e =
    let known : IsOf x.told.seen.book w = ⊎_elim (λ (t : (other ≡ seat) × (w ≡ w)). absurd (apart t.0)) (λ t. h other w t.1) (at_set views seat other w w there) in
    ⊎_elim (λ t. subst (IsOf x.told.seen.book) t.1 tt) (λ t. ⊎_elim (λ s. subst (IsOf x.told.seen.book) s.1 known) (λ s. h j u s.1) (at_set views seat j w u t.1)) (at_set (set views seat w) other j None u e)
