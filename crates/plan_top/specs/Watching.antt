-- What a session's watchers are told: each version after the first, with its number of obstacles.
use Rattle.std.specs.Prelude.{◌≡◌, ◌⊎◌, ℕ, suc, List, [], ◌∷◌, ◌++◌, Bool, true, length}
use Rattle.plan_scene.specs.Scene.{Scene}

-- a version and how many obstacles it has
abbrev pub Pair : Type 0
Pair = ℕ × ℕ

-- the pairs of these scenes, by their versions from this one on
abbrev pub pairs_from : ℕ → List Scene → List Pair
pairs_from version [] = []
pairs_from version (s ∷ scenes) = (version, length s.obstacles) ∷ pairs_from (suc version) scenes

-- those of a history: all but its first scene are made by accepted edits
abbrev pub pairs_of : List Scene → List Pair
pairs_of [] = []
pairs_of (first ∷ made) = pairs_from 1 made

-- a watcher by what it was told, and whether it is steady
abbrev pub Watched : Type 0
Watched = List Pair × Bool

-- those after are some of those before, in their order, and all that are steady among them; each was told these pairs too, and is steady where it was
abbrev pub AreLeft : List Pair → List Watched → List Watched → Type 0
AreLeft pairs [] [] = Unit {0}
AreLeft pairs [] (w ∷ after) = ⊥
AreLeft pairs (w ∷ before) [] = (¬ (w.1 ≡ true)) × AreLeft pairs before []
AreLeft pairs (w ∷ before) (v ∷ after) =
    ((v.0 ≡ w.0 ++ pairs) × (w.1 ≡ true → v.1 ≡ true) × AreLeft pairs before after)
    ⊎ ((¬ (w.1 ≡ true)) × AreLeft pairs before (v ∷ after))

-- the watchers before and after they were told these pairs. Where there are none, nothing happens to them
abbrev pub AreTold : List Watched → List Watched → List Pair → Type 0
AreTold before after [] = after ≡ before
AreTold before after (pair ∷ pairs) = AreLeft (pair ∷ pairs) before after
