-- The query of a number among the queries of a document.
use Rattle.std.proofs.Common.{◌≡◌, ℕ, zero, suc, ◌<◌, List, [], ◌∷◌, length, map, get_or, Some, None, refl, arith}
use Rattle.plan_cross.specs.declared.certificate.Query as cross
use Rattle.plan_wire.specs.Documents.{Query}
use Rattle.plan_wire.specs.Seen.{query_seen}
use Rattle.plan_picture.specs.Picture.{query_at}

-- the number counts from 1, the place from 0
pub query_found : (qs : List cross.Query) (place : ℕ) (d : cross.Query) → place < length qs → query_at (map query_seen qs) (suc place) ≡ Some (query_seen (get_or qs place d))
query_found [] place d within = absurd (omega arith)
query_found (q ∷ qs) zero d within = refl
query_found (q ∷ qs) (suc place) d within = query_found qs place d (omega arith)

pub none_at_zero : (qs : List Query) → query_at qs 0 ≡ None
none_at_zero [] = refl
none_at_zero (q ∷ qs) = refl

pub none_beyond : (qs : List Query) (k : ℕ) → length qs < k → query_at qs k ≡ None
none_beyond [] k h = refl
none_beyond (q ∷ qs) zero h = absurd (omega arith)
none_beyond (q ∷ qs) (suc zero) h = absurd (omega arith)
none_beyond (q ∷ qs) (suc (suc k)) h = none_beyond qs (suc k) (omega arith)
