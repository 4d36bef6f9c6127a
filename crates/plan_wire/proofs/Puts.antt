-- A list that is printed from its front.
use Rattle.std.proofs.Common.{◌≡◌, ℕ, ◌+◌, ◌-◌, ◌<◌, ◌≤◌, List, [], ◌∷◌, ◌++◌, length, get_or, take, drop, map, All, codes, refl, sym, ap, subst, ◌∙◌, arith, append_assoc, append-nil}
use Rattle.std.specs.List.{join_by, flat_map}
use Rattle.std.proofs.lemmas.List.{drop_more, drop_all, take_all}
use Rattle.std.proofs.lemmas.List.Elements.{All-cons, All-map, All-more}
use Rattle.plan_spec.specs.Segment as spec
use Rattle.plan_cross.specs.Segment.{segment_seen}
use Rattle.plan_cross.specs.declared.segment.Segment.{Segment}
use Rattle.plan_wire.specs.Bounds.{EndsFit}
use Rattle.plan_wire.specs.Documents.{chain}
use Rattle.plan_wire.specs.CertificateText.{listed, segment_text, certificate_text}
use Rattle.plan_wire.specs.ReadBack.{HasPointsInRange}

-- each with a comma before it
abbrev pub behind_commas : {A : Type 0} → (A → List ℕ) → List A → List ℕ
behind_commas text = flat_map (λ x. codes "," ++ text x)

-- an element that is put goes to the end of what was put, behind a comma
pub put_next : {A : Type 0} (text : A → List ℕ) (begun out comma next : List ℕ) (xs : List A) (i : ℕ) (x : A) → i < length xs → x ≡ get_or xs i x → comma ≡ out ++ 44 ∷ [] → next ≡ comma ++ text x
    → out ++ behind_commas text (drop i xs) ≡ begun ++ behind_commas text xs → next ++ behind_commas text (drop (i + 1) xs) ≡ begun ++ behind_commas text xs
put_next text begun out comma next xs i x within is then put h =
    ap (λ l. l ++ behind_commas text (drop (i + 1) xs)) (put ∙ ap (λ l. l ++ text x) then)
    ∙ append_assoc (out ++ 44 ∷ []) (text x) (behind_commas text (drop (i + 1) xs)) ∙ append_assoc out (44 ∷ []) (text x ++ behind_commas text (drop (i + 1) xs))
    ∙ ap (λ l. out ++ behind_commas text l) (sym (drop_more xs i x within ∙ ap (λ y. y ∷ drop (i + 1) xs) (sym is))) ∙ h

-- and what holds of it and of those before it holds of all that was put
pub next_holds : {A : Type 0} (P : A → Type 0) (xs : List A) (i : ℕ) (x : A) → i < length xs → x ≡ get_or xs i x → P x → All P (take i xs) → All P (take (i + 1) xs)
next_holds P xs i x within is holds h = All-more P xs i x within h (subst P is holds)

-- all but the first
abbrev pub others : {A : Type 0} → List A → List A
others xs = take (length xs - 1) (drop 1 xs)

-- where nothing is left, all was put
pub all_put : {A : Type 0} (text : A → List ℕ) (before begun out : List ℕ) (xs : List A) (x : A) (i : ℕ) → 1 ≤ length xs → x ≡ get_or xs 0 x → begun ≡ before ++ text x → length (others xs) ≤ i
    → out ++ behind_commas text (drop i (others xs)) ≡ begun ++ behind_commas text (others xs) → out ≡ before ++ join_by text (codes ",") xs
all_put text before begun out [] x i some is first all h = absurd (omega arith)
all_put text before begun out (y ∷ ys) x i some is first all h =
    sym (append-nil out) ∙ ap (λ l. out ++ behind_commas text l) (sym (drop_all i (others (y ∷ ys)) all)) ∙ h
    ∙ ap (λ l. l ++ behind_commas text (others (y ∷ ys))) (first ∙ ap (λ z. before ++ text z) is)
    ∙ ap (λ l. (before ++ text y) ++ behind_commas text l) (take_all (length (y ∷ ys) - 1) ys (omega arith))
    ∙ append_assoc before (text y) (behind_commas text ys)

-- what holds of the first and of all others holds of all
pub all_hold : {A : Type 0} (P : A → Type 0) (xs : List A) (x : A) (i : ℕ) → 1 ≤ length xs → x ≡ get_or xs 0 x → P x → length (others xs) ≤ i → All P (take i (others xs)) → All P xs
all_hold P [] x i some is holds all h = absurd (omega arith)
all_hold P (y ∷ ys) x i some is holds all h =
    let rest : others (y ∷ ys) ≡ ys = take_all (length (y ∷ ys) - 1) ys (omega arith) in
    All-cons P y ys (subst P is holds) (subst (All P) (take_all i (others (y ∷ ys)) all ∙ rest) h)

later_map : {A B : Type 0} (text : B → List ℕ) (seen : A → B) (xs : List A) → behind_commas (λ x. text (seen x)) xs ≡ behind_commas text (map seen xs)
later_map text seen [] = refl
later_map text seen (x ∷ xs) = ap (λ s. (codes "," ++ text (seen x)) ++ s) (later_map text seen xs)

-- the texts of what is seen of each
pub listed_map : {A B : Type 0} (text : B → List ℕ) (seen : A → B) (xs : List A) → listed (λ x. text (seen x)) xs ≡ listed text (map seen xs)
listed_map text seen [] = refl
listed_map text seen (x ∷ xs) = ap (λ s. 91 ∷ ((text (seen x) ++ s) ++ codes "]")) (later_map text seen xs)

-- the segments of a chain are seen by their ends
pub chain_put : (before after : List ℕ) (items segments : List Segment) (seen : List spec.Segment) → items ≡ segments → map segment_seen segments ≡ seen
    → after ≡ before ++ (codes "{\"chain\":" ++ listed (λ s. segment_text (segment_seen s)) items ++ codes "}") → after ≡ before ++ certificate_text (chain seen)
chain_put before after items segments seen same is put =
    put ∙ ap (λ s. before ++ (codes "{\"chain\":" ++ s ++ codes "}")) (ap (listed (λ s. segment_text (segment_seen s))) same ∙ listed_map segment_text segment_seen segments ∙ ap (listed segment_text) is)

-- the ends of a chain's segments are in range
pub chain_in_range : (items segments : List Segment) (seen : List spec.Segment) → items ≡ segments → map segment_seen segments ≡ seen → All (λ s. EndsFit (segment_seen s)) items → HasPointsInRange (chain seen)
chain_in_range items segments seen same is h = subst (All EndsFit) (ap (map segment_seen) same ∙ is) (All-map EndsFit segment_seen items h)
