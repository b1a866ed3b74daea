-- Lists that are made of the leaves of a rank, leaf by leaf, and of all ranks, rank by rank.
use Rattle.std.proofs.Common.{◌≡◌, ℕ, zero, suc, ◌+◌, ◌<◌, Bool, true, false, cond, List, [], ◌∷◌, ◌++◌, length, get_or, take, filter, filter_map, slice_get, Option, Some, None, arith, refl, ap, sym, ◌∙◌, add-one, append-nil}
use Rattle.std.proofs.lemmas.Option.{slice_get_within, get_or_from_slice_get}
use Rattle.std.proofs.lemmas.List.Elements.{filter-append, filter_map-append}
use Rattle.std.proofs.lemmas.Bool.{cond-true, cond-false}
use Rattle.std.specs.List.{cons_option}
use Rattle.std.proofs.Math.Seq.{take-suc}
use Rattle.std.specs.declared.vec.Vec.{Vec}
use Rattle.std.specs.declared.alloc.Global.{Global}
use Rattle.plain_lists.specs.Lists.{below}
use Rattle.plain_lists.specs.Vectors.{lists_of}
use Rattle.sf_defs.specs.declared.Leaf.{Leaf}
use Rattle.sf_defs.specs.Forest.{selected}
use Rattle.sf_ops.proofs.Words.{lists_of-push}

-- one element more
pub taken-more : {X : Type 0} (xs : List X) (i : ℕ) (x : X) → slice_get xs i ≡ Some x → take (i + 1) xs ≡ take i xs ++ x ∷ []
taken-more xs i x e = ap (λ n. take n xs) (add-one i) ∙ (take-suc xs i x (slice_get_within xs i x e) ∙ ap (λ y. take i xs ++ y ∷ []) (get_or_from_slice_get xs i x x e))

-- of which something is made, or nothing
pub filter_map-more : {X Y : Type 0} (h : X → Option Y) (xs : List X) (i : ℕ) (x : X) (y : Y) → slice_get xs i ≡ Some x → h x ≡ Some y → filter_map h (take (i + 1) xs) ≡ filter_map h (take i xs) ++ y ∷ []
filter_map-more h xs i x y e some = ap (filter_map h) (taken-more xs i x e) ∙ (filter_map-append h (take i xs) (x ∷ []) ∙ ap (λ o. filter_map h (take i xs) ++ cons_option o []) some)

pub filter_map-same : {X Y : Type 0} (h : X → Option Y) (xs : List X) (i : ℕ) (x : X) → slice_get xs i ≡ Some x → h x ≡ None → filter_map h (take (i + 1) xs) ≡ filter_map h (take i xs)
filter_map-same h xs i x e none = ap (filter_map h) (taken-more xs i x e) ∙ (filter_map-append h (take i xs) (x ∷ []) ∙ (ap (λ o. filter_map h (take i xs) ++ cons_option o []) none ∙ append-nil (filter_map h (take i xs))))

-- which passes a test, or does not
pub filter-more : {X : Type 0} (p : X → Bool) (xs : List X) (i : ℕ) (x : X) → slice_get xs i ≡ Some x → p x ≡ true → filter p (take (i + 1) xs) ≡ filter p (take i xs) ++ x ∷ []
filter-more p xs i x e passes = ap (filter p) (taken-more xs i x e) ∙ (filter-append p (take i xs) (x ∷ []) ∙ ap (λ ys. filter p (take i xs) ++ ys) (cond-true (p x) (x ∷ []) [] passes))

pub filter-same : {X : Type 0} (p : X → Bool) (xs : List X) (i : ℕ) (x : X) → slice_get xs i ≡ Some x → p x ≡ false → filter p (take (i + 1) xs) ≡ filter p (take i xs)
filter-same p xs i x e fails = ap (filter p) (taken-more xs i x e) ∙ (filter-append p (take i xs) (x ∷ []) ∙ (ap (λ ys. filter p (take i xs) ++ ys) (cond-false (p x) (x ∷ []) [] fails) ∙ append-nil (filter p (take i xs))))

-- of nothing is nothing kept
pub selected-none : {X : Type 0} (keep : List Bool) → selected {X = X} keep [] ≡ []
selected-none [] = refl
selected-none (b ∷ keep) = refl

-- whose place is kept, or not
selected-step : {X : Type 0} (keep : List Bool) (xs : List X) (i : ℕ) (x : X) (b : Bool) → slice_get xs i ≡ Some x → length keep ≡ length xs → get_or keep i false ≡ b → selected keep (take (suc i) xs) ≡ selected keep (take i xs) ++ cond b (x ∷ []) []
selected-step [] [] i x b e size k = absurd (cc e)
selected-step [] (y ∷ ys) i x b e size k = absurd (omega arith)
selected-step (c ∷ keep) [] i x b e size k = absurd (cc e)
selected-step {X} (c ∷ keep) (y ∷ ys) zero x b e size k = here c b k (same y x e)
  where
    same : (u v : X) → Some u ≡ Some v → u ≡ v
    same u v h = cc h

    here : (c b : Bool) → c ≡ b → y ≡ x → cond c (y ∷ selected keep []) (selected keep []) ≡ cond b (x ∷ []) []
    here c b f g = ap (λ ys. cond c (y ∷ ys) ys) (selected-none keep) ∙ (ap (λ d. cond d (y ∷ []) []) f ∙ ap (λ z. cond b (z ∷ []) []) g)
selected-step (c ∷ keep) (y ∷ ys) (suc i) x b e size k = more c (selected-step keep ys i x b e (omega arith) k)
  where
    more : (c : Bool) → selected keep (take (suc i) ys) ≡ selected keep (take i ys) ++ cond b (x ∷ []) [] → cond c (y ∷ selected keep (take (suc i) ys)) (selected keep (take (suc i) ys)) ≡ cond c (y ∷ selected keep (take i ys)) (selected keep (take i ys)) ++ cond b (x ∷ []) []
    more true r = ap (λ zs. y ∷ zs) r
    more false r = r

pub selected-more : {X : Type 0} (keep : List Bool) (xs : List X) (i : ℕ) (x : X) → slice_get xs i ≡ Some x → length keep ≡ length xs → get_or keep i false ≡ true → selected keep (take (i + 1) xs) ≡ selected keep (take i xs) ++ x ∷ []
selected-more keep xs i x e size k = ap (λ n. selected keep (take n xs)) (add-one i) ∙ selected-step keep xs i x true e size k

pub selected-same : {X : Type 0} (keep : List Bool) (xs : List X) (i : ℕ) (x : X) → slice_get xs i ≡ Some x → length keep ≡ length xs → get_or keep i false ≡ false → selected keep (take (i + 1) xs) ≡ selected keep (take i xs)
selected-same keep xs i x e size k = ap (λ n. selected keep (take n xs)) (add-one i) ∙ (selected-step keep xs i x false e size k ∙ append-nil (selected keep (take i xs)))

-- one rank more
pub ranks-more : (made : List (List Leaf)) (vectors : List (Vec Leaf Global)) (own : Vec Leaf Global) (rank : ℕ) → lists_of vectors ≡ take rank made → rank < length made → own.items ≡ get_or made rank [] → lists_of (vectors ++ own ∷ []) ≡ take (rank + 1) made
ranks-more made vectors own rank upto within here = lists_of-push vectors own ∙ (ap (λ ls. ls ++ own.items ∷ []) upto ∙ (ap (λ o. take rank made ++ o ∷ []) here ∙ (sym (take-suc made rank [] within) ∙ ap (λ n. take n made) (sym (add-one rank)))))

-- one number more, of which something is made, or nothing
pub below_map-more : {Y : Type 0} (h : ℕ → Option Y) (k : ℕ) (y : Y) → h k ≡ Some y → filter_map h (below (k + 1)) ≡ filter_map h (below k) ++ y ∷ []
below_map-more h k y some = ap (λ n. filter_map h (below n)) (add-one k) ∙ (filter_map-append h (below k) (k ∷ []) ∙ ap (λ o. filter_map h (below k) ++ cons_option o []) some)

pub below_map-same : {Y : Type 0} (h : ℕ → Option Y) (k : ℕ) → h k ≡ None → filter_map h (below (k + 1)) ≡ filter_map h (below k)
below_map-same h k none = ap (λ n. filter_map h (below n)) (add-one k) ∙ (filter_map-append h (below k) (k ∷ []) ∙ (ap (λ o. filter_map h (below k) ++ cons_option o []) none ∙ append-nil (filter_map h (below k))))
