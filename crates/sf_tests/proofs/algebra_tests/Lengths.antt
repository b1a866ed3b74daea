-- Lists that grow at their end: their lengths, and bounds of sums.
use Rattle.std.proofs.Common.{◌≡◌, ℕ, zero, suc, refl, ◌+◌, ◌*◌, ◌≤◌, ◌<◌, List, [], ◌∷◌, ◌++◌, length, map, get_or, take, sum, sum_by, arith, ap, sym, ◌∙◌, add-one}
use Rattle.std.specs.declared.vec.Vec.{Vec}
use Rattle.std.specs.declared.alloc.Global.{Global}
use Rattle.std.proofs.lemmas.List.{length-append, map-append}
use Rattle.std.proofs.lemmas.List.Sums.{sum_by-append}
use Rattle.std.proofs.Math.Seq.{take-suc}
use Rattle.plain_lists.specs.Vectors.{lists_of}
use Rattle.sf_ops.proofs.Words.{lists_of-push}

-- what is summed stays below so much for each element
pub sum-more : {X : Type 0} (f : X → ℕ) (xs : List X) (x : X) (n : ℕ) → sum_by f xs ≤ 99 * n → f x ≤ 99 → sum_by f (xs ++ x ∷ []) ≤ 99 * (n + 1)
sum-more f xs x n upto small = let e = sum_by-append f xs (x ∷ []) in let g : sum_by f (x ∷ []) ≤ 99 = omega (arith, small) in omega (arith, e, g)

pub length-more : {X : Type 0} (xs : List X) (x : X) (n : ℕ) → length xs ≡ n → length (xs ++ x ∷ []) ≡ n + 1
length-more xs x n h = length-append xs (x ∷ []) ∙ omega (arith, h)

-- one list more whose length is asked for
pub lengths-more : {X : Type 0} (vectors : List (Vec X Global)) (own : Vec X Global) (ns : List ℕ) (k : ℕ) → map length (lists_of vectors) ≡ take k ns → k < length ns → length own.items ≡ get_or ns k 0 → map length (lists_of (vectors ++ own ∷ [])) ≡ take (k + 1) ns
lengths-more vectors own ns k upto within here =
    ap (map length) (lists_of-push vectors own)
    ∙ (map-append length (lists_of vectors) (own.items ∷ [])
    ∙ ((λ i. upto i ++ here i ∷ []) ∙ (sym (take-suc ns k 0 within) ∙ ap (λ n. take n ns) (sym (add-one k)))))

pub length_at : {X : Type 0} (xss : List (List X)) (k : ℕ) → length (get_or xss k []) ≡ get_or (map length xss) k 0
length_at [] k = refl
length_at (xs ∷ xss) zero = refl
length_at (xs ∷ xss) (suc k) = length_at xss k
