-- Lists that grow one by one: what was found so far, and what is found next.
use Rattle.std.proofs.Common.{◌≡◌, ℕ, zero, suc, ◌+◌, ◌<◌, Bool, true, false, ◌||◌, List, [], ◌∷◌, length, get_or, take, Some, ap, ◌∙◌, arith}
use Rattle.std.specs.Prelude.{find}
use Rattle.std.specs.List.{list_any}
use Rattle.std.proofs.lemmas.Bool.{cond-true, cond-false, or_parts}
use Rattle.std.proofs.lemmas.List.{take_more}
use Rattle.std.proofs.lemmas.List.Folds.{list_any-append}

-- one more that does not pass
pub none-more : {X : Type 0} (t : X → Bool) (xs : List X) (k : ℕ) (d : X) → k < length xs → list_any t (take k xs) ≡ false → t (get_or xs k d) ≡ false → list_any t (take (k + 1) xs) ≡ false
none-more t xs k d low none here = ap (list_any t) (take_more xs k d low) ∙ list_any-append t (take k xs) (get_or xs k d ∷ []) ∙ ap (λ b. b || (t (get_or xs k d) || false)) none ∙ ap (λ b. b || false) here

-- the first one that passes
pub found-next : {X : Type 0} (t : X → Bool) (xs : List X) (k : ℕ) (d : X) → k < length xs → list_any t (take k xs) ≡ false → t (get_or xs k d) ≡ true → find t xs ≡ Some (get_or xs k d)
found-next t [] k d low none here = absurd (omega arith)
found-next t (x ∷ xs) zero d low none here = cond-true (t x) (Some x) (find t xs) here
found-next t (x ∷ xs) (suc k) d low none here =
    let both = or_parts (t x) (list_any t (take k xs)) none in
    cond-false (t x) (Some x) (find t xs) both.0 ∙ found-next t xs k d (omega arith) both.1 here
