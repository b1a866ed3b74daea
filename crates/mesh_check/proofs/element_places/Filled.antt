-- Numbers put behind zeros.
use Rattle.std.proofs.Common.{◌≡◌, ℕ, ◌-◌, ◌≤◌, List, ◌++◌, length, take, drop, replicate, sym, ap, ap₂, ◌∙◌, arith}
use Rattle.std.proofs.lemmas.List.{take-replicate, take-append-drop, append-nil}
use Rattle.std.proofs.lemmas.Slice.{take-put_mid, drop-put_mid}
use borrow.Rule.Slice.PartMut.{put_mid}
use Rattle.plain_lists.specs.Lists.{sorted}
use Rattle.input_laws.specs.place_laws.Places.{filled}

-- eight zeros, and then all numbers over the last of them
pub filled-put : (nodes new : List ℕ) → length nodes ≤ 8 → new ≡ nodes → sorted (put_mid (8 - length nodes) (8 - (8 - length nodes)) (replicate 8 0) new) ≡ filled nodes
unfolding filled
filled-put nodes new few same =
    let zeros : List ℕ = replicate 8 0 in
    let before : 8 - length nodes ≤ 8 = omega arith in
    let over : take 8 (put_mid (8 - length nodes) (8 - (8 - length nodes)) zeros nodes) ≡ take (8 - length nodes) zeros ++ nodes = take-put_mid (8 - length nodes) (8 - (8 - length nodes)) zeros nodes 8 (omega arith) before in
    let rest : drop 8 (put_mid (8 - length nodes) (8 - (8 - length nodes)) zeros nodes) ≡ drop 8 zeros = drop-put_mid (8 - length nodes) (8 - (8 - length nodes)) zeros nodes 8 (omega arith) before (omega arith) in
    ap (λ ys. sorted (put_mid (8 - length nodes) (8 - (8 - length nodes)) zeros ys)) same
    ∙ ap sorted (sym (take-append-drop 8 (put_mid (8 - length nodes) (8 - (8 - length nodes)) zeros nodes)) ∙ ap₂ (λ xs ys. xs ++ ys) over rest ∙ append-nil _ ∙ ap (λ xs. xs ++ nodes) (take-replicate (8 - length nodes) 8 0 before))
