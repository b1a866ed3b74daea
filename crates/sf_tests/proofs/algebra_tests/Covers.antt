-- Words for the places of leaves, rank by rank.
use Rattle.std.proofs.Common.{◌≡◌, ℕ, ◌+◌, ◌<◌, ◌≤◌, List, [], ◌∷◌, ◌++◌, length, map, get_or, arith, ap, sym, subst, ◌∙◌, ⊎_elim}
use Rattle.std.specs.List.{AllByRecursion}
use Rattle.std.specs.declared.vec.Vec.{Vec}
use Rattle.std.specs.declared.alloc.Global.{Global}
use Rattle.std.proofs.lemmas.Bool.{cases_lt}
use Rattle.std.proofs.Math.Seq.{get_or-append_seam}
use Rattle.std.proofs.Math.ListN.{get_or-append}
use Rattle.plain_lists.specs.Vectors.{lists_of}
use Rattle.plain_lists.proofs.Each.{all_weaker}
use Rattle.sf_defs.specs.declared.Leaf.{Leaf}
use Rattle.sf_ops.specs.Asked.{CoversOwn}
use Rattle.sf_ops.proofs.Words.{lists_of-push, length-lists_of}

-- one rank's words more
pub covers-more : (values : List (Vec ℕ Global)) (own : Vec ℕ Global) (lss : List (List Leaf)) (n reach : ℕ) → length values ≡ n → reach ≤ length own.items → AllByRecursion (λ (l : Leaf). l.local < reach) (get_or lss n []) → ((k : ℕ) → k < n → CoversOwn (get_or (lists_of values) k []) (get_or lss k [])) → (k : ℕ) → k < n + 1 → CoversOwn (get_or (lists_of (values ++ own ∷ [])) k []) (get_or lss k [])
covers-more values own lss n reach size long reaches so_far k h = subst (λ (vs : List (List ℕ)). CoversOwn (get_or vs k []) (get_or lss k [])) (sym (lists_of-push values own)) (⊎_elim
    (λ lt. subst (λ (v : List ℕ). CoversOwn v (get_or lss k [])) (sym (get_or-append (lists_of values) (own.items ∷ []) [] k (subst (λ m. k < m) (sym (length-lists_of values ∙ size)) lt))) (so_far k lt))
    (λ ge.
    let here : length (lists_of values) ≡ k = length-lists_of values ∙ (size ∙ omega arith) in
    subst (λ (v : List ℕ). CoversOwn v (get_or lss k [])) (sym (ap (λ m. get_or (lists_of values ++ own.items ∷ []) m []) (sym here) ∙ get_or-append_seam (lists_of values) own.items [] []))
    (all_weaker (λ (l : Leaf). l.local < reach) (λ (l : Leaf). l.local < length own.items) (λ l lt. let a : l.local < length own.items = omega (arith, lt, long) in a) (get_or lss k []) (subst (λ m. AllByRecursion (λ (l : Leaf). l.local < reach) (get_or lss m [])) (let e : n ≡ k = omega arith in e) reaches)))
    (cases_lt k n))
