-- Vectors of vectors of the same lengths.
use Rattle.std.proofs.Common.{◌≡◌, ℕ, zero, suc, ◌<◌, List, [], ◌∷◌, ◌++◌, length, map, get_or, take, drop, append-nil, refl, ap, sym, subst, ◌∙◌, arith}
use Rattle.std.specs.List.{AllByRecursion}
use Rattle.std.specs.declared.vec.Vec.{Vec}
use Rattle.std.specs.declared.alloc.Global.{Global}
use Rattle.std.proofs.lemmas.List.{length-map, take_all, drop_all}
use Rattle.plain_lists.specs.Vectors.{lists_of}
use Rattle.sf_defs.specs.declared.Leaf.{Leaf}
use Rattle.sf_defs.specs.Forest.{Forest, leaves_on}
use Rattle.sf_ops.specs.Asked.{CoverLeaves}
use Rattle.sf_ops.proofs.Words.{length-lists_of}

-- the length of one of some lists
pub length-at : (xs : List (List ℕ)) (k : ℕ) → length (get_or xs k []) ≡ get_or (map length xs) k 0
length-at [] k = refl
length-at (x ∷ xs) zero = refl
length-at (x ∷ xs) (suc k) = length-at xs k

-- lists of the same lengths are as many
pub vectors-same : (vs ws : List (Vec ℕ Global)) → map length (lists_of vs) ≡ map length (lists_of ws) → length vs ≡ length ws
vectors-same vs ws e = sym (length-lists_of vs) ∙ (sym (length-map (lists_of vs) length) ∙ (ap length e ∙ (length-map (lists_of ws) length ∙ length-lists_of ws)))

-- what was lent and written back is what was written
pub written-back : {X : Type 0} (new old : List X) (n : ℕ) → length new ≡ length old → length old ≡ n → take n (new ++ drop (length new) old) ≡ new
written-back new old n same size = ap (λ k. take n (new ++ drop k old)) same ∙ (ap (λ rest. take n (new ++ rest)) (drop_all (length old) old (omega arith)) ∙ (ap (take n) (append-nil new) ∙ take_all n new (omega arith)))

-- where some lists have a value at each leaf, lists of the same lengths have one
pub covers-same : (f : Forest) (vs ws : List (List ℕ)) → map length ws ≡ map length vs → CoverLeaves f vs → CoverLeaves f ws
covers-same f vs ws e h = record {
  ranks = sym (length-map ws length) ∙ (ap length e ∙ (length-map vs length ∙ h.ranks));
  places = λ rank low. subst (λ n. AllByRecursion (λ (l : Leaf). l.local < n) (leaves_on f rank)) (length-at vs rank ∙ (ap (λ ns. get_or ns rank 0) (sym e) ∙ sym (length-at ws rank))) (h.places rank low);
}
