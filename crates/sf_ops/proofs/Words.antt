-- Where words and asks of a forest stand.
use Rattle.std.proofs.Common.{◌≡◌, ℕ, zero, suc, ◌+◌, ◌<◌, ◌≤◌, List, [], ◌∷◌, ◌++◌, length, map, get_or, take, sum, arith, refl, ap, sym, subst, ◌∙◌, add-one}
use Rattle.std.specs.List.{enumerate_from}
use Rattle.std.proofs.lemmas.Grind.{common_steps}
use Rattle.std.proofs.lemmas.List.{length-map, length-append}
use Rattle.std.proofs.lemmas.List.FromFn.{length-enumerate_from}
use Rattle.std.proofs.Math.Seq.{take-suc}
use Rattle.std.specs.declared.vec.Vec.{Vec}
use Rattle.std.specs.declared.alloc.Global.{Global}
use Rattle.plain_lists.specs.Vectors.{lists_of}
use Rattle.plain_lists.proofs.Filters.{image-at}
use Rattle.sf_defs.specs.declared.Op.{Op}
use Rattle.sf_defs.specs.declared.Ask.{Ask}
use Rattle.sf_defs.specs.Forest.{Forest, leaves_on}
use Rattle.sf_ops.specs.Asked.{first_word, own_asks, asks_of, words_of}

-- the words of a rank stand before those of the next
pub first_word-more : (roots : List ℕ) (rank : ℕ) → rank < length roots → first_word roots (rank + 1) ≡ first_word roots rank + get_or roots rank 0
first_word-more roots rank h = grind (arith, common_steps)

-- and within the words of all
pub first_word-within : (roots : List ℕ) (rank : ℕ) → rank < length roots → first_word roots rank + get_or roots rank 0 ≤ sum roots
first_word-within roots rank h = grind (arith, common_steps)

-- as many words as roots
pub length-words_of : (values : List (List ℕ)) → length (words_of values) ≡ sum (map length values)
length-words_of [] = refl
length-words_of (v ∷ vs) = let here = length-append v (words_of vs) in let rest = length-words_of vs in grind (arith, common_steps)

-- as many lists of asks as ranks
pub length-asks_of : (f : Forest) (op : Op) (values : List (List ℕ)) → length (asks_of f op values) ≡ length f.leaves
unfolding asks_of
length-asks_of f op values = length-map (enumerate_from 0 f.leaves) _ ∙ length-enumerate_from 0 f.leaves

-- what a rank's leaves ask
pub get_or-asks_of : (f : Forest) (op : Op) (values : List (List ℕ)) (rank : ℕ) → get_or (asks_of f op values) rank [] ≡ own_asks f.roots op (get_or values rank []) (leaves_on f rank)
unfolding asks_of
get_or-asks_of f op values rank = image-at [] (λ r. own_asks f.roots op (get_or values r.0 []) r.1) (λ k. refl) 0 f.leaves rank ∙ ap (λ (n : ℕ). own_asks f.roots op (get_or values n []) (leaves_on f rank)) (omega arith)

-- one element more of a list, through a function
pub map-take-more : {X Y : Type 0} (h : X → Y) (xs : List X) (i : ℕ) (x : X) → i < length xs → get_or xs i x ≡ x → map h (take (i + 1) xs) ≡ map h (take i xs) ++ h x ∷ []
map-take-more h xs i x within here = grind (arith, common_steps)

-- one vector more
pub lists_of-push : {X : Type 0} (vectors : List (Vec X Global)) (v : Vec X Global) → lists_of (vectors ++ v ∷ []) ≡ lists_of vectors ++ v.items ∷ []
lists_of-push [] v = refl
lists_of-push (u ∷ us) v = ap (λ (rest : List (List _)). u.items ∷ rest) (lists_of-push us v)

-- one rank's asks more
pub asks_of-more : (f : Forest) (op : Op) (values : List (List ℕ)) (rank : ℕ) (asks : List (Vec Ask Global)) (own : Vec Ask Global) → rank < length f.leaves → lists_of asks ≡ take rank (asks_of f op values) → own.items ≡ own_asks f.roots op (get_or values rank []) (leaves_on f rank) → lists_of (asks ++ own ∷ []) ≡ take (rank + 1) (asks_of f op values)
asks_of-more f op values rank asks own within upto here =
    let more = take-suc (asks_of f op values) rank [] (subst (λ (n : ℕ). rank < n) (sym (length-asks_of f op values)) within) in
    lists_of-push asks own ∙ (ap (λ (ls : List (List Ask)). ls ++ own.items ∷ []) upto ∙ (ap (λ (o : List Ask). take rank (asks_of f op values) ++ o ∷ []) (here ∙ sym (get_or-asks_of f op values rank)) ∙ (sym more ∙ ap (λ (n : ℕ). take n (asks_of f op values)) (sym (add-one rank)))))

-- the list that a vector has
pub lists_of-at : {X : Type 0} (vectors : List (Vec X Global)) (k : ℕ) (v : Vec X Global) → k < length vectors → get_or (lists_of vectors) k [] ≡ (get_or vectors k v).items
lists_of-at [] k v h = absurd (omega arith)
lists_of-at (u ∷ us) zero v h = refl
lists_of-at (u ∷ us) (suc k) v h = lists_of-at us k v (omega arith)

-- as many lists as vectors
pub length-lists_of : {X : Type 0} (vectors : List (Vec X Global)) → length (lists_of vectors) ≡ length vectors
length-lists_of vectors = length-map vectors _
