-- The words that slots get.
use Rattle.std.proofs.Common.{◌≡◌, ℕ, ◌+◌, ◌<◌, List, [], ◌∷◌, map, length, get_or, Some, refl, ap, ◌∙◌, arith, zero-add}
use Rattle.std.specs.List.{enumerate_from}
use Rattle.std.proofs.lemmas.List.{length-map}
use Rattle.std.proofs.Math.ListN.{get_or-map}
use Rattle.plain_lists.specs.Lists.{below}
use Rattle.plain_lists.proofs.Below.{length-below, get_or-map-below}
use Rattle.plain_lists.proofs.Filters.{image-at}
use Rattle.sf_defs.specs.Forest.{Forest, leaf_of, roots_on}
use Rattle.sf_ops.specs.Copies.{value_or}
use Rattle.sf_ops.specs.slots.Gathered.{gathered}
use Rattle.sf_defs.specs.meeting.Meeting.{key_at, id_at}

-- the words of a rank's slots
gathered-on : (m : Forest) (values : List (List ℕ)) (rank : ℕ) → get_or (gathered m values) rank [] ≡ map (λ i. value_or values 0 (leaf_of m rank i)) (below (roots_on m rank))
unfolding gathered
gathered-on m values rank = image-at 0 (λ (r : ℕ × ℕ). map (λ i. value_or values 0 (leaf_of m r.0 i)) (below r.1)) (λ k. refl) 0 m.roots rank ∙ ap (λ k. map (λ i. value_or values 0 (leaf_of m k i)) (below (roots_on m rank))) (zero-add rank)

-- a word for each slot
pub gathered-length : (m : Forest) (values : List (List ℕ)) (rank : ℕ) → length (get_or (gathered m values) rank []) ≡ roots_on m rank
gathered-length m values rank = ap length (gathered-on m values rank) ∙ (length-map (below (roots_on m rank)) (λ i. value_or values 0 (leaf_of m rank i)) ∙ length-below (roots_on m rank))

pub gathered-shape : (m : Forest) (values : List (List ℕ)) → map length (gathered m values) ≡ m.roots
unfolding gathered
gathered-shape m values = go 0 m.roots
  where
    go : (n : ℕ) (ns : List ℕ) → map length (map (λ (r : ℕ × ℕ). map (λ i. value_or values 0 (leaf_of m r.0 i)) (below r.1)) (enumerate_from n ns)) ≡ ns
    go n [] = refl
    go n (k ∷ ns) = λ i. (length-map (below k) (λ j. value_or values 0 (leaf_of m n j)) ∙ length-below k) i ∷ go (n + 1) ns i

-- it is the one at the slot's leaf
pub gathered-at : (m : Forest) (values : List (List ℕ)) (rank slot : ℕ) (x : ℕ × ℕ) → slot < roots_on m rank → leaf_of m rank slot ≡ Some x → get_or (get_or (gathered m values) rank []) slot 0 ≡ id_at values x.0 x.1
gathered-at m values rank slot x low e =
    ap (λ xs. get_or xs slot 0) (gathered-on m values rank)
    ∙ (get_or-map-below (λ i. value_or values 0 (leaf_of m rank i)) (roots_on m rank) slot 0 low ∙ ap (value_or values 0) e)

-- a word of each key
pub key-word : (keys : List (List (List ℕ))) (which rank local : ℕ) → id_at (map (map (λ key. get_or key which 0)) keys) rank local ≡ get_or (key_at keys rank local) which 0
key-word keys which rank local =
    ap (λ xs. get_or xs local 0) (get_or-map (map (λ key. get_or key which 0)) keys rank [])
    ∙ get_or-map (λ (key : List ℕ). get_or key which 0) (get_or keys rank []) local []

-- two words make a key
pub two-words : (key : List ℕ) → length key ≡ 2 → get_or key 0 0 ∷ get_or key 1 0 ∷ [] ≡ key
two-words [] e = absurd (omega arith)
two-words (a ∷ []) e = absurd (omega arith)
two-words (a ∷ b ∷ []) e = refl
two-words (a ∷ b ∷ c ∷ rest) e = absurd (omega arith)
