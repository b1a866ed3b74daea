-- Bounds of what ranks have, by what they are.
use Rattle.std.proofs.Common.{◌≡◌, ℕ, zero, suc, ◌+◌, ◌^◌, ◌<◌, ◌≤◌, List, [], ◌∷◌, map, length, get_or, set, sum_by, Option, Some, None, refl, sym, ap, ◌∙◌, subst, arith}
use Rattle.std.specs.Prelude.{filter_map, IsPermutation}
use Rattle.std.specs.List.{AllByRecursion, cons_option}
use Rattle.std.proofs.lemmas.List.{length-append, length-map, get_or-map}
use Rattle.std.proofs.lemmas.List.Sums.{sum_by-cons}
use Rattle.std.proofs.lemmas.List.Sorted.{length_permutation}
use Rattle.plain_lists.specs.Lists.{below}
use Rattle.plain_lists.proofs.Below.{length-below, map-below-length}
use Rattle.plain_lists.proofs.Filters.{map_map_same}
use Rattle.plain_lists.proofs.Each.{all_append, all_filter, all_from, all_weaker}
use Rattle.sf_defs.specs.declared.Leaf.{Leaf}
use Rattle.sf_graph.specs.Parts.{forest_of, IsForRanks}
use Rattle.rank_defs.specs.Spread.{SharedPart, PlainShared}
use Rattle.dist_state.specs.shared_state.Points.{shared_at}
use Rattle.rank_chart_laws.specs.key_laws.Places.{put, run, is_word, words_among, first_face, face_count, first_edge, edge_count, AreInOrder}
use Rattle.rank_chart_laws.specs.key_laws.Words.{part, leaf_found, leaves_found, AreAllWords, AreWordPlaces, IsLaidOut}
use Rattle.rank_chart_laws.proofs.key_laws.Rising.{all-permutation, run-within}
use Rattle.rank_chart_laws.proofs.key_laws.OwnWords.{filter-short}

-- ---- sums

-- entries that are no greater add up to no more
pub sums-under : {X Y : Type 0} (f : X → ℕ) (g : Y → ℕ) (xs : List X) (ys : List Y) (d : X) (e : Y) → length xs ≡ length ys → ((k : ℕ) → k < length xs → f (get_or xs k d) ≤ g (get_or ys k e)) → sum_by f xs ≤ sum_by g ys
sums-under f g [] ys d e same h = omega arith
sums-under f g (x ∷ xs) [] d e same h = absurd (omega (arith, same))
sums-under f g (x ∷ xs) (y ∷ ys) d e same h =
    let first = h 0 (omega arith) in
    let rest = sums-under f g xs ys d e (omega (arith, same)) (λ k low. h (suc k) (omega (arith, low))) in
    omega (arith, first, rest, sum_by-cons f x xs, sum_by-cons g y ys)

-- an entry is no greater than the sum
pub entry-under : {X : Type 0} (f : X → ℕ) (xs : List X) (k : ℕ) (d : X) → k < length xs → f (get_or xs k d) ≤ sum_by f xs
entry-under f [] k d low = absurd (omega (arith, low))
entry-under f (x ∷ xs) zero d low = omega (arith, sum_by-cons f x xs)
entry-under f (x ∷ xs) (suc k) d low = let r = entry-under f xs k d (omega (arith, low)) in omega (arith, r, sum_by-cons f x xs)

-- what is given is no more than what it is given from
pub given-short : {X Y : Type 0} (f : X → Option Y) (xs : List X) → length (filter_map f xs) ≤ length xs
given-short f [] = omega arith
given-short {X} {Y} f (x ∷ xs) = go (f x) (given-short f xs)
  where
    go : (o : Option Y) → length (filter_map f xs) ≤ length xs → length (cons_option o (filter_map f xs)) ≤ length (x ∷ xs)
    go None h = omega (arith, h)
    go (Some y) h = omega (arith, h)

pub length-run : (first count : ℕ) → length (run first count) ≡ count
length-run first count = length-map (below count) (λ k. first + k) ∙ length-below count

-- the length of a list of lists, entry by entry
pub length-entry : (xss : List (List ℕ)) (k : ℕ) → length (get_or xss k []) ≡ get_or (map length xss) k 0
length-entry [] k = refl
length-entry (xs ∷ xss) zero = refl
length-entry (xs ∷ xss) (suc k) = length-entry xss k

-- what values and places have, lists after puts have
pub all-put : (P : ℕ → Type 0) (own ps vs : List ℕ) → AllByRecursion P own → AllByRecursion P vs → AllByRecursion P (put own ps vs)
all-put P own [] vs h k = h
all-put P own (p ∷ ps) [] h k = h
all-put P own (p ∷ ps) (v ∷ vs) h k = all-put P (set own p v) ps vs (all-set own p h) k.1
  where
    all-set : (xs : List ℕ) (i : ℕ) → AllByRecursion P xs → AllByRecursion P (set xs i v)
    all-set [] i h = tt
    all-set (x ∷ xs) zero h = (k.0, h.1)
    all-set (x ∷ xs) (suc i) h = (h.0, all-set xs i h.1)

-- ---- what ranks have

module _ (s : PlainShared) (laid : IsLaidOut s) where
  -- values for each point of each rank
  pub count-is : (values : List (List ℕ)) → map length values ≡ s.forest.roots → length values ≡ length s.parts
  count-is values shape =
      let e = ap length (shape ∙ laid.roots) in
      let f = length-map values (length {A = ℕ}) in
      let g = length-map s.parts (λ (p : SharedPart). length p.sets) in
      omega arith

  pub entry-long : (values : List (List ℕ)) → map length values ≡ s.forest.roots → (r : ℕ) → r < length s.parts → length (get_or values r []) ≡ length (part s r).sets
  entry-long values shape r low = length-entry values r ∙ (ap (λ l. get_or l r 0) (shape ∙ laid.roots) ∙ get_or-map (λ (p : SharedPart). length p.sets) s.parts r (shared_at [] 0) 0 low)

  pub shape-from : (f : ℕ → List ℕ) → ((r : ℕ) → r < length s.parts → length (f r) ≡ length (part s r).sets) → map length (map f (below (length s.parts))) ≡ s.forest.roots
  shape-from f h =
      map_map_same length f (λ r. length (f r)) (below (length s.parts)) (all_from (λ r. length (f r) ≡ length (f r)) (λ r. refl) (below (length s.parts)))
      ∙ (map-below-length (λ r. length (f r)) (λ (p : SharedPart). length p.sets) s.parts (shared_at [] 0) (λ r low. h r low) ∙ sym laid.roots)

  -- the points of a rank are fewer than 2^32
  pub points-low : IsForRanks s.forest → (r : ℕ) → r < length s.parts → length (part s r).sets < 2 ^ 32
  points-low ranks r low =
      let long = ap length laid.roots ∙ length-map s.parts (λ (p : SharedPart). length p.sets) in
      let under = entry-under (λ (k : ℕ). k) s.forest.roots r 0 (omega (arith, low, long)) in
      let entry : get_or s.forest.roots r 0 ≡ length (part s r).sets = ap (λ l. get_or l r 0) laid.roots ∙ get_or-map (λ (p : SharedPart). length p.sets) s.parts r (shared_at [] 0) 0 low in
      let few = ranks.few_roots in
      omega arith

  module _ (r : ℕ) (low : r < length s.parts) where
    within : (first count : ℕ) (places : List ℕ) → first + count ≤ length (part s r).sets → AreInOrder (part s r).sets (words_among s.forest r first count) places → AllByRecursion (λ p. p < length (part s r).sets) places
    unfolding words_among
    within first count places fit order = all-permutation (λ p. p < length (part s r).sets) (words_among s.forest r first count) places order.same
        (all_filter (λ p. p < length (part s r).sets) (is_word s.forest r) (run first count) (all_weaker (λ p. (first ≤ p) × (p < first + count)) (λ p. p < length (part s r).sets) (λ p w. omega (arith, w.1, fit)) (run first count) (run-within first count)))

    short : (first count : ℕ) (places : List ℕ) → AreInOrder (part s r).sets (words_among s.forest r first count) places → length places ≤ count
    unfolding words_among
    short first count places order =
        let e = length_permutation (words_among s.forest r first count) places order.same in
        let f = filter-short (is_word s.forest r) (run first count) in
        let g = length-run first count in
        omega arith

    pub words-inside : (places : List ℕ) → AreWordPlaces s r places → AllByRecursion (λ p. p < length (part s r).sets) places
    words-inside places own =
        let whole = laid.points r low in
        subst (AllByRecursion (λ p. p < length (part s r).sets)) (sym own.all) (all_append (λ p. p < length (part s r).sets) own.faces own.edges
        (within (first_face (part s r)) (face_count (part s r)) own.faces (omega (arith, whole)) own.of_faces)
        (within (first_edge (part s r)) (edge_count (part s r)) own.edges (omega (arith, whole)) own.of_edges))

    pub words-short : (places : List ℕ) → AreWordPlaces s r places → length places ≤ length (part s r).sets
    words-short places own =
        let whole = laid.points r low in
        let all = ap length own.all ∙ length-append own.faces own.edges in
        let f = short (first_face (part s r)) (face_count (part s r)) own.faces own.of_faces in
        let e = short (first_edge (part s r)) (edge_count (part s r)) own.edges own.of_edges in
        omega arith

    pub leaves-short : (numbers : List ℕ) → length (leaves_found s r numbers) ≤ length (part s r).sets
    unfolding leaves_found
    leaves-short numbers =
        let whole = laid.points r low in
        let f = given-short (leaf_found s.forest r numbers) (run (first_face (part s r)) (face_count (part s r) + edge_count (part s r))) in
        let g = length-run (first_face (part s r)) (face_count (part s r) + edge_count (part s r)) in
        omega arith

  -- words that ranks have are few enough for a forest, and so are leaves
  pub fits : IsForRanks s.forest → (places numbers : List (List ℕ)) → AreAllWords s places → (leaves : List (List Leaf)) → length leaves ≡ length s.parts
      → ((r : ℕ) → r < length s.parts → IsPermutation (leaves_found s r (get_or numbers r [])) (get_or leaves r [])) → IsForRanks (forest_of (map length places) leaves)
  fits ranks places numbers all leaves count same =
      let long = length-map places (length {A = ℕ}) in
      let roots = ap length laid.roots ∙ length-map s.parts (λ (p : SharedPart). length p.sets) in
      let total = ap (sum_by (λ (k : ℕ). k)) laid.roots in
      let words = sums-under (λ (k : ℕ). k) (λ (k : ℕ). k) (map length places) s.forest.roots 0 0 (omega (arith, long, roots, all.ranks)) (λ r low.
      let here : r < length s.parts = omega (arith, low, long, all.ranks) in
      let entry : get_or s.forest.roots r 0 ≡ length (part s r).sets = ap (λ l. get_or l r 0) laid.roots ∙ get_or-map (λ (p : SharedPart). length p.sets) s.parts r (shared_at [] 0) 0 here in
      let few = words-short r here (get_or places r []) (all.each r here) in
      omega (arith, entry, few, length-entry places r)) in
      let ghosts = sums-under (length {A = Leaf}) (λ (k : ℕ). k) leaves s.forest.roots [] 0 (omega (arith, count, roots)) (λ r low.
      let here : r < length s.parts = omega (arith, low, count) in
      let entry : get_or s.forest.roots r 0 ≡ length (part s r).sets = ap (λ l. get_or l r 0) laid.roots ∙ get_or-map (λ (p : SharedPart). length p.sets) s.parts r (shared_at [] 0) 0 here in
      let few = leaves-short r here (get_or numbers r []) in
      omega (arith, entry, few, length_permutation (leaves_found s r (get_or numbers r [])) (get_or leaves r []) (same r here))) in
      let few = ranks.few_roots in
      let some = ranks.some_rank in
      let most = ranks.few_ranks in
      record { ranks = omega arith; some_rank = omega (arith, some, long, roots, all.ranks); few_ranks = omega (arith, most, long, roots, all.ranks); few_roots = omega arith; few_leaves = omega arith }
