-- Leaves that go to other places.
use Rattle.std.proofs.Common.{◌≡◌, ◌≢◌, ℕ, zero, suc, ◌+◌, ◌^◌, ◌<◌, ◌≤◌, Bool, true, false, cond, ◌==◌, List, [], ◌∷◌, ◌++◌, map, length, get_or, set, replicate, sum_by, Option, Some, None, refl, sym, ap, ap₂, ◌∙◌, subst, ⊎_elim, arith}
use Rattle.std.specs.Prelude.{filter_map, find, option_map, sum}
use Rattle.std.specs.List.{AllByRecursion, enumerate_from, cons_option, list_any}
use Rattle.std.proofs.lemmas.Bool.{eq-eqb, ne_eqb, cases_eq, cond-true, cond-false}
use Rattle.std.proofs.lemmas.List.{length-set, length-map, length-append, map-append, get_or-set_same, get_or-set_other, length-replicate, get_or-replicate}
use Rattle.std.proofs.lemmas.List.Sums.{sum_by_push}
use Rattle.plain_lists.specs.Lists.{below}
use Rattle.plain_lists.proofs.Below.{length-below, below-all, map-below-length, get_or-map-below}
use Rattle.plain_lists.proofs.Each.{all_weaker, all_from}
use Rattle.plain_lists.proofs.Filters.{map_same, map_map_same}
use Rattle.rank_chart_laws.proofs.home_laws.Numbered.{enumerate-below, given-same}
use Rattle.sf_defs.specs.declared.Leaf.{Leaf}
use Rattle.sf_defs.specs.Forest.{Forest, leaf, leaves_on, roots_on}
use Rattle.sf_graph.specs.Parts.{forest_of, IsForRanks}
use Rattle.rank_chart_laws.specs.moved_laws.Moves.{moved_place, moves_on, moved_root, leaf_moved_to, moved_leaves, moved_forest}
use Rattle.orient_iface.specs.moved_points.Fitting.{FitMoves}

next : (n : ℕ) → n + 1 ≡ suc n
next n = omega arith

-- entries that stand at their places
itself : {X : Type 0} (xs : List X) → map (λ x. x) xs ≡ xs
itself [] = refl
itself (x ∷ xs) = ap (λ l. x ∷ l) (itself xs)

-- lists that agree at each place
placed : {X : Type 0} (f : ℕ → X) (xs : List X) (n : ℕ) (d : X) → length xs ≡ n → ((j : ℕ) → j < n → f j ≡ get_or xs j d) → map f (below n) ≡ xs
placed {X} f xs n d long h = ap (λ k. map f (below k)) (sym long) ∙ map-below-length f (λ x. x) xs d (λ j low. h j (omega (arith, low, long))) ∙ itself xs

-- one entry changed
pub changed : {X : Type 0} (f g : ℕ → X) (n p : ℕ) (v d : X) → p < n → g p ≡ v → ((j : ℕ) → j < n → j ≢ p → g j ≡ f j) → map g (below n) ≡ set (map f (below n)) p v
changed {X} f g n p v d low here others = placed g (set (map f (below n)) p v) n d long each
  where
    size : length (map f (below n)) ≡ n
    size = length-map (below n) f ∙ length-below n

    long : length (set (map f (below n)) p v) ≡ n
    long = length-set (map f (below n)) p v ∙ size

    each : (j : ℕ) → j < n → g j ≡ get_or (set (map f (below n)) p v) j d
    each j less = ⊎_elim
        (λ (same : j ≡ p). ap g same ∙ here ∙ sym (get_or-set_same (map f (below n)) p v d (let s = size in omega (arith, low, s))) ∙ ap (λ k. get_or (set (map f (below n)) p v) k d) (sym same))
        (λ (other : j ≡ p → ⊥). others j less other ∙ sym (get_or-map-below f n j d less) ∙ sym (get_or-set_other (map f (below n)) p j v d other))
        (cases_eq j p)

-- ---- leaves found one after another

-- an answer, or another one where there is none
abbrev or_this : {X : Type 0} → Option X → Option X → Option X
or_this None other = other
or_this (Some x) other = Some x

-- one leaf more
find-more : {X : Type 0} (q : X → Bool) (xs : List X) (x : X) → find q (xs ++ x ∷ []) ≡ or_this (find q xs) (cond (q x) (Some x) None)
find-more q [] x = refl
find-more {X} q (y ∷ xs) x = go (q y) (find-more q xs x)
  where
    go : (b : Bool) → find q (xs ++ x ∷ []) ≡ or_this (find q xs) (cond (q x) (Some x) None) → cond b (Some y) (find q (xs ++ x ∷ [])) ≡ or_this (cond b (Some y) (find q xs)) (cond (q x) (Some x) None)
    go true r = refl
    go false r = r

-- where the leaves that were found go, place by place
abbrev pub routes : List (List ℕ) → List ℕ → List Leaf → ℕ → Option (ℕ × ℕ)
routes moves own leaves j = option_map (moved_root moves) (find (λ (l : Leaf). moved_place own l.local == j) leaves)

module _ (moves : List (List ℕ)) (own : List ℕ) (before : List Leaf) (l : Leaf) where
  route-more : (j : ℕ) → routes moves own (before ++ l ∷ []) j ≡ or_this (routes moves own before j) (cond (moved_place own l.local == j) (Some (moved_root moves l)) None)
  route-more j = ap (option_map (moved_root moves)) (find-more (λ (k : Leaf). moved_place own k.local == j) before l) ∙ both (find (λ (k : Leaf). moved_place own k.local == j) before) (moved_place own l.local == j)
    where
      both : (o : Option Leaf) (b : Bool) → option_map (moved_root moves) (or_this o (cond b (Some l) None)) ≡ or_this (option_map (moved_root moves) o) (cond b (Some (moved_root moves l)) None)
      both (Some k) b = refl
      both None true = refl
      both None false = refl

  -- at other places nothing changes
  route-other : (j : ℕ) → j ≢ moved_place own l.local → routes moves own (before ++ l ∷ []) j ≡ routes moves own before j
  route-other j other = route-more j ∙ ap (λ b. or_this (routes moves own before j) (cond b (Some (moved_root moves l)) None)) (ne_eqb (moved_place own l.local) j (λ e. other (sym e))) ∙ kept (routes moves own before j)
    where
      kept : (o : Option (ℕ × ℕ)) → or_this o None ≡ o
      kept None = refl
      kept (Some x) = refl

  -- the leaf is the first that goes to its place
  pub routes-new : (n : ℕ) → moved_place own l.local < n → routes moves own before (moved_place own l.local) ≡ None → map (routes moves own (before ++ l ∷ [])) (below n) ≡ set (map (routes moves own before) (below n)) (moved_place own l.local) (Some (moved_root moves l))
  routes-new n low none = changed (routes moves own before) (routes moves own (before ++ l ∷ [])) n (moved_place own l.local) (Some (moved_root moves l)) None low
      (route-more (moved_place own l.local) ∙ ap₂ (λ o b. or_this o (cond b (Some (moved_root moves l)) None)) none (eq-eqb (moved_place own l.local) (moved_place own l.local) refl))
      (λ j less other. route-other j other)

  -- or another one went there before
  pub routes-old : (n : ℕ) → (routes moves own before (moved_place own l.local) ≡ None → ⊥) → map (routes moves own (before ++ l ∷ [])) (below n) ≡ map (routes moves own before) (below n)
  routes-old n some = map_same (routes moves own (before ++ l ∷ [])) (routes moves own before) (below n) (all_from (λ j. routes moves own (before ++ l ∷ []) j ≡ routes moves own before j) each (below n))
    where
      full : (o : Option (ℕ × ℕ)) (x : Option (ℕ × ℕ)) → (o ≡ None → ⊥) → or_this o x ≡ o
      full None x h = absurd (h refl)
      full (Some y) x h = refl

      each : (j : ℕ) → routes moves own (before ++ l ∷ []) j ≡ routes moves own before j
      each j = ⊎_elim
          (λ (same : j ≡ moved_place own l.local). route-more j ∙ full (routes moves own before j) (cond (moved_place own l.local == j) (Some (moved_root moves l)) None) (λ e. some (ap (routes moves own before) (sym same) ∙ e)))
          (λ (other : j ≡ moved_place own l.local → ⊥). route-other j other)
          (cases_eq j (moved_place own l.local))

-- no leaf was found yet
pub routes-none : (moves : List (List ℕ)) (own : List ℕ) (n : ℕ) → map (routes moves own []) (below n) ≡ replicate n None
routes-none moves own n = placed (routes moves own []) (replicate n None) n None (length-replicate n None) (λ j low. sym (get_or-replicate n j None None low))

-- ---- leaves from routes

-- the leaf at a place
abbrev pub routed : List (Option (ℕ × ℕ)) → ℕ → Option Leaf
routed found j = option_map (leaf j) (get_or found j None)

pub routed-more : (found : List (Option (ℕ × ℕ))) (j : ℕ) → filter_map (routed found) (below (j + 1)) ≡ filter_map (routed found) (below j) ++ cons_option (routed found j) []
routed-more found j = ap (λ k. filter_map (routed found) (below k)) (next j) ∙ push (below j)
  where
    push : (xs : List ℕ) → filter_map (routed found) (xs ++ j ∷ []) ≡ filter_map (routed found) xs ++ cons_option (routed found j) []
    push [] = refl
    push (x ∷ xs) = ap (cons_option (routed found x)) (push xs) ∙ joined (routed found x)
      where
        joined : (o : Option Leaf) → cons_option o (filter_map (routed found) xs ++ cons_option (routed found j) []) ≡ cons_option o (filter_map (routed found) xs) ++ cons_option (routed found j) []
        joined None = refl
        joined (Some y) = refl

pub routed-all : (moves : List (List ℕ)) (own : List ℕ) (leaves : List Leaf) (found : List (Option (ℕ × ℕ))) (n : ℕ) → found ≡ map (routes moves own leaves) (below (length own)) → n ≡ length own → filter_map (routed found) (below n) ≡ moved_leaves moves own leaves
routed-all moves own leaves found n are end =
    ap (λ k. filter_map (routed found) (below k)) end
    ∙ given-same (routed found) (leaf_moved_to moves own leaves) (below (length own))
    (all_weaker (λ j. j < length own) (λ j. routed found j ≡ leaf_moved_to moves own leaves j) (λ j low. ap (option_map (leaf j)) (ap (λ l. get_or l j None) are ∙ get_or-map-below (routes moves own leaves) (length own) j None low) ∙ twice j (find (λ (l : Leaf). moved_place own l.local == j) leaves)) (below (length own)) (below-all (length own)))
  where
    twice : (j : ℕ) (o : Option Leaf) → option_map (leaf j) (option_map (moved_root moves) o) ≡ option_map (λ (l : Leaf). leaf j (moved_root moves l)) o
    twice j None = refl
    twice j (Some l) = refl

-- ---- the whole forest

given-few : {X Y : Type 0} (h : X → Option Y) (xs : List X) → length (filter_map h xs) ≤ length xs
given-few h [] = omega arith
given-few {X} {Y} h (x ∷ xs) = go (h x) (given-few h xs)
  where
    go : (o : Option Y) → length (filter_map h xs) ≤ length xs → length (cons_option o (filter_map h xs)) ≤ length (x ∷ xs)
    go None r = omega arith
    go (Some y) r = omega arith

-- sums over ranks
sums-low : (g : ℕ → List Leaf) (h : ℕ → ℕ) (n : ℕ) → ((r : ℕ) → r < n → length (g r) ≤ h r) → sum_by length (map g (below n)) ≤ sum (map h (below n))
sums-low g h zero low = omega arith
sums-low g h (suc n) low =
    let rest = sums-low g h n (λ r less. low r (omega arith)) in
    let last = low n (omega arith) in
    let left : sum_by length (map g (below (suc n))) ≡ sum_by length (map g (below n)) + length (g n) = ap (sum_by length) (map-append g (below n) (n ∷ [])) ∙ sum_by_push length (map g (below n)) (g n) in
    let right : sum (map h (below (suc n))) ≡ sum (map h (below n)) + h n = ap sum (map-append h (below n) (n ∷ [])) ∙ sum_by_push (λ (k : ℕ). k) (map h (below n)) (h n) in
    omega (arith, rest, last, left, right)

module _ (moves : List (List ℕ)) (f : Forest) (fit : FitMoves moves f) (ranks : IsForRanks f) where
  -- the leaves of a rank, moved
  abbrev leaves-at : ℕ → List Leaf
  leaves-at r = moved_leaves moves (moves_on moves r) (leaves_on f r)

  pub roots-are : (roots : List ℕ) (n : ℕ) → roots ≡ map (roots_on f) (below n) → n ≡ length f.roots → roots ≡ f.roots
  roots-are roots n are end = are ∙ placed (roots_on f) f.roots n 0 (sym end) (λ j low. refl)

  pub leaves-are : (leaves : List (List Leaf)) (n : ℕ) → leaves ≡ map (λ r. moved_leaves moves (moves_on moves r) (leaves_on f r)) (below n) → n ≡ length f.roots → leaves ≡ (moved_forest moves f).leaves
  unfolding moved_forest
  leaves-are leaves n are end =
      are
      ∙ sym (map_map_same (λ (r : ℕ × List Leaf). moved_leaves moves (moves_on moves r.0) r.1) (λ r. (r, get_or f.leaves r [])) leaves-at (below n) (all_from (λ r. leaves-at r ≡ leaves-at r) (λ r. refl) (below n)))
      ∙ sym (ap (map (λ (r : ℕ × List Leaf). moved_leaves moves (moves_on moves r.0) r.1)) (ap (enumerate_from 0) (sym (placed (λ r. get_or f.leaves r []) f.leaves n [] (ranks.ranks ∙ sym end) (λ j low. refl))) ∙ enumerate-below (λ r. get_or f.leaves r []) n))

  pub forest-is : (roots : List ℕ) (leaves : List (List Leaf)) (n : ℕ) → roots ≡ map (roots_on f) (below n) → leaves ≡ map (λ r. moved_leaves moves (moves_on moves r) (leaves_on f r)) (below n) → n ≡ length f.roots → forest_of roots leaves ≡ moved_forest moves f
  unfolding moved_forest
  forest-is roots leaves n rs ls end = λ i. record { roots = roots-are roots n rs end i; leaves = leaves-are leaves n ls end i }

  pub moved-ranks : (roots : List ℕ) (leaves : List (List Leaf)) (n : ℕ) → roots ≡ map (roots_on f) (below n) → leaves ≡ map (λ r. moved_leaves moves (moves_on moves r) (leaves_on f r)) (below n) → n ≡ length f.roots → IsForRanks (forest_of roots leaves)
  moved-ranks roots leaves n rs ls end =
      let same = roots-are roots n rs end in
      let long : length leaves ≡ n = ap length ls ∙ length-map (below n) leaves-at ∙ length-below n in
      let count : length roots ≡ length f.roots = ap length same in
      let few : sum_by length leaves ≤ sum f.roots = subst (λ l. sum_by length l ≤ sum f.roots) (sym ls) (subst (λ k. sum_by length (map leaves-at (below n)) ≤ sum k) (sym rs ∙ same) (sums-low leaves-at (roots_on f) n each)) in
      record {
        ranks = long ∙ end ∙ sym count;
        some_rank = omega (arith, count, ranks.some_rank);
        few_ranks = omega (arith, count, ranks.few_ranks);
        few_roots = subst (λ l. sum l < 2 ^ 32) (sym same) ranks.few_roots;
        few_leaves = omega (arith, few, ranks.few_roots);
      }
    where
      each : (r : ℕ) → r < n → length (leaves-at r) ≤ roots_on f r
      each r low =
          let few = given-few (leaf_moved_to moves (moves_on moves r) (leaves_on f r)) (below (length (moves_on moves r))) in
          omega (arith, few, length-below (length (moves_on moves r)), fit.as_many r (omega (arith, low, end)))
