-- The forest of shared points, where the points of each rank moved.
use Rattle.std.proofs.Common.{◌≡◌, ℕ, ◌+◌, ◌<◌, Bool, true, false, cond, not, ◌==◌, List, [], ◌∷◌, map, length, get_or, Option, Some, None, refl, sym, ap, ap₂, ◌∙◌, subst, arith}
use Rattle.std.specs.Prelude.{filter, filter_map, find, option_map}
use Rattle.std.specs.List.{list_any, AllByRecursion, enumerate_from, cons_option}
use Rattle.plain_lists.specs.Lists.{below}
use Rattle.plain_lists.proofs.Below.{below-all, get_or-map-below, map-below-length}
use Rattle.plain_lists.proofs.Each.{all_weaker, all_from, all_at, all_map, all_filter}
use Rattle.plain_lists.proofs.Filters.{map_same, map_map_same}
use Rattle.plain_lists.proofs.Finding.{find_agree}
use Rattle.mesh_defs.specs.Mesh.{Mesh}
use Rattle.mesh_defs.specs.Points.{Point, Sight, point_of, shows}
use Rattle.mesh_defs.specs.Diagram.{place_in}
use Rattle.mesh_laws.proofs.Firsts.{shows-true}
use Rattle.sf_defs.specs.declared.Leaf.{Leaf}
use Rattle.sf_defs.specs.Forest.{Forest, leaf}
use Rattle.rank_defs.specs.Ranks.{owner}
use Rattle.rank_defs.specs.Spread.{place_at_owner, leaves_at_owners, ghost_places, point_forest}
use Rattle.rank_chart_laws.proofs.home_laws.Numbered.{enumerate-below, given-map, given-same}
use Rattle.rank_chart_laws.proofs.field_laws.Places.{leaf-at}
use Rattle.rank_chart_laws.specs.moved_laws.Moves.{moved_place, moves_on, moved_root, leaf_moved_to, moved_leaves, moved_forest}
use Rattle.rank_chart_laws.specs.moved_laws.Sames.{AreSamePoints, moves_between}
use Rattle.rank_chart_laws.proofs.moved_laws.Places.{no_sight, all_numbered, length-moves, same-length, move-of, came-from, stands-at, goes-to}

-- a list is what stands at each of its places
listed : (xs : List Sight) → map (λ j. get_or xs j no_sight) (below (length xs)) ≡ xs
listed xs = map-below-length (λ j. get_or xs j no_sight) (λ s. s) xs no_sight (λ k low. refl) ∙ itself xs
  where
    itself : (ys : List Sight) → map (λ s. s) ys ≡ ys
    itself [] = refl
    itself (y ∷ ys) = ap (λ l. y ∷ l) (itself ys)

-- chosen entries with their places are given place by place
chosen-given : {X : Type 0} (g : ℕ × Sight → X) (q : ℕ × Sight → Bool) (ss : List (ℕ × Sight)) → map g (filter q ss) ≡ filter_map (λ s. cond (q s) (Some (g s)) None) ss
chosen-given g q [] = refl
chosen-given g q (s ∷ ss) = go (q s) (chosen-given g q ss)
  where
    go : (b : Bool) → map g (filter q ss) ≡ filter_map (λ t. cond (q t) (Some (g t)) None) ss → map g (cond b (s ∷ filter q ss) (filter q ss)) ≡ cons_option (cond b (Some (g s)) None) (filter_map (λ t. cond (q t) (Some (g t)) None) ss)
    go true r = ap (λ l. g s ∷ l) r
    go false r = r

chosen-by_place : {X : Type 0} (g : ℕ × Sight → X) (q : ℕ × Sight → Bool) (xs : List Sight) → map g (filter q (enumerate_from 0 xs)) ≡ filter_map (λ j. cond (q (j, get_or xs j no_sight)) (Some (g (j, get_or xs j no_sight))) None) (below (length xs))
chosen-by_place g q xs =
    chosen-given g q (enumerate_from 0 xs)
    ∙ ap (filter_map (λ s. cond (q s) (Some (g s)) None)) (ap (enumerate_from 0) (sym (listed xs)) ∙ enumerate-below (λ j. get_or xs j no_sight) (length xs))
    ∙ given-map (λ s. cond (q s) (Some (g s)) None) (λ j. (j, get_or xs j no_sight)) (below (length xs))

module _ (m : Mesh) (a : List ℕ) (n : ℕ) (o w : ℕ → List Sight) (are : (r : ℕ) → r < n → AreSamePoints (o r) (w r)) (owned : (r : ℕ) → r < n → AllByRecursion (λ s. (owner m a (point_of s) < n) × (list_any (shows (point_of s)) (o (owner m a (point_of s))) ≡ true)) (w r)) where
  -- the moves of one rank
  own-moves : (r : ℕ) → r < n → moves_on (map (λ q. moves_between (o q) (w q)) (below n)) r ≡ moves_between (o r) (w r)
  own-moves r low = get_or-map-below (λ q. moves_between (o q) (w q)) n r [] low

  module _ (r : ℕ) (low : r < n) where
    -- a leaf is at a point of the rank
    locals-low : AllByRecursion (λ (l : Leaf). l.local < length (o r)) (map (λ (s : ℕ × Sight). leaf s.0 (place_at_owner m a (map o (below n)) (point_of s.1))) (filter (λ (s : ℕ × Sight). not (owner m a (point_of s.1) == r)) (enumerate_from 0 (o r))))
    locals-low = all_map (λ (l : Leaf). l.local < length (o r)) (λ (s : ℕ × Sight). leaf s.0 (place_at_owner m a (map o (below n)) (point_of s.1))) (filter (λ (s : ℕ × Sight). not (owner m a (point_of s.1) == r)) (enumerate_from 0 (o r)))
        (all_filter (λ (s : ℕ × Sight). s.0 < length (o r)) (λ (s : ℕ × Sight). not (owner m a (point_of s.1) == r)) (enumerate_from 0 (o r)) (all_numbered (λ k s. k < length (o r)) 0 (o r) no_sight (λ i inside. omega (arith, inside))))

    -- the leaf that goes to a place
    moved-here : (j : ℕ) → j < length (w r)
        → leaf_moved_to (map (λ q. moves_between (o q) (w q)) (below n)) (moves_between (o r) (w r)) (leaves_at_owners m a (map o (below n)) (ghost_places m a r (o r))) j
        ≡ cond (not (owner m a (point_of (get_or (w r) j no_sight)) == r)) (Some (leaf j (place_at_owner m a (map w (below n)) (point_of (get_or (w r) j no_sight))))) None
    moved-here j inside =
        let all = map (λ q. moves_between (o q) (w q)) (below n) in
        let t = get_or (w r) j no_sight in
        let p = point_of t in
        let i = place_in (o r) p in
        let from = came-from (o r) (w r) (are r low) j inside in
        let s = get_or (o r) i no_sight in
        let same : p ≡ point_of s = shows-true p s from.1 in
        let own = all_at (λ u. (owner m a (point_of u) < n) × (list_any (shows (point_of u)) (o (owner m a (point_of u))) ≡ true)) (w r) j no_sight (owned r low) inside in
        let test : Sight → Bool = λ u. not (owner m a (point_of u) == r) in
        let root : Sight → ℕ × ℕ = λ u. place_at_owner m a (map o (below n)) (point_of u) in
        let list : List Leaf = leaves_at_owners m a (map o (below n)) (ghost_places m a r (o r)) in
        let q = owner m a p in
        ap (option_map (λ (l : Leaf). leaf j (moved_root all l)))
        (find_agree (λ (l : Leaf). moved_place (moves_between (o r) (w r)) l.local == j) (λ (l : Leaf). l.local == 0 + i) list
        (all_weaker (λ (l : Leaf). l.local < length (o r)) (λ (l : Leaf). (moved_place (moves_between (o r) (w r)) l.local == j) ≡ (l.local == 0 + i)) (λ l within. goes-to (o r) (w r) (are r low) j inside l.local within ∙ ap (λ k. l.local == k) (from-zero i)) list locals-low)
        ∙ leaf-at test root 0 (o r) i no_sight from.0)
        ∙ chosen (test s) (leaf (0 + i) (root s)) (λ (l : Leaf). leaf j (moved_root all l))
        ∙ ap (λ x. cond (not (owner m a x == r)) (Some (leaf j (moved_root all (leaf (0 + i) (place_at_owner m a (map o (below n)) x))))) None) (sym same)
        ∙ ap (λ k. cond (not (q == r)) (Some (leaf j (q, k))) None)
        (ap₂ (λ (x : List ℕ) (y : List Sight). moved_place x (place_in y p)) (own-moves q own.0) (get_or-map-below o n q [] own.0)
        ∙ move-of (o q) (w q) (are q own.0) p own.1
        ∙ ap (λ y. place_in y p) (sym (get_or-map-below w n q [] own.0)))
      where
        from-zero : (i : ℕ) → i ≡ 0 + i
        from-zero i = omega arith

        chosen : (b : Bool) (l : Leaf) (f : Leaf → Leaf) → option_map f (cond b (Some l) None) ≡ cond b (Some (f l)) None
        chosen true l f = refl
        chosen false l f = refl

    leaves-moved : moved_leaves (map (λ q. moves_between (o q) (w q)) (below n)) (moves_between (o r) (w r)) (leaves_at_owners m a (map o (below n)) (ghost_places m a r (o r))) ≡ leaves_at_owners m a (map w (below n)) (ghost_places m a r (w r))
    leaves-moved =
        let all = map (λ q. moves_between (o q) (w q)) (below n) in
        let list : List Leaf = leaves_at_owners m a (map o (below n)) (ghost_places m a r (o r)) in
        let at : ℕ → Option Leaf = λ j. cond (not (owner m a (point_of (get_or (w r) j no_sight)) == r)) (Some (leaf j (place_at_owner m a (map w (below n)) (point_of (get_or (w r) j no_sight))))) None in
        ap (λ k. filter_map (leaf_moved_to all (moves_between (o r) (w r)) list) (below k)) (length-moves (o r) (w r) (are r low) ∙ sym (same-length (o r) (w r) (are r low)))
        ∙ given-same (leaf_moved_to all (moves_between (o r) (w r)) list) at (below (length (w r))) (all_weaker (λ j. j < length (w r)) (λ j. leaf_moved_to all (moves_between (o r) (w r)) list j ≡ at j) moved-here (below (length (w r))) (below-all (length (w r))))
        ∙ sym (chosen-by_place (λ (s : ℕ × Sight). leaf s.0 (place_at_owner m a (map w (below n)) (point_of s.1))) (λ (s : ℕ × Sight). not (owner m a (point_of s.1) == r)) (w r))

  leaves-of : (c : ℕ → List Sight) → map (λ (r : ℕ × List Sight). leaves_at_owners m a (map c (below n)) (ghost_places m a r.0 r.1)) (enumerate_from 0 (map c (below n))) ≡ map (λ r. leaves_at_owners m a (map c (below n)) (ghost_places m a r (c r))) (below n)
  leaves-of c = ap (map (λ (r : ℕ × List Sight). leaves_at_owners m a (map c (below n)) (ghost_places m a r.0 r.1))) (enumerate-below c n)
      ∙ map_map_same (λ (r : ℕ × List Sight). leaves_at_owners m a (map c (below n)) (ghost_places m a r.0 r.1)) (λ r. (r, c r)) (λ r. leaves_at_owners m a (map c (below n)) (ghost_places m a r (c r))) (below n) (all_from (λ r. leaves_at_owners m a (map c (below n)) (ghost_places m a r (c r)) ≡ leaves_at_owners m a (map c (below n)) (ghost_places m a r (c r))) (λ r. refl) (below n))

  -- the forest of the charts after the points of each rank moved
  pub forest-moved : point_forest m a (map w (below n)) ≡ moved_forest (map (λ r. moves_between (o r) (w r)) (below n)) (point_forest m a (map o (below n)))
  unfolding point_forest moved_forest
  forest-moved = λ i. record { roots = counts i; leaves = lists i }
    where
      counts : map length (map w (below n)) ≡ map length (map o (below n))
      counts = map_map_same length w (λ r. length (o r)) (below n) (all_weaker (λ r. r < n) (λ r. length (w r) ≡ length (o r)) (λ r low. same-length (o r) (w r) (are r low)) (below n) (below-all n))
          ∙ sym (map_map_same length o (λ r. length (o r)) (below n) (all_from (λ r. length (o r) ≡ length (o r)) (λ r. refl) (below n)))

      lists : map (λ (r : ℕ × List Sight). leaves_at_owners m a (map w (below n)) (ghost_places m a r.0 r.1)) (enumerate_from 0 (map w (below n)))
          ≡ map (λ (r : ℕ × List Leaf). moved_leaves (map (λ q. moves_between (o q) (w q)) (below n)) (moves_on (map (λ q. moves_between (o q) (w q)) (below n)) r.0) r.1) (enumerate_from 0 (map (λ (r : ℕ × List Sight). leaves_at_owners m a (map o (below n)) (ghost_places m a r.0 r.1)) (enumerate_from 0 (map o (below n)))))
      lists =
          let all = map (λ q. moves_between (o q) (w q)) (below n) in
          let old : ℕ → List Leaf = λ r. leaves_at_owners m a (map o (below n)) (ghost_places m a r (o r)) in
          leaves-of w
          ∙ map_same (λ r. leaves_at_owners m a (map w (below n)) (ghost_places m a r (w r))) (λ r. moved_leaves all (moves_on all r) (old r)) (below n)
          (all_weaker (λ r. r < n) (λ r. leaves_at_owners m a (map w (below n)) (ghost_places m a r (w r)) ≡ moved_leaves all (moves_on all r) (old r)) (λ r low. sym (ap (λ x. moved_leaves all x (old r)) (own-moves r low) ∙ leaves-moved r low)) (below n) (below-all n))
          ∙ sym (ap (λ l. map (λ (r : ℕ × List Leaf). moved_leaves all (moves_on all r.0) r.1) (enumerate_from 0 l)) (leaves-of o)
          ∙ ap (map (λ (r : ℕ × List Leaf). moved_leaves all (moves_on all r.0) r.1)) (enumerate-below old n)
          ∙ map_map_same (λ (r : ℕ × List Leaf). moved_leaves all (moves_on all r.0) r.1) (λ r. (r, old r)) (λ r. moved_leaves all (moves_on all r) (old r)) (below n) (all_from (λ r. moved_leaves all (moves_on all r) (old r) ≡ moved_leaves all (moves_on all r) (old r)) (λ r. refl) (below n)))
