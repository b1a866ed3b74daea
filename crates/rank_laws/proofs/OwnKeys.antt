-- The key of a point is the least of the ranks' own least keys.
use Rattle.std.proofs.Common.{◌*◌, ◌+◌, ◌≡◌, ◌≢◌, ℕ, zero, suc, ◌<◌, ◌≤◌, Bool, true, false, cond, ◌==◌, List, [], ◌∷◌, length, Option, Some, None, Contains, refl, sym, ap, ◌∙◌, ⊎_elim, arith}
use Rattle.std.specs.Prelude.{find, flat_map, option_map, filter_map}
use Rattle.std.specs.List.{list_any, AllByRecursion, filter, cons_option, enumerate_from}
use Rattle.std.proofs.lemmas.Bool.{eq-eqb, ne_eqb, and_left, or_left, or_right, cond-true, cases_lt}
use Rattle.std.proofs.lemmas.List.Elements.{filter_map-append, All-contains_itself, recursion_from_All}
use Rattle.std.proofs.lemmas.List.Folds.{list_any-append}
use Rattle.plain_lists.specs.Lists.{below, same_list, sorted}
use Rattle.plain_lists.proofs.Finding.{each_fails, none_passes, find-append_found, find-append_none, find-passes, find-none, find-cases, find-has}
use Rattle.plain_lists.proofs.Each.{all_map, all_from, all_weaker, all_filter, all_flat_map, all_in_flat_map}
use Rattle.mesh_defs.specs.Mesh.{Mesh, Cell, placed_cells}
use Rattle.mesh_defs.specs.Points.{Point, Sight, shows, sights_of, sights, vertex_sight, vertex_sights, first_sight, key}
use Rattle.mesh_laws.proofs.Keys.{KeysRise, rises-wider, rises-append, sights_of-rise, found-least, key-least}
use Rattle.rank_defs.specs.Ranks.{IsAssignment, least, rank_of, assigned, own_key}
use Rattle.rank_laws.proofs.Lists.{least-some}
use Rattle.rank_laws.proofs.Owning.{ranks-below, below_among}

-- What is found in joined parts is found in the part of one element, and in every choice of the parts that has this one.
pub find-part : {X Y : Type 0} (p : Y → Bool) (f : X → List Y) (xs : List X) (y : Y) → find p (flat_map f xs) ≡ Some y
    → (x : X) × ((q : X → Bool) → q x ≡ true → find p (flat_map f (filter q xs)) ≡ Some y) × ((q : X → Bool) → q x ≡ true → list_any q xs ≡ true)
find-part p f [] y h = absurd (cc h)
find-part {X} {Y} p f (x ∷ xs) y h = go (list_any p (f x)) refl (find-part p f xs y)
  where
    Found : List X → Type 0
    Found zs = (z : X) × ((q : X → Bool) → q z ≡ true → find p (flat_map f (filter q zs)) ≡ Some y) × ((q : X → Bool) → q z ≡ true → list_any q zs ≡ true)

    later : (list_any p (f x) ≡ false) → Found xs → Found (x ∷ xs)
    later e (z, g, s) = (z, (λ q t. choose q (q x) (g q t)), λ q t. or_right (q x) (list_any q xs) (s q t))
      where
        choose : (q : X → Bool) (b : Bool) → find p (flat_map f (filter q xs)) ≡ Some y → find p (flat_map f (cond b (x ∷ filter q xs) (filter q xs))) ≡ Some y
        choose q true r = find-append_none p (f x) (flat_map f (filter q xs)) e ∙ r
        choose q false r = r

    go : (b : Bool) → list_any p (f x) ≡ b → (find p (flat_map f xs) ≡ Some y → Found xs) → Found (x ∷ xs)
    go true e r = (
      x,
      (λ q t. ap (λ l. find p (flat_map f l)) (cond-true (q x) (x ∷ filter q xs) (filter q xs) t) ∙ find-append_found p (f x) (flat_map f (filter q xs)) e ∙ sym (find-append_found p (f x) (flat_map f xs) e) ∙ h),
      λ q t. or_left (q x) (list_any q xs) t,
    )
    go false e r = later e (r (sym (find-append_none p (f x) (flat_map f xs) e) ∙ h))

-- ---- what a function gives on the numbers below n

-- what it gives at a number is among what it gives
pub given-among : (h : ℕ → Option ℕ) (n r k : ℕ) → r < n → h r ≡ Some k → list_any (λ y. y == k) (filter_map h (below n)) ≡ true
given-among h zero r k low e = absurd (omega arith)
given-among h (suc n) r k low e = ap (list_any (λ y. y == k)) (filter_map-append h (below n) (n ∷ [])) ∙ list_any-append (λ y. y == k) (filter_map h (below n)) (cons_option (h n) [])
    ∙ ⊎_elim (λ (lt : r < n). or_left _ _ (given-among h n r k lt e))
    (λ (ge : n ≤ r). let same : n ≡ r = omega arith in or_right (list_any (λ y. y == k) (filter_map h (below n))) (list_any (λ y. y == k) (cons_option (h n) [])) (ap (λ o. list_any (λ y. y == k) (cons_option o [])) (ap h same ∙ e) ∙ or_left (k == k) false (eq-eqb k k refl)))
    (cases_lt r n)

-- what all that it gives has
given-all : (P : ℕ → Type 0) (h : ℕ → Option ℕ) → ((r k : ℕ) → h r ≡ Some k → P k) → (rs : List ℕ) → AllByRecursion P (filter_map h rs)
given-all P h f [] = tt
given-all P h f (r ∷ rs) = go (h r) refl (given-all P h f rs)
  where
    go : (o : Option ℕ) → h r ≡ o → AllByRecursion P (filter_map h rs) → AllByRecursion P (cons_option o (filter_map h rs))
    go None e t = t
    go (Some k) e t = (f r k e, t)

-- where it gives nothing there is nothing
given-nothing : (h : ℕ → Option ℕ) → ((r : ℕ) → h r ≡ None) → (rs : List ℕ) → filter_map h rs ≡ []
given-nothing h f [] = refl
given-nothing h f (r ∷ rs) = ap (λ o. cons_option o (filter_map h rs)) (f r) ∙ given-nothing h f rs

-- ---- keys

module _ (m : Mesh) (p : Point) (ne : p.dim ≢ 0) where
  -- the key of a face or an edge is that of the first sight of it by a cell
  key-by_cells : key m p ≡ option_map (λ (s : Sight). s.key) (find (shows p) (sights (placed_cells m)))
  unfolding key first_sight
  key-by_cells = ap (option_map (λ (s : Sight). s.key)) (find-append_none (shows p) (vertex_sights m) (sights (placed_cells m)) no_vertex)
    where
      no_vertex : list_any (shows p) (vertex_sights m) ≡ false
      no_vertex = none_passes (shows p) (vertex_sights m) (all_map (λ t. shows p t ≡ false) vertex_sight (below (length m.at)) (all_from (λ v. shows p (vertex_sight v) ≡ false) (λ v. and_left (p.dim == 0) (same_list p.vertices (sorted (v ∷ []))) (ne_eqb p.dim 0 ne)) (below (length m.at))))

  -- no sight of the point has a key below its key
  sights-above : (k : ℕ) → key m p ≡ Some k → AllByRecursion (λ (u : Sight). shows p u ≡ true → k ≤ u.key) (sights (placed_cells m))
  sights-above k e = all_weaker (Contains (sights (placed_cells m))) (λ (u : Sight). shows p u ≡ true → k ≤ u.key)
      (λ u c s. let (j, f, low) = key-least m p u ne c s in let same : k ≡ j = cc (sym e ∙ f) in omega arith)
      (sights (placed_cells m)) (recursion_from_All (Contains (sights (placed_cells m))) (sights (placed_cells m)) (All-contains_itself (sights (placed_cells m))))

  -- what all sights have, those of the cells of a rank have
  of_rank : (P : Sight → Type 0) (a : List ℕ) (r : ℕ) → AllByRecursion P (sights (placed_cells m)) → AllByRecursion P (sights (assigned m a r))
  unfolding assigned
  of_rank P a r h = all_flat_map P sights_of (filter (λ c. rank_of a c == r) (placed_cells m)) (all_filter (λ c. AllByRecursion P (sights_of c)) (λ c. rank_of a c == r) (placed_cells m) (all_in_flat_map P sights_of (placed_cells m) h))

  -- the least of the own keys of all ranks is the key
  pub key-of_own_keys : (n : ℕ) (a : List ℕ) → IsAssignment m n a → least (filter_map (λ r. own_key m a r p) (below n)) ≡ key m p
  unfolding own_key assigned
  key-of_own_keys n a parts = ⊎_elim seen unseen (find-cases (shows p) (sights (placed_cells m)))
    where
      own : ℕ → Option ℕ
      own r = own_key m a r p

      -- some cell sees the point
      seen : (s : Sight) × (find (shows p) (sights (placed_cells m)) ≡ Some s) → least (filter_map own (below n)) ≡ key m p
      seen (s, e) = let is : key m p ≡ Some s.key = key-by_cells ∙ ap (option_map (λ (t : Sight). t.key)) e in
          let (c, found, there) = find-part (shows p) sights_of (placed_cells m) s e in
          least-some s.key (filter_map own (below n))
          (given-among own n (rank_of a c) s.key
          (below_among (rank_of a) n (rank_of a c) (placed_cells m) (ranks-below m n a parts) (there (λ d. rank_of a d == rank_of a c) (eq-eqb (rank_of a c) (rank_of a c) refl)))
          (ap (option_map (λ (t : Sight). t.key)) (found (λ d. rank_of a d == rank_of a c) (eq-eqb (rank_of a c) (rank_of a c) refl))))
          (given-all (λ y. s.key ≤ y) own (λ r k f. above s.key is r k f) (below n))
          ∙ sym is
        where
          above : (k : ℕ) → key m p ≡ Some k → (r j : ℕ) → own r ≡ Some j → k ≤ j
          above k is r j f = go (find (shows p) (sights (assigned m a r))) refl f
            where
              go : (o : Option Sight) → find (shows p) (sights (assigned m a r)) ≡ o → option_map (λ (t : Sight). t.key) o ≡ Some j → k ≤ j
              go None g x = absurd (cc x)
              go (Some t) g x = let same : t.key ≡ j = cc x in
                  let low = find-has (λ (u : Sight). shows p u ≡ true → k ≤ u.key) (shows p) (sights (assigned m a r)) t (of_rank (λ (u : Sight). shows p u ≡ true → k ≤ u.key) a r (sights-above k is)) g (find-passes (shows p) (sights (assigned m a r)) t g) in
                  omega arith

      -- no cell does
      unseen : list_any (shows p) (sights (placed_cells m)) ≡ false → least (filter_map own (below n)) ≡ key m p
      unseen e = ap least (given-nothing own (λ r. ap (option_map (λ (t : Sight). t.key)) (find-none (shows p) (sights (assigned m a r)) (none_passes (shows p) (sights (assigned m a r)) (of_rank (λ u. shows p u ≡ false) a r (each_fails (shows p) (sights (placed_cells m)) e))))) (below n))
          ∙ sym (key-by_cells ∙ ap (option_map (λ (t : Sight). t.key)) (find-none (shows p) (sights (placed_cells m)) e))

-- ---- the own key

-- the keys of chosen cells rise
chosen-rise : (q : ℕ × Cell → Bool) (n : ℕ) (cells : List Cell) → KeysRise (64 * n) (64 * (n + length cells)) (sights (filter q (enumerate_from n cells)))
chosen-rise q n [] = omega arith
chosen-rise q n (cell ∷ cells) = go (q (n, cell)) (chosen-rise q (n + 1) cells)
  where
    rest : List (ℕ × Cell)
    rest = filter q (enumerate_from (n + 1) cells)

    go : (b : Bool) → KeysRise (64 * (n + 1)) (64 * (n + 1 + length cells)) (sights rest) → KeysRise (64 * n) (64 * (n + length (cell ∷ cells))) (sights (cond b ((n, cell) ∷ rest) rest))
    go true r =
        rises-append (64 * n) (64 * n + 64) (64 * (n + length (cell ∷ cells))) (sights_of (n, cell)) (sights rest) (sights_of-rise n cell)
        (rises-wider (64 * (n + 1)) (64 * n + 64) (64 * (n + 1 + length cells)) (64 * (n + length (cell ∷ cells))) (sights rest) (omega arith) (omega arith) r)
    go false r = rises-wider (64 * (n + 1)) (64 * n) (64 * (n + 1 + length cells)) (64 * (n + length (cell ∷ cells))) (sights rest) (omega arith) (omega arith) r

-- no assigned cell of a rank sees the point under a lesser key than the rank's own one
pub own-least : (m : Mesh) (a : List ℕ) (r : ℕ) (p : Point) (s : Sight) → Contains (sights (assigned m a r)) s → shows p s ≡ true → (k : ℕ) × (own_key m a r p ≡ Some k) × (k ≤ s.key)
unfolding own_key assigned
own-least m a r p s (i, low, at) shown =
    let found = found-least p (64 * 0) (64 * (0 + length m.cells)) (sights (assigned m a r)) s (chosen-rise (λ c. rank_of a c == r) 0 m.cells) i low (ap (shows p) at ∙ shown) in
    (found.0.key, ap (option_map (λ (t : Sight). t.key)) found.1, omega (arith, found.2, ap (λ (t : Sight). t.key) at))
