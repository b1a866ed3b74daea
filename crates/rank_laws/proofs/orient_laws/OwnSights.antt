-- What a rank's cells see first, beside what all cells do.
use Rattle.std.proofs.Common.{◌≡◌, ◌≢◌, ℕ, ◌<◌, ◌≤◌, Bool, true, false, cond, not, ◌&&◌, ◌==◌, List, [], ◌∷◌, ◌++◌, map, length, Option, Some, None, refl, sym, ap, ◌∙◌, ⊎_elim, arith}
use Rattle.std.specs.Prelude.{find, option_map, filter_map, is_none}
use Rattle.std.specs.List.{list_any, AllByRecursion, filter, cons_option}
use Rattle.std.proofs.lemmas.Bool.{eq-eqb, eqb-true, both_ways}
use Rattle.plain_lists.specs.Lists.{below}
use Rattle.plain_lists.proofs.Each.{all_weaker, all_both, all_mapped, all_flat_map, all_in_flat_map, all_filter}
use Rattle.plain_lists.proofs.Finding.{each_fails, none_passes, among, find-append_found, find-append_none, find-cases, find-has, find-none, find-passes}
use Rattle.mesh_defs.specs.Tables.{dim_of}
use Rattle.mesh_defs.specs.Mesh.{Mesh, Cell, placed_cells}
use Rattle.mesh_defs.specs.Points.{Point, Sight, shows, sights_of, sights, vertex_sights, first_sight, key, contains}
use Rattle.mesh_defs.specs.Diagram.{seen_under, twist_key}
use Rattle.mesh_defs.specs.RightMesh.{in_some}
use Rattle.rank_laws.proofs.diagram_laws.Edges.{none-of_dim, vertices-of_dim}
use Rattle.sf_defs.specs.Asks.{IsRising}
use Rattle.rank_laws.proofs.Lists.{least-some}
use Rattle.rank_laws.proofs.OwnKeys.{find-part, given-among}
use Rattle.rank_laws.proofs.Owning.{ranks-below, below_among, in_assigned}
use Rattle.rank_defs.specs.Ranks.{IsAssignment, least, rank_of, assigned, ranks_at, owner, is_shared, own_key}
use Rattle.rank_laws.specs.orient_laws.Named.{keys_of, own_sight, own_twist}
use Rattle.rank_laws.proofs.orient_laws.Seen.{cell-seen}
use Rattle.rank_laws.proofs.orient_laws.ByKey.{sights-rising, placed-order}

-- what the chosen have, all have where they are chosen
pub all-chosen : {X : Type 0} (P : X → Type 0) (q : X → Bool) (xs : List X) → AllByRecursion P (filter q xs) → AllByRecursion (λ x. q x ≡ true → P x) xs
all-chosen P q [] h = tt
all-chosen {X} P q (x ∷ xs) h = go (q x) refl h (all-chosen P q xs)
  where
    go : (b : Bool) → q x ≡ b → AllByRecursion P (cond b (x ∷ filter q xs) (filter q xs)) → (AllByRecursion P (filter q xs) → AllByRecursion (λ y. q y ≡ true → P y) xs) → AllByRecursion (λ y. q y ≡ true → P y) (x ∷ xs)
    go true e g r = ((λ t. g.0), r g.1)
    go false e g r = ((λ t. absurd (both_ways (q x) e t)), r g)

-- what all sights have, those of chosen cells have
pub of_chosen : (P : Sight → Type 0) (q : ℕ × Cell → Bool) (cells : List (ℕ × Cell)) → AllByRecursion P (sights cells) → AllByRecursion P (sights (filter q cells))
of_chosen P q cells h = all_flat_map P sights_of (filter q cells) (all_filter (λ c. AllByRecursion P (sights_of c)) q cells (all_in_flat_map P sights_of cells h))

-- ---- points of one rank

-- a point is found first where all cells that see it are chosen
find-chosen : (p : Point) (q : ℕ × Cell → Bool) (cells : List (ℕ × Cell)) → AllByRecursion (λ c. list_any (shows p) (sights_of c) ≡ true → q c ≡ true) cells → find (shows p) (sights (filter q cells)) ≡ find (shows p) (sights cells)
find-chosen p q [] h = refl
find-chosen p q (c ∷ cs) h = go (q c) refl (list_any (shows p) (sights_of c)) refl (find-chosen p q cs h.1)
  where
    go : (b : Bool) → q c ≡ b → (d : Bool) → list_any (shows p) (sights_of c) ≡ d → find (shows p) (sights (filter q cs)) ≡ find (shows p) (sights cs) → find (shows p) (sights (cond b (c ∷ filter q cs) (filter q cs))) ≡ find (shows p) (sights_of c ++ sights cs)
    go true e true f r = find-append_found (shows p) (sights_of c) (sights (filter q cs)) f ∙ sym (find-append_found (shows p) (sights_of c) (sights cs) f)
    go true e false f r = find-append_none (shows p) (sights_of c) (sights (filter q cs)) f ∙ (r ∙ sym (find-append_none (shows p) (sights_of c) (sights cs) f))
    go false e true f r = absurd (both_ways (q c) e (h.0 f))
    go false e false f r = r ∙ sym (find-append_none (shows p) (sights_of c) (sights cs) f)

-- no vertex shows a point of another dimension, so the first sight is found among those of cells
pub first-of_cells : (m : Mesh) (p : Point) → p.dim ≢ 0 → first_sight m p ≡ find (shows p) (sights (placed_cells m))
unfolding first_sight
first-of_cells m p ne = find-append_none (shows p) (vertex_sights m) (sights (placed_cells m)) (none-of_dim p 0 (vertex_sights m) ne (vertices-of_dim (length m.at)))

-- a rank that alone has a point sees it first as the whole mesh does
pub unshared-first : (m : Mesh) (a : List ℕ) (r : ℕ) (p : Point) → p.dim ≢ 0 → is_shared m a p ≡ false → in_some p (assigned m a r) ≡ true → own_sight m a r p ≡ first_sight m p
unfolding is_shared ranks_at assigned
unshared-first m a r p ne alone here = find-chosen p (λ c. rank_of a c == r) (placed_cells m) chosen ∙ sym (first-of_cells m p ne)
  where
    holds : ℕ × Cell → Bool
    holds c = contains c.1 p

    -- all cells with the point are the owner's
    owned : AllByRecursion (λ k. k ≡ owner m a p) (map (rank_of a) (filter holds (placed_cells m)))
    owned = all_weaker (λ k. not (k == owner m a p) ≡ false) (λ k. k ≡ owner m a p) (λ k e. eqb-true k (owner m a p) (turned (k == owner m a p) e)) (map (rank_of a) (filter holds (placed_cells m))) (each_fails (λ k. not (k == owner m a p)) (map (rank_of a) (filter holds (placed_cells m))) alone)
      where
        turned : (b : Bool) → not b ≡ false → b ≡ true
        turned true e = refl
        turned false e = absurd (cc e)

    -- the rank is the owner
    is_owner : r ≡ owner m a p
    is_owner = let (k, is, e) = among (λ k. k ≡ owner m a p) (λ k. k == r) (map (rank_of a) (filter holds (placed_cells m))) owned (sym (in_assigned m a r p) ∙ here) in sym (eqb-true k r e) ∙ is

    chosen : AllByRecursion (λ c. list_any (shows p) (sights_of c) ≡ true → (rank_of a c == r) ≡ true) (placed_cells m)
    chosen = all_weaker (λ c. contains c.1 p ≡ true → rank_of a c ≡ owner m a p) (λ c. list_any (shows p) (sights_of c) ≡ true → (rank_of a c == r) ≡ true)
        (λ c f e. eq-eqb (rank_of a c) r (f (cell-seen p ne c ∙ e) ∙ sym is_owner)) (placed_cells m)
        (all-chosen (λ c. rank_of a c ≡ owner m a p) holds (placed_cells m) (all_mapped (λ k. k ≡ owner m a p) (rank_of a) (filter holds (placed_cells m)) owned))

-- ---- where the keys agree

-- sights whose keys rise are told by their keys
pub key-once : (ss : List Sight) → IsRising (keys_of ss) → AllByRecursion (λ (s : Sight). AllByRecursion (λ (t : Sight). s.key ≡ t.key → s ≡ t) ss) ss
key-once [] h = tt
key-once (x ∷ xs) h =
    let above : AllByRecursion (λ (t : Sight). x.key < t.key) xs = all_mapped (λ k. x.key < k) (λ (t : Sight). t.key) xs h.0 in (
      ((λ e. refl), all_weaker (λ (t : Sight). x.key < t.key) (λ (t : Sight). x.key ≡ t.key → x ≡ t) (λ t l e. absurd (omega (arith, l, e))) xs above),
      all_both (λ (s : Sight). x.key < s.key) (λ (s : Sight). AllByRecursion (λ (t : Sight). s.key ≡ t.key → s ≡ t) xs) (λ (s : Sight). AllByRecursion (λ (t : Sight). s.key ≡ t.key → s ≡ t) (x ∷ xs)) (λ s l f. ((λ e. absurd (omega (arith, l, e))), f)) xs above (key-once xs h.1),
    )

-- where a rank's own key is the key, its own first sight is the first
pub agreeing-first : (m : Mesh) (a : List ℕ) (r : ℕ) (p : Point) → p.dim ≢ 0 → own_key m a r p ≡ key m p → own_sight m a r p ≡ first_sight m p
unfolding own_key key assigned
agreeing-first m a r p ne e = go (find (shows p) own) refl (find (shows p) all) refl (e ∙ ap (option_map (λ (s : Sight). s.key)) (first-of_cells m p ne)) ∙ sym (first-of_cells m p ne)
  where
    all : List Sight
    all = sights (placed_cells m)

    own : List Sight
    own = sights (filter (λ c. rank_of a c == r) (placed_cells m))

    once : AllByRecursion (λ (s : Sight). AllByRecursion (λ (t : Sight). s.key ≡ t.key → s ≡ t) all) all
    once = key-once all (sights-rising (placed_cells m) (placed-order 0 m.cells))

    go : (o : Option Sight) → find (shows p) own ≡ o → (w : Option Sight) → find (shows p) all ≡ w → option_map (λ (s : Sight). s.key) (find (shows p) own) ≡ option_map (λ (s : Sight). s.key) (find (shows p) all) → find (shows p) own ≡ find (shows p) all
    go None f None g h = f ∙ sym g
    go None f (Some t) g h = absurd (cc (sym (ap (option_map (λ (s : Sight). s.key)) f) ∙ (h ∙ ap (option_map (λ (s : Sight). s.key)) g)))
    go (Some s) f None g h = absurd (cc (sym (ap (option_map (λ (s : Sight). s.key)) f) ∙ (h ∙ ap (option_map (λ (s : Sight). s.key)) g)))
    go (Some s) f (Some t) g h =
        let same : s.key ≡ t.key = cc (sym (ap (option_map (λ (u : Sight). u.key)) f) ∙ (h ∙ ap (option_map (λ (u : Sight). u.key)) g)) in
        let mine = find-has (λ (u : Sight). AllByRecursion (λ (t : Sight). u.key ≡ t.key → u ≡ t) all) (shows p) own s (of_chosen (λ (u : Sight). AllByRecursion (λ (t : Sight). u.key ≡ t.key → u ≡ t) all) (λ c. rank_of a c == r) (placed_cells m) once) f in
        f ∙ (ap (λ u. Some u) (find-has (λ (u : Sight). s.key ≡ u.key → s ≡ u) (shows p) all t mine g same) ∙ sym g)

-- ---- the least over the ranks

-- what a rank's function gives at no rank gives nothing
nothing-given : (h : ℕ → Option ℕ) → ((r : ℕ) → h r ≡ None) → (rs : List ℕ) → filter_map h rs ≡ []
nothing-given h f [] = refl
nothing-given h f (r ∷ rs) = ap (λ o. cons_option o (filter_map h rs)) (f r) ∙ nothing-given h f rs

each-given : (P : ℕ → Type 0) (h : ℕ → Option ℕ) → ((r k : ℕ) → h r ≡ Some k → P k) → (rs : List ℕ) → AllByRecursion P (filter_map h rs)
each-given P h f [] = tt
each-given P h f (r ∷ rs) = go (h r) refl (each-given P h f rs)
  where
    go : (o : Option ℕ) → h r ≡ o → AllByRecursion P (filter_map h rs) → AllByRecursion P (cons_option o (filter_map h rs))
    go None e t = t
    go (Some k) e t = (f r k e, t)

-- what is found in a rising list has the least key of all that pass
found-lowest : (p : Sight → Bool) (ss : List Sight) (s : Sight) → IsRising (keys_of ss) → find p ss ≡ Some s → AllByRecursion (λ (t : Sight). p t ≡ true → s.key ≤ t.key) ss
found-lowest p [] s h e = tt
found-lowest p (x ∷ xs) s h e = go (p x) refl e (found-lowest p xs s h.1)
  where
    go : (b : Bool) → p x ≡ b → cond b (Some x) (find p xs) ≡ Some s → (find p xs ≡ Some s → AllByRecursion (λ (t : Sight). p t ≡ true → s.key ≤ t.key) xs) → AllByRecursion (λ (t : Sight). p t ≡ true → s.key ≤ t.key) (x ∷ xs)
    go true f g r =
        let same : x ≡ s = cc g in
        let low = ap (λ (u : Sight). u.key) same in
        ((λ t. omega (arith, low)), all_weaker (λ (t : Sight). x.key < t.key) (λ (t : Sight). p t ≡ true → s.key ≤ t.key) (λ t l u. omega (arith, l, low)) xs (all_mapped (λ k. x.key < k) (λ (t : Sight). t.key) xs h.0))
    go false f g r = ((λ t. absurd (both_ways (p x) f t)), r g)

module _ (m : Mesh) (n : ℕ) (a : List ℕ) (parts : IsAssignment m n a) (p : Sight → Bool) where
  -- the least key of a sight that passes among those of a rank's cells
  abbrev least_own : ℕ → Option ℕ
  least_own r = option_map (λ (s : Sight). s.key) (find p (sights (assigned m a r)))

  -- the least of these is the least over all cells
  pub least-of_ranks : least (filter_map least_own (below n)) ≡ option_map (λ (s : Sight). s.key) (find p (sights (placed_cells m)))
  unfolding assigned
  least-of_ranks = ⊎_elim seen unseen (find-cases p (sights (placed_cells m)))
    where
      seen : (s : Sight) × (find p (sights (placed_cells m)) ≡ Some s) → least (filter_map least_own (below n)) ≡ option_map (λ (s : Sight). s.key) (find p (sights (placed_cells m)))
      seen (s, e) =
          let (c, found, there) = find-part p sights_of (placed_cells m) s e in
          least-some s.key (filter_map least_own (below n))
          (given-among least_own n (rank_of a c) s.key
          (below_among (rank_of a) n (rank_of a c) (placed_cells m) (ranks-below m n a parts) (there (λ d. rank_of a d == rank_of a c) (eq-eqb (rank_of a c) (rank_of a c) refl)))
          (ap (option_map (λ (t : Sight). t.key)) (found (λ d. rank_of a d == rank_of a c) (eq-eqb (rank_of a c) (rank_of a c) refl))))
          (each-given (λ y. s.key ≤ y) least_own above (below n))
          ∙ sym (ap (option_map (λ (t : Sight). t.key)) e)
        where
          above : (r j : ℕ) → least_own r ≡ Some j → s.key ≤ j
          above r j f = go (find p (sights (assigned m a r))) refl f
            where
              Low : Sight → Type 0
              Low u = p u ≡ true → s.key ≤ u.key

              go : (o : Option Sight) → find p (sights (assigned m a r)) ≡ o → option_map (λ (t : Sight). t.key) o ≡ Some j → s.key ≤ j
              go None g x = absurd (cc x)
              go (Some t) g x =
                  let same : t.key ≡ j = cc x in
                  let low = find-has Low p (sights (assigned m a r)) t (of_chosen Low (λ c. rank_of a c == r) (placed_cells m) (found-lowest p (sights (placed_cells m)) s (sights-rising (placed_cells m) (placed-order 0 m.cells)) e)) g (find-passes p (sights (assigned m a r)) t g) in
                  omega (arith, low, same)

      unseen : list_any p (sights (placed_cells m)) ≡ false → least (filter_map least_own (below n)) ≡ option_map (λ (s : Sight). s.key) (find p (sights (placed_cells m)))
      unseen e = ap least (nothing-given least_own (λ r. ap (option_map (λ (t : Sight). t.key)) (find-none p (sights (assigned m a r)) (none_passes p (sights (assigned m a r)) (of_chosen (λ u. p u ≡ false) (λ c. rank_of a c == r) (placed_cells m) (each_fails p (sights (placed_cells m)) e))))) (below n))
          ∙ sym (ap (option_map (λ (t : Sight). t.key)) (find-none p (sights (placed_cells m)) e))

-- what passes among the chosen
find-filtered : {X : Type 0} (p q : X → Bool) (xs : List X) → find p (filter q xs) ≡ find (λ x. q x && p x) xs
find-filtered p q [] = refl
find-filtered {X} p q (x ∷ xs) = go (q x) (find-filtered p q xs)
  where
    go : (b : Bool) → find p (filter q xs) ≡ find (λ y. q y && p y) xs → find p (cond b (x ∷ filter q xs) (filter q xs)) ≡ cond (b && p x) (Some x) (find (λ y. q y && p y) xs)
    go true r = ap (cond (p x) (Some x)) r
    go false r = r

-- the twist key is the least over the ranks
pub twist-of_ranks : (m : Mesh) (n : ℕ) (a : List ℕ) → IsAssignment m n a → least (filter_map (own_twist m a) (below n)) ≡ twist_key m
unfolding twist_key own_twist
twist-of_ranks m n a parts =
    ap least (same (below n)) ∙ (least-of_ranks m n a parts (λ s. is_face s && is_twisted s) ∙ ap (option_map (λ (s : Sight). s.key)) (sym (find-filtered is_twisted is_face (sights (placed_cells m)))))
  where
    is_face : Sight → Bool
    is_face s = (m.dim == 3) && (dim_of s.poly == 2)

    is_twisted : Sight → Bool
    is_twisted s = is_none (seen_under m s.poly s.arrangement)

    same : (rs : List ℕ) → filter_map (λ r. option_map (λ (s : Sight). s.key) (find is_twisted (filter is_face (sights (assigned m a r))))) rs ≡ filter_map (λ r. option_map (λ (s : Sight). s.key) (find (λ s. is_face s && is_twisted s) (sights (assigned m a r)))) rs
    same [] = refl
    same (r ∷ rs) = λ i. cons_option (option_map (λ (s : Sight). s.key) (find-filtered is_twisted is_face (sights (assigned m a r)) i)) (same rs i)
