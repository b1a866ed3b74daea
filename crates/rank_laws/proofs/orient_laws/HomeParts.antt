-- The words of the home round: the shared points of each owner in the order of their vertices.
use Rattle.std.proofs.Common.{◌≡◌, ◌≢◌, ◌⊎◌, ℕ, Bool, true, false, cond, not, ◌&&◌, ◌==◌, nat_lt, List, [], ◌∷◌, ◌++◌, map, refl, sym, ap, ◌∙◌, subst, inl, inr, arith, append-nil}
use Rattle.std.specs.Prelude.{flat_map}
use Rattle.std.specs.List.{list_any, AllByRecursion, filter}
use Rattle.std.proofs.lemmas.Bool.{eqb-true, both_ways, lt-ltb, le-ltb, ltb-true, ne_eqb, and_parts, and_from, not-true}
use Rattle.plain_lists.proofs.Each.{all_weaker, all_from, all_map, all_mapped, all_filter}
use Rattle.plain_lists.proofs.Filters.{filter_passing, filter_none, and_implied, flat_map_same}
use Rattle.plain_lists.proofs.Finding.{same_tests, any_same, any_map, any_filter, among, each_fails}
use Rattle.plain_lists.specs.Lists.{below}
use Rattle.mesh_defs.specs.Tables.{dim_of}
use Rattle.mesh_defs.specs.Mesh.{Mesh, placed_cells}
use Rattle.mesh_defs.specs.Points.{Point, Sight, same_point, point_of, shows}
use Rattle.mesh_defs.specs.Diagram.{strata, chart}
use Rattle.mesh_defs.specs.Sights.{points_differ}
use Rattle.mesh_defs.specs.RightMesh.{IsFlatOrSolid, IsSoundMesh, in_some}
use Rattle.mesh_laws.proofs.Firsts.{shows-true, same_point-true}
use Rattle.mesh_laws.proofs.Containing.{chart-all}
use Rattle.rank_laws.proofs.Strata.{strata-differ}
use Rattle.rank_laws.proofs.Found.{shown-in_strata, shown-in_stratum}
use Rattle.rank_laws.proofs.Owning.{owner-assigned}
use Rattle.rank_laws.proofs.share_laws.Own.{own-members}
use Rattle.rank_defs.specs.Ranks.{assigned, owner, is_shared}
use Rattle.rank_defs.specs.Spread.{own_chart}
use Rattle.rank_defs.specs.Home.{by_vertices, shared_points, home_points}
use Rattle.rank_laws.specs.orient_laws.Named.{StandInOrder, IsMiddle, own_home, home_part}
use Rattle.rank_laws.proofs.orient_laws.Seen.{contained-seen, placed-some, shown-dim}
use Rattle.rank_laws.proofs.orient_laws.Tops.{assigned-cells}
use Rattle.rank_laws.proofs.orient_laws.ByVertices.{Differ, sorted-one}

-- ---- what chosen points have

-- whether the chosen among some points have a point
any-chosen : (f : Point → Bool) (p : Point) (ps : List Point) → list_any (same_point p) (filter f ps) ≡ (f p && list_any (same_point p) ps)
any-chosen f p ps = any_filter (same_point p) f ps ∙ (any_same (λ q. f q && same_point p q) (λ q. f p && same_point p q) same ps ∙ both (f p))
  where
    same : (q : Point) → (f q && same_point p q) ≡ (f p && same_point p q)
    same q = go (same_point p q) refl
      where
        nothing : (b : Bool) → (b && false) ≡ false
        nothing true = refl
        nothing false = refl

        go : (b : Bool) → same_point p q ≡ b → (f q && same_point p q) ≡ (f p && same_point p q)
        go true e = ap (λ t. f t && same_point p q) (sym (same_point-true p q e))
        go false e = ap (λ b. f q && b) e ∙ (nothing (f q) ∙ sym (ap (λ b. f p && b) e ∙ nothing (f p)))

    both : (b : Bool) → list_any (λ q. b && same_point p q) ps ≡ (b && list_any (same_point p) ps)
    both true = refl
    both false = none ps
      where
        none : (qs : List Point) → list_any (λ q. false) qs ≡ false
        none [] = refl
        none (q ∷ qs) = none qs

-- points of sights that differ
differ-points : (ss : List Sight) → points_differ ss ≡ true → Differ (map point_of ss)
differ-points [] h = tt
differ-points (s ∷ ss) h =
    let both = and_parts (not (list_any (shows (point_of s)) ss)) (points_differ ss) h in
    (all_map (λ q. same_point (point_of s) q ≡ false) point_of ss (each_fails (shows (point_of s)) ss (not-true (list_any (shows (point_of s)) ss) both.0)), differ-points ss both.1)

-- a choice of points that differ
differ-chosen : (f : Point → Bool) (ps : List Point) → Differ ps → Differ (filter f ps)
differ-chosen f [] h = tt
differ-chosen f (p ∷ ps) h = go (f p) (differ-chosen f ps h.1)
  where
    go : (b : Bool) → Differ (filter f ps) → Differ (cond b (p ∷ filter f ps) (filter f ps))
    go true r = (all_filter (λ q. same_point p q ≡ false) f ps h.0, r)
    go false r = r

-- a choice of sights that differ
differ-sights : (f : Sight → Bool) (ss : List Sight) → Differ (map point_of ss) → Differ (map point_of (filter f ss))
differ-sights f [] h = tt
differ-sights f (s ∷ ss) h = go (f s) (differ-sights f ss h.1)
  where
    apart : AllByRecursion (λ q. same_point (point_of s) q ≡ false) (map point_of (filter f ss))
    apart = all_map (λ q. same_point (point_of s) q ≡ false) point_of (filter f ss) (all_filter (λ t. same_point (point_of s) (point_of t) ≡ false) f ss (all_mapped (λ q. same_point (point_of s) q ≡ false) point_of ss h.0))

    go : (b : Bool) → Differ (map point_of (filter f ss)) → Differ (map point_of (cond b (s ∷ filter f ss) (filter f ss)))
    go true r = (apart, r)
    go false r = r

module _ (m : Mesh) (sound : IsSoundMesh m) (a : List ℕ) (r d : ℕ) (middle : IsMiddle m d) where
  -- it is a dimension between those of vertices and of cells
  between : (nat_lt 0 d && nat_lt d m.dim) ≡ true
  between = go middle sound.dim
    where
      go : IsMiddle m d → IsFlatOrSolid m → (nat_lt 0 d && nat_lt d m.dim) ≡ true
      go (inl edge) (inl flat) = and_from (nat_lt 0 d) (nat_lt d m.dim) (lt-ltb 0 d (omega (arith, edge))) (lt-ltb d m.dim (omega (arith, edge, flat)))
      go (inl edge) (inr solid) = and_from (nat_lt 0 d) (nat_lt d m.dim) (lt-ltb 0 d (omega (arith, edge))) (lt-ltb d m.dim (omega (arith, edge, solid)))
      go (inr face) w = and_from (nat_lt 0 d) (nat_lt d m.dim) (lt-ltb 0 d (omega (arith, face.0))) (lt-ltb d m.dim (omega (arith, face.0, face.1)))

  not_vertices : d ≢ 0
  not_vertices e = both_ways (nat_lt 0 d) (le-ltb 0 d (omega (arith, e))) (and_parts (nat_lt 0 d) (nat_lt d m.dim) between).0

  module _ (p : Point) (of_dim : p.dim ≡ d) where
    here : p.dim ≢ 0
    here e = not_vertices (sym of_dim ∙ e)

    -- the chart of all points shows what some cell contains
    all-shown : in_some p (placed_cells m) ≡ true → list_any (shows p) (strata m) ≡ true
    all-shown h = shown-in_strata m p p.dim refl (shown-in_stratum m p here (sym (contained-seen p here (placed_cells m)) ∙ h)) (kind middle)
      where
        kind : IsMiddle m d → (p.dim ≡ m.dim) ⊎ ((p.dim ≡ 0) ⊎ ((p.dim ≡ 1) ⊎ ((p.dim ≡ 2) × (m.dim ≡ 3))))
        kind (inl edge) = inr (inr (inl (of_dim ∙ edge)))
        kind (inr face) = inr (inr (inr (of_dim ∙ face.0, face.1)))

    -- and nothing else
    all-contained : list_any (shows p) (strata m) ≡ true → in_some p (placed_cells m) ≡ true
    unfolding chart
    all-contained h =
        let (t, has, e) = among (λ t. in_some (point_of t) (placed_cells m) ≡ true) (shows p) (chart m (placed_cells m)) (filter_passing (λ t. in_some (point_of t) (placed_cells m)) (strata m)) (ap (list_any (shows p)) (chart-all m sound.used) ∙ h) in
        subst (λ q. in_some q (placed_cells m) ≡ true) (sym (shows-true p t e)) has

    -- where its owner is the rank, the rank has it where it is a point of the mesh
    owned-here : owner m a p ≡ r → in_some p (assigned m a r) ≡ list_any (shows p) (strata m)
    owned-here is = same_tests (in_some p (assigned m a r)) (list_any (shows p) (strata m))
        (λ h. all-shown (placed-some m (assigned m a r) p (assigned-cells m a r) h))
        (λ h. ap (λ q. in_some p (assigned m a q)) (sym is) ∙ owner-assigned m a p (all-contained h))

  -- the points that the rank owns and shares are those of the home round
  same_home : (p : Point) → list_any (same_point p) (own_home m a r d) ≡ list_any (same_point p) (filter (λ p. (owner m a p == r) && (p.dim == d)) (shared_points m a))
  unfolding own_home shared_points
  same_home p =
      any-chosen (λ q. ((owner m a q == r) && (q.dim == d)) && is_shared m a q) p (map point_of (own_chart m (assigned m a r)))
      ∙ (ap (λ b. (mine && is_shared m a p) && b) (any_map (same_point p) point_of (own_chart m (assigned m a r)) ∙ own-members m (assigned m a r) sound (assigned-cells m a r) p)
      ∙ (go (owner m a p == r) refl (p.dim == d) refl
      ∙ sym (any-chosen (λ q. (owner m a q == r) && (q.dim == d)) p (filter (is_shared m a) (map point_of (filter mid (strata m))))
      ∙ ap (λ b. mine && b) (any-chosen (is_shared m a) p (map point_of (filter mid (strata m)))
      ∙ ap (λ b. is_shared m a p && b) (any_map (same_point p) point_of (filter mid (strata m)) ∙ any_filter (shows p) mid (strata m))))))
    where
      mid : Sight → Bool
      mid s = nat_lt 0 (dim_of s.poly) && nat_lt (dim_of s.poly) m.dim

      mine : Bool
      mine = (owner m a p == r) && (p.dim == d)

      -- a sight of the point has its dimension
      told : p.dim ≡ d → (s : Sight) → (mid s && shows p s) ≡ shows p s
      told of_dim s = and_implied (mid s) (shows p s) (λ e. ap (λ k. nat_lt 0 k && nat_lt k m.dim) (sym (shown-dim p s e) ∙ of_dim) ∙ between)

      grouped : (b c : Bool) → ((true && b) && c) ≡ (true && (b && c))
      grouped b c = refl

      go : (b : Bool) → (owner m a p == r) ≡ b → (c : Bool) → (p.dim == d) ≡ c → ((mine && is_shared m a p) && in_some p (assigned m a r)) ≡ (mine && (is_shared m a p && list_any (λ s. mid s && shows p s) (strata m)))
      go true e true f =
          let of_dim = eqb-true p.dim d f in
          let shown : in_some p (assigned m a r) ≡ list_any (λ s. mid s && shows p s) (strata m) = owned-here p of_dim (eqb-true (owner m a p) r e) ∙ sym (any_same (λ s. mid s && shows p s) (shows p) (told of_dim) (strata m)) in
          (λ i. ((e i && f i) && is_shared m a p) && shown i) ∙ sym (λ i. (e i && f i) && (is_shared m a p && list_any (λ s. mid s && shows p s) (strata m)))
      go true e false f = (λ i. ((e i && f i) && is_shared m a p) && in_some p (assigned m a r)) ∙ sym (λ i. (e i && f i) && (is_shared m a p && list_any (λ s. mid s && shows p s) (strata m)))
      go false e c f = (λ i. ((e i && (p.dim == d)) && is_shared m a p) && in_some p (assigned m a r)) ∙ sym (λ i. (e i && (p.dim == d)) && (is_shared m a p && list_any (λ s. mid s && shows p s) (strata m)))

  -- whatever list in order has the points that the rank owns and shares is its part of the home round
  pub home-sorted : (qs : List Point) → StandInOrder qs → ((p : Point) → list_any (same_point p) qs ≡ list_any (same_point p) (own_home m a r d)) → qs ≡ home_part m a r d
  unfolding home_part shared_points
  home-sorted qs order same = sorted-one d chosen qs dims differ order (λ p. same p ∙ same_home p)
    where
      mid : Sight → Bool
      mid s = nat_lt 0 (dim_of s.poly) && nat_lt (dim_of s.poly) m.dim

      chosen : List Point
      chosen = filter (λ p. (owner m a p == r) && (p.dim == d)) (filter (is_shared m a) (map point_of (filter mid (strata m))))

      dims : AllByRecursion (λ (p : Point). p.dim ≡ d) chosen
      dims = all_weaker (λ p. ((owner m a p == r) && (p.dim == d)) ≡ true) (λ (p : Point). p.dim ≡ d) (λ p e. eqb-true p.dim d (and_parts (owner m a p == r) (p.dim == d) e).1) chosen (filter_passing (λ p. (owner m a p == r) && (p.dim == d)) (filter (is_shared m a) (map point_of (filter mid (strata m)))))

      differ : Differ chosen
      differ = differ-chosen (λ p. (owner m a p == r) && (p.dim == d)) (filter (is_shared m a) (map point_of (filter mid (strata m)))) (differ-chosen (is_shared m a) (map point_of (filter mid (strata m))) (differ-sights mid (strata m) (differ-points (strata m) (strata-differ m sound.dim))))

-- the words of the home round are the parts of the ranks
pub home-parts : (m : Mesh) (a : List ℕ) (n : ℕ) → home_points m a n ≡ flat_map (λ r. home_part m a r 2 ++ home_part m a r 1) (below n)
unfolding home_points home_part
home-parts m a n = flat_map_same (λ r. home_part m a r 2 ++ (home_part m a r 1 ++ [])) (λ r. home_part m a r 2 ++ home_part m a r 1) (below n) (all_from (λ r. home_part m a r 2 ++ (home_part m a r 1 ++ []) ≡ home_part m a r 2 ++ home_part m a r 1) (λ r. ap (λ l. home_part m a r 2 ++ l) (append-nil (home_part m a r 1))) (below n))

-- a flat mesh has none for faces
pub flat-home : (m : Mesh) (a : List ℕ) (r : ℕ) → m.dim ≡ 2 → home_part m a r 2 ≡ []
unfolding home_part shared_points by_vertices
flat-home m a r flat = ap by_vertices (filter_none wanted (filter (is_shared m a) (map point_of (filter mid (strata m))))
    (all_filter (λ p. wanted p ≡ false) (is_shared m a) (map point_of (filter mid (strata m)))
    (all_map (λ p. wanted p ≡ false) point_of (filter mid (strata m)) (all_weaker (λ s. mid s ≡ true) (λ s. wanted (point_of s) ≡ false) low (filter mid (strata m)) (filter_passing mid (strata m))))))
  where
    mid : Sight → Bool
    mid s = nat_lt 0 (dim_of s.poly) && nat_lt (dim_of s.poly) m.dim

    wanted : Point → Bool
    wanted p = (owner m a p == r) && (p.dim == 2)

    nothing : (b : Bool) → (b && false) ≡ false
    nothing true = refl
    nothing false = refl

    low : (s : Sight) → mid s ≡ true → wanted (point_of s) ≡ false
    low s e = let below_top = ltb-true (dim_of s.poly) m.dim (and_parts (nat_lt 0 (dim_of s.poly)) (nat_lt (dim_of s.poly) m.dim) e).1 in
        ap (λ b. (owner m a (point_of s) == r) && b) (ne_eqb (dim_of s.poly) 2 (λ z. absurd (omega (arith, z, below_top, flat)))) ∙ nothing (owner m a (point_of s) == r)
