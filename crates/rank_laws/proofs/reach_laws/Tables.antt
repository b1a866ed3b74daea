-- What a cell contains, by its table, is what is reached by the facets of its facets.
use Rattle.std.proofs.Common.{◌≡◌, ℕ, zero, suc, ◌<◌, ◌≤◌, Bool, true, false, cond, ◌&&◌, ◌||◌, ◌==◌, nat_le, nat_lt, List, [], ◌∷◌, ◌++◌, map, length, get_or, refl, sym, ap, ap₂, ◌∙◌, subst, ⊎_elim, arith}
use Rattle.std.specs.Prelude.{flat_map, if◌then◌else◌}
use Rattle.std.specs.List.{list_any, list_all, AllByRecursion, enumerate_from}
use Rattle.std.specs.Cmp.Lexicographic.{same_text}
use Rattle.std.proofs.lemmas.Bool.{and_parts, ltb-true, eqb-true, le-leb, lt-leb, cases_lt, cond-true, cond-false}
use Rattle.std.proofs.lemmas.List.{length-map}
use Rattle.std.proofs.lemmas.List.Folds.{list_any-append}
use Rattle.mesh_defs.specs.declared.Poly.{Poly}
use Rattle.mesh_defs.specs.declared.Poly.TheVariants.{Vertex, Segment, Triangle, Quad, Tet, Hex}
use Rattle.plain_lists.specs.Lists.{below, same_set, inserted, sorted, picked}
use Rattle.plain_lists.proofs.Each.{all_weaker, each_passes}
use Rattle.plain_lists.proofs.Finding.{same_tests, any_map, any_enumerated, among, any_agree, any_weaker}
use Rattle.plain_lists.proofs.Below.{length-below, map-below-length, picked-picked}
use Rattle.mesh_defs.specs.Tables.{Facet, dim_of, corner_count, facets_of, edges_of}
use Rattle.mesh_defs.specs.Mesh.{Cell}
use Rattle.mesh_defs.specs.Points.{Point, Sight, same_point, point_on, shows, sights_of, vertex_sight, cell_face, cell_edge, contains}
use Rattle.rank_laws.specs.reach_laws.Reached.{reached}

-- ---- sorted lists of images

inserted-low : (a y : ℕ) (ys : List ℕ) → a ≤ y → inserted a (y ∷ ys) ≡ a ∷ y ∷ ys
inserted-low a y ys h = cond-true (nat_le a y) (a ∷ y ∷ ys) (y ∷ inserted a ys) (le-leb a y h)

inserted-high : (a y : ℕ) (ys : List ℕ) → y < a → inserted a (y ∷ ys) ≡ y ∷ inserted a ys
inserted-high a y ys h = cond-false (nat_le a y) (a ∷ y ∷ ys) (y ∷ inserted a ys) (lt-leb a y h)

-- two numbers may be put in in any order
inserted-any_order : (a b : ℕ) (zs : List ℕ) → inserted a (inserted b zs) ≡ inserted b (inserted a zs)
inserted-any_order a b [] = ⊎_elim
    (λ (h : a < b). inserted-low a b [] (omega (arith, h)) ∙ sym (inserted-high b a [] h))
    (λ (h : b ≤ a). ⊎_elim
    (λ (g : b < a). inserted-high a b [] g ∙ sym (inserted-low b a [] h))
    (λ (g : a ≤ b). let same : a ≡ b = omega (arith, g, h) in ap₂ (λ x y. inserted x (y ∷ [])) same (sym same))
    (cases_lt b a))
    (cases_lt a b)
inserted-any_order a b (z ∷ zs) = ⊎_elim
    (λ (ha : z < a). ⊎_elim
    (λ (hb : z < b). ap (inserted a) (inserted-high b z zs hb) ∙ (inserted-high a z (inserted b zs) ha ∙ (ap (λ t. z ∷ t) (inserted-any_order a b zs) ∙ (sym (inserted-high b z (inserted a zs) hb) ∙ ap (inserted b) (sym (inserted-high a z zs ha))))))
    (λ (hb : b ≤ z). ap (inserted a) (inserted-low b z zs hb) ∙ (inserted-high a b (z ∷ zs) (omega (arith, ha, hb)) ∙ (ap (λ t. b ∷ t) (inserted-high a z zs ha) ∙ (sym (inserted-low b z (inserted a zs) hb) ∙ ap (inserted b) (sym (inserted-high a z zs ha))))))
    (cases_lt z b))
    (λ (ha : a ≤ z). ⊎_elim
    (λ (hb : z < b). ap (inserted a) (inserted-high b z zs hb) ∙ (inserted-low a z (inserted b zs) ha ∙ (sym (ap (λ t. a ∷ t) (inserted-high b z zs hb)) ∙ (sym (inserted-high b a (z ∷ zs) (omega (arith, ha, hb))) ∙ ap (inserted b) (sym (inserted-low a z zs ha))))))
    (λ (hb : b ≤ z). ap (inserted a) (inserted-low b z zs hb) ∙ (both_low ha hb ∙ ap (inserted b) (sym (inserted-low a z zs ha))))
    (cases_lt z b))
    (cases_lt z a)
  where
    both_low : a ≤ z → b ≤ z → inserted a (b ∷ z ∷ zs) ≡ inserted b (a ∷ z ∷ zs)
    both_low ha hb = ⊎_elim
        (λ (h : a < b). inserted-low a b (z ∷ zs) (omega (arith, h)) ∙ (ap (λ t. a ∷ t) (sym (inserted-low b z zs hb)) ∙ sym (inserted-high b a (z ∷ zs) h)))
        (λ (h : b ≤ a). ⊎_elim
        (λ (g : b < a). inserted-high a b (z ∷ zs) g ∙ (ap (λ t. b ∷ t) (inserted-low a z zs ha) ∙ sym (inserted-low b a (z ∷ zs) h)))
        (λ (g : a ≤ b). let same : a ≡ b = omega (arith, g, h) in ap₂ (λ x y. inserted x (y ∷ z ∷ zs)) same (sym same))
        (cases_lt b a))
        (cases_lt a b)

sorted-map_inserted : (h : ℕ → ℕ) (x : ℕ) (ws : List ℕ) → sorted (map h (inserted x ws)) ≡ inserted (h x) (sorted (map h ws))
unfolding sorted
sorted-map_inserted h x [] = refl
sorted-map_inserted h x (w ∷ ws) = go (nat_le x w) (sorted-map_inserted h x ws)
  where
    go : (b : Bool) → sorted (map h (inserted x ws)) ≡ inserted (h x) (sorted (map h ws)) → sorted (map h (cond b (x ∷ w ∷ ws) (w ∷ inserted x ws))) ≡ inserted (h x) (inserted (h w) (sorted (map h ws)))
    go true r = refl
    go false r = ap (inserted (h w)) r ∙ inserted-any_order (h w) (h x) (sorted (map h ws))

-- sorting before a map does not matter where one sorts after it
sorted-sorted : (h : ℕ → ℕ) (zs : List ℕ) → sorted (map h (sorted zs)) ≡ sorted (map h zs)
unfolding sorted
sorted-sorted h [] = refl
sorted-sorted h (z ∷ zs) = sorted-map_inserted h z (sorted zs) ∙ ap (inserted (h z)) (sorted-sorted h zs)

-- the same corners have the same vertices, in whatever order
picked-set : (vs cs ds : List ℕ) → same_set cs ds ≡ true → sorted (picked vs cs) ≡ sorted (picked vs ds)
picked-set vs cs ds h = sym (sorted-sorted (λ k. get_or vs k 0) cs) ∙ (ap (λ l. sorted (map (λ k. get_or vs k 0) l)) (same_text (sorted cs) (sorted ds) (sym h)) ∙ sorted-sorted (λ k. get_or vs k 0) ds)

-- ---- tables of corners

-- what a polytope has by its table: its corners, itself, the faces of a solid, and its edges
parts : Poly → List Facet
parts p =
    map (λ k. record { poly = Vertex; corners = k ∷ [] }) (below (corner_count p))
    ++ (record { poly = p; corners = below (corner_count p) } ∷ ((if dim_of p == 3 then facets_of p else []) ++ map (λ e. record { poly = Segment; corners = e }) (edges_of p)))

-- what is reached by facets, n levels down
steps : ℕ → Poly → List ℕ → List Facet
steps zero p corners = record { poly = p; corners = corners } ∷ []
steps (suc n) p corners = record { poly = p; corners = corners } ∷ flat_map (λ f. steps n f.poly (picked corners f.corners)) (facets_of p)

-- they are of one dimension and on one set of corners
alike : Facet → Facet → Bool
alike f g = (dim_of f.poly == dim_of g.poly) && same_set f.corners g.corners

-- each of the first is one of the second
within : List Facet → List Facet → Bool
within fs gs = list_all (λ f. list_any (alike f) gs) fs

parts-stepped : (p : Poly) → within (parts p) (steps (dim_of p) p (below (corner_count p))) ≡ true
unfolding parts steps alike within sorted
parts-stepped Vertex = refl
parts-stepped Segment = refl
parts-stepped Triangle = refl
parts-stepped Quad = refl
parts-stepped Tet = refl
parts-stepped Hex = refl

steps-parted : (p : Poly) → within (steps (dim_of p) p (below (corner_count p))) (parts p) ≡ true
unfolding parts steps alike within sorted
steps-parted Vertex = refl
steps-parted Segment = refl
steps-parted Triangle = refl
steps-parted Quad = refl
steps-parted Tet = refl
steps-parted Hex = refl

-- a facet has as many corners as its polytope, and they are corners of the whole
abbrev pub fits : Poly → Facet → Bool
fits p f = (length f.corners == corner_count f.poly) && list_all (λ k. nat_lt k (corner_count p)) f.corners

pub facets-fit : (p : Poly) → list_all (fits p) (facets_of p) ≡ true
facets-fit Vertex = refl
facets-fit Segment = refl
facets-fit Triangle = refl
facets-fit Quad = refl
facets-fit Tet = refl
facets-fit Hex = refl

-- ---- from corners to vertices

-- some element of the parts
pub any-flat_map : {X Y : Type 0} (p : Y → Bool) (f : X → List Y) (xs : List X) → list_any p (flat_map f xs) ≡ list_any (λ x. list_any p (f x)) xs
any-flat_map p f [] = refl
any-flat_map p f (x ∷ xs) = list_any-append p (f x) (flat_map f xs) ∙ ap (λ t. list_any p (f x) || t) (any-flat_map p f xs)

module _ (vs : List ℕ) (q : Point) where
  -- the point is that of these corners
  is_on : Facet → Bool
  is_on f = same_point q (point_on f.poly (picked vs f.corners))

  on-alike : (f g : Facet) → alike f g ≡ true → is_on f ≡ true → is_on g ≡ true
  unfolding is_on alike
  on-alike f g h e =
      let both = and_parts (dim_of f.poly == dim_of g.poly) (same_set f.corners g.corners) h in
      let same : point_on f.poly (picked vs f.corners) ≡ point_on g.poly (picked vs g.corners) = λ i. record { dim = eqb-true (dim_of f.poly) (dim_of g.poly) both.0 i; vertices = picked-set vs f.corners g.corners both.1 i } in
      subst (λ p. same_point q p ≡ true) same e

  on-within : (fs gs : List Facet) → within fs gs ≡ true → list_any is_on fs ≡ true → list_any is_on gs ≡ true
  unfolding within
  on-within fs gs h e =
      let (f, found, on) = among (λ f. list_any (alike f) gs ≡ true) is_on fs (each_passes (λ f. list_any (alike f) gs) fs h) e in
      any_weaker (alike f) is_on (λ g k. on-alike f g k on) gs found

  -- what is reached from picked vertices is picked by what is reached
  stepped : (n : ℕ) (p : Poly) (cs : List ℕ) → length cs ≡ corner_count p → list_any (same_point q) (reached n p (picked vs cs)) ≡ list_any is_on (steps n p cs)
  unfolding steps is_on
  stepped zero p cs long = refl
  stepped (suc n) p cs long = ap (λ t. same_point q (point_on p (picked vs cs)) || t)
      (any-flat_map (same_point q) (λ f. reached n f.poly (picked (picked vs cs) f.corners)) (facets_of p)
      ∙ (any_agree (λ f. list_any (same_point q) (reached n f.poly (picked (picked vs cs) f.corners))) (λ f. list_any is_on (steps n f.poly (picked cs f.corners))) (facets_of p)
      (all_weaker (λ f. fits p f ≡ true) (λ f. list_any (same_point q) (reached n f.poly (picked (picked vs cs) f.corners)) ≡ list_any is_on (steps n f.poly (picked cs f.corners))) (λ f h. one f h (stepped n f.poly (picked cs f.corners))) (facets_of p) (each_passes (fits p) (facets_of p) (facets-fit p)))
      ∙ sym (any-flat_map is_on (λ f. steps n f.poly (picked cs f.corners)) (facets_of p))))
    where
      one : (f : Facet) → fits p f ≡ true → (length (picked cs f.corners) ≡ corner_count f.poly → list_any (same_point q) (reached n f.poly (picked vs (picked cs f.corners))) ≡ list_any is_on (steps n f.poly (picked cs f.corners)))
          → list_any (same_point q) (reached n f.poly (picked (picked vs cs) f.corners)) ≡ list_any is_on (steps n f.poly (picked cs f.corners))
      one f h rest =
          let both = and_parts (length f.corners == corner_count f.poly) (list_all (λ k. nat_lt k (corner_count p)) f.corners) h in
          let inside : AllByRecursion (λ k. k < length cs) f.corners = all_weaker (λ k. nat_lt k (corner_count p) ≡ true) (λ k. k < length cs) (λ k e. let low = ltb-true k (corner_count p) e in omega (arith, low, long)) f.corners (each_passes (λ k. nat_lt k (corner_count p)) f.corners both.1) in
          ap (λ l. list_any (same_point q) (reached n f.poly l)) (picked-picked vs cs f.corners inside)
          ∙ rest (length-map f.corners (λ k. get_or cs k 0) ∙ eqb-true (length f.corners) (corner_count f.poly) both.0)

  -- all vertices, picked
  all-picked : (n : ℕ) → length vs ≡ n → picked vs (below n) ≡ vs
  all-picked n long = ap (λ k. picked vs (below k)) (sym long) ∙ (map-below-length (λ k. get_or vs k 0) (λ v. v) vs 0 (λ k low. refl) ∙ same vs)
    where
      same : (ws : List ℕ) → map (λ v. v) ws ≡ ws
      same [] = refl
      same (w ∷ ws) = ap (λ l. w ∷ l) (same ws)

  -- what a cell contains is picked by its table
  parted : (p : Poly) → length vs ≡ corner_count p → contains (record { poly = p; vertices = vs }) q ≡ list_any is_on (parts p)
  unfolding contains sights_of parts is_on
  parted p long =
      list_any-append (shows q) (map vertex_sight vs) (sights_of (0, cell))
      ∙ (ap₂ (λ s t. s || t) corners (ap₂ (λ s t. s || t) itself (list_any-append (shows q) (faces (dim_of p == 3)) (map (cell_edge 0 cell) (enumerate_from 0 (edges_of p)))
      ∙ (ap₂ (λ s t. s || t) (of_faces (dim_of p == 3)) edges ∙ sym (list_any-append is_on (if dim_of p == 3 then facets_of p else []) (map (λ e. record { poly = Segment; corners = e }) (edges_of p))))))
      ∙ sym (list_any-append is_on (map (λ k. record { poly = Vertex; corners = k ∷ [] }) (below (corner_count p))) (record { poly = p; corners = below (corner_count p) } ∷ ((if dim_of p == 3 then facets_of p else []) ++ map (λ e. record { poly = Segment; corners = e }) (edges_of p)))))
    where
      cell : Cell
      cell = record { poly = p; vertices = vs }

      all : picked vs (below (corner_count p)) ≡ vs
      all = all-picked (corner_count p) long

      corners : list_any (shows q) (map vertex_sight vs) ≡ list_any is_on (map (λ k. record { poly = Vertex; corners = k ∷ [] }) (below (corner_count p)))
      corners = ap (λ l. list_any (shows q) (map vertex_sight l)) (sym all) ∙ (any_map (shows q) vertex_sight (picked vs (below (corner_count p))) ∙ (any_map (λ v. shows q (vertex_sight v)) (λ k. get_or vs k 0) (below (corner_count p)) ∙ sym (any_map is_on (λ k. record { poly = Vertex; corners = k ∷ [] }) (below (corner_count p)))))

      itself : same_point q (point_on p vs) ≡ is_on (record { poly = p; corners = below (corner_count p) })
      itself = ap (λ l. same_point q (point_on p l)) (sym all)

      faces : Bool → List Sight
      faces b = cond b (map (cell_face 0 cell) (enumerate_from 0 (facets_of p))) []

      of_faces : (b : Bool) → list_any (shows q) (faces b) ≡ list_any is_on (cond b (facets_of p) [])
      of_faces true = any_map (shows q) (cell_face 0 cell) (enumerate_from 0 (facets_of p)) ∙ any_enumerated is_on 0 (facets_of p)
      of_faces false = refl

      edges : list_any (shows q) (map (cell_edge 0 cell) (enumerate_from 0 (edges_of p))) ≡ list_any is_on (map (λ e. record { poly = Segment; corners = e }) (edges_of p))
      edges = any_map (shows q) (cell_edge 0 cell) (enumerate_from 0 (edges_of p)) ∙ (any_enumerated (λ e. is_on (record { poly = Segment; corners = e })) 0 (edges_of p) ∙ sym (any_map is_on (λ e. record { poly = Segment; corners = e }) (edges_of p)))

  both-ways : (p : Poly) → list_any is_on (parts p) ≡ list_any is_on (steps (dim_of p) p (below (corner_count p)))
  both-ways p = same_tests (list_any is_on (parts p)) (list_any is_on (steps (dim_of p) p (below (corner_count p)))) (on-within (parts p) (steps (dim_of p) p (below (corner_count p))) (parts-stepped p)) (on-within (steps (dim_of p) p (below (corner_count p))) (parts p) (steps-parted p))

  contained : (p : Poly) → length vs ≡ corner_count p → contains (record { poly = p; vertices = vs }) q ≡ list_any (same_point q) (reached (dim_of p) p vs)
  contained p long = parted p long ∙ (both-ways p ∙ (sym (stepped (dim_of p) p (below (corner_count p)) (length-below (corner_count p))) ∙ ap (λ l. list_any (same_point q) (reached (dim_of p) p l)) (all-picked (corner_count p) long)))

-- a cell contains the points that are reached from it
pub contained-reached : (cell : Cell) (p : Point) → length cell.vertices ≡ corner_count cell.poly → contains cell p ≡ list_any (same_point p) (reached (dim_of cell.poly) cell.poly cell.vertices)
contained-reached cell p long = contained cell.vertices p cell.poly long
