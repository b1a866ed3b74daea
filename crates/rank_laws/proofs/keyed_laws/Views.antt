-- The diagram of some cells is told by their chart by keys.
use Rattle.std.proofs.Common.{◌≡◌, ◌≢◌, ◌⊎◌, ℕ, ◌+◌, ◌-◌, true, false, cond, ◌==◌, List, [], ◌++◌, map, length, pos, Some, refl, sym, ap, ap₂, ◌∙◌, inl, inr, arith}
use Rattle.std.specs.Prelude.{option_map, unwrap_or}
use Rattle.std.specs.List.{list_any, AllByRecursion}
use Rattle.std.proofs.lemmas.Bool.{eq-eqb, ne_eqb}
use Rattle.std.proofs.lemmas.List.{length-map, map-append}
use Rattle.mesh_defs.specs.declared.ConeEntry.{ConeEntry}
use Rattle.plain_lists.specs.Lists.{picked}
use Rattle.plain_lists.proofs.Each.{all_weaker, all_both}
use Rattle.plain_lists.proofs.Filters.{map_map_same, count_whole, count_nothing, count-append}
use Rattle.plain_lists.proofs.Finding.{among}
use Rattle.mesh_defs.specs.Tables.{Facet, dim_of, facets_of}
use Rattle.mesh_defs.specs.Mesh.{Mesh, Cell}
use Rattle.mesh_defs.specs.Points.{Point, Sight, point_on, shows, first_sight, key}
use Rattle.mesh_defs.specs.Diagram.{chart, place_in, seen_under, entry, cone, count_in, Covering, diagram, IsAccepted}
use Rattle.mesh_defs.specs.RightMesh.{IsFlatOrSolid, IsSoundMesh, CellsDiffer, AreCells}
use Rattle.mesh_laws.proofs.Firsts.{shows-true}
use Rattle.rank_laws.proofs.diagram_laws.Edges.{OfDim}
use Rattle.rank_laws.proofs.diagram_laws.Cones.{facets-lower}
use Rattle.rank_laws.proofs.ChartsClosed.{chart-closed}
use Rattle.rank_laws.specs.orient_laws.Named.{chart_stratum}
use Rattle.rank_laws.proofs.orient_laws.ByKey.{chart-strata}
use Rattle.rank_laws.specs.keyed_laws.Keyed.{KeyedEntry, keyed_entry, keyed_point, keyed_stratum, keyed_chart, keyed_place, numbered, diagram_of_keyed}
use Rattle.rank_laws.proofs.keyed_laws.Strata.{IsFirst, part, face_part, part-of_dim, faces-of_dim, chart-first, faces-keyed, number-told}

-- ---- counts

count-same : (d e : ℕ) (ss : List Sight) → e ≡ d → AllByRecursion (OfDim e) ss → count_in d ss ≡ length ss
count-same d e ss same h = count_whole (λ s. dim_of s.poly == d) ss (all_weaker (OfDim e) (λ s. (dim_of s.poly == d) ≡ true) (λ s k. eq-eqb (dim_of s.poly) d (k ∙ same)) ss h)

count-other : (d e : ℕ) (ss : List Sight) → e ≢ d → AllByRecursion (OfDim e) ss → count_in d ss ≡ 0
count-other d e ss ne h = count_nothing (λ s. dim_of s.poly == d) ss (all_weaker (OfDim e) (λ s. (dim_of s.poly == d) ≡ false) (λ s k. ne_eqb (dim_of s.poly) d (λ f. ne (sym k ∙ f))) ss h)

module _ (m : Mesh) (cells : List (ℕ × Cell)) (dims : IsFlatOrSolid m) where
  -- a count over cells, vertices, faces and edges
  count-parts : (d c v f e : ℕ) → count_in d (part m cells m.dim) ≡ c → count_in d (part m cells 0) ≡ v → count_in d (face_part m cells) ≡ f → count_in d (part m cells 1) ≡ e → count_in d (chart m cells) ≡ c + v + f + e
  count-parts d c v f e p q r s =
      ap (count_in d) (chart-strata m cells)
      ∙ (count-append (λ (t : Sight). dim_of t.poly == d) (part m cells m.dim ++ part m cells 0 ++ face_part m cells) (part m cells 1)
      ∙ ap₂ (λ a b. a + b) (count-append (λ (t : Sight). dim_of t.poly == d) (part m cells m.dim ++ part m cells 0) (face_part m cells) ∙ ap₂ (λ a b. a + b) (count-append (λ (t : Sight). dim_of t.poly == d) (part m cells m.dim) (part m cells 0) ∙ ap₂ (λ a b. a + b) p q) r) s)

  length-keyed : (d : ℕ) → length (keyed_stratum m cells d) ≡ length (part m cells d)
  unfolding keyed_stratum
  length-keyed d = length-map (part m cells d) (keyed_point m)

  no-faces : m.dim ≡ 2 → face_part m cells ≡ []
  no-faces flat = ap (λ b. cond b (chart_stratum m cells 2) []) (ne_eqb m.dim 3 (λ e. absurd (omega (arith, e, flat))))

  -- faces are counted under no other dimension
  count-faces : (d : ℕ) → (d ≡ m.dim) ⊎ (d ≢ 2) → count_in d (face_part m cells) ≡ 0
  count-faces d (inr ne) = count-other d 2 (face_part m cells) (λ e. ne (sym e)) (faces-of_dim m cells)
  count-faces d (inl top) = go dims
    where
      go : IsFlatOrSolid m → count_in d (face_part m cells) ≡ 0
      go (inl flat) = ap (count_in d) (no-faces flat)
      go (inr solid) = count-other d 2 (face_part m cells) (λ e. absurd (omega (arith, e, top, solid))) (faces-of_dim m cells)

  dim-not : (d : ℕ) → (d ≡ 0) ⊎ (d ≡ 1) → d ≢ m.dim
  dim-not d which e = go which dims
    where
      go : (d ≡ 0) ⊎ (d ≡ 1) → IsFlatOrSolid m → ⊥
      go (inl z) (inl flat) = absurd (omega (arith, z, flat, e))
      go (inl z) (inr solid) = absurd (omega (arith, z, solid, e))
      go (inr z) (inl flat) = absurd (omega (arith, z, flat, e))
      go (inr z) (inr solid) = absurd (omega (arith, z, solid, e))

  cells-counted : length (keyed_stratum m cells m.dim) ≡ count_in m.dim (chart m cells)
  cells-counted =
      length-keyed m.dim ∙ (sum ∙ sym (count-parts m.dim (length (part m cells m.dim)) 0 0 0 (count-same m.dim m.dim (part m cells m.dim) refl (part-of_dim m cells m.dim))
      (count-other m.dim 0 (part m cells 0) (dim-not 0 (inl refl)) (part-of_dim m cells 0)) (count-faces m.dim (inl refl)) (count-other m.dim 1 (part m cells 1) (dim-not 1 (inr refl)) (part-of_dim m cells 1))))
    where
      sum : length (part m cells m.dim) ≡ length (part m cells m.dim) + 0 + 0 + 0
      sum = omega arith

  vertices-counted : length (keyed_stratum m cells 0) ≡ count_in 0 (chart m cells)
  vertices-counted =
      length-keyed 0 ∙ (sum ∙ sym (count-parts 0 0 (length (part m cells 0)) 0 0 (count-other 0 m.dim (part m cells m.dim) (λ e. dim-not 0 (inl refl) (sym e)) (part-of_dim m cells m.dim))
      (count-same 0 0 (part m cells 0) refl (part-of_dim m cells 0)) (count-faces 0 (inr (λ e. absurd (omega (arith, e))))) (count-other 0 1 (part m cells 1) (λ e. absurd (omega (arith, e))) (part-of_dim m cells 1))))
    where
      sum : length (part m cells 0) ≡ 0 + length (part m cells 0) + 0 + 0
      sum = omega arith

  edges-counted : length (keyed_stratum m cells 1) ≡ count_in 1 (chart m cells)
  edges-counted =
      length-keyed 1 ∙ (sum ∙ sym (count-parts 1 0 0 0 (length (part m cells 1)) (count-other 1 m.dim (part m cells m.dim) (λ e. dim-not 1 (inr refl) (sym e)) (part-of_dim m cells m.dim))
      (count-other 1 0 (part m cells 0) (λ e. absurd (omega (arith, e))) (part-of_dim m cells 0)) (count-faces 1 (inr (λ e. absurd (omega (arith, e))))) (count-same 1 1 (part m cells 1) refl (part-of_dim m cells 1))))
    where
      sum : length (part m cells 1) ≡ 0 + 0 + 0 + length (part m cells 1)
      sum = omega arith

  faces-counted : length (cond (m.dim == 3) (keyed_stratum m cells 2) []) ≡ cond (m.dim == 3) (count_in 2 (chart m cells)) 0
  faces-counted = go dims
    where
      go : IsFlatOrSolid m → length (cond (m.dim == 3) (keyed_stratum m cells 2) []) ≡ cond (m.dim == 3) (count_in 2 (chart m cells)) 0
      go (inl flat) = let no = ne_eqb m.dim 3 (λ e. absurd (omega (arith, e, flat))) in ap (λ b. length (cond b (keyed_stratum m cells 2) [])) no ∙ sym (ap (λ b. cond b (count_in 2 (chart m cells)) 0) no)
      go (inr solid) =
          let yes = eq-eqb m.dim 3 solid in
          let faces : face_part m cells ≡ part m cells 2 = ap (λ b. cond b (chart_stratum m cells 2) []) yes in
          let sum : length (part m cells 2) ≡ 0 + 0 + length (part m cells 2) + 0 = omega arith in
          ap (λ b. length (cond b (keyed_stratum m cells 2) [])) yes
          ∙ (length-keyed 2
          ∙ (sum ∙ (sym (count-parts 2 0 0 (length (part m cells 2)) 0 (count-other 2 m.dim (part m cells m.dim) (λ e. absurd (omega (arith, e, solid))) (part-of_dim m cells m.dim))
          (count-other 2 0 (part m cells 0) (λ e. absurd (omega (arith, e))) (part-of_dim m cells 0))
          (ap (count_in 2) faces ∙ count-same 2 2 (part m cells 2) refl (part-of_dim m cells 2))
          (count-other 2 1 (part m cells 1) (λ e. absurd (omega (arith, e))) (part-of_dim m cells 1)))
          ∙ sym (ap (λ b. cond b (count_in 2 (chart m cells)) 0) yes))))

  -- the points of all parts by keys
  keyed-all : keyed_stratum m cells m.dim ++ keyed_stratum m cells 0 ++ cond (m.dim == 3) (keyed_stratum m cells 2) [] ++ keyed_stratum m cells 1 ≡ map (keyed_point m) (chart m cells)
  unfolding keyed_stratum
  keyed-all = sym (ap (map (keyed_point m)) (chart-strata m cells)
      ∙ (map-append (keyed_point m) (part m cells m.dim ++ part m cells 0 ++ face_part m cells) (part m cells 1)
      ∙ ap (λ l. l ++ map (keyed_point m) (part m cells 1)) (map-append (keyed_point m) (part m cells m.dim ++ part m cells 0) (face_part m cells) ∙ ap₂ (λ k l. k ++ l) (map-append (keyed_point m) (part m cells m.dim) (part m cells 0)) (sym (faces-keyed m cells dims)))))

-- ---- cones

module _ (m : Mesh) (cells : List (ℕ × Cell)) (sound : IsSoundMesh m) (accepted : IsAccepted m) (differ : CellsDiffer m) (are : AreCells m cells) where
  drawn : Sight → Covering
  drawn s = record { poly = s.poly; covers = cone m (place_in (chart m cells)) s }

  -- a point that the chart shows has a key
  key-there : (q : Point) → list_any (shows q) (chart m cells) ≡ true → (k : ℕ) × (key m q ≡ Some k)
  unfolding key
  key-there q h =
      let (t, first, shown) = among (IsFirst m) (shows q) (chart m cells) (chart-first m cells) h in
      (t.key, ap (option_map (λ (s : Sight). s.key)) (ap (first_sight m) (shows-true q t shown) ∙ first))

  -- a point that the chart shows has the number that its key tells
  by-key : (q : Point) → list_any (shows q) (chart m cells) ≡ true → keyed_place (keyed_chart m cells) q.dim (unwrap_or (key m q) 0) ≡ place_in (chart m cells) q
  by-key q h = let (k, named) = key-there q h in ap (λ o. keyed_place (keyed_chart m cells) q.dim (unwrap_or o 0)) named ∙ sym (number-told m cells sound.dim q k named h)

  -- the facets of a point of the chart
  Shown : Sight → Type 0
  Shown s = AllByRecursion (λ (f : Facet). list_any (shows (point_on f.poly (picked s.arrangement f.corners))) (chart m cells) ≡ true) (facets_of s.poly)

  numbered-drawn : (s : Sight) → Shown s → numbered (keyed_chart m cells) (keyed_point m s) ≡ drawn s
  unfolding Shown drawn numbered keyed_point keyed_entry cone entry
  numbered-drawn s shown = ap (λ (l : List ConeEntry). record { poly = s.poly; covers = l })
      (map_map_same (λ (e : KeyedEntry). record { point = keyed_place (keyed_chart m cells) (dim_of s.poly - 1) e.key; o = e.o }) (keyed_entry m s.arrangement) (entry m (place_in (chart m cells)) s.arrangement) (facets_of s.poly)
      (all_both (λ (f : Facet). dim_of f.poly ≡ dim_of s.poly - 1) (λ (f : Facet). list_any (shows (point_on f.poly (picked s.arrangement f.corners))) (chart m cells) ≡ true)
      (λ (f : Facet). record { point = keyed_place (keyed_chart m cells) (dim_of s.poly - 1) (keyed_entry m s.arrangement f).key; o = (keyed_entry m s.arrangement f).o } ≡ entry m (place_in (chart m cells)) s.arrangement f)
      (λ f low there. ap (λ (k : ℕ). record { point = k; o = unwrap_or (seen_under m f.poly (picked s.arrangement f.corners)) (pos 0) })
      (ap (λ d. keyed_place (keyed_chart m cells) d (unwrap_or (key m (point_on f.poly (picked s.arrangement f.corners))) 0)) (sym low) ∙ by-key (point_on f.poly (picked s.arrangement f.corners)) there))
      (facets_of s.poly) (facets-lower s.poly) shown))

  points-told : map (numbered (keyed_chart m cells)) (keyed_stratum m cells m.dim ++ keyed_stratum m cells 0 ++ cond (m.dim == 3) (keyed_stratum m cells 2) [] ++ keyed_stratum m cells 1) ≡ map drawn (chart m cells)
  unfolding Shown
  points-told = ap (map (numbered (keyed_chart m cells))) (keyed-all m cells sound.dim)
      ∙ map_map_same (numbered (keyed_chart m cells)) (keyed_point m) drawn (chart m cells)
      (all_weaker Shown (λ s. numbered (keyed_chart m cells) (keyed_point m s) ≡ drawn s) numbered-drawn (chart m cells) (chart-closed m sound accepted differ cells are))

  -- the diagram of the cells
  pub diagram-told : diagram_of_keyed (keyed_chart m cells) ≡ diagram m cells
  unfolding diagram_of_keyed keyed_chart diagram drawn
  diagram-told = λ i. record {
    dim = m.dim;
    cells = cells-counted m cells sound.dim i;
    vertices = vertices-counted m cells sound.dim i;
    faces = faces-counted m cells sound.dim i;
    edges = edges-counted m cells sound.dim i;
    points = points-told i;
  }
