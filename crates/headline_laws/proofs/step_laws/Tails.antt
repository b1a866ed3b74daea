-- What stands after the tag of a point, by what its rank holds: coordinates of a vertex, label values, data.
use Rattle.std.proofs.Common.{◌≡◌, ◌≢◌, ℕ, ◌-◌, ◌<◌, Bool, true, false, cond, ◌==◌, List, [], ◌++◌, length, get_or, ℤ, refl, sym, ap, ◌∙◌, inl, inr, arith, append_assoc}
use Rattle.std.specs.Prelude.{filter, flat_map, if◌then◌else◌}
use Rattle.std.specs.List.{AllByRecursion, list_any}
use Rattle.std.proofs.lemmas.Bool.{eq-eqb, ne_eqb, eqb-true}
use Rattle.std.proofs.lemmas.List.{get_or-map}
use Rattle.std.proofs.lemmas.List.Elements.{filter-append}
use Rattle.plain_lists.specs.Lists.{below}
use Rattle.plain_lists.proofs.Each.{all_from, all_weaker, all_append, all_filter, all_map}
use Rattle.plain_lists.proofs.Filters.{filter_passing}
use Rattle.mesh_defs.specs.declared.Poly.{Poly}
use Rattle.mesh_defs.specs.declared.ConeEntry.{ConeEntry}
use Rattle.mesh_defs.specs.Tables.{dim_of}
use Rattle.mesh_defs.specs.Mesh.{Mesh, Cell, placed_cells}
use Rattle.mesh_defs.specs.Points.{Sight, vertex_sight, vertex_sights, point_of, sights, contains}
use Rattle.mesh_defs.specs.Diagram.{firsts, stratum, strata, chart, count_in, diagram}
use Rattle.mesh_defs.specs.RightMesh.{IsFlatOrSolid}
use Rattle.mesh_laws.proofs.Firsts.{firsts-all}
use Rattle.input_defs.specs.text_defs.Text.{entry_text, at_text, tail_text}
use Rattle.rank_defs.specs.Spread.{LocalMesh, vertices_among, local_mesh}
use Rattle.input_defs.specs.Plans.{DofsLine}
use Rattle.input_defs.specs.Further.{labels_text, data_text}
use Rattle.headline_defs.specs.Lines.{point_tail}
use Rattle.walk_defs.specs.step_defs.Words.{FitsWords}
use Rattle.walk_defs.specs.step_defs.Points.{tail_of}
use Rattle.headline_laws.proofs.step_laws.Local.{no_sight, counts_of, vertex-after, poly-is, labels-are, words-are}

-- ---- the chart by dimensions

-- the points of a stratum have its dimension
pub of-dim : (m : Mesh) (dim : ℕ) → AllByRecursion (λ (s : Sight). dim_of s.poly ≡ dim) (stratum m dim)
unfolding stratum
of-dim m dim = go (dim == 0) refl
  where
    go : (b : Bool) → (dim == 0) ≡ b → AllByRecursion (λ (s : Sight). dim_of s.poly ≡ dim) (cond b (vertex_sights m) (firsts (filter (λ s. dim_of s.poly == dim) (sights (placed_cells m)))))
    go true e = all_map (λ (s : Sight). dim_of s.poly ≡ dim) vertex_sight (below (length m.at)) (all_from _ (λ v. sym (eqb-true dim 0 e)) (below (length m.at)))
    go false e = firsts-all (λ (s : Sight). dim_of s.poly ≡ dim) (filter (λ s. dim_of s.poly == dim) (sights (placed_cells m)))
        (all_weaker (λ (s : Sight). (dim_of s.poly == dim) ≡ true) (λ (s : Sight). dim_of s.poly ≡ dim) (λ s h. eqb-true (dim_of s.poly) dim h) (filter (λ s. dim_of s.poly == dim) (sights (placed_cells m))) (filter_passing (λ s. dim_of s.poly == dim) (sights (placed_cells m))))

regroup : (a b c d : List Sight) → a ++ b ++ c ++ d ≡ a ++ (b ++ (c ++ d))
regroup a b c d = simp append_assoc

module _ (m : Mesh) (dim : IsFlatOrSolid m) (has : Sight → Bool) where
  -- neither cells nor vertices
  pub others : List Sight
  others = (if m.dim == 3 then stratum m 2 else []) ++ stratum m 1

  abbrev IsBetween : Sight → Type 0
  IsBetween s = (dim_of s.poly ≢ 0) × (dim_of s.poly ≢ m.dim)

  pub others-between : AllByRecursion IsBetween others
  unfolding others
  others-between = all_append IsBetween (if m.dim == 3 then stratum m 2 else []) (stratum m 1) (faces dim) (all_weaker (λ (s : Sight). dim_of s.poly ≡ 1) IsBetween (λ s h. ((λ e. absurd (omega (arith, e, h))), edge s h dim)) (stratum m 1) (of-dim m 1))
    where
      edge : (s : Sight) → dim_of s.poly ≡ 1 → IsFlatOrSolid m → dim_of s.poly ≢ m.dim
      edge s h (inl flat) e = absurd (omega (arith, h, flat, e))
      edge s h (inr solid) e = absurd (omega (arith, h, solid, e))

      faces : IsFlatOrSolid m → AllByRecursion IsBetween (if m.dim == 3 then stratum m 2 else [])
      faces (inl flat) = coe 1 0 (i. AllByRecursion IsBetween (cond (ne_eqb m.dim 3 (λ e. absurd (omega (arith, e, flat))) i) (stratum m 2) [])) tt
      faces (inr solid) = coe 1 0 (i. AllByRecursion IsBetween (cond (eq-eqb m.dim 3 solid i) (stratum m 2) []))
          (all_weaker (λ (s : Sight). dim_of s.poly ≡ 2) IsBetween (λ s h. ((λ e. absurd (omega (arith, e, h))), (λ e. absurd (omega (arith, e, h, solid))))) (stratum m 2) (of-dim m 2))

  -- a part of all points: cells, then vertices, then others
  pub part-split : filter has (strata m) ≡ filter has (stratum m m.dim) ++ (filter has (stratum m 0) ++ filter has others)
  unfolding strata others
  part-split =
      ap (filter has) (regroup (stratum m m.dim) (stratum m 0) (if m.dim == 3 then stratum m 2 else []) (stratum m 1))
      ∙ filter-append has (stratum m m.dim) (stratum m 0 ++ others)
      ∙ ap (λ l. filter has (stratum m m.dim) ++ l) (filter-append has (stratum m 0) others)

  pub whole-dim : m.dim ≢ 0
  whole-dim e = go dim
    where
      go : IsFlatOrSolid m → ⊥
      go (inl flat) = absurd (omega (arith, flat, e))
      go (inr solid) = absurd (omega (arith, solid, e))

  -- a vertex among them by its place behind the cells
  part-vertex : (p : ℕ) → p < length (filter has (strata m)) → dim_of (get_or (filter has (strata m)) p no_sight).poly ≡ 0
      → (get_or (vertices_among (filter has (strata m))) (p - count_in m.dim (filter has (strata m))) 0 ≡ (get_or (filter has (strata m)) p no_sight).key)
      × (p - count_in m.dim (filter has (strata m)) < length (vertices_among (filter has (strata m))))
  part-vertex p = coe 1 0 (i. p < length (part-split i) → dim_of (get_or (part-split i) p no_sight).poly ≡ 0
      → (get_or (vertices_among (part-split i)) (p - count_in m.dim (part-split i)) 0 ≡ (get_or (part-split i) p no_sight).key) × (p - count_in m.dim (part-split i) < length (vertices_among (part-split i))))
      (vertex-after m m.dim (filter has (stratum m m.dim)) (filter has (stratum m 0)) (filter has others) whole-dim
      (all_filter (λ (s : Sight). dim_of s.poly ≡ m.dim) has (stratum m m.dim) (of-dim m m.dim)) (all_filter (λ (s : Sight). dim_of s.poly ≡ 0) has (stratum m 0) (of-dim m 0)) (all_filter IsBetween has others others-between) p)

-- ---- tails

-- coordinates stand at a vertex alone
tail-same : (poly : Poly) (cone : List ConeEntry) (at to : List ℤ) → (dim_of poly ≡ 0 → at ≡ to) → tail_text poly cone at ≡ tail_text poly cone to
unfolding tail_text
tail-same poly cone at to same = go (dim_of poly == 0) refl
  where
    go : (b : Bool) → (dim_of poly == 0) ≡ b → flat_map entry_text cone ++ cond b (at_text at) [] ≡ flat_map entry_text cone ++ cond b (at_text to) []
    go true e = ap (λ x. flat_map entry_text cone ++ at_text x) (same (eqb-true (dim_of poly) 0 e))
    go false e = refl

module _ (m : Mesh) (dofs : List DofsLine) (a : List ℕ) (cells : List (ℕ × Cell)) (dim : IsFlatOrSolid m) where
  -- the coordinates of a vertex
  pub at-is : (p : ℕ) → p < length (chart m cells) → dim_of (get_or (chart m cells) p no_sight).poly ≡ 0
      → get_or (local_mesh m (counts_of dofs) a cells).at (p - (local_mesh m (counts_of dofs) a cells).diagram.cells) [] ≡ get_or m.at (get_or (chart m cells) p no_sight).key []
  unfolding local_mesh diagram chart
  at-is p lt is =
      let vertex = part-vertex m dim (λ s. list_any (λ (c : ℕ × Cell). contains c.1 (point_of s)) cells) p lt is in
      get_or-map (λ v. get_or m.at v []) (vertices_among (chart m cells)) (p - count_in m.dim (chart m cells)) 0 [] vertex.1
      ∙ ap (λ v. get_or m.at v []) vertex.0

  pub tail-is : FitsWords m → (cone : List ConeEntry) (p : ℕ) → p < length (chart m cells) → tail_of (length m.fields) (local_mesh m (counts_of dofs) a cells) cone p ≡ point_tail m dofs cone (get_or (chart m cells) p no_sight)
  unfolding tail_of point_tail
  tail-is fits cone p lt =
      (λ i. tail_text (poly-is m dofs a cells p lt i) cone (get_or mine.at (p - mine.diagram.cells) []) ++ labels-are m dofs a cells p lt i ++ words-are m dofs a cells fits p lt i)
      ∙ ap (λ t. t ++ labels_text m (point_of s) ++ data_text m dofs s) (tail-same s.poly cone (get_or mine.at (p - mine.diagram.cells) []) (get_or m.at s.key []) (at-is p lt))
    where
      mine : LocalMesh
      mine = local_mesh m (counts_of dofs) a cells

      s : Sight
      s = get_or (chart m cells) p no_sight
