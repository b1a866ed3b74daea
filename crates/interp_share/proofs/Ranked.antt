-- What one rank knows of its points, by what it is given.
use Rattle.std.proofs.Common.{◌≡◌, ℕ, ◌^◌, ◌<◌, List, [], map, length, sym, ap, ◌∙◌, arith}
use Rattle.std.specs.List.{AllByRecursion}
use Rattle.std.proofs.lemmas.List.{length-map}
use Rattle.plain_lists.specs.Lists.{below}
use Rattle.plain_lists.proofs.Each.{all_append, all_map, all_from, all_at}
use Rattle.mesh_defs.specs.Mesh.{Mesh, Section}
use Rattle.mesh_defs.specs.Points.{Sight, point_of}
use Rattle.plex_defs.specs.Fields.{fields, data_words, dof_words}
use Rattle.plex_defs.specs.Labels.{mesh_label}
use Rattle.local_points.specs.Cells.{AreFit}
use Rattle.local_points.specs.Points.{local_points}
use Rattle.rank_defs.specs.Ranks.{assigned}
use Rattle.rank_defs.specs.Spread.{ScatterPart, PlainScatter, IsScatter, scatter_part, own_chart, labels}
use Rattle.dist_state.specs.scatter_state.Whole.{part_at}
use Rattle.interp_share.specs.rank_points.Seen.{part_sets, sets_on}
use Rattle.interp_share.proofs.rank_points.Own.{parts-count, part-is, parts-fit, part-points, part-few}
use Rattle.interp_share.specs.part_labels.Parts.{IsPartOf, IsSomePart}

module _ (s : PlainScatter) (m : Mesh) (dofs : List (List ℕ)) (a : List ℕ) (n : ℕ) (is : IsScatter s m dofs a n) (r : ℕ) (low : r < length s.parts) where
  pub in-range : r < n
  in-range = let count = parts-count s m dofs a n is in omega arith

  -- it is given its part
  pub is-part : IsPartOf (part_at s.parts r) m a n r
  is-part = record { mesh = is.mesh; assignment = is.assignment; rank = in-range; value = part-is s m dofs a n is r in-range }

  pub some-part : IsSomePart (part_at s.parts r)
  some-part = record { m = m; a = a; n = n; r = r; is = is-part }

  pub part-fit : AreFit (part_at s.parts r).cells
  part-fit = all_at (λ (part : ScatterPart). AreFit part.cells) s.parts r (part_at [] 0) (parts-fit s m dofs a n is) low

  -- the faces and edges of its cells
  pub local-is : local_points (part_at s.parts r).cells ≡ local_points (assigned m a r)
  unfolding scatter_part
  local-is = ap (λ (part : ScatterPart). local_points part.cells) (part-is s m dofs a n is r in-range)

  -- the sets of its points
  pub sets-are : part_sets (part_at s.parts r) ≡ sets_on (own_chart m (assigned m a r))
  unfolding part_sets
  sets-are = ap sets_on (sym (part-points s m dofs a n is r in-range))

  pub sets-count : length (part_sets (part_at s.parts r)) ≡ length (own_chart m (assigned m a r))
  sets-count = ap length sets-are ∙ length-map (own_chart m (assigned m a r)) (λ s. (point_of s).vertices)

  pub sets-few : length (part_sets (part_at s.parts r)) < 2 ^ 32
  sets-few =
      let few = part-few s m dofs a n is r in-range in
      let same = ap length (part-points s m dofs a n is r in-range) in
      let count = sets-count in
      omega arith

-- there is a label for each dimension
pub four-labels : (m : Mesh) (points : List Sight) → length (labels m points) ≡ 4
four-labels m points = length-map (below 4) (λ dim. mesh_label m dim points)

-- words of each point
pub words-all : (m : Mesh) (dofs : List (List ℕ)) (points : List Sight) → AllByRecursion (λ (f : List (List ℕ)). length f ≡ length points) (fields m dofs points)
unfolding fields
words-all m dofs points = all_append (λ (f : List (List ℕ)). length f ≡ length points) (map (λ (f : Section). map (data_words m f) points) m.fields) (map (λ (counts : List ℕ). map (dof_words m counts) points) dofs)
    (all_map (λ (f : List (List ℕ)). length f ≡ length points) (λ (f : Section). map (data_words m f) points) m.fields (all_from (λ (f : Section). length (map (data_words m f) points) ≡ length points) (λ f. length-map points (data_words m f)) m.fields))
    (all_map (λ (f : List (List ℕ)). length f ≡ length points) (λ (counts : List ℕ). map (dof_words m counts) points) dofs (all_from (λ (counts : List ℕ). length (map (dof_words m counts) points) ≡ length points) (λ counts. length-map points (dof_words m counts)) dofs))
