-- What all ranks know is what ranks have once they have met.
use Rattle.std.proofs.Common.{◌≡◌, ℕ, ◌+◌, ◌^◌, ◌<◌, List, [], map, length, refl, sym, ap, ap₂, ◌∙◌, subst, arith, length-append}
use Rattle.std.specs.List.{AllByRecursion}
use Rattle.std.proofs.lemmas.List.{length-map}
use Rattle.plain_lists.specs.Lists.{below}
use Rattle.plain_lists.proofs.Below.{length-below, below-all, get_or-map-below}
use Rattle.plain_lists.proofs.Each.{all_weaker, all_map, all_from}
use Rattle.plain_lists.proofs.Filters.{map_same, map_map_same}
use Rattle.mesh_defs.specs.Mesh.{Mesh, Section}
use Rattle.mesh_defs.specs.Points.{point_of}
use Rattle.mesh_defs.specs.Diagram.{chart}
use Rattle.plex_defs.specs.Fields.{fields, data_words, dof_words}
use Rattle.sf_defs.specs.Forest.{Forest}
use Rattle.local_points.specs.Points.{local_points}
use Rattle.rank_defs.specs.Ranks.{assigned}
use Rattle.rank_defs.specs.Spread.{ScatterPart, PlainScatter, IsScatter, IsShared, scatter_part, shared_part, plain_scatter, plain_shared, own_chart, labels, coordinates_of, vertices_among, point_forest}
use Rattle.rank_laws.specs.share_laws.Charts.{own_charts}
use Rattle.rank_chart_laws.proofs.Given.{given-vertices, shared-vertices}
use Rattle.dist_state.specs.scatter_state.Whole.{part_at}
use Rattle.dist_state.specs.shared_state.Points.{PointData, joined_part, data_at}
use Rattle.dist_state.specs.shared_state.Whole.{shared_of, shared_parts, IsWholeShared}
use Rattle.interp_share.specs.rank_points.Seen.{Seen, seen_of, all_seen, sets_on}
use Rattle.interp_share.proofs.rank_points.Own.{parts-count, part-is}
use Rattle.interp_share.specs.Known.{known}
use Rattle.interp_share.proofs.Ranked.{in-range, local-is}

-- one field for each data section and each line of dofs
words-count : (m : Mesh) (dofs : List (List ℕ)) (a : List ℕ) (r : ℕ) → length (known m dofs a r).fields ≡ length m.fields + length dofs
unfolding known fields
words-count m dofs a r =
    let points = own_chart m (assigned m a r) in
    let both = length-append (map (λ (f : Section). map (data_words m f) points) m.fields) (map (λ (counts : List ℕ). map (dof_words m counts) points) dofs) in
    let first = length-map m.fields (λ (f : Section). map (data_words m f) points) in
    let rest = length-map dofs (λ (counts : List ℕ). map (dof_words m counts) points) in
    omega arith

-- a set for each point
points-count : (m : Mesh) (dofs : List (List ℕ)) (a : List ℕ) (r : ℕ) → length (own_chart m (assigned m a r)) ≡ length (known m dofs a r).sets
unfolding known
points-count m dofs a r = sym (length-map (own_chart m (assigned m a r)) (λ s. (point_of s).vertices))

-- what is known of one rank, with what it is given
joined-is : (m : Mesh) (dofs : List (List ℕ)) (a : List ℕ) (n : ℕ) (s : PlainScatter) → IsScatter s m dofs a n → (r : ℕ) → joined_part (scatter_part m a (assigned m a r)) (known m dofs a r) ≡ shared_part m dofs (assigned m a r) (own_chart m (assigned m a r))
unfolding known scatter_part shared_part
joined-is m dofs a n s is r =
    let cells = assigned m a r in
    let same : vertices_among (chart m cells) ≡ vertices_among (own_chart m cells) = given-vertices m is.mesh.sound.dim cells ∙ sym (shared-vertices m is.mesh.sound.dim cells) in
    λ i. record {
      cells = cells;
      vertices = same i;
      at = coordinates_of m (same i);
      sets = sets_on (own_chart m cells);
      labels = labels m (own_chart m cells);
      fields = fields m dofs (own_chart m cells);
    }

module _ (s : PlainScatter) (m : Mesh) (dofs : List (List ℕ)) (a : List ℕ) (n : ℕ) (is : IsScatter s m dofs a n) (all : List PointData) (are : all ≡ map (known m dofs a) (below n)) (forest : Forest) (told : forest ≡ point_forest m a (own_charts m a n)) where
  data-is : (r : ℕ) → r < n → data_at all r ≡ known m dofs a r
  data-is r low = ap (λ l. data_at l r) are ∙ get_or-map-below (known m dofs a) n r (data_at [] 0) low

  known-local : (r : ℕ) → (known m dofs a r).local ≡ local_points (assigned m a r)
  unfolding known
  known-local r = refl

  sections-count : length s.sections ≡ length m.fields
  unfolding plain_scatter
  sections-count = ap (λ (t : PlainScatter). length t.sections) is.value ∙ length-map m.fields (λ (f : Section). (f.on, f.comps))

  dofs-are : s.dofs ≡ dofs
  unfolding plain_scatter
  dofs-are = ap (λ (t : PlainScatter). t.dofs) is.value

  whole-is : s.whole ≡ length m.cells
  unfolding plain_scatter
  whole-is = ap (λ (t : PlainScatter). t.whole) is.value

  roots-are : forest.roots ≡ map (λ (d : PointData). length d.sets) all
  unfolding point_forest own_charts
  roots-are = ap (λ (f : Forest). f.roots) told
      ∙ map_map_same length (λ r. own_chart m (assigned m a r)) (λ r. length (known m dofs a r).sets) (below n) (all_from (λ r. length (own_chart m (assigned m a r)) ≡ length (known m dofs a r).sets) (points-count m dofs a) (below n))
      ∙ sym (map_map_same (λ (d : PointData). length d.sets) (known m dofs a) (λ r. length (known m dofs a r).sets) (below n) (all_from (λ r. length (known m dofs a r).sets ≡ length (known m dofs a r).sets) (λ r. refl) (below n)))
      ∙ ap (map (λ (d : PointData). length d.sets)) (sym are)

  -- all that is asked of what ranks know
  pub is-whole : length s.sections + length s.dofs < 2 ^ 32 → IsWholeShared s all forest
  is-whole few = record {
    ranks = ap length are ∙ length-map (below n) (known m dofs a) ∙ length-below n ∙ sym (parts-count s m dofs a n is);
    local = λ r low. ap (λ (d : PointData). d.local) (data-is r (in-range s m dofs a n is r low)) ∙ known-local r ∙ sym (local-is s m dofs a n is r low);
    roots = roots-are;
    fields = subst (AllByRecursion (λ (d : PointData). length d.fields ≡ length s.sections + length s.dofs)) (sym are)
        (all_map (λ (d : PointData). length d.fields ≡ length s.sections + length s.dofs) (known m dofs a) (below n)
        (all_from (λ r. length (known m dofs a r).fields ≡ length s.sections + length s.dofs) (λ r. words-count m dofs a r ∙ ap₂ (λ x y. x + y) (sym sections-count) (ap length (sym dofs-are))) (below n)));
    few_fields = few;
  }

  parts-are : shared_parts s.parts all ≡ map (λ r. shared_part m dofs (assigned m a r) (own_chart m (assigned m a r))) (below n)
  unfolding shared_parts
  parts-are = ap (λ k. map (λ r. joined_part (part_at s.parts r) (data_at all r)) (below k)) (parts-count s m dofs a n is)
      ∙ map_same (λ r. joined_part (part_at s.parts r) (data_at all r)) (λ r. shared_part m dofs (assigned m a r) (own_chart m (assigned m a r))) (below n)
      (all_weaker (λ r. r < n) (λ r. joined_part (part_at s.parts r) (data_at all r) ≡ shared_part m dofs (assigned m a r) (own_chart m (assigned m a r)))
      (λ r low. ap₂ joined_part (part-is s m dofs a n is r low) (data-is r low) ∙ joined-is m dofs a n s is r) (below n) (below-all n))

  -- it stands for the mesh
  pub is-shared : IsShared (shared_of s all forest) m dofs a n
  unfolding plain_shared own_charts
  is-shared = record {
    mesh = is.mesh;
    counts = is.counts;
    assignment = is.assignment;
    value = λ i. record { whole = whole-is i; sections = sections-count i; forest = told i; parts = parts-are i };
  }

-- the faces and edges of what ranks see
pub locals-seen : (parts : List ScatterPart) (seen : List Seen) → seen ≡ all_seen parts → map (λ (own : Seen). own.local) seen ≡ map (λ (part : ScatterPart). local_points part.cells) parts
unfolding seen_of
locals-seen parts seen are = ap (map (λ (own : Seen). own.local)) are
    ∙ map_map_same (λ (own : Seen). own.local) (λ (part : ScatterPart). seen_of part.cells) (λ (part : ScatterPart). local_points part.cells) parts (all_from (λ (part : ScatterPart). local_points part.cells ≡ local_points part.cells) (λ part. refl) parts)
