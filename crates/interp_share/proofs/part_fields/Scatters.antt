-- The parts of a scatter of some mesh, their rows, and the fields of their points.
use Rattle.std.proofs.Common.{◌≡◌, ℕ, ◌<◌, ◌≤◌, List, [], ◌∷◌, ◌++◌, map, length, get_or, Some, refl, sym, ap, subst, ◌∙◌, arith}
use Rattle.std.specs.List.{slice_get, AllByRecursion}
use Rattle.std.proofs.lemmas.List.{length-map, get_or-map}
use Rattle.std.proofs.lemmas.Option.{get_or_from_slice_get, slice_get_within}
use Rattle.plain_lists.specs.Lists.{below}
use Rattle.plain_lists.proofs.Below.{below-all, length-below, get_or-map-below}
use Rattle.plain_lists.proofs.Each.{all_at, all_from, all_weaker}
use Rattle.plain_lists.proofs.Filters.{map_map_same, map_same}
use Rattle.mesh_defs.specs.declared.Place.{Place}
use Rattle.mesh_defs.specs.declared.Place.TheVariants.{Node, Element}
use Rattle.mesh_defs.specs.Mesh.{Mesh, Cell, Section}
use Rattle.mesh_defs.specs.Points.{Sight, point_of}
use Rattle.plex_defs.specs.Fields.{row_values, weight, fields}
use Rattle.rank_defs.specs.Ranks.{assigned}
use Rattle.rank_defs.specs.Spread.{ScatterPart, PlainScatter, IsScatter, scatter_part, plain_scatter, section_numbers, own_chart}
use Rattle.local_points.specs.Points.{Local, local_points}
use Rattle.dist_state.specs.scatter_state.Parts.{rows_at}
use Rattle.dist_state.specs.scatter_state.Whole.{part_at}
use Rattle.interp_share.specs.rank_fields.Words.{count_on}
use Rattle.rank_chart_laws.specs.field_laws.Weights.{rank_weights, own_weights}
use Rattle.interp_share.specs.own_field_laws.Own.{IsPartOf, IsSomePart, part_sizes, part_weights, part_data, part_dofs, total_weights, whole_weights}
use Rattle.interp_share.proofs.own_field_laws.Points.{own-weights}
use Rattle.interp_share.proofs.own_field_laws.Totals.{weights-low}
use Rattle.interp_share.proofs.own_field_laws.Words.{fields-by_part}
use Rattle.interp_share.proofs.own_field_laws.Given.{points-are}
use Rattle.interp_share.specs.part_fields.Ranks.{IsOfSomeMesh, AreLowWeights, AreNeeded, fields_at, local_at, locals_of, mesh_fields}

no_section : Section
no_section = record { name = []; on = Node; comps = 0; rows = [] }

module _ (s : PlainScatter) (m : Mesh) (dofs : List (List ℕ)) (a : List ℕ) (n : ℕ) (is : IsScatter s m dofs a n) where
  abbrev given : ℕ → ScatterPart
  given r = scatter_part m a (assigned m a r)

  parts-are : s.parts ≡ map (λ r. scatter_part m a (assigned m a r)) (below n)
  unfolding plain_scatter
  parts-are = ap (λ (t : PlainScatter). t.parts) is.value

  sections-are : s.sections ≡ map (λ (f : Section). (f.on, f.comps)) m.fields
  unfolding plain_scatter
  sections-are = ap (λ (t : PlainScatter). t.sections) is.value

  pub dofs-are : s.dofs ≡ dofs
  unfolding plain_scatter
  dofs-are = ap (λ (t : PlainScatter). t.dofs) is.value

  pub parts-many : length s.parts ≡ n
  parts-many = ap length parts-are ∙ (length-map (below n) given ∙ length-below n)

  part-is : (r : ℕ) → r < n → part_at s.parts r ≡ scatter_part m a (assigned m a r)
  part-is r low = ap (λ (ps : List ScatterPart). part_at ps r) parts-are ∙ get_or-map-below given n r (part_at [] 0) low

  pub part-of : (r : ℕ) → r < length s.parts → IsPartOf (part_at s.parts r) m a n r
  part-of r low = let within : r < n = omega (arith, low, parts-many) in record { mesh = is.mesh; assignment = is.assignment; rank = within; value = part-is r within }

  -- the weights of the ranks' own cells
  pub own-words : map part_weights s.parts ≡ rank_weights m a n
  unfolding rank_weights
  own-words = ap (map part_weights) parts-are ∙ map_map_same part_weights given (λ r. own_weights m (assigned m a r)) (below n) (all_from (λ r. part_weights (given r) ≡ own_weights m (assigned m a r)) (λ r. sym (own-weights m is.mesh a r)) (below n))

  -- ---- rows

  given-rows : (r f : ℕ) → f < length m.fields → length (rows_at (given r).rows f) ≡ count_on (part_sizes (given r)) (get_or m.fields f no_section).on
  unfolding scatter_part
  given-rows r f low = ap length (get_or-map (λ (g : Section). map (row_values g) (section_numbers g.on (assigned m a r) (given r).vertices)) m.fields f no_section [] low) ∙ by (get_or m.fields f no_section).on
    where
      by : (on : Place) → length (map (row_values (get_or m.fields f no_section)) (section_numbers on (assigned m a r) (given r).vertices)) ≡ count_on (part_sizes (given r)) on
      by Node = length-map (given r).vertices (row_values (get_or m.fields f no_section))
      by Element = length-map (map (λ (c : ℕ × Cell). c.0) (assigned m a r)) (row_values (get_or m.fields f no_section)) ∙ length-map (assigned m a r) (λ (c : ℕ × Cell). c.0)

  pub rows-many : (r f : ℕ) (on : Place × ℕ) → r < length s.parts → slice_get s.sections f ≡ Some on → length (rows_at (part_at s.parts r).rows f) ≡ count_on (part_sizes (part_at s.parts r)) on.0
  rows-many r f on low at =
      let within : r < n = omega (arith, low, parts-many) in
      let there : f < length s.sections = slice_get_within s.sections f on at in
      let inside : f < length m.fields = omega (arith, there, ap length sections-are, length-map {B = Place × ℕ} m.fields (λ (g : Section). (g.on, g.comps))) in
      let place : (get_or m.fields f no_section).on ≡ on.0 = sym (ap (λ (p : Place × ℕ). p.0) (ap (λ (ps : List (Place × ℕ)). get_or ps f (Node, 0)) sections-are ∙ get_or-map {Y = Place × ℕ} (λ (g : Section). (g.on, g.comps)) m.fields f no_section (Node, 0) inside)) ∙ ap (λ (p : Place × ℕ). p.0) (get_or_from_slice_get s.sections f on (Node, 0) at) in
      ap (λ (p : ScatterPart). length (rows_at p.rows f)) (part-is r within) ∙ (given-rows r f inside ∙ (let back = sym (part-is r within) in λ j. count_on (part_sizes (back j)) (place j)))

  -- ---- weights

  pub counts-small : (i : ℕ) (counts : List ℕ) → slice_get s.dofs i ≡ Some counts → AllByRecursion (λ k. k ≤ 16) counts
  counts-small i counts at =
      let there : i < length s.dofs = slice_get_within s.dofs i counts at in
      subst (AllByRecursion (λ k. k ≤ 16)) (get_or_from_slice_get s.dofs i counts [] at)
      (all_at (AllByRecursion (λ k. k ≤ 16)) s.dofs i [] (subst (AllByRecursion (AllByRecursion (λ k. k ≤ 16))) (sym dofs-are) is.counts.small_counts) there)

  pub low-at : (weights : List (List ℕ)) → weights ≡ total_weights m a n → (r : ℕ) → r < length s.parts → AreLowWeights (part_at s.parts r) (get_or weights r [])
  unfolding total_weights
  low-at weights are r low =
      let within : r < n = omega (arith, low, parts-many) in
      let here : get_or weights r [] ≡ whole_weights m (own_chart m (assigned m a r)) = ap (λ ws. get_or ws r []) are ∙ get_or-map-below (λ q. whole_weights m (own_chart m (assigned m a q))) n r [] within in
      subst (AreLowWeights (part_at s.parts r)) (sym here) (record {
        many = length-map (own_chart m (assigned m a r)) (λ (t : Sight). weight m (point_of t)) ∙ sym (ap length (points-are (part_at s.parts r) m a n r (part-of r low)));
        low = weights-low m (own_chart m (assigned m a r)) is.mesh;
      })

  -- ---- fields

  dofs-here : (weights : List (List ℕ)) → AreNeeded s weights → (r : ℕ) → r < n → (p : ScatterPart) → part_dofs dofs p (get_or weights r []) ≡ part_dofs dofs p (whole_weights m (own_chart m (assigned m a r)))
  unfolding total_weights
  dofs-here weights h r low p = go dofs refl
    where
      go : (ds : List (List ℕ)) → dofs ≡ ds → part_dofs ds p (get_or weights r []) ≡ part_dofs ds p (whole_weights m (own_chart m (assigned m a r)))
      go [] e = refl
      go (d ∷ ds) e =
          let some : 0 < length s.dofs = omega (arith, ap length dofs-are, ap length e) in
          ap (part_dofs (d ∷ ds) p) (ap (λ ws. get_or ws r []) (h.totals some m dofs a n is) ∙ get_or-map-below (λ q. whole_weights m (own_chart m (assigned m a q))) n r [] low)

  fields-here : (weights : List (List ℕ)) → AreNeeded s weights → (r : ℕ) → r < n → fields_at s weights r ≡ fields m dofs (own_chart m (assigned m a r))
  fields-here weights h r low =
      (λ j. part_data (sections-are j) (part-is r low j) ++ part_dofs (dofs-are j) (part-is r low j) (get_or weights r []))
      ∙ (ap (λ l. part_data (map (λ (f : Section). (f.on, f.comps)) m.fields) (given r) ++ l) (dofs-here weights h r low (given r))
      ∙ sym (fields-by_part m is.mesh a r dofs))

  pub fields-all : (weights : List (List ℕ)) → AreNeeded s weights → map (fields_at s weights) (below (length s.parts)) ≡ mesh_fields m dofs a n
  fields-all weights h =
      ap (λ k. map (fields_at s weights) (below k)) parts-many
      ∙ map_same (fields_at s weights) (λ r. fields m dofs (own_chart m (assigned m a r))) (below n) (all_weaker (λ r. r < n) (λ r. fields_at s weights r ≡ fields m dofs (own_chart m (assigned m a r))) (λ r low. fields-here weights h r low) (below n) (below-all n))

-- what some rank is given
pub some-part : (s : PlainScatter) (h : IsOfSomeMesh s) (r : ℕ) → r < length s.parts → IsSomePart (part_at s.parts r)
some-part s h r low = record { m = h.m; a = h.a; n = h.n; r = r; is = part-of s h.m h.dofs h.a h.n h.is r low }

-- the faces and edges of a rank's cells
pub locals-many : (s : PlainScatter) (locals : List Local) → locals ≡ locals_of s.parts → length locals ≡ length s.parts
locals-many s locals are = ap length are ∙ length-map s.parts (λ (p : ScatterPart). local_points p.cells)

pub local-here : (s : PlainScatter) (locals : List Local) → locals ≡ locals_of s.parts → (r : ℕ) → r < length s.parts → local_at locals r ≡ local_points (part_at s.parts r).cells
local-here s locals are r low = ap (λ ls. local_at ls r) are ∙ get_or-map (λ (p : ScatterPart). local_points p.cells) s.parts r (part_at [] 0) (local_at [] 0) low
