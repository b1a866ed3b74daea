-- How many rows ranks are given of data sections.
use Rattle.std.proofs.Common.{◌≡◌, ℕ, ◌<◌, List, [], map, length, get_or, Some, sym, ap, ◌∙◌, arith}
use Rattle.std.specs.List.{slice_get}
use Rattle.std.proofs.lemmas.List.{length-map, get_or-map}
use Rattle.std.proofs.lemmas.Option.{get_or_from_slice_get, slice_get_within}
use Rattle.plain_lists.specs.Lists.{below}
use Rattle.plain_lists.proofs.Below.{length-below, get_or-map-below}
use Rattle.mesh_defs.specs.declared.Place.{Place}
use Rattle.mesh_defs.specs.declared.Place.TheVariants.{Node, Element}
use Rattle.mesh_defs.specs.Mesh.{Mesh, Cell, Section}
use Rattle.plex_defs.specs.Fields.{row_values}
use Rattle.rank_defs.specs.Ranks.{assigned}
use Rattle.rank_defs.specs.Spread.{ScatterPart, PlainScatter, IsScatter, scatter_part, plain_scatter, section_numbers}
use Rattle.dist_state.specs.scatter_state.Parts.{rows_at}
use Rattle.dist_state.specs.scatter_state.Whole.{part_at}

no_section : Section
no_section = record { name = []; on = Node; comps = 0; rows = [] }

-- how many vertices or cells a part has
abbrev pub many_on : ScatterPart → Place → ℕ
many_on part Node = length part.vertices
many_on part Element = length part.cells

module _ (s : PlainScatter) (m : Mesh) (dofs : List (List ℕ)) (a : List ℕ) (n : ℕ) (is : IsScatter s m dofs a n) where
  abbrev given : ℕ → ScatterPart
  given r = scatter_part m a (assigned m a r)

  parts-are : s.parts ≡ map (λ r. scatter_part m a (assigned m a r)) (below n)
  unfolding plain_scatter
  parts-are = ap (λ (t : PlainScatter). t.parts) is.value

  sections-are : s.sections ≡ map (λ (f : Section). (f.on, f.comps)) m.fields
  unfolding plain_scatter
  sections-are = ap (λ (t : PlainScatter). t.sections) is.value

  part-is : (r : ℕ) → r < length s.parts → part_at s.parts r ≡ scatter_part m a (assigned m a r)
  part-is r low =
      let within : r < n = omega (arith, low, ap length parts-are, length-map (below n) given, length-below n) in
      ap (λ (ps : List ScatterPart). part_at ps r) parts-are ∙ get_or-map-below given n r (part_at [] 0) within

  given-rows : (r f : ℕ) → f < length m.fields → length (rows_at (given r).rows f) ≡ many_on (given r) (get_or m.fields f no_section).on
  unfolding scatter_part
  given-rows r f low = ap length (get_or-map (λ (g : Section). map (row_values g) (section_numbers g.on (assigned m a r) (given r).vertices)) m.fields f no_section [] low) ∙ by (get_or m.fields f no_section).on
    where
      by : (on : Place) → length (map (row_values (get_or m.fields f no_section)) (section_numbers on (assigned m a r) (given r).vertices)) ≡ many_on (given r) on
      by Node = length-map (given r).vertices (row_values (get_or m.fields f no_section))
      by Element = length-map (map (λ (c : ℕ × Cell). c.0) (assigned m a r)) (row_values (get_or m.fields f no_section)) ∙ length-map (assigned m a r) (λ (c : ℕ × Cell). c.0)

  -- a row, if only an empty one, for each vertex or cell
  pub rows-many : (r f : ℕ) (on : Place × ℕ) → r < length s.parts → slice_get s.sections f ≡ Some on → length (rows_at (part_at s.parts r).rows f) ≡ many_on (part_at s.parts r) on.0
  rows-many r f on low at =
      let there : f < length s.sections = slice_get_within s.sections f on at in
      let inside : f < length m.fields = omega (arith, there, ap length sections-are, length-map {B = Place × ℕ} m.fields (λ (g : Section). (g.on, g.comps))) in
      let place : (get_or m.fields f no_section).on ≡ on.0 = sym (ap (λ (p : Place × ℕ). p.0) (ap (λ (ps : List (Place × ℕ)). get_or ps f (Node, 0)) sections-are ∙ get_or-map {Y = Place × ℕ} (λ (g : Section). (g.on, g.comps)) m.fields f no_section (Node, 0) inside)) ∙ ap (λ (p : Place × ℕ). p.0) (get_or_from_slice_get s.sections f on (Node, 0) at) in
      ap (λ (p : ScatterPart). length (rows_at p.rows f)) (part-is r low) ∙ (given-rows r f inside ∙ (let back = sym (part-is r low) in λ j. many_on (back j) (place j)))
