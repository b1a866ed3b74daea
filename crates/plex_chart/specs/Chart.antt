-- The chart of a diagram: where the points of each dimension stand, and what may stand there. After DMPlex.
use Rattle.std.specs.Prelude.{◌≡◌, ℕ, ◌+◌, ◌-◌, ◌<◌, ◌≤◌, ◌^◌, ◌==◌, if◌then◌else◌, [], length, get_or}
use Rattle.std.specs.List.{All, AllZip, Contains}
use Rattle.mesh_defs.specs.declared.Poly.TheVariants.{Vertex}
use Rattle.mesh_defs.specs.declared.ConeEntry.{ConeEntry}
use Rattle.mesh_defs.specs.Tables.{Facet, dim_of, facets_of}
use Rattle.mesh_defs.specs.Orientation.{orientations}
use Rattle.mesh_defs.specs.Diagram.{Covering, Diagram}

-- how many points the strata have room for
abbrev pub chart_size : Diagram → ℕ
chart_size g = g.cells + g.vertices + g.faces + g.edges

-- The points of a dimension, from the first to after the last: the cells, the vertices after them, the faces of a
-- solid mesh, and the edges. A dimension without points has the empty range.
abbrev pub stratum_range : Diagram → ℕ → ℕ × ℕ
stratum_range g dim =
    if dim == g.dim then (0, g.cells)
    else if dim == 0 then (g.cells, g.cells + g.vertices)
    else if dim == 2 then (g.cells + g.vertices, g.cells + g.vertices + g.faces)
    else if dim == 1 then (g.cells + g.vertices + g.faces, chart_size g)
    else (0, 0)

-- the number p is one of a point of this dimension
pub record IsInStratum (g : Diagram) (dim p : ℕ) : Type 0 where
  pub from : (stratum_range g dim).0 ≤ p
  pub to : p < (stratum_range g dim).1

-- what stands where there is no point: a vertex, without a cone
abbrev pub no_point : Covering
no_point = record { poly = Vertex; covers = [] }

-- point p
abbrev pub point_at : Diagram → ℕ → Covering
point_at g p = get_or g.points p no_point

-- ---- what a diagram keeps while its points are pushed

-- dimension and numbers are those of a mesh of polygons or of solids
pub record HasStrata (g : Diagram) : Type 0 where
  pub polygons : 2 ≤ g.dim
  pub solids : g.dim ≤ 3
  pub flat : g.dim ≡ 2 → g.faces ≡ 0
  pub fits : chart_size g < 2 ^ 32

-- this may be point p: it has the dimension of the stratum there, and an entry for each facet, one dimension lower
pub record IsPoint (g : Diagram) (p : ℕ) (c : Covering) : Type 0 where
  pub place : IsInStratum g (dim_of c.poly) p
  pub arity : length c.covers ≡ length (facets_of c.poly)
  pub below : All (λ (e : ConeEntry). IsInStratum g (dim_of c.poly - 1) e.point) c.covers

-- the points so far stand where they may
pub record FitsChart (g : Diagram) : Type 0 where
  pub strata : HasStrata g
  pub points : (p : ℕ) → p < length g.points → IsPoint g p (point_at g p)

-- ---- what a diagram has once all points are pushed

-- the entry is of a point with the polytope of this facet, under one of its orientations
pub record FitsFacet (g : Diagram) (f : Facet) (e : ConeEntry) : Type 0 where
  pub poly : (point_at g e.point).poly ≡ f.poly
  pub o : Contains (orientations f.poly) e.o

-- all points are there, and the cone of each is of its facets
pub record IsWhole (g : Diagram) : Type 0 where
  pub full : length g.points ≡ chart_size g
  pub facets : All (λ c. AllZip (FitsFacet g) (facets_of c.poly) c.covers) g.points

-- what every whole diagram keeps
pub record IsPlex (g : Diagram) : Type 0 where
  pub chart : FitsChart g
  pub whole : IsWhole g
