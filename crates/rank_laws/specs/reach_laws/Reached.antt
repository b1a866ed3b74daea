-- What is reached from a list of vertices by facets of facets.
use Rattle.std.specs.Prelude.{ℕ, zero, suc, List, [], ◌∷◌, flat_map}
use Rattle.mesh_defs.specs.declared.Poly.{Poly}
use Rattle.plain_lists.specs.Lists.{picked}
use Rattle.mesh_defs.specs.Tables.{facets_of}
use Rattle.mesh_defs.specs.Points.{Point, point_on}

-- the point of a polytope on these vertices, those of its facets, of the facets of these, and so on n levels down
abbrev pub reached : ℕ → Poly → List ℕ → List Point
reached zero poly vertices = point_on poly vertices ∷ []
reached (suc n) poly vertices = point_on poly vertices ∷ flat_map (λ f. reached n f.poly (picked vertices f.corners)) (facets_of poly)
