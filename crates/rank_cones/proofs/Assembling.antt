-- The diagram of parts, made stratum after stratum.
use Rattle.std.proofs.Common.{◌≡◌, ℕ, ◌+◌, ◌++◌, List, [], map, length, refl, ap, ap₂, ◌∙◌, length-append}
use Rattle.std.proofs.lemmas.List.{length-map}
use Rattle.plain_lists.specs.Lists.{below}
use Rattle.plain_lists.proofs.Below.{map-below-length}
use Rattle.mesh_defs.specs.Diagram.{Covering, Diagram}
use Rattle.rank_laws.specs.diagram_laws.Strata.{bare_cover}
use Rattle.rank_chart_laws.specs.rank_diagram_laws.Parts.{Parts, cell_part, face_part, edge_part, parts_diagram}
use Rattle.rank_cones.specs.Assembly.{IsFor}

module _ (p : Parts) where
  -- the diagram with these points
  abbrev pub with-points : List Covering → Diagram
  with-points ps = record { dim = p.dim; cells = length p.cells; vertices = length p.vertices; faces = length p.faces; edges = length p.edges; points = ps }

  abbrev pub cells-part : List Covering
  cells-part = map (cell_part p) p.cells

  abbrev pub vertices-part : List Covering
  vertices-part = map (λ (v : ℕ). bare_cover) p.vertices

  abbrev pub faces-part : List Covering
  faces-part = map (face_part p) p.faces

  -- as many as there are
  pub length-cells : length cells-part ≡ length p.cells
  length-cells = length-map p.cells (cell_part p)

  pub length-vertices : length (cells-part ++ vertices-part) ≡ length p.cells + length p.vertices
  length-vertices = length-append cells-part vertices-part ∙ ap₂ (λ a b. a + b) length-cells (length-map p.vertices (λ (v : ℕ). bare_cover))

  pub length-faces : length (cells-part ++ vertices-part ++ faces-part) ≡ length p.cells + length p.vertices + length p.faces
  length-faces = length-append (cells-part ++ vertices-part) faces-part ∙ ap₂ (λ a b. a + b) length-vertices (length-map p.faces (face_part p))

  -- it is for the parts
  pub for-parts : (g : Diagram) (ps : List Covering) → g ≡ with-points ps → IsFor p g
  for-parts g ps s = record { cells = ap (λ (x : Diagram). x.cells) s; vertices = ap (λ (x : Diagram). x.vertices) s; faces = ap (λ (x : Diagram). x.faces) s; edges = ap (λ (x : Diagram). x.edges) s }

  -- as many bare points as vertices
  bare-same : map (λ (v : ℕ). bare_cover) (below (length p.vertices)) ≡ map (λ (v : ℕ). bare_cover) p.vertices
  bare-same = map-below-length (λ (v : ℕ). bare_cover) (λ (v : ℕ). bare_cover) p.vertices 0 (λ k low. refl)

  -- one stratum more
  pub with-cells : (g h : Diagram) → g ≡ with-points [] → h ≡ record g { points = cells-part } → h ≡ with-points cells-part
  with-cells g h s e = e ∙ ap (λ (x : Diagram). record x { points = cells-part }) s

  pub with-vertices : (g h : Diagram) (v : ℕ) → v ≡ length p.vertices → g ≡ with-points cells-part → h ≡ record g { points = g.points ++ map (λ (v : ℕ). bare_cover) (below v) } → h ≡ with-points (cells-part ++ vertices-part)
  with-vertices g h v same s e = e ∙ (λ i. record (s i) { points = (s i).points ++ map (λ (v : ℕ). bare_cover) (below (same i)) }) ∙ ap (λ l. with-points (cells-part ++ l)) bare-same

  pub with-faces : (g h : Diagram) → g ≡ with-points (cells-part ++ vertices-part) → h ≡ record g { points = g.points ++ map (face_part p) p.faces } → h ≡ with-points (cells-part ++ vertices-part ++ faces-part)
  with-faces g h s e = e ∙ ap (λ (x : Diagram). record x { points = x.points ++ faces-part }) s

  pub with-edges : (g h : Diagram) → g ≡ with-points (cells-part ++ vertices-part ++ faces-part) → h ≡ record g { points = g.points ++ map (edge_part p) p.edges } → h ≡ parts_diagram p
  with-edges g h s e = e ∙ ap (λ (x : Diagram). record x { points = x.points ++ map (edge_part p) p.edges }) s
