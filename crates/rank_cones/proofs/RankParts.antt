-- What a rank of a mesh has is whole: its parts fit together, and its own points go to their places by key.
use Rattle.std.proofs.Common.{◌≡◌, ◌≢◌, ℕ, ◌^◌, true, List, get_or, refl, sym, ap, ◌∙◌, subst, ⊎_elim, None, Some, arith}
use Rattle.std.specs.List.{list_any}
use Rattle.plain_lists.proofs.Each.{all_at, all_weaker}
use Rattle.mesh_defs.specs.Tables.{dim_of}
use Rattle.mesh_defs.specs.Mesh.{Mesh, Cell}
use Rattle.mesh_defs.specs.Points.{Point, Sight, point_of, shows, vertex_sight}
use Rattle.mesh_defs.specs.Diagram.{Diagram, diagram}
use Rattle.mesh_defs.specs.Sights.{IsEdgeSight}
use Rattle.mesh_defs.specs.RightMesh.{IsSoundCell, IsRightMesh}
use Rattle.mesh_laws.proofs.Firsts.{list_any-firsts, shown_itself}
use Rattle.rank_laws.proofs.share_laws.Own.{sound-cells}
use Rattle.rank_defs.specs.Ranks.{assigned}
use Rattle.rank_laws.proofs.reach_laws.Charts.{own-place}
use Rattle.rank_laws.specs.orient_laws.Named.{chart_stratum, own_twist}
use Rattle.rank_laws.proofs.orient_laws.Seen.{same_points}
use Rattle.rank_laws.proofs.orient_laws.Tops.{assigned-cells}
use Rattle.rank_laws.specs.diagram_laws.Strata.{face_sights, first_twist}
use Rattle.local_points.specs.Cells.{faces_seen}
use Rattle.local_points.specs.Points.{Local, local_points}
use Rattle.local_points.proofs.Strata.{faces-stratum}
use Rattle.rank_cones.specs.held_points.Held.{Held, held_of}
use Rattle.rank_cones.proofs.held_points.Once.{chart-differs}
use Rattle.rank_chart_laws.specs.rank_diagram_laws.Parts.{Parts, held_faces, parts_of, parts_diagram, IsEdgePart}
use Rattle.rank_chart_laws.proofs.rank_diagram_laws.Charted.{solid-faces, flat-faces}
use Rattle.rank_chart_laws.proofs.rank_diagram_laws.Fitting.{parts-fit, own-twist-by, rank-diagram}
use Rattle.rank_cones.specs.Seen.{AreSeen}
use Rattle.rank_cones.specs.Assembly.{rank_parts, AreWhole}
use Rattle.rank_cones.specs.Ranks.{IsRank}
use Rattle.rank_cones.proofs.Seeing.{seen-by}

-- some cell of a rank has each face that the rank holds in a solid mesh
solid-seen : (m : Mesh) → IsRightMesh m → m.dim ≡ 3 → (a : List ℕ) (r : ℕ) → AreSeen (assigned m a r) (chart_stratum m (assigned m a r) 2)
solid-seen m right solid a r k low =
    let cells : List (ℕ × Cell) = assigned m a r in
    let faces : List Sight = chart_stratum m cells 2 in
    let ne : ◌≢◌ {A = ℕ} 2 0 = λ e. absurd (omega arith) in
    let solids = all_weaker (λ (c : ℕ × Cell). IsSoundCell m c.1) (λ (c : ℕ × Cell). dim_of c.1.poly ≡ 3) (λ c s. s.dim ∙ solid) cells (sound-cells m right.sound cells (assigned-cells m a r)) in
    let q : Point = point_of (get_or faces k (vertex_sight 0)) in
    let shown : list_any (shows q) faces ≡ true = all_at (λ s. list_any (shows (point_of s)) faces ≡ true) faces k (vertex_sight 0) (shown_itself faces) low in
    let seen : list_any (shows q) (faces_seen cells) ≡ true = sym (list_any-firsts q (faces_seen cells)) ∙ ap (list_any (shows q)) (faces-stratum cells solids) ∙ same_points m cells 2 ne (assigned-cells m a r) q ∙ shown in
    seen-by cells faces k q solids (sym (own-place faces (chart-differs m cells 2 ne (assigned-cells m a r)) k (vertex_sight 0) low)) seen

-- in a flat mesh it holds none
faces-seen : (m : Mesh) → IsRightMesh m → (a : List ℕ) (r : ℕ) → AreSeen (assigned m a r) (held_faces m (assigned m a r))
faces-seen m right a r = ⊎_elim
    (λ (flat : m.dim ≡ 2). subst (AreSeen (assigned m a r)) (sym (flat-faces m (assigned m a r) flat)) (λ k low. absurd (omega (arith, low))))
    (λ (solid : m.dim ≡ 3). subst (AreSeen (assigned m a r)) (sym (solid-faces m (assigned m a r) solid)) (solid-seen m right solid a r))
    right.sound.dim

-- what is at hand, in the words of the mesh
placed-parts : (m : Mesh) → IsRightMesh m → (a : List ℕ) (r : ℕ) → AreWhole (parts_of m (assigned m a r)) (local_points (assigned m a r)) (held_of m (assigned m a r))
placed-parts m right a r =
    let fit = parts-fit m right a r in
    record {
      parts = fit;
      local_is = refl;
      placed = record {
        face_moves = refl;
        edge_moves = refl;
        faces = fit.faces;
        edges = all_weaker (IsEdgePart (parts_of m (assigned m a r))) (IsEdgeSight (2 ^ 32)) (λ s e. e.edge) (chart_stratum m (assigned m a r) 1) fit.edges;
      };
      seen = faces-seen m right a r;
    }

module _ (m : Mesh) (n : ℕ) (a : List ℕ) (r : ℕ) (dim : ℕ) (cells : List (ℕ × Cell)) (vertices : List ℕ) (local : Local) (held : Held) (is : IsRank m n a r dim cells vertices local held) where
  same-parts : rank_parts dim cells vertices held ≡ parts_of m (assigned m a r)
  same-parts = λ i. rank_parts (is.dim_is i) (is.cells_are i) (is.vertices_are i) (is.held_is i)

  -- what a rank has is whole
  pub rank-whole : AreWhole (rank_parts dim cells vertices held) local held
  rank-whole = subst (λ (h : Held). AreWhole (rank_parts dim cells vertices h) local h) (sym is.held_is)
      (subst (λ (l : Local). AreWhole (rank_parts dim cells vertices (held_of m (assigned m a r))) l (held_of m (assigned m a r))) (sym is.local_is)
      (subst (λ (p : Parts). AreWhole p (local_points (assigned m a r)) (held_of m (assigned m a r))) (λ i. rank_parts (sym is.dim_is i) (sym is.cells_are i) (sym is.vertices_are i) (held_of m (assigned m a r))) (placed-parts m is.right a r)))

  -- the first face that a cell sees under no orientation is the own twist
  twist-here : first_twist held.faces (face_sights cells) ≡ own_twist m a r
  twist-here = (λ i. first_twist (is.held_is i).faces (face_sights (is.cells_are i))) ∙ sym (own-twist-by m is.right a r)

  -- the diagram of the parts is that of the rank where there is no twist
  pub draws-whole : (plex : Diagram) → plex ≡ parts_diagram (rank_parts dim cells vertices held) → first_twist held.faces (face_sights cells) ≡ None → (plex ≡ diagram m (assigned m a r)) × (own_twist m a r ≡ None)
  draws-whole plex e none =
      let untwisted : own_twist m a r ≡ None = sym twist-here ∙ none in
      (e ∙ ap parts_diagram same-parts ∙ sym (rank-diagram m is.right a r untwisted), untwisted)

  pub draws-twisted : (key : ℕ) → first_twist held.faces (face_sights cells) ≡ Some key → own_twist m a r ≡ Some key
  draws-twisted key e = sym twist-here ∙ e
