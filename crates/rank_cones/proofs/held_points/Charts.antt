-- The faces and edges of some cells, by key, are those of the cells' chart.
use Rattle.std.proofs.Common.{◌≡◌, ℕ, ◌≤◌, List, [], ◌∷◌, map, length, refl, sym, ap, ◌∙◌, subst, ⊎_elim, arith}
use Rattle.std.specs.List.{AllByRecursion}
use Rattle.std.proofs.lemmas.List.Sorted.{length_permutation}
use Rattle.plain_lists.proofs.Each.{all_weaker}
use Rattle.mesh_defs.specs.Tables.{dim_of}
use Rattle.mesh_defs.specs.Mesh.{Mesh, Cell}
use Rattle.mesh_defs.specs.Points.{Sight}
use Rattle.mesh_defs.specs.Diagram.{firsts}
use Rattle.mesh_defs.specs.RightMesh.{IsSoundCell, IsSoundMesh, AreCells}
use Rattle.rank_laws.proofs.share_laws.Own.{sound-cells}
use Rattle.rank_laws.specs.orient_laws.Named.{chart_stratum, seen_first}
use Rattle.rank_defs.specs.Spread.{own_stratum}
use Rattle.local_points.specs.Points.{places_in, faces_among, edges_among}
use Rattle.local_points.proofs.Strata.{faces-stratum, edges-stratum}
use Rattle.rank_chart_laws.specs.rank_diagram_laws.Parts.{held_faces}
use Rattle.rank_chart_laws.proofs.rank_diagram_laws.Charted.{solid-faces, flat-faces}
use Rattle.rank_chart_laws.proofs.rank_diagram_laws.Inside.{faces-none}
use Rattle.rank_cones.specs.held_points.Held.{Held, AreByKey, held_of}
use Rattle.rank_cones.proofs.held_points.Once.{points-are, moves-are}

-- a list of nothing
no-length : {X : Type 0} (xs : List X) → length xs ≡ 0 → xs ≡ []
no-length [] h = refl
no-length (x ∷ xs) h = absurd (omega arith)

module _ (m : Mesh) (sound : IsSoundMesh m) (cells : List (ℕ × Cell)) (are : AreCells m cells) where
  sounds : AllByRecursion (λ (c : ℕ × Cell). IsSoundCell m c.1) cells
  sounds = sound-cells m sound cells are

  -- the points of one dimension that stand by key, and where they went
  stratum-is : (d : ℕ) (seen points : List Sight) (moves : List ℕ) → (d ≡ 0 → ⊥) → seen ≡ own_stratum cells d → AreByKey (map (seen_first m) seen) points moves → (points ≡ chart_stratum m cells d) × (moves ≡ places_in (chart_stratum m cells d) seen)
  stratum-is d seen points moves ne same by =
      let own = subst (λ ss. AreByKey (map (seen_first m) ss) points moves) same by in
      (points-are m cells d ne are points moves own, moves-are m cells d ne are points moves own ∙ ap (places_in (chart_stratum m cells d)) (sym same))

  edges-are : (points : List Sight) (moves : List ℕ) → AreByKey (map (seen_first m) (edges_among cells)) points moves → (points ≡ chart_stratum m cells 1) × (moves ≡ places_in (chart_stratum m cells 1) (edges_among cells))
  edges-are points moves by = stratum-is 1 (edges_among cells) points moves (λ e. absurd (omega arith))
      (edges-stratum cells (all_weaker (λ (c : ℕ × Cell). IsSoundCell m c.1) (λ (c : ℕ × Cell). 2 ≤ dim_of c.1.poly) (λ c s. ⊎_elim (λ (flat : m.dim ≡ 2). omega (arith, s.dim)) (λ (solid : m.dim ≡ 3). omega (arith, s.dim)) sound.dim) cells sounds)) by

  faces-are : (points : List Sight) (moves : List ℕ) → AreByKey (map (seen_first m) (faces_among cells)) points moves → (points ≡ held_faces m cells) × (moves ≡ places_in (held_faces m cells) (faces_among cells))
  faces-are points moves by = ⊎_elim flat solid sound.dim
    where
      flat : m.dim ≡ 2 → (points ≡ held_faces m cells) × (moves ≡ places_in (held_faces m cells) (faces_among cells))
      flat two =
          let none : faces_among cells ≡ [] = ap firsts (faces-none cells (all_weaker (λ (c : ℕ × Cell). IsSoundCell m c.1) (λ (c : ℕ × Cell). dim_of c.1.poly ≡ 2) (λ c s. s.dim ∙ two) cells sounds)) in
          let given : map (seen_first m) (faces_among cells) ≡ [] = ap (map (seen_first m)) none in (
            no-length points (length_permutation (map (seen_first m) (faces_among cells)) points by.same ∙ ap length given) ∙ sym (flat-faces m cells two),
            no-length moves (by.count ∙ ap length given) ∙ sym (ap (places_in (held_faces m cells)) none),
          )

      solid : m.dim ≡ 3 → (points ≡ held_faces m cells) × (moves ≡ places_in (held_faces m cells) (faces_among cells))
      solid three =
          let both = stratum-is 2 (faces_among cells) points moves (λ e. absurd (omega arith)) (faces-stratum cells (all_weaker (λ (c : ℕ × Cell). IsSoundCell m c.1) (λ (c : ℕ × Cell). dim_of c.1.poly ≡ 3) (λ c s. s.dim ∙ three) cells sounds)) by in
          let faces : chart_stratum m cells 2 ≡ held_faces m cells = sym (solid-faces m cells three) in
          (both.0 ∙ faces, both.1 ∙ ap (λ l. places_in l (faces_among cells)) faces)

-- what stands by key is what the chart has
pub held-is : (m : Mesh) (cells : List (ℕ × Cell)) (held : Held) → IsSoundMesh m → AreCells m cells → AreByKey (map (seen_first m) (faces_among cells)) held.faces held.face_moves → AreByKey (map (seen_first m) (edges_among cells)) held.edges held.edge_moves → held ≡ held_of m cells
held-is m cells held sound are f e =
    let faces = faces-are m sound cells are held.faces held.face_moves f in
    let edges = edges-are m sound cells are held.edges held.edge_moves e in
    λ i. record { faces = faces.0 i; edges = edges.0 i; face_moves = faces.1 i; edge_moves = edges.1 i }
