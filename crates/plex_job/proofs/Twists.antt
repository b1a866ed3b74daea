-- A twist key is the key of a face.
use Rattle.std.proofs.Common.{◌≡◌, ℕ, ◌+◌, ◌*◌, ◌≤◌, Bool, true, false, List, [], ◌∷◌, Some, cond, sym, subst, ◌∙◌, arith}
use Rattle.std.specs.Prelude.{find, option_map}
use Rattle.std.specs.List.{AllByRecursion}
use Rattle.plain_lists.proofs.Each.{all_flat_map, all_from}
use Rattle.mesh_defs.specs.declared.Poly.{Poly}
use Rattle.mesh_defs.specs.declared.Poly.TheVariants.{Vertex, Segment, Triangle, Quad, Tet, Hex}
use Rattle.mesh_defs.specs.Mesh.{Mesh, Cell, placed_cells}
use Rattle.mesh_defs.specs.Points.{Sight, cell_faces}
use Rattle.mesh_defs.specs.Diagram.{twist_key}
use Rattle.mesh_defs.specs.RightMesh.{IsRightMesh}
use Rattle.rank_laws.specs.diagram_laws.Strata.{face_sights}
use Rattle.rank_laws.proofs.diagram_laws.Twists.{twist-is}
use Rattle.report.specs.Refusals.{IsFaceKey}

face_key : (c f : ℕ) → f ≤ 5 → IsFaceKey (64 * c + 1 + f)
face_key c f few = record { first = omega (arith, few); last = omega (arith, few) }

face_keys : (c : ℕ) (poly : Poly) (vs : List ℕ) → AllByRecursion (λ (s : Sight). IsFaceKey s.key) (cell_faces c (record { poly = poly; vertices = vs }))
face_keys c Vertex vs = tt
face_keys c Segment vs = tt
face_keys c Triangle vs = tt
face_keys c Quad vs = tt
face_keys c Tet vs = (face_key c 0 (omega arith), (face_key c 1 (omega arith), (face_key c 2 (omega arith), (face_key c 3 (omega arith), tt))))
face_keys c Hex vs = (face_key c 0 (omega arith), (face_key c 1 (omega arith), (face_key c 2 (omega arith), (face_key c 3 (omega arith), (face_key c 4 (omega arith), (face_key c 5 (omega arith), tt))))))

-- what is found has what all have
found_key : (test : Sight → Bool) (ss : List Sight) (key : ℕ) → AllByRecursion (λ (s : Sight). IsFaceKey s.key) ss → option_map (λ (s : Sight). s.key) (find test ss) ≡ Some key → IsFaceKey key
found_key test [] key all e = absurd cc
found_key test (s ∷ ss) key all e = go (test s) (found_key test ss key all.1) e
  where
    go : (b : Bool) → (option_map (λ (s : Sight). s.key) (find test ss) ≡ Some key → IsFaceKey key) → option_map (λ (s : Sight). s.key) (cond b (Some s) (find test ss)) ≡ Some key → IsFaceKey key
    go true later e = subst IsFaceKey (cc e) all.0
    go false later e = later e

pub twist-at-face : (m : Mesh) (key : ℕ) → IsRightMesh m → twist_key m ≡ Some key → IsFaceKey key
twist-at-face m key right e =
    found_key _ (face_sights (placed_cells m)) key
    (all_flat_map (λ (s : Sight). IsFaceKey s.key) (λ (c : ℕ × Cell). cell_faces c.0 c.1) (placed_cells m) (all_from _ (λ (c : ℕ × Cell). face_keys c.0 c.1.poly c.1.vertices) (placed_cells m)))
    (sym (twist-is m right.sound right.differ) ∙ e)
