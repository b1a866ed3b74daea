-- Faces have at most four vertices, and a set has its vertices in front.
use Rattle.std.proofs.Common.{◌≡◌, ℕ, ◌≤◌, List, [], ◌∷◌, ◌++◌, length, drop, replicate, Some, refl, subst, arith}
use Rattle.std.specs.List.{AllByRecursion, slice_get}
use Rattle.std.proofs.lemmas.Option.{slice_get_within, get_or_from_slice_get}
use Rattle.plain_lists.proofs.Each.{all_from, all_at, all_flat_map}
use Rattle.mesh_defs.specs.declared.Poly.{Poly}
use Rattle.mesh_defs.specs.declared.Poly.TheVariants.{Vertex, Segment, Triangle, Quad, Tet, Hex}
use Rattle.mesh_defs.specs.Tables.{corner_count}
use Rattle.mesh_defs.specs.Mesh.{Cell}
use Rattle.mesh_defs.specs.Points.{Sight, cell_faces}
use Rattle.mesh_laws.proofs.Firsts.{firsts-all}
use Rattle.local_points.specs.Cells.{faces_seen}
use Rattle.local_points.specs.Points.{faces_among}
use Rattle.rank_laws.specs.share_laws.Packed.{no_vertex}
use Rattle.rank_chart_laws.specs.meeting_laws.Sets.{filled}
use Rattle.interp_share.specs.rank_points.Seen.{IsSmall}

-- the faces of a cell
small-faces : (n : ℕ) (p : Poly) (vs : List ℕ) → AllByRecursion IsSmall (cell_faces n (record { poly = p; vertices = vs }))
small-faces n Vertex vs = tt
small-faces n Segment vs = tt
small-faces n Triangle vs = tt
small-faces n Quad vs = tt
small-faces n Tet vs =
    (record { few = omega arith }, (record { few = omega arith }, (record { few = omega arith }, (record { few = omega arith }, tt))))
small-faces n Hex vs = (record { few = omega arith }, (record { few = omega arith }, (record { few = omega arith }, (record { few = omega arith }, (record { few = omega arith }, (record { few = omega arith }, tt))))))

-- the faces that some cells see
pub faces-small : (cells : List (ℕ × Cell)) → AllByRecursion IsSmall (faces_among cells)
faces-small cells = firsts-all IsSmall (faces_seen cells) (all_flat_map IsSmall (λ (c : ℕ × Cell). cell_faces c.0 c.1) cells (all_from (λ (c : ℕ × Cell). AllByRecursion IsSmall (cell_faces c.0 c.1)) (λ c. small-faces c.0 c.1.poly c.1.vertices) cells))

-- a small point that is read from a list
pub small-there : (ss : List Sight) (k : ℕ) (s : Sight) → AllByRecursion IsSmall ss → slice_get ss k ≡ Some s → length s.arrangement ≤ 4
small-there ss k s small e = (subst IsSmall (get_or_from_slice_get ss k s s e) (all_at IsSmall ss k s small (slice_get_within ss k s e))).few

-- up to four vertices, put over the first of four numbers that are none
pub filled-few : (vs : List ℕ) → length vs ≤ 4 → vs ++ drop (length vs) (replicate 4 no_vertex) ≡ filled vs
filled-few [] h = refl
filled-few (a ∷ []) h = refl
filled-few (a ∷ b ∷ []) h = refl
filled-few (a ∷ b ∷ c ∷ []) h = refl
filled-few (a ∷ b ∷ c ∷ d ∷ []) h = refl
filled-few (a ∷ b ∷ c ∷ d ∷ e ∷ vs) h = absurd (omega arith)

-- no polytope has more than eight corners
pub few-corners : (p : Poly) → corner_count p ≤ 8
few-corners Vertex = omega arith
few-corners Segment = omega arith
few-corners Triangle = omega arith
few-corners Quad = omega arith
few-corners Tet = omega arith
few-corners Hex = omega arith
