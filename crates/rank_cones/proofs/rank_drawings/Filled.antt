-- Faces and edges by their keys and their vertices, filled up to four numbers.
use Rattle.std.proofs.Common.{◌≡◌, ℕ, ◌<◌, cond, List, [], ◌∷◌, length, refl, ap, arith}
use Rattle.std.specs.List.{AllByRecursion}
use Rattle.std.proofs.lemmas.Bool.{ne_eqb}
use Rattle.mesh_defs.specs.declared.Poly.{Poly}
use Rattle.mesh_defs.specs.declared.Poly.TheVariants.{Vertex, Segment, Triangle, Quad, Tet, Hex}
use Rattle.mesh_defs.specs.Tables.{dim_of, corner_count}
use Rattle.mesh_defs.specs.Points.{Sight}
use Rattle.rank_chart_laws.specs.meeting_laws.Sets.{filled}
use Rattle.rank_cones.specs.held_points.Held.{face_on, edge_on, no_vertex}

triangle-filled : (k : ℕ) (vs : List ℕ) → length vs ≡ 3 → face_on k (filled vs) ≡ record { key = k; poly = Triangle; arrangement = vs }
triangle-filled k [] long = absurd (omega (arith, long))
triangle-filled k (x ∷ []) long = absurd (omega (arith, long))
triangle-filled k (x ∷ y ∷ []) long = absurd (omega (arith, long))
triangle-filled k (x ∷ y ∷ z ∷ []) long = refl
triangle-filled k (x ∷ y ∷ z ∷ w ∷ vs) long = absurd (omega (arith, long))

quad-filled : (k : ℕ) (vs : List ℕ) → length vs ≡ 4 → AllByRecursion (λ v. v < no_vertex) vs → face_on k (filled vs) ≡ record { key = k; poly = Quad; arrangement = vs }
quad-filled k [] long low = absurd (omega (arith, long))
quad-filled k (x ∷ []) long low = absurd (omega (arith, long))
quad-filled k (x ∷ y ∷ []) long low = absurd (omega (arith, long))
quad-filled k (x ∷ y ∷ z ∷ []) long low = absurd (omega (arith, long))
quad-filled k (x ∷ y ∷ z ∷ w ∷ []) long low =
    ap (λ b. cond {A = Sight} b (record { key = k; poly = Triangle; arrangement = x ∷ y ∷ z ∷ [] }) (record { key = k; poly = Quad; arrangement = x ∷ y ∷ z ∷ w ∷ [] })) (ne_eqb w no_vertex (λ e. absurd (omega (arith, e, low.1.1.1.0))))
quad-filled k (x ∷ y ∷ z ∷ w ∷ v ∷ vs) long low = absurd (omega (arith, long))

-- a face with as many vertices as corners
pub face-filled : (k : ℕ) (p : Poly) (vs : List ℕ) → dim_of p ≡ 2 → length vs ≡ corner_count p → AllByRecursion (λ v. v < no_vertex) vs → face_on k (filled vs) ≡ record { key = k; poly = p; arrangement = vs }
face-filled k Vertex vs two long low = absurd (omega (arith, two))
face-filled k Segment vs two long low = absurd (omega (arith, two))
face-filled k Triangle vs two long low = triangle-filled k vs long
face-filled k Quad vs two long low = quad-filled k vs long low
face-filled k Tet vs two long low = absurd (omega (arith, two))
face-filled k Hex vs two long low = absurd (omega (arith, two))

segment-filled : (k : ℕ) (vs : List ℕ) → length vs ≡ 2 → edge_on k (filled vs) ≡ record { key = k; poly = Segment; arrangement = vs }
segment-filled k [] long = absurd (omega (arith, long))
segment-filled k (x ∷ []) long = absurd (omega (arith, long))
segment-filled k (x ∷ y ∷ []) long = refl
segment-filled k (x ∷ y ∷ z ∷ vs) long = absurd (omega (arith, long))

-- an edge with two ends
pub edge-filled : (k : ℕ) (p : Poly) (vs : List ℕ) → dim_of p ≡ 1 → length vs ≡ corner_count p → edge_on k (filled vs) ≡ record { key = k; poly = p; arrangement = vs }
edge-filled k Vertex vs one long = absurd (omega (arith, one))
edge-filled k Segment vs one long = segment-filled k vs long
edge-filled k Triangle vs one long = absurd (omega (arith, one))
edge-filled k Quad vs one long = absurd (omega (arith, one))
edge-filled k Tet vs one long = absurd (omega (arith, one))
edge-filled k Hex vs one long = absurd (omega (arith, one))
