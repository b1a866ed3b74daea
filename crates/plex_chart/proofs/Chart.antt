-- What a diagram keeps as points are pushed.
use Rattle.std.proofs.Common.{◌≡◌, ℕ, ◌<◌, ◌-◌, List, [], ◌∷◌, ◌++◌, length, get_or, sym, subst, arith, inl, inr}
use Rattle.std.proofs.lemmas.Bool.{cases_lt}
use Rattle.std.proofs.lemmas.List.{get_or_append_left, length-append}
use Rattle.std.proofs.Math.Seq.{get_or-append_seam}
use Rattle.mesh_defs.specs.Tables.{dim_of}
use Rattle.mesh_defs.specs.Diagram.{Covering, Diagram}
use Rattle.plex_chart.specs.Chart.{IsInStratum, IsPoint, FitsChart, point_at, no_point}

-- what may stand in a diagram does not depend on the points so far
IsInStratum-points : (g : Diagram) (points : List Covering) (dim p : ℕ) → IsInStratum g dim p → IsInStratum (record g { points = points }) dim p
IsInStratum-points g points dim p h = record { from = h.from; to = h.to }

IsPoint-points : (g : Diagram) (points : List Covering) (p : ℕ) (c : Covering) → IsPoint g p c → IsPoint (record g { points = points }) p c
IsPoint-points g points p c h = record {
  place = IsInStratum-points g points (dim_of c.poly) p h.place;
  arity = h.arity;
  below = λ k d within. IsInStratum-points g points (dim_of c.poly - 1) _ (h.below k d within);
}

-- what each point has, also that at the end
at-push : (P : ℕ → Covering → Type 0) (points : List Covering) (c d : Covering)
    → ((p : ℕ) → p < length points → P p (get_or points p d)) → P (length points) c
    → (p : ℕ) → p < length (points ++ c ∷ []) → P p (get_or (points ++ c ∷ []) p d)
at-push P points c d before new p within = elim (cases_lt p (length points)) as (λ _. P p (get_or (points ++ c ∷ []) p d)) [
  | inl h ↦ rw (get_or_append_left points (c ∷ []) d p h) (before p h)
  | inr h ↦
      let last : p ≡ length points = omega (arith, length-append points (c ∷ []), within) in
      let here : P (length points) (get_or (points ++ c ∷ []) (length points) d) = rw (get_or-append_seam points c [] d) new in
      subst (λ q. P q (get_or (points ++ c ∷ []) q d)) (sym last) here
]

pub FitsChart-push : (g : Diagram) (c : Covering) → FitsChart g → IsPoint g (length g.points) c → FitsChart (record g { points = g.points ++ c ∷ [] })
FitsChart-push g c fits new =
    let after : Diagram = record g { points = g.points ++ c ∷ [] } in
    record {
      strata = record { polygons = fits.strata.polygons; solids = fits.strata.solids; flat = fits.strata.flat; fits = fits.strata.fits };
      points = at-push (IsPoint after) g.points c no_point (λ p within. IsPoint-points g after.points p (point_at g p) (fits.points p within)) (IsPoint-points g after.points (length g.points) c new);
    }
