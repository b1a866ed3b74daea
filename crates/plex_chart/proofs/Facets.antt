-- What each entry of a cone says of its facet.
use Rattle.std.proofs.Common.{ℕ, zero, suc, ◌<◌, List, [], ◌∷◌, length, get_or, arith}
use Rattle.std.specs.List.{AllZip}
use Rattle.std.proofs.lemmas.List.Elements.{All-get_or}
use Rattle.mesh_defs.specs.declared.ConeEntry.{ConeEntry}
use Rattle.mesh_defs.specs.declared.Poly.TheVariants.{Vertex}
use Rattle.mesh_defs.specs.Tables.{facets_of, facet_at}
use Rattle.mesh_defs.specs.Diagram.{Diagram}
use Rattle.plex_chart.specs.Chart.{FitsFacet, IsWhole, point_at, no_point}

AllZip-at : {A B : Type 0} (R : A → B → Type 0) (xs : List A) (ys : List B) (k : ℕ) (x : A) (y : B) → AllZip R xs ys → k < length ys → R (get_or xs k x) (get_or ys k y)
AllZip-at R [] [] k x y all within = absurd (omega arith)
AllZip-at R [] (b ∷ bs) k x y all within = absurd all
AllZip-at R (a ∷ as') [] k x y all within = absurd all
AllZip-at R (a ∷ as') (b ∷ bs) zero x y all within = all.0
AllZip-at R (a ∷ as') (b ∷ bs) (suc k) x y all within = AllZip-at R as' bs k x y all.1 (omega arith)

-- entry k of the cone of point p is of facet k
pub FitsFacet-at : (g : Diagram) (p k : ℕ) (e : ConeEntry) → IsWhole g → p < length g.points → k < length (point_at g p).covers
    → FitsFacet g (facet_at (point_at g p).poly k) (get_or (point_at g p).covers k e)
FitsFacet-at g p k e whole within-points within-cone =
    AllZip-at (FitsFacet g) (facets_of (point_at g p).poly) (point_at g p).covers k (record { poly = Vertex; corners = [] }) e
    (All-get_or (λ c. AllZip (FitsFacet g) (facets_of c.poly) c.covers) g.points p no_point within-points whole.facets) within-cone
