use Rattle.std.proofs.Common.{◌≡◌, ℕ, List, [], ◌∷◌, refl, sym, subst, arith, lit<}
use Rattle.std.specs.Prelude.{ℤ, pos, negsuc}
use Rattle.std.specs.List.{Contains, AllZip}
use Rattle.std.proofs.lemmas.List.Elements.{All-from_recursion}
use Rattle.std.proofs.lemmas.Grind.{common_steps}
use Rattle.mesh_defs.specs.declared.ConeEntry.{ConeEntry}
use Rattle.mesh_defs.specs.declared.Poly.{Poly}
use Rattle.mesh_defs.specs.declared.Poly.TheVariants.{Vertex, Segment, Triangle}
use Rattle.mesh_defs.specs.Tables.{Facet, facets_of}
use Rattle.mesh_defs.specs.Orientation.{orientations, rotations, reflections}
use Rattle.mesh_defs.specs.Diagram.{Covering, Diagram}
use Rattle.plex_chart.specs.Chart.{FitsFacet, IsWhole, point_at}
use Rattle.plex_chart.proofs.Orientations.{Contains-same}
use Rattle.mesh_tests.proofs.base_tests.chart.triangle.Goals as goal

abbrev to : ℕ → ℤ → ConeEntry
to point o = record { point = point; o = o }

abbrev covering : Poly → List ConeEntry → Covering
covering poly covers = record { poly = poly; covers = covers }

abbrev triangle : Diagram
triangle = record {
  dim = 2;
  cells = 1;
  vertices = 3;
  faces = 0;
  edges = 3;
  points = covering Triangle (to 4 (pos 0) ∷ to 5 (pos 0) ∷ to 6 (negsuc 0) ∷ [])
      ∷ covering Vertex [] ∷ covering Vertex [] ∷ covering Vertex []
      ∷ covering Segment (to 1 (pos 0) ∷ to 2 (pos 0) ∷ [])
      ∷ covering Segment (to 2 (pos 0) ∷ to 3 (pos 0) ∷ [])
      ∷ covering Segment (to 1 (pos 0) ∷ to 3 (pos 0) ∷ []) ∷ [];
}

fits : (f : Facet) (e : ConeEntry) → (point_at triangle e.point).poly ≡ f.poly → Contains (orientations f.poly) e.o → FitsFacet triangle f e
fits f e poly o = record { poly = poly; o = o }

against : Contains (orientations Segment) (negsuc 0)
unfolding orientations rotations reflections
against = (0, lit< tt, refl)

whole : IsWhole triangle
whole = record {
  full = refl;
  facets = All-from_recursion (λ c. AllZip (FitsFacet triangle) (facets_of c.poly) c.covers) triangle.points (
    (fits _ _ refl (Contains-same Segment), (fits _ _ refl (Contains-same Segment), (fits _ _ refl against, tt))),
    (
      tt,
      (
        tt,
        (
          tt,
          (
            (fits _ _ refl (Contains-same Vertex), (fits _ _ refl (Contains-same Vertex), tt)),
            (
              (fits _ _ refl (Contains-same Vertex), (fits _ _ refl (Contains-same Vertex), tt)),
              (
                (fits _ _ refl (Contains-same Vertex), (fits _ _ refl (Contains-same Vertex), tt)),
                tt,
              ),
            ),
          ),
        ),
      ),
    ),
  );
}

pub finish-requires : goal.finish-requires
finish-requires c =
    let same : c.push-7.new.self ≡ triangle = grind (arith, common_steps) in
    subst IsWhole (sym same) whole
