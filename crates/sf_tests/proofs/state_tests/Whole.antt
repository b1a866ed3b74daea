-- The diagrams of the two triangles are whole.
use Rattle.std.proofs.Common.{◌≡◌, refl, lit<}
use Rattle.std.specs.Prelude.{negsuc}
use Rattle.std.specs.List.{Contains, AllZip}
use Rattle.std.proofs.lemmas.List.Elements.{All-from_recursion}
use Rattle.mesh_defs.specs.declared.ConeEntry.{ConeEntry}
use Rattle.mesh_defs.specs.declared.Poly.TheVariants.{Vertex, Segment}
use Rattle.mesh_defs.specs.Tables.{Facet, facets_of}
use Rattle.mesh_defs.specs.Orientation.{orientations, rotations, reflections}
use Rattle.mesh_defs.specs.Diagram.{Diagram}
use Rattle.plex_chart.specs.Chart.{FitsFacet, IsWhole, point_at}
use Rattle.plex_chart.proofs.Orientations.{Contains-same}
use Rattle.sf_tests.specs.state_tests.Triangles.{first_diagram, second_diagram}

fits : (x : Diagram) (f : Facet) (e : ConeEntry) → (point_at x e.point).poly ≡ f.poly → Contains (orientations f.poly) e.o → FitsFacet x f e
fits x f e poly o = record { poly = poly; o = o }

against : Contains (orientations Segment) (negsuc 0)
unfolding orientations rotations reflections
against = (0, lit< tt, refl)

pub first-whole : IsWhole first_diagram
first-whole = record {
  full = refl;
  facets = All-from_recursion (λ c. AllZip (FitsFacet first_diagram) (facets_of c.poly) c.covers) first_diagram.points (
    (fits first_diagram _ _ refl (Contains-same Segment), (fits first_diagram _ _ refl (Contains-same Segment), (fits first_diagram _ _ refl (Contains-same Segment), tt))),
    (
      tt,
      (
        tt,
        (
          tt,
          (
            (fits first_diagram _ _ refl (Contains-same Vertex), (fits first_diagram _ _ refl (Contains-same Vertex), tt)),
            (
              (fits first_diagram _ _ refl (Contains-same Vertex), (fits first_diagram _ _ refl (Contains-same Vertex), tt)),
              (
                (fits first_diagram _ _ refl (Contains-same Vertex), (fits first_diagram _ _ refl (Contains-same Vertex), tt)),
                tt,
              ),
            ),
          ),
        ),
      ),
    ),
  );
}

pub second-whole : IsWhole second_diagram
second-whole = record {
  full = refl;
  facets = All-from_recursion (λ c. AllZip (FitsFacet second_diagram) (facets_of c.poly) c.covers) second_diagram.points (
    (fits second_diagram _ _ refl (Contains-same Segment), (fits second_diagram _ _ refl (Contains-same Segment), (fits second_diagram _ _ refl against, tt))),
    (
      tt,
      (
        tt,
        (
          tt,
          (
            (fits second_diagram _ _ refl (Contains-same Vertex), (fits second_diagram _ _ refl (Contains-same Vertex), tt)),
            (
              (fits second_diagram _ _ refl (Contains-same Vertex), (fits second_diagram _ _ refl (Contains-same Vertex), tt)),
              (
                (fits second_diagram _ _ refl (Contains-same Vertex), (fits second_diagram _ _ refl (Contains-same Vertex), tt)),
                tt,
              ),
            ),
          ),
        ),
      ),
    ),
  );
}
