-- Diagrams that lists arrange: a test that computes, what it says, and the rows.
use Rattle.std.proofs.Common.{◌≡◌, ℕ, ◌<◌, Bool, true, false, not, ◌&&◌, ◌==◌, List, [], ◌∷◌, map, length, get_or, pos, refl, sym}
use Rattle.std.specs.List.{list_all}
use Rattle.std.specs.Cmp.Lexicographic.{same_text}
use Rattle.std.proofs.lemmas.Bool.{and_parts, eqb-true, eq-eqb, both_ways, not-true}
use Rattle.mesh_defs.specs.declared.ConeEntry.{ConeEntry}
use Rattle.plain_lists.specs.Lists.{below, same_list, sorted, picked}
use Rattle.plain_lists.proofs.Below.{passes-below}
use Rattle.mesh_defs.specs.Tables.{corner_count, facets_of, facet_at}
use Rattle.mesh_defs.specs.Orientation.{rotations, reflections, orientations, corners_under, act, relative}
use Rattle.mesh_defs.specs.Mesh.{Mesh, placed_cells}
use Rattle.mesh_defs.specs.Points.{sights_of, first_sight, key, arrangement, contains}
use Rattle.mesh_defs.specs.Diagram.{Diagram, stratum, strata, chart, seen_under, entry, cone, diagram}
use Rattle.plex_defs.specs.Closure.{point_in, list_of, IsArranged, arrangements}
use Rattle.plex_defs.proofs.Meshes.{two_triangles, two_tetrahedra, two_hexahedra, twisted_hexahedra}

-- entry k of a cone
abbrev entry_of : Diagram → ℕ → ℕ → ConeEntry
entry_of x p k = get_or (point_in x p).covers k (record { point = 0; o = pos 0 })

-- no vertex of the list at place j stands before it
abbrev is_new : List ℕ → ℕ → Bool
is_new list j = list_all (λ i. not (get_or list i 0 == get_or list j 0)) (below j)

-- entry k of the cone of a point carries its list onto the facet
abbrev carries : Diagram → List (List ℕ) → ℕ → ℕ → Bool
carries x lists p k = same_list (act (point_in x (entry_of x p k).point).poly (entry_of x p k).o (list_of lists (entry_of x p k).point)) (picked (list_of lists p) (facet_at (point_in x p).poly k).corners)

abbrev arranged_at : Diagram → List (List ℕ) → ℕ → Bool
arranged_at x lists p =
    ((length (list_of lists p) == corner_count (point_in x p).poly) && list_all (is_new (list_of lists p)) (below (length (list_of lists p))))
    && ((length (point_in x p).covers == length (facets_of (point_in x p).poly)) && list_all (carries x lists p) (below (length (point_in x p).covers)))

-- the lists arrange the diagram, as a test
abbrev pub is_arranged : Diagram → List (List ℕ) → Bool
is_arranged x lists = (length lists == length x.points) && list_all (arranged_at x lists) (below (length x.points))

-- what passes the test is arranged
pub arranged-by_test : (x : Diagram) (lists : List (List ℕ)) → is_arranged x lists ≡ true → IsArranged x lists
arranged-by_test x lists h = record {
  count = eqb-true (length lists) (length x.points) both.0;
  corners = λ p low. eqb-true _ _ (parts p low).0.0;
  different = λ p i j low before after same. both_ways _ (not-true _ (passes-below (λ k. not (get_or (list_of lists p) k 0 == get_or (list_of lists p) j 0)) j i (passes-below (is_new (list_of lists p)) (length (list_of lists p)) j (parts p low).0.1 after) before)) (eq-eqb _ _ same);
  cones = λ p low. eqb-true _ _ (parts p low).1.0;
  entries = λ p k low within. same_text _ _ (sym (passes-below (carries x lists p) (length (point_in x p).covers) k (parts p low).1.1 within));
}
  where
    both : ((length lists == length x.points) ≡ true) × (list_all (arranged_at x lists) (below (length x.points)) ≡ true)
    both = and_parts (length lists == length x.points) (list_all (arranged_at x lists) (below (length x.points))) h

    parts : (p : ℕ) → p < length x.points
        → (((length (list_of lists p) == corner_count (point_in x p).poly) ≡ true) × (list_all (is_new (list_of lists p)) (below (length (list_of lists p))) ≡ true))
        × (((length (point_in x p).covers == length (facets_of (point_in x p).poly)) ≡ true) × (list_all (carries x lists p) (below (length (point_in x p).covers)) ≡ true))
    parts p low = let here = and_parts _ _ (passes-below (arranged_at x lists) (length x.points) p both.1 low) in (and_parts _ _ here.0, and_parts _ _ here.1)

-- ---- rows

-- whether the arrangements of a mesh arrange its diagram
abbrev by_arrangements : Mesh → Bool
by_arrangements m = is_arranged (diagram m (placed_cells m)) (arrangements (chart m (placed_cells m)))

-- they do for triangles, tetrahedra and hexahedra, and not where a face is twisted
arranged_meshes : map by_arrangements (two_triangles ∷ two_tetrahedra ∷ two_hexahedra ∷ twisted_hexahedra ∷ []) ≡ true ∷ true ∷ true ∷ false ∷ []
unfolding sorted rotations reflections orientations corners_under act relative sights_of first_sight key arrangement contains stratum strata chart seen_under entry cone diagram
arranged_meshes = refl

two_hexahedra_arranged : IsArranged (diagram two_hexahedra (placed_cells two_hexahedra)) (arrangements (chart two_hexahedra (placed_cells two_hexahedra)))
unfolding sorted rotations reflections orientations corners_under act relative sights_of first_sight key arrangement contains stratum strata chart seen_under entry cone diagram
two_hexahedra_arranged = arranged-by_test (diagram two_hexahedra (placed_cells two_hexahedra)) (arrangements (chart two_hexahedra (placed_cells two_hexahedra))) refl
