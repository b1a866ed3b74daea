-- The faces of a solid cell among faces by key: their shapes, and the orientation of each.
use Rattle.std.proofs.Common.{◌≡◌, ◌≢◌, ℕ, ◌<◌, true, ◌==◌, nat_lt, List, [], length, get_or, Some, sym, ap, ◌∙◌, arith}
use Rattle.std.specs.Prelude.{find, option_and_then, AllPairs}
use Rattle.std.specs.List.{list_any, list_all, slice_get, AllByRecursion}
use Rattle.std.specs.Cmp.Lexicographic.{same_text}
use Rattle.std.proofs.lemmas.Bool.{and_parts, eqb-true, ltb-true}
use Rattle.std.proofs.lemmas.List.{length-map, get_or_default}
use Rattle.std.proofs.lemmas.List.Folds.{find_at}
use Rattle.mesh_defs.specs.declared.Poly.{Poly}
use Rattle.mesh_defs.specs.declared.Poly.TheVariants.{Vertex}
use Rattle.plain_lists.specs.Lists.{picked, sorted, same_list}
use Rattle.plain_lists.proofs.Each.{all_weaker, all_at, each_passes}
use Rattle.plain_lists.proofs.Finding.{find-has, find-passes}
use Rattle.mesh_defs.specs.Tables.{Facet, dim_of, corner_count, facets_of, facet_at}
use Rattle.mesh_defs.specs.Orientation.{relative}
use Rattle.mesh_defs.specs.Mesh.{Cell}
use Rattle.mesh_defs.specs.Points.{Sight, point_on, shows}
use Rattle.mesh_defs.specs.Diagram.{place_in}
use Rattle.mesh_defs.proofs.RightMeshes.{are_corners}
use Rattle.rank_laws.proofs.Shapes.{is_face_of, facets-are_faces}
use Rattle.rank_laws.proofs.Found.{poly-told, length-sorted}
use Rattle.rank_laws.specs.diagram_laws.Strata.{turn_among}
use Rattle.rank_chart_laws.specs.rank_diagram_laws.Parts.{IsFacePart}
use Rattle.rank_cones.specs.Placed.{IsOn}

-- a facet of a solid: a polygon on corners of it
pub record IsFace (p : Poly) (f : Facet) : Type 0 where
  pub flat : dim_of f.poly ≡ 2
  pub corners : length f.corners ≡ corner_count f.poly
  pub within : AllByRecursion (λ k. k < corner_count p) f.corners

pub face-at : (p : Poly) (f : ℕ) → dim_of p ≡ 3 → f < length (facets_of p) → IsFace p (facet_at p f)
face-at p f solid low =
    let facet = facet_at p f in
    let all = all_at (λ g. is_face_of p g ≡ true) (facets_of p) f (record { poly = Vertex; corners = [] }) (each_passes (is_face_of p) (facets_of p) (facets-are_faces p solid)) low in
    let both = and_parts _ _ all in
    let sizes = and_parts (length facet.corners == corner_count facet.poly) (dim_of facet.poly == 2) both.0 in
    let corners = and_parts (are_corners (corner_count p) facet.corners) _ both.1 in
    record {
      flat = eqb-true (dim_of facet.poly) 2 sizes.1;
      corners = eqb-true (length facet.corners) (corner_count facet.poly) sizes.0;
      within = all_weaker (λ k. nat_lt k (corner_count p) ≡ true) (λ k. k < corner_count p) (λ k h. ltb-true k (corner_count p) h) facet.corners (each_passes (λ k. nat_lt k (corner_count p)) facet.corners (and_parts (list_all (λ k. nat_lt k (corner_count p)) facet.corners) _ corners.0).0);
    }

module _ (faces : List Sight) (all : AllByRecursion IsFacePart faces) (cell : Cell) (on : IsOn 3 faces cell) (f : ℕ) (h : f < length (facets_of cell.poly)) where
  abbrev facet : Facet
  facet = facet_at cell.poly f

  abbrev list : List ℕ
  list = picked cell.vertices (facet_at cell.poly f).corners

  pub facet-shown : list_any (shows (point_on (facet_at cell.poly f).poly (picked cell.vertices (facet_at cell.poly f).corners))) faces ≡ true
  facet-shown = all_at (λ (g : Facet). list_any (shows (point_on g.poly (picked cell.vertices g.corners))) faces ≡ true) (facets_of cell.poly) f (record { poly = Vertex; corners = [] }) on.facets h

  -- as many vertices as corners
  pub facet-long : length (picked cell.vertices (facet_at cell.poly f).corners) ≡ corner_count (facet_at cell.poly f).poly
  facet-long = length-map (facet_at cell.poly f).corners (λ k. get_or cell.vertices k 0) ∙ (face-at cell.poly f on.dim_is h).corners

  -- the corners are corners of the cell
  pub facet-within : AllByRecursion (λ k. k < length cell.vertices) (facet_at cell.poly f).corners
  facet-within = all_weaker (λ k. k < corner_count cell.poly) (λ k. k < length cell.vertices) (λ k low. omega (arith, low, on.list.long)) (facet_at cell.poly f).corners (face-at cell.poly f on.dim_is h).within

  -- the face that stands there has as many different vertices
  module _ (own : Sight) (there : slice_get faces (place_in faces (point_on (facet_at cell.poly f).poly (picked cell.vertices (facet_at cell.poly f).corners))) ≡ Some own) where
    own-found : find (shows (point_on (facet_at cell.poly f).poly (picked cell.vertices (facet_at cell.poly f).corners))) faces ≡ Some own
    own-found = find_at (shows (point_on (facet_at cell.poly f).poly (picked cell.vertices (facet_at cell.poly f).corners))) faces ∙ there

    own-part : IsFacePart own
    own-part = find-has IsFacePart (shows (point_on (facet_at cell.poly f).poly (picked cell.vertices (facet_at cell.poly f).corners))) faces own all own-found

    pub own-long : length own.arrangement ≡ corner_count (facet_at cell.poly f).poly
    own-long =
        let both = and_parts (dim_of (facet_at cell.poly f).poly == dim_of own.poly) (same_list (sorted (picked cell.vertices (facet_at cell.poly f).corners)) (sorted own.arrangement)) (find-passes (shows (point_on (facet_at cell.poly f).poly (picked cell.vertices (facet_at cell.poly f).corners))) faces own own-found) in
        sym (length-sorted own.arrangement) ∙ ap length (sym (same_text (sorted (picked cell.vertices (facet_at cell.poly f).corners)) (sorted own.arrangement) (sym both.1))) ∙ length-sorted (picked cell.vertices (facet_at cell.poly f).corners) ∙ facet-long

    -- so it is of the same polytope
    pub own-poly : own.poly ≡ (facet_at cell.poly f).poly
    own-poly =
        let both = and_parts (dim_of (facet_at cell.poly f).poly == dim_of own.poly) (same_list (sorted (picked cell.vertices (facet_at cell.poly f).corners)) (sorted own.arrangement)) (find-passes (shows (point_on (facet_at cell.poly f).poly (picked cell.vertices (facet_at cell.poly f).corners))) faces own own-found) in
        poly-told own.poly (facet_at cell.poly f).poly (sym (eqb-true (dim_of (facet_at cell.poly f).poly) (dim_of own.poly) both.0)) (sym own-part.list.long ∙ own-long)

    pub own-differ : AllPairs (λ x y. x ≢ y) own.arrangement
    own-differ i j d low' high same = own-part.list.different i j low' high (get_or_default own.arrangement i 0 d (omega arith) ∙ same ∙ get_or_default own.arrangement j d 0 high)

    -- so the orientation is the one from it
    pub own-turn : turn_among faces (facet_at cell.poly f).poly (picked cell.vertices (facet_at cell.poly f).corners) ≡ relative (facet_at cell.poly f).poly own.arrangement (picked cell.vertices (facet_at cell.poly f).corners)
    unfolding turn_among
    own-turn = ap (option_and_then (λ (t : Sight). relative (facet_at cell.poly f).poly t.arrangement (picked cell.vertices (facet_at cell.poly f).corners))) own-found
