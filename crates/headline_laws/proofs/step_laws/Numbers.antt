-- The numbers of the points that a rank holds, and cones by these numbers.
use Rattle.std.proofs.Common.{◌≡◌, ℕ, ◌<◌, ◌⊎◌, true, false, ◌&&◌, List, [], map, length, get_or, slice_index, Contains, Some, sym, ap, ◌∙◌, inl, inr}
use Rattle.std.specs.Prelude.{flat_map, find}
use Rattle.std.specs.List.{AllByRecursion, enumerate_from, list_any}
use Rattle.std.proofs.lemmas.Bool.{and_parts, both_ways}
use Rattle.std.proofs.lemmas.List.{get_or-map}
use Rattle.std.proofs.lemmas.List.Folds.{flat_map-map}
use Rattle.std.proofs.lemmas.List.Elements.{recursion_from_All, All-contains_itself}
use Rattle.plain_lists.specs.Lists.{below, picked}
use Rattle.plain_lists.proofs.Each.{all_from, all_at, all_weaker}
use Rattle.plain_lists.proofs.Filters.{map_map_same, flat_map_same}
use Rattle.plain_lists.proofs.Finding.{any_filter, any_weaker, find-cases, find-passes, position-within}
use Rattle.plain_lists.proofs.Below.{get_or-map-below}
use Rattle.mesh_defs.specs.declared.ConeEntry.{ConeEntry}
use Rattle.mesh_defs.specs.Tables.{Facet, facets_of}
use Rattle.mesh_defs.specs.Mesh.{Mesh, Cell}
use Rattle.mesh_defs.specs.Points.{Point, Sight, point_on, point_of, shows, contains}
use Rattle.mesh_defs.specs.Diagram.{strata, chart, place_in, entry, cone, IsAccepted}
use Rattle.mesh_defs.specs.RightMesh.{IsRightMesh}
use Rattle.mesh_laws.proofs.Containing.{chart-all}
use Rattle.mesh_laws.proofs.Firsts.{shows-true}
use Rattle.input_defs.specs.text_defs.Text.{Rank, number_of}
use Rattle.rank_defs.specs.Ranks.{IsAssignment, held_cells, held, owned}
use Rattle.rank_defs.specs.Home.{point_number}
use Rattle.rank_laws.proofs.Found.{at-found}
use Rattle.rank_laws.proofs.ChartsClosed.{held-cells, chart-closed}
use Rattle.headline_defs.specs.StepText.{ranks_with, numbered}
use Rattle.headline_laws.proofs.Cones.{chart-number, printed-numbers}
use Rattle.walk_defs.specs.step_defs.Numbers.{held_numbers}
use Rattle.walk_defs.specs.step_defs.Points.{renamed}
use Rattle.walk_defs.specs.step_defs.Steps.{numbers_on}
use Rattle.headline_laws.proofs.step_laws.Chosen.{enumerated-elements, map-nested, texts-nested}
use Rattle.headline_laws.proofs.step_laws.Local.{no_sight}

-- ---- places

-- the point that stands at its place in a list that shows it
pub at-place : (points : List Sight) (q : Point) → list_any (shows q) points ≡ true → q ≡ point_of (get_or points (place_in points q) no_sight)
at-place points q h = go (find-cases (shows q) points)
  where
    go : ((s : Sight) × (find (shows q) points ≡ Some s)) ⊎ (list_any (shows q) points ≡ false) → q ≡ point_of (get_or points (place_in points q) no_sight)
    go (inl found) = shows-true q found.0 (find-passes (shows q) points found.0 found.1) ∙ ap point_of (sym (at-found (shows q) points found.0 no_sight found.1))
    go (inr none) = absurd (both_ways _ none h)

-- a point of a chart is a point of the mesh
pub chart-shown : (m : Mesh) (cells : List (ℕ × Cell)) (q : Point) → list_any (shows q) (chart m cells) ≡ true → list_any (shows q) (strata m) ≡ true
unfolding chart
chart-shown m cells q h =
    any_weaker (λ s. list_any (λ (c : ℕ × Cell). contains c.1 (point_of s)) cells && shows q s) (shows q) (λ s e. (and_parts (list_any (λ (c : ℕ × Cell). contains c.1 (point_of s)) cells) (shows q s) e).1) (strata m)
    (sym (any_filter (shows q) (λ s. list_any (λ (c : ℕ × Cell). contains c.1 (point_of s)) cells) (strata m)) ∙ h)

module _ (m : Mesh) (a : List ℕ) (n k : ℕ) (bases : List ℕ) where
  -- the numbers that a rank has
  pub numbers-are : (r : ℕ) → r < n → numbers_on (held_numbers m a n k bases) r ≡ map (λ s. point_number m a bases (point_of s)) (chart m (held_cells m a r k))
  unfolding held_numbers held
  numbers-are r low = get_or-map-below (λ r. map (λ (s : Sight). point_number m a bases (point_of s)) (held m a r k)) n r [] low

  pub number-is : (r : ℕ) → r < n → (p : ℕ) → p < length (chart m (held_cells m a r k)) → slice_index (numbers_on (held_numbers m a n k bases) r) p ≡ point_number m a bases (point_of (get_or (chart m (held_cells m a r k)) p no_sight))
  number-is r low p lt = ap (λ l. slice_index l p) (numbers-are r low) ∙ get_or-map (λ s. point_number m a bases (point_of s)) (chart m (held_cells m a r k)) p no_sight 0 lt

  module _ (right : IsRightMesh m) (accepted : IsAccepted m) (parts : IsAssignment m n a) where
    -- a held point by its number
    pub named-is : (r : ℕ) → r < n → (q : Point) → list_any (shows q) (chart m (held_cells m a r k)) ≡ true → slice_index (numbers_on (held_numbers m a n k bases) r) (place_in (chart m (held_cells m a r k)) q) ≡ number_of (ranks_with m n a k bases) q
    named-is r low q h =
        let points = chart m (held_cells m a r k) in
        number-is r low (place_in points q) (position-within (shows q) points h)
        ∙ ap (point_number m a bases) (sym (at-place points q h))
        ∙ sym (chart-number m n a k bases q parts (ap (list_any (shows q)) (chart-all m right.sound.used) ∙ chart-shown m (held_cells m a r k) q h))

    -- the cone of a held point by numbers
    pub cone-is : (r : ℕ) → r < n → (p : ℕ) → p < length (chart m (held_cells m a r k))
        → renamed (numbers_on (held_numbers m a n k bases) r) (cone m (place_in (chart m (held_cells m a r k))) (get_or (chart m (held_cells m a r k)) p no_sight)) ≡ cone m (number_of (ranks_with m n a k bases)) (get_or (chart m (held_cells m a r k)) p no_sight)
    unfolding cone entry
    cone-is r low p lt =
        let points = chart m (held_cells m a r k) in
        let s = get_or points p no_sight in
        let numbers = numbers_on (held_numbers m a n k bases) r in
        map_map_same (λ (e : ConeEntry). record { point = slice_index numbers e.point; o = e.o }) (entry m (place_in points) s.arrangement) (entry m (number_of (ranks_with m n a k bases)) s.arrangement) (facets_of s.poly)
        (all_weaker (λ (f : Facet). list_any (shows (point_on f.poly (picked s.arrangement f.corners))) points ≡ true) _
        (λ f shown. (λ i. record { point = named-is r low (point_on f.poly (picked s.arrangement f.corners)) shown i; o = (entry m (place_in points) s.arrangement f).o }))
        (facets_of s.poly)
        (all_at (λ (t : Sight). AllByRecursion (λ (f : Facet). list_any (shows (point_on f.poly (picked t.arrangement f.corners))) points ≡ true) (facets_of t.poly)) points p no_sight (chart-closed m right.sound accepted right.differ (held_cells m a r k) (held-cells m a r k)) lt))

  -- ---- owned points

  pub numbered-points : map (λ (x : ℕ × Sight). x.1) (numbered (ranks_with m n a k bases)) ≡ flat_map (owned m a) (below n)
  unfolding ranks_with
  numbered-points =
      map-nested (λ (x : ℕ × Sight). x.1) (λ (r : Rank). enumerate_from r.base r.owned) (ranks_with m n a k bases)
      ∙ flat_map-map (λ (r : Rank). map (λ (x : ℕ × Sight). x.1) (enumerate_from r.base r.owned)) _ (below n)
      ∙ flat_map_same _ (owned m a) (below n) (all_from _ (λ r. enumerated-elements (get_or bases r 0) (owned m a r)) (below n))

  -- what goes over the numbered points goes over the owned points of each rank, under their numbers
  pub numbered-texts : {Y : Type 0} → IsRightMesh m → (f : ℕ × Sight → List Y) → flat_map f (numbered (ranks_with m n a k bases)) ≡ flat_map (λ r. flat_map (λ s. f (point_number m a bases (point_of s), s)) (owned m a r)) (below n)
  numbered-texts right f =
      let all = numbered (ranks_with m n a k bases) in
      flat_map_same f (λ (x : ℕ × Sight). f (point_number m a bases (point_of x.1), x.1)) all
      (all_weaker (Contains all) (λ x. f x ≡ f (point_number m a bases (point_of x.1), x.1)) (λ x c. ap (λ j. f (j, x.1)) (printed-numbers m n a k bases right.sound.dim x c)) all (recursion_from_All (Contains all) all (All-contains_itself all)))
      ∙ sym (flat_map-map (λ s. f (point_number m a bases (point_of s), s)) (λ (x : ℕ × Sight). x.1) all)
      ∙ ap (flat_map (λ s. f (point_number m a bases (point_of s), s))) numbered-points
      ∙ texts-nested (λ s. f (point_number m a bases (point_of s), s)) (owned m a) (below n)
