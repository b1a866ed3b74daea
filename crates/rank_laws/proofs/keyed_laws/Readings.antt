-- Points by keys, read off a diagram whose numbers have keys.
use Rattle.std.proofs.Common.{◌≡◌, ℕ, ◌<◌, true, List, [], map, length, get_or, slice_index, pos, Some, sym, ap, ◌∙◌, ⊎_elim}
use Rattle.std.specs.Prelude.{find, option_map, unwrap_or}
use Rattle.std.specs.List.{list_any, AllByRecursion}
use Rattle.std.proofs.lemmas.List.{get_or-map}
use Rattle.mesh_defs.specs.declared.Poly.TheVariants.{Vertex}
use Rattle.mesh_defs.specs.declared.ConeEntry.{ConeEntry}
use Rattle.plain_lists.specs.Lists.{below, picked}
use Rattle.plain_lists.proofs.Each.{all_weaker, all_at}
use Rattle.plain_lists.proofs.Filters.{map_map_same}
use Rattle.plain_lists.proofs.Below.{map-below-length}
use Rattle.plain_lists.proofs.Finding.{find-cases, find-has, find-passes, position-within}
use Rattle.mesh_defs.specs.Tables.{Facet, facets_of}
use Rattle.mesh_defs.specs.Mesh.{Mesh, Cell}
use Rattle.mesh_defs.specs.Points.{Point, Sight, point_on, shows, vertex_sight, first_sight, key}
use Rattle.mesh_defs.specs.Diagram.{chart, place_in, seen_under, entry, cone, Covering, diagram, IsAccepted}
use Rattle.mesh_defs.specs.RightMesh.{IsSoundMesh, CellsDiffer, AreCells}
use Rattle.mesh_laws.proofs.Firsts.{shows-true}
use Rattle.plex_defs.specs.Closure.{point_in}
use Rattle.rank_laws.proofs.Found.{at-found}
use Rattle.rank_laws.proofs.ChartsClosed.{chart-closed}
use Rattle.rank_laws.specs.orient_laws.Named.{keys_of}
use Rattle.rank_laws.specs.keyed_laws.Keyed.{keyed_entry, keyed_point, keyed_at}
use Rattle.rank_laws.proofs.keyed_laws.Strata.{IsFirst, chart-first}

module _ (m : Mesh) (cells : List (ℕ × Cell)) where
  -- the key at the place of a point that the chart shows
  key-at : (q : Point) → list_any (shows q) (chart m cells) ≡ true → slice_index (keys_of (chart m cells)) (place_in (chart m cells) q) ≡ unwrap_or (key m q) 0
  unfolding key
  key-at q h =
      let (t, found) : (t : Sight) × (find (shows q) (chart m cells) ≡ Some t) = ⊎_elim (λ w. w) (λ none. absurd (cc (sym h ∙ none))) (find-cases (shows q) (chart m cells)) in
      let first = find-has (IsFirst m) (shows q) (chart m cells) t (chart-first m cells) found in
      get_or-map (λ (s : Sight). s.key) (chart m cells) (place_in (chart m cells) q) (vertex_sight 0) 0 (position-within (shows q) (chart m cells) h)
      ∙ (ap (λ (s : Sight). s.key) (at-found (shows q) (chart m cells) t (vertex_sight 0) found)
      ∙ sym (ap (λ o. unwrap_or (option_map (λ (s : Sight). s.key) o) 0) (ap (first_sight m) (shows-true q t (find-passes (shows q) (chart m cells) t found)) ∙ first)))

  drawn : Sight → Covering
  drawn s = record { poly = s.poly; covers = cone m (place_in (chart m cells)) s }

  Shown : Sight → Type 0
  Shown s = AllByRecursion (λ (f : Facet). list_any (shows (point_on f.poly (picked s.arrangement f.corners))) (chart m cells) ≡ true) (facets_of s.poly)

  -- a point as the diagram has it, by keys
  drawn-keyed : (s : Sight) → Shown s → map (λ (e : ConeEntry). record { key = slice_index (keys_of (chart m cells)) e.point; o = e.o }) (drawn s).covers ≡ (keyed_point m s).covers
  unfolding Shown drawn cone entry keyed_point keyed_entry
  drawn-keyed s shown = map_map_same (λ (e : ConeEntry). record { key = slice_index (keys_of (chart m cells)) e.point; o = e.o }) (entry m (place_in (chart m cells)) s.arrangement) (keyed_entry m s.arrangement) (facets_of s.poly)
      (all_weaker (λ (f : Facet). list_any (shows (point_on f.poly (picked s.arrangement f.corners))) (chart m cells) ≡ true)
      (λ (f : Facet). record { key = slice_index (keys_of (chart m cells)) (entry m (place_in (chart m cells)) s.arrangement f).point; o = (entry m (place_in (chart m cells)) s.arrangement f).o } ≡ keyed_entry m s.arrangement f)
      (λ f there. ap (λ (k : ℕ). record { key = k; o = unwrap_or (seen_under m f.poly (picked s.arrangement f.corners)) (pos 0) }) (key-at (point_on f.poly (picked s.arrangement f.corners)) there))
      (facets_of s.poly) shown)

  sight_at : ℕ → Sight
  sight_at p = get_or (chart m cells) p (vertex_sight 0)

  point-at : (p : ℕ) → p < length (chart m cells) → point_in (diagram m cells) p ≡ drawn (sight_at p)
  unfolding diagram drawn sight_at
  point-at p low = get_or-map drawn (chart m cells) p (vertex_sight 0) (record { poly = Vertex; covers = [] }) low

  keyed-at : (p : ℕ) → p < length (chart m cells) → Shown (sight_at p) → keyed_at (diagram m cells) (keys_of (chart m cells)) p ≡ keyed_point m (sight_at p)
  unfolding keyed_at keyed_point drawn sight_at
  keyed-at p low shown = λ i. record {
    poly = (point-at p low i).poly;
    key = get_or-map (λ (s : Sight). s.key) (chart m cells) p (vertex_sight 0) 0 low i;
    covers = (ap (λ (c : Covering). map (λ (e : ConeEntry). record { key = slice_index (keys_of (chart m cells)) e.point; o = e.o }) c.covers) (point-at p low) ∙ drawn-keyed (sight_at p) shown) i;
  }

  -- all points of a chart, read off its diagram and keys
  pub points-read : IsSoundMesh m → IsAccepted m → CellsDiffer m → AreCells m cells → map (keyed_at (diagram m cells) (keys_of (chart m cells))) (below (length (chart m cells))) ≡ map (keyed_point m) (chart m cells)
  unfolding Shown sight_at
  points-read sound accepted differ are = map-below-length (keyed_at (diagram m cells) (keys_of (chart m cells))) (keyed_point m) (chart m cells) (vertex_sight 0)
      (λ p low. keyed-at p low (all_at Shown (chart m cells) p (vertex_sight 0) (chart-closed m sound accepted differ cells are) low))
