-- The lines of points: of owned points under their numbers, and of held points under their local numbers.
use Rattle.std.proofs.Common.{◌≡◌, ℕ, ◌<◌, List, [], ◌++◌, map, length, get_or, refl, sym, ap, ◌∙◌}
use Rattle.std.specs.Prelude.{flat_map, codes}
use Rattle.std.specs.List.{enumerate_from}
use Rattle.std.proofs.lemmas.List.Folds.{flat_map-map}
use Rattle.plain_lists.specs.Lists.{below}
use Rattle.plain_lists.proofs.Each.{all_from}
use Rattle.plain_lists.proofs.Filters.{map_map_same}
use Rattle.mesh_defs.specs.Mesh.{Mesh}
use Rattle.mesh_defs.specs.Points.{Sight, point_of}
use Rattle.mesh_defs.specs.Diagram.{chart, cone, place_in, IsAccepted}
use Rattle.mesh_defs.specs.RightMesh.{IsRightMesh}
use Rattle.input_defs.specs.text_defs.Text.{Rank, number_of, tag, line}
use Rattle.rank_defs.specs.Ranks.{IsAssignment, assigned, held_cells, held, owner, owned}
use Rattle.rank_defs.specs.Home.{point_number}
use Rattle.rank_defs.specs.Spread.{charts, point_forest, plain_dist}
use Rattle.input_defs.specs.Plans.{DofsLine}
use Rattle.headline_defs.specs.Lines.{also, owned_line, held_line}
use Rattle.headline_defs.specs.StepText.{ranks_with, owned_text, held_text}
use Rattle.walk_defs.specs.step_defs.Words.{FitsWords}
use Rattle.walk_defs.specs.step_defs.Numbers.{held_numbers}
use Rattle.walk_defs.specs.step_defs.Points.{renamed, covers_of, tail_of}
use Rattle.walk_defs.specs.step_defs.Steps.{ranks_of, numbers_on, place_at_owner, point_line, plain_points, local_line, plain_locals}
use Rattle.headline_laws.proofs.step_laws.Chosen.{below-enumerated, texts-enumerated}
use Rattle.headline_laws.proofs.step_laws.Local.{no_sight, counts_of, points-many, name-is, owner-is, covers-is}
use Rattle.headline_laws.proofs.step_laws.Tails.{tail-is}
use Rattle.headline_laws.proofs.step_laws.Numbers.{number-is, cone-is, numbered-texts}
use Rattle.headline_laws.proofs.step_laws.Roots.{place-is}
use Rattle.headline_laws.proofs.step_laws.Owned.{ranks-same, local_of, chart_of, each-rank, own-texts}

module _ (m : Mesh) (dofs : List DofsLine) (a : List ℕ) (n k : ℕ) (bases : List ℕ) (right : IsRightMesh m) (accepted : IsAccepted m) (fits : FitsWords m) (parts : IsAssignment m n a) where
  abbrev all : List Rank
  all = ranks_with m n a k bases

  abbrev numbers : List (List ℕ)
  numbers = held_numbers m a n k bases

  abbrev at : ℕ → ℕ → Sight
  at r p = get_or (chart_of m dofs a n k r) p no_sight

  -- ---- owned points

  -- the line of an owned point, by its number
  line_of : ℕ × Sight → List ℕ
  line_of p = owned_line m dofs p.0 (cone m (number_of all) p.1) p.1

  point-line-is : (r : ℕ) → r < n → (p : ℕ) → p < length (chart_of m dofs a n k r)
      → point_line (length m.fields) (numbers_on numbers r) (local_of m dofs a n k r) p ≡ line_of (point_number m a bases (point_of (at r p)), at r p)
  unfolding point_line line_of owned_line
  point-line-is r low p lt =
      let l = local_of m dofs a n k r in
      let cells = held_cells m a r k in
      let cones : renamed (numbers_on numbers r) (covers_of l p) ≡ cone m (number_of all) (at r p) = ap (renamed (numbers_on numbers r)) (covers-is m dofs a cells p lt) ∙ cone-is m a n k bases right accepted parts r low p lt in
      (λ i. line (codes "P" ++ also (number-is m a n k bases r low p lt i) ++ codes " " ++ name-is m dofs a cells p lt i ++ tail_of (length m.fields) l (cones i) p))
      ∙ ap (λ t. line (codes "P" ++ also (point_number m a bases (point_of (at r p))) ++ codes " " ++ tag m.dim (at r p).poly (at r p).key ++ t)) (tail-is m dofs a cells right.sound.dim fits (cone m (number_of all) (at r p)) p lt)

  pub points-are : flat_map (plain_points (length m.fields) numbers) (ranks_of (plain_dist m (counts_of dofs) a n k)) ≡ owned_text m dofs all
  unfolding plain_points owned_text line_of
  points-are =
      each-rank m dofs a n k (plain_points (length m.fields) numbers)
      ∙ ranks-same n (λ r. plain_points (length m.fields) numbers (r, local_of m dofs a n k r)) (λ r. flat_map (λ s. line_of (point_number m a bases (point_of s), s)) (owned m a r))
      (λ r low. own-texts m dofs a n k r (point_line (length m.fields) (numbers_on numbers r) (local_of m dofs a n k r)) (λ s. line_of (point_number m a bases (point_of s), s)) (point-line-is r low))
      ∙ sym (numbered-texts m a n k bases right line_of)

  -- ---- held points

  -- the charts of all ranks
  charts-are : map (λ (rank : Rank). rank.held) all ≡ charts m a n k
  unfolding ranks_with charts
  charts-are = map_map_same (λ (rank : Rank). rank.held) _ (λ r. held m a r k) (below n) (all_from _ (λ r. refl) (below n))

  -- the line of a held point, by its rank and its place
  held_line_of : ℕ → ℕ × Sight → List ℕ
  held_line_of r x =
      let o = owner m a (point_of x.1) in
      held_line m dofs r x.0 o (place_in (get_or (map (λ (rank : Rank). rank.held) all) o []) (point_of x.1)) (cone m (place_in (held m a r k)) x.1) x.1

  local-line-is : (r : ℕ) → r < n → (p : ℕ) → p < length (chart_of m dofs a n k r)
      → local_line (length m.fields) (point_forest m a (charts m a n k)) (r, local_of m dofs a n k r) p ≡ held_line_of r (p, at r p)
  unfolding local_line held_line_of held_line held
  local-line-is r low p lt =
      let l = local_of m dofs a n k r in
      let cells = held_cells m a r k in
      let o = owner m a (point_of (at r p)) in
      let root : place_at_owner (point_forest m a (charts m a n k)) r p ≡ place_in (get_or (map (λ (rank : Rank). rank.held) all) o []) (point_of (at r p))
      = place-is m right.sound.dim a n k r low p lt ∙ ap (λ c. place_in (get_or c o []) (point_of (at r p))) (sym charts-are) in
      (λ i. line (codes "L" ++ also r ++ also p ++ codes " " ++ name-is m dofs a cells p lt i ++ also (owner-is m dofs a cells p lt i) ++ also (root i) ++ tail_of (length m.fields) l (covers-is m dofs a cells p lt i) p))
      ∙ ap (λ t. line (codes "L" ++ also r ++ also p ++ codes " " ++ tag m.dim (at r p).poly (at r p).key ++ also o ++ also (place_in (get_or (map (λ (rank : Rank). rank.held) all) o []) (point_of (at r p))) ++ t))
      (tail-is m dofs a cells right.sound.dim fits (cone m (place_in (chart m cells)) (at r p)) p lt)

  -- the lines of a rank
  rank_lines : ℕ × Rank → List ℕ
  rank_lines x =
      flat_map (λ (y : ℕ × Sight). let o = owner m a (point_of y.1) in
      held_line m dofs x.0 y.0 o (place_in (get_or (map (λ (rank : Rank). rank.held) all) o []) (point_of y.1)) (cone m (place_in x.1.held) y.1) y.1) (enumerate_from 0 x.1.held)

  -- rank r as the text has it
  rank_at : ℕ → Rank
  rank_at r = record { cells = assigned m a r; held = held m a r k; owned = owned m a r; base = get_or bases r 0 }

  pub locals-are : flat_map (plain_locals (length m.fields) (point_forest m a (charts m a n k))) (ranks_of (plain_dist m (counts_of dofs) a n k)) ≡ held_text m dofs a all
  unfolding plain_locals held_text held_line_of rank_lines rank_at ranks_with held
  locals-are =
      each-rank m dofs a n k (plain_locals (length m.fields) (point_forest m a (charts m a n k)))
      ∙ ranks-same n (λ r. plain_locals (length m.fields) (point_forest m a (charts m a n k)) (r, local_of m dofs a n k r)) (λ r. rank_lines (r, rank_at r))
      (λ r low. ap (λ j. flat_map (local_line (length m.fields) (point_forest m a (charts m a n k)) (r, local_of m dofs a n k r)) (below j)) (points-many m dofs a (held_cells m a r k))
      ∙ texts-enumerated (chart_of m dofs a n k r) no_sight (local_line (length m.fields) (point_forest m a (charts m a n k)) (r, local_of m dofs a n k r)) (held_line_of r) (local-line-is r low))
      ∙ sym (flat_map-map rank_lines (λ r. (r, rank_at r)) (below n))
      ∙ sym (ap (flat_map rank_lines) (below-enumerated rank_at n))
