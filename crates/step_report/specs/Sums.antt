-- Sums of what ranks own, point by point and rank by rank.
use Rattle.std.specs.Prelude.{◌≡◌, ℕ, ◌+◌, Bool, if◌then◌else◌, List, ◌++◌, length, take, drop, map, flat_map, count_by, fold, pos, ◌+ℤ◌, int_lt}
use Rattle.plain_lists.specs.Lists.{below}
use Rattle.mesh_defs.specs.declared.ConeEntry.{ConeEntry}
use Rattle.rank_defs.specs.Spread.{LocalMesh, PlainDist}
use Rattle.walk_defs.specs.step_defs.Words.{signed_of}
use Rattle.walk_defs.specs.step_defs.Points.{covers_of}
use Rattle.walk_defs.specs.step_defs.Steps.{own, words_in, coordinates_at}
use Rattle.report.specs.declared.report_lines.steps.Sums.{Sums}
use Rattle.step_report.specs.Conditions.{local_at}
use Rattle.step_report.specs.Counts.{owned_before, over_first}

abbrev pub back_of : ConeEntry → ℕ
back_of e = if int_lt e.o (pos 0) then 1 else 0

abbrev pub is_back : ConeEntry → Bool
is_back e = int_lt e.o (pos 0)

abbrev pub data_of : ℕ → LocalMesh → ℕ → List ℕ
data_of sections l p = words_in (take sections l.fields) p

abbrev pub dofs_of : ℕ → LocalMesh → ℕ → List ℕ
dofs_of sections l p = words_in (drop sections l.fields) p

-- a point more that its rank owns
pub record AddsPoint (l : LocalMesh) (sections p : ℕ) (old new : Sums) : Type 0 where
  pub held : new.held ≡ old.held
  pub owned : new.owned ≡ old.owned + 1
  pub entries : new.entries ≡ old.entries + length (covers_of l p)
  pub back : new.back ≡ old.back + count_by is_back (covers_of l p)
  pub at : new.at ≡ fold ◌+ℤ◌ old.at (coordinates_at l p)
  pub values : new.values ≡ fold ◌+ℤ◌ old.values (map signed_of (data_of sections l p))
  pub dofs : new.dofs ≡ fold ◌+◌ old.dofs (dofs_of sections l p)

-- what the ranks before k have of the points that they own, and rank k of those before p
abbrev pub so_far : {X : Type 0} → PlainDist → (LocalMesh → ℕ → List X) → ℕ → ℕ → List X
so_far d values k p = flat_map (λ r. flat_map (values (local_at d r)) (own (r, local_at d r))) (below k) ++ flat_map (values (local_at d k)) (owned_before (local_at d k) k p)

-- the sums of these
pub record AreSums (d : PlainDist) (k p : ℕ) (s : Sums) : Type 0 where
  pub held : s.held ≡ over_first d k (λ r. length r.1.diagram.points)
  pub owned : s.owned ≡ over_first d k (λ r. length (own r)) + length (owned_before (local_at d k) k p)
  pub entries : s.entries ≡ length (so_far d covers_of k p)
  pub back : s.back ≡ count_by is_back (so_far d covers_of k p)
  pub at : s.at ≡ fold ◌+ℤ◌ (pos 0) (so_far d coordinates_at k p)
  pub values : s.values ≡ fold ◌+ℤ◌ (pos 0) (map signed_of (so_far d (data_of d.sections) k p))
  pub dofs : s.dofs ≡ fold ◌+◌ 0 (so_far d (dofs_of d.sections) k p)
