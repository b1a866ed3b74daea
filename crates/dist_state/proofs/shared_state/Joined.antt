-- What a rank has, from what it was given and what it knows.
use Rattle.std.proofs.Common.{◌≡◌, ℕ, ◌+◌, ◌<◌, List, [], map, length, refl, sym, ap, ◌∙◌, arith}
use Rattle.std.proofs.lemmas.List.{length-map}
use Rattle.plain_lists.specs.Lists.{below}
use Rattle.plain_lists.proofs.Below.{length-below, get_or-map-below, map-below-length}
use Rattle.plain_lists.proofs.Each.{all_at}
use Rattle.plain_lists.proofs.Filters.{map_map_same}
use Rattle.plain_lists.proofs.Each.{all_from}
use Rattle.sf_defs.specs.Forest.{Forest}
use Rattle.local_points.specs.Points.{local_points}
use Rattle.rank_defs.specs.Spread.{ScatterPart, SharedPart, PlainScatter, PlainShared}
use Rattle.dist_state.specs.scatter_state.Whole.{part_at}
use Rattle.dist_state.specs.shared_state.Points.{PointData, joined_part, data_at, shared_at}
use Rattle.dist_state.specs.shared_state.Whole.{shared_parts, shared_of, IsWholeShared, IsShape}

pub parts-count : (ps : List ScatterPart) (ds : List PointData) → length (shared_parts ps ds) ≡ length ps
unfolding shared_parts
parts-count ps ds = length-map (below (length ps)) (λ r. joined_part (part_at ps r) (data_at ds r)) ∙ length-below (length ps)

pub joined-at : (ps : List ScatterPart) (ds : List PointData) (r : ℕ) → r < length ps → shared_at (shared_parts ps ds) r ≡ joined_part (part_at ps r) (data_at ds r)
unfolding shared_parts
joined-at ps ds r low = get_or-map-below (λ q. joined_part (part_at ps q) (data_at ds q)) (length ps) r (record { cells = []; vertices = []; at = []; sets = []; labels = []; fields = [] }) low

-- a rank of the whole is a rank of what was given
pub rank-given : (s : PlainScatter) (ds : List PointData) (f : Forest) (whole : PlainShared) → shared_of s ds f ≡ whole → (r : ℕ) → r < length whole.parts → r < length s.parts
rank-given s ds f whole e r low = let count = parts-count s.parts ds in let view = ap (λ (w : PlainShared). length w.parts) e in omega arith

-- and its part is joined
pub part-joined : (s : PlainScatter) (ds : List PointData) (f : Forest) (whole : PlainShared) → shared_of s ds f ≡ whole → (r : ℕ) → r < length whole.parts → joined_part (part_at s.parts r) (data_at ds r) ≡ shared_at whole.parts r
part-joined s ds f whole e r low = sym (joined-at s.parts ds r (rank-given s ds f whole e r low)) ∙ ap (λ (w : PlainShared). shared_at w.parts r) e

-- what is kept
pub shape-kept : (s : PlainScatter) (ds : List PointData) (f : Forest) (whole : PlainShared) → shared_of s ds f ≡ whole → IsWholeShared s ds f → IsShape whole
unfolding shared_parts
shape-kept s ds f whole e kept = record {
  roots = sym (ap (λ (w : PlainShared). w.forest.roots) e) ∙ kept.roots ∙ sym (
      ap (λ (w : PlainShared). map (λ (p : SharedPart). length p.sets) w.parts) (sym e)
      ∙ map_map_same (λ (p : SharedPart). length p.sets) (λ r. joined_part (part_at s.parts r) (data_at ds r)) (λ r. length (data_at ds r).sets) (below (length s.parts)) (all_from (λ r. length (data_at ds r).sets ≡ length (data_at ds r).sets) (λ r. refl) (below (length s.parts)))
      ∙ ap (λ n. map (λ r. length (data_at ds r).sets) (below n)) (sym kept.ranks)
      ∙ map-below-length (λ r. length (data_at ds r).sets) (λ (d : PointData). length d.sets) ds (record { local = local_points []; sets = []; labels = []; fields = [] }) (λ k low. refl));
}

-- words in each field
pub fields-kept : (s : PlainScatter) (ds : List PointData) (f : Forest) (whole : PlainShared) → shared_of s ds f ≡ whole → IsWholeShared s ds f → (r : ℕ) → r < length whole.parts → length (shared_at whole.parts r).fields ≡ length s.sections + length s.dofs
fields-kept s ds f whole e kept r low = ap (λ (p : SharedPart). length p.fields) (sym (part-joined s ds f whole e r low)) ∙ all_at (λ (d : PointData). length d.fields ≡ length s.sections + length s.dofs) ds r (record { local = local_points []; sets = []; labels = []; fields = [] }) kept.fields (let low' = rank-given s ds f whole e r low in omega (arith, kept.ranks))
