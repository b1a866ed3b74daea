-- What all ranks hold.
use Rattle.std.specs.Prelude.{◌≡◌, ◌≤◌, length}
use Rattle.std.specs.List.{AllByRecursion}
use Rattle.rank_defs.specs.Spread.{LocalMesh, PlainDist}

-- a rank's mesh for each rank of the forest; on all ranks the same number of fields, at least the data sections
pub record IsWholeDist (d : PlainDist) : Type 0 where
  pub ranks : length d.locals ≡ length d.points.roots
  pub sections : AllByRecursion (λ (l : LocalMesh). d.sections ≤ length l.fields) d.locals
  pub fields : AllByRecursion (λ (l : LocalMesh). AllByRecursion (λ (k : LocalMesh). length l.fields ≡ length k.fields) d.locals) d.locals
