-- The ranks of a step.
use Rattle.std.proofs.Common.{◌≡◌, ℕ, sym}
use Rattle.std.specs.Prelude.{Some}
use Rattle.std.specs.List.{slice_get}
use Rattle.std.proofs.lemmas.Option.{get_or_from_slice_get}
use Rattle.rank_defs.specs.Spread.{LocalMesh, PlainDist}
use Rattle.step_report.specs.Conditions.{no_local, local_at}

-- what is found at a rank
pub local-found : (d : PlainDist) (r : ℕ) (l : LocalMesh) → slice_get d.locals r ≡ Some l → l ≡ local_at d r
local-found d r l e = sym (get_or_from_slice_get d.locals r l no_local e)
