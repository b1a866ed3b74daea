-- Rounds that have all their lists.
use Rattle.std.specs.Prelude.{◌≡◌, length}
use Rattle.sf_defs.specs.Rounds.{Round}

-- a list of fetched values for each rank, a last value and an order for each word
pub record IsComplete (r : Round) : Type 0 where
  pub got : length r.got ≡ length r.asks
  pub after : length r.after ≡ length r.before
  pub order : length r.order ≡ length r.before
