-- Rounds whose words can be shown.
use Rattle.std.specs.Prelude.{◌≡◌, ℕ, ◌<◌, [], length, get_or}
use Rattle.std.specs.List.{AllByRecursion}
use Rattle.sf_defs.specs.declared.Turn.{Turn}
use Rattle.sf_defs.specs.Rounds.{Round}

-- the turn names an ask and what it fetched
pub record HasEntry (r : Round) (t : Turn) : Type 0 where
  pub rank : t.rank < length r.asks
  pub ask : t.index < length (get_or r.asks t.rank [])
  pub got_rank : t.rank < length r.got
  pub got : t.index < length (get_or r.got t.rank [])

-- each word has a last value and an order, and each turn of an order names an ask and what it fetched
pub record HasEntries (r : Round) : Type 0 where
  pub few : length r.before < 4294967296
  pub lasts : length r.after ≡ length r.before
  pub orders : length r.order ≡ length r.before
  pub turns : (w : ℕ) → w < length r.before → AllByRecursion (HasEntry r) (get_or r.order w [])
