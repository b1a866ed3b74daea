-- What a reduction leaves.
use Rattle.std.specs.Prelude.{◌≡◌, ℕ, ◌<◌, List, length, get_or}
use Rattle.sf_defs.specs.declared.Ask.{Ask}
use Rattle.sf_defs.specs.Asks.{word_after}
use Rattle.sf_defs.specs.Rounds.{asks_on}

-- each word is what the asks on it leave of its first value, one after another
pub record AreFolds (asks : List (List Ask)) (before after : List ℕ) : Type 0 where
  pub count : length after ≡ length before
  pub words : (w : ℕ) → w < length before → get_or after w 0 ≡ word_after (get_or before w 0) (asks_on w asks)
