-- The least of the ranks' own keys, asked of one word.
use Rattle.std.specs.Prelude.{ℕ, ◌<◌, ◌≤◌, List, [], ◌∷◌, length, filter_map, Option, Some, None, option_map}
use Rattle.std.specs.List.{AllByRecursion}
use Rattle.plex_base.specs.declared.key.PointKey.{PointKey}
use Rattle.sf_defs.specs.declared.Op.TheVariants.{Min}
use Rattle.sf_defs.specs.declared.Ask.{Ask}

-- the number of a key, if there is one
abbrev pub number_of : Option PointKey → Option ℕ
number_of key = option_map (λ (k : PointKey). k.0) key

-- the numbers of the ranks that have a key
abbrev pub numbers : List (Option PointKey) → List ℕ
numbers own = filter_map number_of own

-- one word, the greatest number
abbrev pub greatest : ℕ
greatest = 18446744073709551615

-- what a rank asks of it: the least with its own key, and nothing where it has none
abbrev pub own_asks : Option PointKey → List Ask
own_asks None = []
own_asks (Some key) = record { word = 0; op = Min; value = key.0 } ∷ []

-- 1 to 64 ranks, and keys below the greatest number
pub record AreOwnKeys (own : List (Option PointKey)) : Type 0 where
  pub some_rank : 1 ≤ length own
  pub few_ranks : length own ≤ 64
  pub low : AllByRecursion (λ k. k < greatest) (numbers own)
