-- What ranks have done, by their asks and what these fetched.
use Rattle.std.specs.Prelude.{◌≡◌, ℕ, ◌+◌, ◌<◌, ◌^◌, List, [], ◌∷◌, ◌++◌, map, length, zip}
use Rattle.std.specs.List.{AllByRecursion, enumerate_from}
use Rattle.sf_defs.specs.declared.Op.TheVariants.{Load}
use Rattle.sf_defs.specs.declared.Ask.{Ask}
use Rattle.sf_threads.specs.declared.thread_rule.view.Done.{Done}

-- an ask that can be done on so many words
pub record IsDoable (words : ℕ) (a : Ask) : Type 0 where
  pub in_range : a.word < words
  pub plain_load : a.op ≡ Load → a.value ≡ 0

-- a rank's asks with what they fetched
unfoldable pub dones : ℕ → List Ask → List ℕ → List Done
dones rank asks got = map (λ x. record { rank = rank; index = x.0; ask = x.1.0; got = x.1.1 }) (enumerate_from 0 (zip asks got))

-- of ranks one after another
abbrev pub all_dones : ℕ → List (List Ask) → List (List ℕ) → List Done
all_dones first [] got = []
all_dones first (own ∷ asks) [] = []
all_dones first (own ∷ asks) (mine ∷ got) = dones first own mine ++ all_dones (first + 1) asks got

-- asks of one rank that can be done
pub record AreDoable (words : ℕ) (asks : List Ask) : Type 0 where
  pub few : length asks < 2 ^ 32
  pub each : AllByRecursion (IsDoable words) asks
