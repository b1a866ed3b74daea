-- The least that asks leave of a word, and which numbers Sums take.
use Rattle.std.specs.Prelude.{◌≡◌, ◌⊎◌, ℕ, ◌+◌, ◌≤◌, Bool, ◌&&◌, nat_le, nat_lt, List, [], ◌∷◌}
use Rattle.std.specs.List.{AllByRecursion}
use Rattle.sf_defs.specs.declared.Op.TheVariants.{Min}
use Rattle.sf_defs.specs.declared.Ask.{Ask}
use Rattle.sf_defs.specs.Asks.{Entry}
use Rattle.sf_defs.specs.Rounds.{added}

-- n is one of the numbers that the entry's Sum took: from what it fetched on, as many as it added
abbrev pub took : ℕ → Entry → Bool
took n e = nat_le e.got n && nat_lt n (e.got + added e.ask)

-- one of the asks is a Min of this value
abbrev pub IsAsked : ℕ → List Ask → Type 0
IsAsked n [] = ⊥
IsAsked n (a ∷ asks) = ((a.op ≡ Min) × (a.value ≡ n)) ⊎ IsAsked n asks

-- n is the least of a word and the values that Min was asked with
pub record IsLeast (word : ℕ) (asks : List Ask) (n : ℕ) : Type 0 where
  pub below_first : n ≤ word
  pub below_each : AllByRecursion (λ a. a.op ≡ Min → n ≤ a.value) asks
  pub among : (n ≡ word) ⊎ IsAsked n asks
