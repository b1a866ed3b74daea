use Rattle.std.proofs.Common.{◌≡◌, ℕ, ◌+◌, ◌*◌, ◌^◌, ◌<◌, ◌≤◌, get_or, List}
use Rattle.plex_walk.proofs.fill.add_up.Given as goal

-- the sums as far as the loop has come, and the numbers after it as they were
pub record IsSummed (i : ℕ) (old new : List ℕ) (sum : ℕ) : Type 0 where
  pub first : 0 < i → get_or new 0 0 ≡ 0
  pub none : i ≡ 0 → sum ≡ 0
  pub next : (j : ℕ) → j + 1 < i → get_or new (j + 1) 0 ≡ get_or new j 0 + get_or old j 0
  pub last : (j : ℕ) → j + 1 ≡ i → sum ≡ get_or new j 0 + get_or old j 0
  pub rest : (j : ℕ) → i ≤ j → get_or new j 0 ≡ get_or old j 0
  pub small : sum ≤ i * (2 ^ 32)

abbrev pub invariant-loop-number : goal.invariant-loop-number
invariant-loop-number l = IsSummed l.number-index l.initial.numbers l.numbers l.sum
