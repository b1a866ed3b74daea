-- How a layout is stored: where the words of each point begin.
use Rattle.std.specs.Prelude.{ℕ, ◌+◌, ◌-◌, List, [], ◌∷◌}

-- where the words of each point end that stand from `start` on
abbrev pub ends : ℕ → List ℕ → List ℕ
ends start [] = []
ends start (n ∷ dofs) = (start + n) ∷ ends (start + n) dofs

-- where the words of each point begin; one place more, where the last ones end
abbrev pub starts : List ℕ → List ℕ
starts dofs = 0 ∷ ends 0 dofs

-- how far each place is from the one before it
abbrev pub gaps_from : ℕ → List ℕ → List ℕ
gaps_from start [] = []
gaps_from start (end ∷ places) = (end - start) ∷ gaps_from end places

abbrev pub gaps : List ℕ → List ℕ
gaps [] = []
gaps (start ∷ places) = gaps_from start places
