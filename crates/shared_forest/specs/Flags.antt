-- Flags on the vertices of a rank.
use Rattle.std.specs.Prelude.{◌≡◌, ◌⊎◌, ℕ, ◌<◌, Bool, true, false, ◌||◌, ◌==◌, List, length, get_or}
use Rattle.std.specs.List.{AllByRecursion, list_all}
use Rattle.rank_laws.specs.share_laws.Packed.{no_vertex}
use Rattle.rank_chart_laws.specs.meeting_laws.Sets.{RankChart, chart_at, has_vertex}
use Rattle.rank_chart_laws.specs.meeting_laws.Steps.{is_copied}

-- the flag of each vertex of a rank tells whether another rank has it too
abbrev pub TellCopies : List RankChart → ℕ → List Bool → Type 0
TellCopies charts r flags = (v : ℕ) → has_vertex v (chart_at charts r) ≡ true → (v < length flags) × (get_or flags v false ≡ is_copied charts r v)

-- there is a flag for each vertex of a filled set
abbrev pub AreFlagged : List Bool → List ℕ → Type 0
AreFlagged flags s = AllByRecursion (λ v. (v ≡ no_vertex) ⊎ (v < length flags)) s

-- each vertex of a filled set has its flag up
abbrev pub all_up : List Bool → List ℕ → Bool
all_up flags s = list_all (λ v. (v == no_vertex) || get_or flags v false) s
