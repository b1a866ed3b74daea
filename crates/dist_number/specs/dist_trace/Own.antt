-- Leaves on a rank's own points.
use Rattle.std.specs.Prelude.{ℕ, ◌==◌, List, map, filter}
use Rattle.std.specs.List.{enumerate_from}
use Rattle.sf_defs.specs.declared.Leaf.{Leaf}
use Rattle.sf_defs.specs.Forest.{leaf}
use Rattle.rank_defs.specs.Spread.{LocalMesh}

-- a leaf for each point that the rank owns, on the same place
abbrev pub own_leaves : ℕ → List ℕ → List Leaf
own_leaves r owners = map (λ (p : ℕ × ℕ). leaf p.0 (r, p.0)) (filter (λ (p : ℕ × ℕ). p.1 == r) (enumerate_from 0 owners))

-- those of a rank that has this
abbrev pub own_list : ℕ × LocalMesh → List Leaf
own_list r = own_leaves r.0 r.1.owners
