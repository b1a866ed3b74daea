-- The numbers of a set.
use Rattle.std.specs.Prelude.{ℕ, suc, List, ◌++◌, map}
use Rattle.plain_lists.specs.Lists.{below}
use Rattle.msh_reader.specs.declared.number_set.NumberSet.{NumberSet}

-- those in order, and the others
abbrev pub numbers_of : NumberSet → List ℕ
numbers_of set = map suc (below set.in_order) ++ set.others.keys
