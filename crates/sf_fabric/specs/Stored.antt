-- Lists as they are stored.
use Rattle.std.specs.Prelude.{List}
use Rattle.plain_lists.specs.Vectors.{lists_of}
use Rattle.sf_fabric.specs.declared.lists.Lists.{Lists}
use Rattle.sf_fabric.specs.declared.lists.Lists.TheVariants.{Nested, Flat}

abbrev pub lists_in : {X : Type 0} → Lists X → List (List X)
lists_in (Nested lists) = lists_of lists.items
lists_in (Flat lists) = lists
