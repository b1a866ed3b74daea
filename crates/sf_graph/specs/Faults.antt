-- How a flaw of lists is answered.
use Rattle.std.specs.Prelude.{◌≡◌, Option, Some}
use Rattle.sf_defs.specs.Forest.{ForestFlaw, root_range, leaf_twice}
use Rattle.sf_graph.specs.declared.fault.ForestFault.{ForestFault}
use Rattle.sf_graph.specs.declared.fault.ForestFault.TheVariants.{RootRange, LeafTwice, NoMemory}

abbrev pub fault_of : ForestFlaw → ForestFault
fault_of (root_range rank leaf) = RootRange rank leaf
fault_of (leaf_twice rank local) = LeafTwice rank local

-- memory ran out, or the fault is this flaw
abbrev pub IsFirstFault : ForestFault → Option ForestFlaw → Type 0
IsFirstFault NoMemory flaw = Unit {0}
IsFirstFault (RootRange rank leaf) flaw = flaw ≡ Some (root_range rank leaf)
IsFirstFault (LeafTwice rank local) flaw = flaw ≡ Some (leaf_twice rank local)
