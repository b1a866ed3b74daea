-- What becomes of a fault: the trouble and its exit status; and the text of what is counted.
use Rattle.std.specs.Prelude.{ℕ, List, ◌++◌, length, flat_map, codes, decimal}
use Rattle.mesh_defs.specs.Mesh.{Mesh as WholeMesh, Section}
use Rattle.shelf_io.specs.declared.shelf.ShelfFault.{ShelfFault}
use Rattle.shelf_io.specs.declared.shelf.ShelfFault.TheVariants as fault
use Rattle.input_defs.specs.Content.{Content}
use Rattle.input_defs.specs.declared.MshFault.{MshFault}
use Rattle.input_defs.specs.declared.MshFault.TheVariants as msh
use Rattle.input_defs.specs.declared.MeshFault.{MeshFault}
use Rattle.input_defs.specs.declared.MeshFault.TheVariants as mesh
use Rattle.orient_iface.specs.declared.orienting.OrientFault.{OrientFault}
use Rattle.orient_iface.specs.declared.orienting.OrientFault.TheVariants as orient
use Rattle.msh_count.specs.declared.trouble.Trouble.{Trouble}
use Rattle.msh_count.specs.declared.trouble.Trouble.TheVariants.{Words, Mesh, Read, Write, Memory}

abbrev pub status_of : Trouble → ℕ
status_of Words = 2
status_of Mesh = 4
status_of Read = 6
status_of Write = 7
status_of Memory = 8

abbrev pub trouble_of : ShelfFault → Trouble
trouble_of fault.Failed = Read
trouble_of fault.TooLong = Read
trouble_of fault.NoMemory = Memory

-- a fault of the file, or want of memory
abbrev pub mesh_trouble : MshFault → Trouble
mesh_trouble msh.NoMemory = Memory
mesh_trouble other = Mesh

-- a content without a mesh, or want of memory
abbrev pub accept_trouble : MeshFault → Trouble
accept_trouble mesh.NoMemory = Memory
accept_trouble other = Mesh

-- a twisted face, or want of memory
abbrev pub orient_trouble : OrientFault → Trouble
orient_trouble orient.NoMemory = Memory
orient_trouble (orient.Twist key) = Mesh

-- the line `rows N` of a data section
abbrev pub rows_line : Section → List ℕ
rows_line field = codes "rows " ++ decimal (length field.rows) ++ codes "\n"

-- the lines `nodes N`, `elements N`, `names N`, and `rows N` for each data section
abbrev pub counts_text : Content → List ℕ
counts_text content = codes "nodes " ++ decimal (length content.nodes) ++ codes "\nelements " ++ decimal (length content.elements) ++ codes "\nnames " ++ decimal (length content.names) ++ codes "\n"
    ++ flat_map rows_line content.fields

-- the lines `vertices N`, `cells N` and `marks N`
abbrev pub mesh_text : WholeMesh → List ℕ
mesh_text m = codes "vertices " ++ decimal (length m.at) ++ codes "\ncells " ++ decimal (length m.cells) ++ codes "\nmarks " ++ decimal (length m.marks) ++ codes "\n"
