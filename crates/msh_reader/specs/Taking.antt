-- What was read of a file, and a section more.
use Rattle.std.specs.Prelude.{◌≡◌, ◌≢◌, ℕ, List, ◌∷◌, option_map, Result, Ok, Err}
use Rattle.input_defs.specs.scan_defs.Items.{Spot}
use Rattle.input_defs.specs.declared.MshFault.{MshFault}
use Rattle.input_defs.specs.Files.{Parts, Known, Opening, of_data, with_section, said}
use Rattle.input_defs.specs.Content.{Content}
use Rattle.input_defs.specs.DataSections.{section_of}
use Rattle.mesh_defs.specs.declared.Place.{Place}
use Rattle.mesh_defs.specs.Mesh.{Section}
use Rattle.input_laws.specs.reading_laws.Lexemes.{lexemes, beyond, end_line}
use Rattle.input_laws.specs.reading_laws.Blocks.{blocks, last_line}
use Rattle.msh_reader.specs.Headers.{block_of}
use Rattle.msh_reader.specs.declared.trouble.Trouble.{Trouble}
use Rattle.msh_reader.specs.declared.nodes.NodeList.{NodeList}
use Rattle.msh_reader.specs.declared.parts.Parts.{Parts as Read}
use Rattle.msh_reader.specs.Going.{fault_where, no_memory}
use Rattle.msh_reader.specs.Views.{name_views, node_views, field_views}

abbrev pub parts_view : Read → Parts
parts_view p = record { format = p.format; names = option_map (λ v. name_views v.items) p.names; nodes = option_map (λ (list : NodeList). node_views list.nodes.items) p.nodes; elements = p.elements; fields = field_views p.fields.items }

-- the section is taken over from a body, up to want of memory
abbrev pub TakesBody : Known → Parts → Spot → Result Parts Trouble → Type 0
TakesBody k parts old (Ok new) = (ended : MshFault) → with_section (end_line (beyond old)) ended parts k (lexemes old) ≡ Ok new
TakesBody k parts old (Err t) = t ≢ no_memory → (ended : MshFault) → with_section (end_line (beyond old)) ended parts k (lexemes old) ≡ Err (fault_where ended t)

pub record Takes (k : Known) (parts : Parts) (old : Spot) (answer : Result Parts Trouble) (new : Spot) : Type 0 where
  pub stays : beyond new ≡ beyond old
  pub takes : TakesBody k parts old answer

-- a data section is read for nodes or elements of these numbers, up to want of memory
abbrev pub ReadsField : Place → List ℕ → Spot → Result Section Trouble → Type 0
ReadsField on known old (Ok x) = (ended : MshFault) → of_data ended (section_of on known (end_line (beyond old)) (lexemes old)) ≡ Ok x
ReadsField on known old (Err t) = t ≢ no_memory → (ended : MshFault) → of_data ended (section_of on known (end_line (beyond old)) (lexemes old)) ≡ Err (fault_where ended t)

pub record TakesField (on : Place) (known : List ℕ) (old : Spot) (answer : Result Section Trouble) (new : Spot) : Type 0 where
  pub stays : beyond new ≡ beyond old
  pub reads : ReadsField on known old answer

-- what a file says from a header line on, in whose body a scan stands, after what was read
abbrev pub said_after : List ℕ → ℕ → Parts → Spot → Result Content MshFault
said_after name line parts s = said (last_line (beyond s)) Opening parts (block_of name line (lexemes s) ∷ blocks (beyond s))
