use Rattle.std.proofs.Common.{◌++◌, ◌∷◌, [], true, Some, ap}
use Rattle.std.proofs.lemmas.Result.{err_from_is_err_and}
use Rattle.std.proofs.lemmas.List.{map-append}
use Rattle.mesh_defs.specs.declared.Place.TheVariants as place
use Rattle.mesh_defs.specs.Mesh.{Section}
use Rattle.input_defs.specs.Causes.{map_ok}
use Rattle.input_defs.specs.Sections.{format, names, nodes, elements}
use Rattle.input_defs.specs.Files.{file_numbers, with_section}
use Rattle.msh_reader.specs.Taking.{parts_view}
use Rattle.msh_reader.proofs.TakenSections.{taken-ok, taken-err}
use Rattle.msh_reader.proofs.parts.Parts.read.Goals as goal

pub returns-in_err-whole_format-in-Format : goal.returns-in_err-whole_format-in-Format
unfolding with_section
returns-in_err-whole_format-in-Format c =
    let p = err_from_is_err_and c.from_residual.result c.from_residual.ensures.1 in
    rw (p.1, p.2, c.in-Format.is) (record { stays = c.in_err-whole_format-in-Format.ensures.stays; takes = taken-err format (λ size. record (parts_view c.args.self.now) { format = true }) c.in_err-whole_format-in-Format.ensures })

pub returns-in_ok-whole_format-in-Format : goal.returns-in_ok-whole_format-in-Format
unfolding with_section
returns-in_ok-whole_format-in-Format c =
    rw c.in-Format.is (record { stays = c.in_ok-whole_format-in-Format.ensures.stays; takes = taken-ok format (λ size. record (parts_view c.args.self.now) { format = true }) c.in_ok-whole_format-in-Format.ensures })

pub returns-in_err-whole_names-in-Names : goal.returns-in_err-whole_names-in-Names
unfolding with_section
returns-in_err-whole_names-in-Names c =
    let p = err_from_is_err_and c.from_residual-in_err-whole_names-in-Names.result c.from_residual-in_err-whole_names-in-Names.ensures.1 in
    rw (p.1, p.2, c.in-Names.is) (record { stays = c.in_err-whole_names-in-Names.ensures.stays; takes = taken-err names (λ names. record (parts_view c.args.self.now) { names = Some names }) c.in_err-whole_names-in-Names.ensures })

pub returns-in_ok-whole_names-in-Names : goal.returns-in_ok-whole_names-in-Names
unfolding with_section
returns-in_ok-whole_names-in-Names c =
    rw c.in-Names.is (record { stays = c.in_ok-whole_names-in-Names.ensures.stays; takes = taken-ok names (λ names. record (parts_view c.args.self.now) { names = Some names }) c.in_ok-whole_names-in-Names.ensures })

pub returns-in_err-whole_nodes-in-Nodes : goal.returns-in_err-whole_nodes-in-Nodes
unfolding with_section
returns-in_err-whole_nodes-in-Nodes c =
    let p = err_from_is_err_and c.from_residual-in_err-whole_nodes-in-Nodes.result c.from_residual-in_err-whole_nodes-in-Nodes.ensures.1 in
    rw (p.1, p.2, c.in-Nodes.is) (record { stays = c.in_err-whole_nodes-in-Nodes.ensures.stays; takes = taken-err nodes (λ nodes. record (parts_view c.args.self.now) { nodes = Some nodes }) c.in_err-whole_nodes-in-Nodes.ensures })

pub returns-in_ok-whole_nodes-in-Nodes : goal.returns-in_ok-whole_nodes-in-Nodes
unfolding with_section
returns-in_ok-whole_nodes-in-Nodes c =
    rw c.in-Nodes.is (record { stays = c.in_ok-whole_nodes-in-Nodes.ensures.stays; takes = taken-ok nodes (λ nodes. record (parts_view c.args.self.now) { nodes = Some nodes }) c.in_ok-whole_nodes-in-Nodes.ensures })

pub returns-in_err-read_elements-in-Elements : goal.returns-in_err-read_elements-in-Elements
unfolding with_section
returns-in_err-read_elements-in-Elements c =
    let p = err_from_is_err_and c.from_residual-in_err-read_elements-in-Elements.result c.from_residual-in_err-read_elements-in-Elements.ensures.1 in
    rw (p.1, p.2, c.in-Elements.is) (record { stays = c.in_err-read_elements-in-Elements.ensures.stays; takes = taken-err (elements (file_numbers (parts_view c.args.self.now) place.Node)) (λ elements. record (parts_view c.args.self.now) { elements = Some elements }) c.in_err-read_elements-in-Elements.ensures })

pub returns-in_ok-read_elements-in-Elements : goal.returns-in_ok-read_elements-in-Elements
unfolding with_section
returns-in_ok-read_elements-in-Elements c =
    rw c.in-Elements.is (record { stays = c.in_ok-read_elements-in-Elements.ensures.stays; takes = taken-ok (elements (file_numbers (parts_view c.args.self.now) place.Node)) (λ elements. record (parts_view c.args.self.now) { elements = Some elements }) c.in_ok-read_elements-in-Elements.ensures })

pub returns-in_err-field-in-Data : goal.returns-in_err-field-in-Data
unfolding with_section
returns-in_err-field-in-Data c =
    let p = err_from_is_err_and c.from_residual-in_err-field-in-Data.result c.from_residual-in_err-field-in-Data.ensures.1 in
    rw (p.1, p.2, c.in-Data.is) (record { stays = c.in_err-field-in-Data.ensures.stays; takes = λ ne ended. ap (map_ok (λ (field : Section). record (parts_view c.args.self.now) { fields = (parts_view c.args.self.now).fields ++ field ∷ [] })) (c.in_err-field-in-Data.ensures.reads ne ended) })

pub returns-in_ok-push-in-Data : goal.returns-in_ok-push-in-Data
unfolding with_section
returns-in_ok-push-in-Data c =
    rw (c.in-Data.is, c.in_ok-push-in-Data.ensures.items, map-append) (record { stays = c.in_ok-field-in-Data.ensures.stays; takes = λ ended. ap (map_ok (λ (field : Section). record (parts_view c.args.self.now) { fields = (parts_view c.args.self.now).fields ++ field ∷ [] })) (c.in_ok-field-in-Data.ensures.reads ended) })
