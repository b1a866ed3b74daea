use Rattle.std.proofs.Common.{sym, ◌∙◌}
use Rattle.plex_base.specs.Dim.{dim_number}
use Rattle.mesh_check.specs.element_points.Parts.{part}
use Rattle.mesh_check.proofs.element_points.Setting.{set-nowhere}
use Rattle.mesh_check.proofs.element_points.Marking.{unmarked-nowhere}
use Rattle.mesh_check.proofs.element_points.flags.set_flag.Goals as goal

pub returns-then-has_unmarked : goal.returns-then-has_unmarked
returns-then-has_unmarked c =
    set-nowhere c.args.places.now.elements (part (dim_number c.args.dim) c.args.nodes.now) c.args.found.now
    (unmarked-nowhere c.args.places.now c.args.lower.now c.requires.marks (dim_number c.args.dim) c.args.nodes.now
    (λ same. c.if-number.true (c.number.ensures ∙ same ∙ sym (c.number-2.ensures ∙ c.greatest_dim.ensures)))
    (sym c.has_unmarked.ensures ∙ c.if-has_unmarked.true))
