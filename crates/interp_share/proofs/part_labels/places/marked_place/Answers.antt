use Rattle.std.proofs.Common.{◌≡◌, List, ℕ, sym, ap, subst, ◌∙◌}
use Rattle.std.specs.Prelude.{position}
use Rattle.plain_lists.specs.Lists.{same_set}
use Rattle.mesh_defs.specs.Tables.{dim_of}
use Rattle.mesh_defs.specs.Mesh.{Cell, Mark}
use Rattle.rank_chart_laws.specs.mark_laws.Sets.{IsShort}
use Rattle.dist_state.specs.scatter_state.Parts.{mark_at}
use Rattle.interp_share.proofs.part_labels.Given.{mark-cell, first-dim}
use Rattle.interp_share.proofs.part_labels.Standing.{on-own_cell}
use Rattle.interp_share.proofs.part_labels.places.marked_place.Goals as goal

pub poly-requires : goal.poly-requires
poly-requires c = let g = c.requires.given in mark-cell c.args.part.now g.m g.a g.n g.r g.is c.args.i c.requires.mark

pub find-requires-clause-short : goal.find-requires-clause-short
find-requires-clause-short c =
    let g = c.requires.given in
    let part = c.args.part.now in
    let e : (mark_at part.marks c.args.i).dim ≡ g.m.dim =
    ap (λ (x : Mark). x.dim) c.mark-dim.ensures ∙ sym c.number.ensures ∙ c.if-number-dim.false ∙ c.dim.ensures ∙ ap dim_of c.poly.ensures ∙ first-dim part g.m g.a g.n g.r g.is (mark-cell part g.m g.a g.n g.r g.is c.args.i c.requires.mark) in
    subst IsShort (ap (λ (x : Mark). x.vertices) c.mark-dim.ensures) (on-own_cell part g.m g.a g.n g.r g.is c.args.i c.requires.mark e).short

pub returns-clause-place : goal.returns-clause-place
returns-clause-place c =
    let g = c.requires.given in
    let part = c.args.part.now in
    let e : (mark_at part.marks c.args.i).dim ≡ g.m.dim =
    ap (λ (x : Mark). x.dim) c.mark-dim.ensures ∙ sym c.number.ensures ∙ c.if-number-dim.false ∙ c.dim.ensures ∙ ap dim_of c.poly.ensures ∙ first-dim part g.m g.a g.n g.r g.is (mark-cell part g.m g.a g.n g.r g.is c.args.i c.requires.mark) in
    c.find.ensures ∙ ap (λ (l : List ℕ). position (λ (d : ℕ × Cell). same_set l d.1.vertices) part.cells) (sym (ap (λ (x : Mark). x.vertices) c.mark-dim.ensures))
    ∙ (on-own_cell part g.m g.a g.n g.r g.is c.args.i c.requires.mark e).place
