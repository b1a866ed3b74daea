use Rattle.std.proofs.Common.{◌≡◌, ◌≤◌, length, sym, ap, ◌∙◌, arith}
use Rattle.std.proofs.lemmas.List.{length-map}
use Rattle.input_defs.specs.Meshes.{cell_elements}
use Rattle.mesh_check.proofs.Verdicts.{refused-low, refused-many, judged-some, judged-none}
use Rattle.mesh_check.proofs.verdict.fault_of.Goals as goal

pub returns-then-greatest-lt2-clause-some : goal.returns-then-greatest-lt2-clause-some
returns-then-greatest-lt2-clause-some c = refused-low c.args.places.now c.number-greatest.result (c.number-greatest.ensures ∙ c.greatest_dim.ensures) c.if-greatest-lt2.true

pub returns-then-cells-clause-some : goal.returns-then-cells-clause-some
returns-then-cells-clause-some c =
    let count : length c.cells.result.now ≡ length (cell_elements c.args.places.now) = sym (length-map c.cells.result.now _) ∙ ap (λ es. length es) c.cells.ensures.cells in
    refused-many c.args.places.now c.number-greatest.result (c.number-greatest.ensures ∙ c.greatest_dim.ensures) c.if-greatest-lt2.false (omega (arith, count, c.if-cells.true))

pub returns : goal.returns
returns c =
    let count : length c.cells.result.now ≡ length (cell_elements c.args.places.now) = sym (length-map c.cells.result.now _) ∙ ap (λ es. length es) c.cells.ensures.cells in
    let few : length (cell_elements c.args.places.now) ≤ 250000 = omega (arith, count, c.if-cells.false) in
    record {
      some = judged-some c.args.places.now c.number-greatest.result c.first_twist.result (c.number-greatest.ensures ∙ c.greatest_dim.ensures) c.if-greatest-lt2.false few c.first_twist.ensures;
      none = judged-none c.args.places.now c.number-greatest.result c.first_twist.result (c.number-greatest.ensures ∙ c.greatest_dim.ensures) c.if-greatest-lt2.false few c.first_twist.ensures;
    }
