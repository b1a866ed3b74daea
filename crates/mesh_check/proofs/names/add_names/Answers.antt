use Rattle.std.proofs.Common.{◌<◌, ℤ, List, take, [], ◌∷◌, ◌++◌, length, sym, ap, ◌∙◌, arith, rules}
use Rattle.std.proofs.lemmas.Int.{to_z-of_z}
use mir.Val.{SFits, to_z, of_z}
use mir.Syntax.{w32}
use Rattle.mesh_defs.specs.Mesh.{Mesh, Name}
use Rattle.mesh_check.proofs.Assembled.{take-get, take-all}
use Rattle.mesh_check.proofs.names.add_names.Goals as goal

pub loop-i-init : goal.loop-i-init
loop-i-init c = ap (λ (xs : List Name). record c.args.builder.now { names = xs }) c.requires

pub loop-i-preserved : goal.loop-i-preserved
loop-i-preserved c =
    let fits : SFits w32 c.name-dim.result.1 = search rules in
    let low : c.loop-i.i < length c.args.text.now.names = omega arith in
    let name : ℤ → Name = λ (z : ℤ). record { dim = c.name-dim.result.0; number = z; text = c.name-dim.result.2.now } in
    c.in_ok-add_name.ensures.ok ∙ ap (λ (m : Mesh). record m { names = m.names ++ name (to_z w32 (of_z w32 c.name-dim.result.1)) ∷ [] }) c.loop-i.invariant
    ∙ ap (λ z. record c.args.builder.now { names = take c.loop-i.i c.args.text.now.names ++ name z ∷ [] }) (to_z-of_z w32 c.name-dim.result.1 fits)
    ∙ ap (λ (xs : List Name). record c.args.builder.now { names = xs }) (sym (take-get c.args.text.now.names c.loop-i.i _ low c.name-dim.ensures))

pub returns : goal.returns
returns c = c.loop-i.invariant ∙ ap (λ (xs : List Name). record c.args.builder.now { names = xs }) (take-all c.args.text.now.names c.loop-i.i (omega arith) (omega arith))
