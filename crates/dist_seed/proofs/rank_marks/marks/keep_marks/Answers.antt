use Rattle.std.proofs.Common.{◌<◌, cond, [], ◌∷◌, ◌++◌, length, take, ap, sym, ◌∙◌, arith}
use Rattle.std.specs.List.{filter}
use Rattle.std.proofs.lemmas.List.{take_all, append-nil}
use Rattle.mesh_defs.specs.Mesh.{Mark}
use Rattle.mesh_defs.specs.Points.{marked_point}
use Rattle.mesh_defs.specs.RightMesh.{in_some}
use Rattle.plex_mesh.specs.Right.{mark_at}
use Rattle.headline_laws.specs.seed_laws.Given.{marks_on_cells}
use Rattle.dist_seed.proofs.rank_marks.Sets.{filter-more}
use Rattle.dist_seed.proofs.rank_marks.marks.keep_marks.Goals as goal
use Rattle.dist_seed.proofs.rank_marks.marks.keep_marks.Goals.{then-has_marked+in_ok-keep_mark, else-has_marked}

pub loop-i-preserved : goal.loop-i-preserved
loop-i-preserved c =
    let marks = c.args.mesh.now.marks in
    let cells = c.args.own.now.cells in
    let i = c.loop-i.i in
    let low : i < length marks = omega (arith, c.loop-i-test.true, c.marks-i-end.ensures) in
    let next = filter-more (λ (k : Mark). in_some (marked_point k) cells) marks i (mark_at [] 0) low in
    elim c.if-has_marked.branch [
      | then-has_marked+in_ok-keep_mark w ↦
          (let yes = sym c.has_marked.ensures ∙ w.if-has_marked.true in
          w.kept-is ∙ w.in_ok-keep_mark.ensures ∙ ap (λ l. l ++ mark_at marks i ∷ []) c.loop-i.invariant
          ∙ sym (next ∙ ap (λ b. filter (λ (k : Mark). in_some (marked_point k) cells) (take i marks) ++ cond b (mark_at marks i ∷ []) []) yes))
      | else-has_marked w ↦
          (let no = sym c.has_marked.ensures ∙ w.if-has_marked.false in
          w.kept-is ∙ c.loop-i.invariant
          ∙ sym (next ∙ ap (λ b. filter (λ (k : Mark). in_some (marked_point k) cells) (take i marks) ++ cond b (mark_at marks i ∷ []) []) no ∙ append-nil (filter (λ (k : Mark). in_some (marked_point k) cells) (take i marks))))
    ]

pub returns : goal.returns
unfolding marks_on_cells
returns c = c.loop-i.invariant ∙ ap (filter (λ (k : Mark). in_some (marked_point k) c.args.own.now.cells)) (take_all c.loop-i.i c.args.mesh.now.marks (omega (arith, c.loop-i-test.false, c.marks-i-end.ensures)))
