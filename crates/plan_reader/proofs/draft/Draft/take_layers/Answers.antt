use Rattle.std.proofs.Common.{◌≡◌, ◌+◌, ◌<◌, ◌≤◌, ◌∙◌, length, sym, ap, arith}
use Rattle.std.proofs.lemmas.List.{length-map}
use Rattle.input_defs.specs.Plans.{Before, Layers, layers_of, layers_with}
use Rattle.plan_reader.specs.Reading.{move_line_view, move_views}
use Rattle.plan_reader.proofs.Takes.{part_there, layers-dropped, layers-added, layers-late, layers-high}
use Rattle.plan_reader.proofs.draft.Draft.take_layers.Goals as goal
use Rattle.plan_reader.proofs.draft.Draft.take_layers.Goals.{then-k-eq0, else-k-eq0}

pub returns-then-len : goal.returns-then-len
returns-then-len c =
    let moves = c.self.inside.moves.items in
    let count = c.self.inside.moves.ok.0 in
    let part = part_there moves _ c.self.invariant.begins count (sym c.is_empty.ensures ∙ c.if-is_empty.false) in
    let many : 32 ≤ length (move_views moves) = omega (arith, length-map moves move_line_view, count, c.len.ensures, c.if-len.true) in
    λ _. layers-late c.args.self.now c.args.line c.args.k (move_views moves) (ap (λ (d : Before). d.moves) (sym c.self.view_is)) part many

pub returns-then-total-gt-MAX_OVERLAP : goal.returns-then-total-gt-MAX_OVERLAP
returns-then-total-gt-MAX_OVERLAP c =
    let moves = c.self.inside.moves.items in
    let count = c.self.inside.moves.ok.0 in
    let part = part_there moves _ c.self.invariant.begins count (sym c.is_empty.ensures ∙ c.if-is_empty.false) in
    let few : length (move_views moves) < 32 = omega (arith, length-map moves move_line_view, count, c.len.ensures, c.if-len.false) in
    let total : c.if-k-eq0.total ≡ layers_with (layers_of (move_views moves)) (Layers c.args.k) =
    elim c.if-k-eq0.branch [
      | then-k-eq0 w ↦ w.total-is ∙ sym (layers-dropped (layers_of (move_views moves)) c.args.k w.if-k-eq0.true)
      | else-k-eq0 w ↦ w.total-is ∙ ap (λ n. n + c.args.k) c.self.invariant.layers_is ∙ sym (layers-added (layers_of (move_views moves)) c.args.k w.if-k-eq0.false)
    ] in
    λ _. layers-high c.args.self.now c.args.line c.args.k (move_views moves) (ap (λ (d : Before). d.moves) (sym c.self.view_is)) part c.if-k-eq0.total few total c.if-total-gt-MAX_OVERLAP.true
