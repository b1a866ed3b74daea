use Rattle.std.proofs.Common.{◌≡◌, ◌+◌, ◌^◌, ◌==◌, ℤ, length, pos, negsuc, Some, refl, sym, ap, ◌∙◌, arith, rules}
use Rattle.std.specs.Prelude.{slice_index, find, if◌then◌else◌}
use Rattle.std.specs.List.{position_or_len, slice_get}
use Rattle.std.proofs.lemmas.Bool.{cond-true, cond-false, eq-eqb, ne_eqb}
use Rattle.std.proofs.lemmas.List.Folds.{find_at}
use Rattle.plain_lists.proofs.Finding.{position-within}
use Rattle.mesh_defs.specs.declared.Poly.TheVariants.{Segment}
use Rattle.mesh_defs.specs.declared.ConeEntry.{ConeEntry}
use Rattle.mesh_defs.specs.Points.{Sight, point_on, shows}
use Rattle.mesh_defs.specs.Sights.{IsEdgeSight, entry_among}
use Rattle.plain_lists.proofs.Finding.{find-has}
use Rattle.mesh_laws.proofs.Entries.{entry_among-found}
use Rattle.rank_laws.proofs.Found.{two-entries}
use Rattle.rank_laws.specs.diagram_laws.Strata.{entry_from, turn_among}
use Rattle.rank_cones.proofs.sides.edge_entry.Goals as goal
use Rattle.rank_cones.proofs.sides.edge_entry.Goals.{then-own-ends, else-own-ends}

pub edge-requires : goal.edge-requires
edge-requires c = omega (arith, c.requires.place, position-within (shows (point_on Segment c.args.ends)) c.args.held.now.edges c.requires.shown)

pub overflow_add-result : goal.overflow_add-result
overflow_add-result c = omega (arith, c.requires.place, position-within (shows (point_on Segment c.args.ends)) c.args.held.now.edges c.requires.shown)

pub returns : goal.returns
unfolding entry_from turn_among entry_among
returns c =
    let edges = c.args.held.now.edges in
    let ends = c.args.ends in
    let s : Sight = record { key = 0; poly = Segment; arrangement = ends } in
    let own : Sight = record { key = c.edge.result.0.0; poly = Segment; arrangement = c.edge.result.1 } in
    let long : length ends ≡ 2 = search rules in
    let is : IsEdgeSight (2 ^ 32) s = record { poly = refl; ends = two-entries ends long; first = search rules; second = search rules; apart = c.requires.apart } in
    let found : find (shows (point_on Segment ends)) edges ≡ Some own = find_at (shows (point_on Segment ends)) edges ∙ ap (slice_get edges) (sym c.requires.place) ∙ c.edge.ensures in
    let own-is : IsEdgeSight (2 ^ 32) own = find-has (IsEdgeSight (2 ^ 32)) (shows (point_on Segment ends)) edges own c.requires.own_apart found in
    let turn : c.if-own-ends.o ≡ (if slice_index own.arrangement 0 == slice_index ends 0 then pos 0 else negsuc 0) =
    elim c.if-own-ends.branch [
      | then-own-ends w ↦ sym c.if-own-ends.o-is ∙ w.o-is ∙ sym (cond-true (slice_index own.arrangement 0 == slice_index ends 0) (pos 0) (negsuc 0) (eq-eqb (slice_index own.arrangement 0) (slice_index ends 0) w.if-own-ends.true))
      | else-own-ends w ↦ sym c.if-own-ends.o-is ∙ w.o-is ∙ sym (cond-false (slice_index own.arrangement 0 == slice_index ends 0) (pos 0) (negsuc 0) (ne_eqb (slice_index own.arrangement 0) (slice_index ends 0) w.if-own-ends.false))
    ] in
    let place : c.args.base + c.args.k ≡ c.args.base + position_or_len (shows (point_on Segment ends)) edges = ap (λ n. c.args.base + n) c.requires.place in
    ap {B = ConeEntry} (λ (o : ℤ). record { point = c.args.base + c.args.k; o = o }) (c.if-own-ends.o-is ∙ turn)
    ∙ (λ i. record { point = place i; o = if slice_index own.arrangement 0 == slice_index ends 0 then pos 0 else negsuc 0 })
    ∙ sym (entry_among-found c.args.base (2 ^ 32) edges s own is own-is found)
