use Rattle.std.proofs.Common.{◌≡◌, ◌≤◌, suc, [], ◌∷◌, ◌++◌, ◌+◌, ◌-◌, List, length, drop, w8, ap, ap₂, sym, ◌∙◌, subst, arith, length-append, ℤ}
use Rattle.std.specs.Prelude.{flat_map}
use Rattle.std.specs.List.{All}
use Rattle.std.proofs.lemmas.Int.{to_z-of_z}
use mir.Val.{to_z, of_z}
use Rattle.mesh_defs.specs.declared.ConeEntry.{ConeEntry}
use Rattle.std.proofs.lemmas.List.Elements.{All-nil, All-push}
use Rattle.mesh_defs.specs.Tables.{dim_of}
use Rattle.plex_defs.specs.Closure.{point_in, cone_entry, new_points}
use Rattle.walk_defs.specs.Cones.{facets_by_cone, levels_by_cones, closure_by_cones}
use Rattle.walk_defs.specs.Cones.{IsEntry}
use Rattle.plex_walk.specs.Entries.{added}
use Rattle.plex_walk.proofs.Added.{added-is, added-levels}
use Rattle.plex_walk.proofs.closures.closure_into.Goals as goal

pub loop-level-init : goal.loop-level-init
unfolding closure_by_cones
loop-level-init c =
    let o : ℤ = to_z w8 (of_z w8 c.args.o) in
    let same : o ≡ c.args.o = to_z-of_z w8 c.args.o c.ranges.o in
    let items : c.push.new.self.items ≡ cone_entry c.args.p o ∷ [] = c.in_ok-push.ensures.items ∙ ap (λ (l : List ConeEntry). l ++ cone_entry c.args.p o ∷ []) (c.in_ok-reserve.ensures.items ∙ c.clear.ensures.items) in
    let levels : c.dim-level-end.result - 0 ≡ dim_of (point_in c.args.x.now c.args.p).poly = omega (arith, c.dim-level-end.ensures, ap dim_of c.poly_of.ensures.value) in
    let here : IsEntry c.args.x.now (cone_entry c.args.p o) = record { point = c.requires.point; o = rw same c.requires.orientation } in (
      ap₂ (λ n (t : List ConeEntry). levels_by_cones c.args.x.now n t t) levels items,
      omega arith,
      subst (λ (t : List ConeEntry). All (IsEntry c.args.x.now) t) (sym items) (All-push (IsEntry c.args.x.now) [] (cone_entry c.args.p o) (All-nil (IsEntry c.args.x.now)) here),
    )

pub loop-level-preserved : goal.loop-level-preserved
loop-level-preserved c =
    let there : List ConeEntry = c.loop-level.to.items in
    let last : List ConeEntry = drop c.loop-level.last there in
    let m = c.dim-level-end.result - (c.loop-level.level + 1) in
    let left : c.dim-level-end.result - c.loop-level.level ≡ suc m = omega arith in
    let now : c.add_level.new.to.items ≡ added there (flat_map (facets_by_cone c.args.x.now) last) = c.in_ok-add_level.ensures.value in
    let size : c.len-next.result ≡ length there = c.len-next.ensures ∙ c.loop-level.to.ok.0 in
    let longer : length there ≤ length c.add_level.new.to.items = rw (now, added-is there (flat_map (facets_by_cone c.args.x.now) last)) (omega (arith, length-append there (new_points there (flat_map (facets_by_cone c.args.x.now) last)))) in (
      ap₂ (λ n (t : List ConeEntry). levels_by_cones c.args.x.now m t (drop n t)) size now ∙ sym (added-levels c.args.x.now (c.dim-level-end.result - c.loop-level.level) m there last left) ∙ c.loop-level.invariant.0,
      omega (arith, size, longer),
      c.in_ok-add_level.ensures.entries,
    )
