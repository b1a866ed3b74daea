use Rattle.std.proofs.Common.{◌≡◌, ◌+◌, ◌∷◌, map, length, drop, sym, ap, ◌∙◌, arith}
use Rattle.std.proofs.lemmas.List.{length_push}
use Rattle.plain_lists.specs.Lists.{below}
use Rattle.plain_lists.specs.Vectors.{lists_of}
use Rattle.rank_chart_laws.proofs.meeting_laws.Loops.{pushed_below}
use Rattle.rank_defs.specs.Ranks.{assigned}
use Rattle.rank_defs.specs.Spread.{local_mesh}
use Rattle.orient_iface.proofs.dist_assembly.Stepping.{next-low, next-is, at-hand}
use Rattle.orient_iface.proofs.dist_assembly.AllRanks.{keys-long, moves-long, rank-drawn}
use Rattle.orient_iface.proofs.dist_assembly.local.rank_meshes.Goals as goal

pub bounds-keys-rank : goal.bounds-keys-rank
bounds-keys-rank c =
    let ds = c.args.drawings.items in
    let k = length c.loop-drawing.locals.items in
    let rank : c.len-rank.result ≡ k = c.len-rank.ensures ∙ c.loop-drawing.locals.ok.0 in
    let next : drop k ds ≡ c.in-Some.drawing ∷ c.next.new.self.rest.items = c.loop-drawing.invariant.left ∙ c.in-Some.ensures.steps.0 in
    let low = next-low ds c.next.new.self.rest.items k c.in-Some.drawing next in
    let some = c.requires.some in
    let keyed = keys-long c.args.shared.now ds c.args.keys.now some.m some.dofs some.a some.n some.are in
    let moved = moves-long c.args.shared.now ds (lists_of c.args.keys.now) some.m some.dofs some.a some.n some.are c.args.moves.now c.requires.moves in
    omega (arith, rank, low, keyed)

pub bounds-moves-rank : goal.bounds-moves-rank
bounds-moves-rank c =
    let ds = c.args.drawings.items in
    let k = length c.loop-drawing.locals.items in
    let rank : c.len-rank.result ≡ k = c.len-rank.ensures ∙ c.loop-drawing.locals.ok.0 in
    let next : drop k ds ≡ c.in-Some.drawing ∷ c.next.new.self.rest.items = c.loop-drawing.invariant.left ∙ c.in-Some.ensures.steps.0 in
    let low = next-low ds c.next.new.self.rest.items k c.in-Some.drawing next in
    let some = c.requires.some in
    let keyed = keys-long c.args.shared.now ds c.args.keys.now some.m some.dofs some.a some.n some.are in
    let moved = moves-long c.args.shared.now ds (lists_of c.args.keys.now) some.m some.dofs some.a some.n some.are c.args.moves.now c.requires.moves in
    omega (arith, rank, low, moved)

pub rank_mesh-requires : goal.rank_mesh-requires
rank_mesh-requires c =
    let ds = c.args.drawings.items in
    let k = length c.loop-drawing.locals.items in
    let rank : c.len-rank.result ≡ k = c.len-rank.ensures ∙ c.loop-drawing.locals.ok.0 in
    let next : drop k ds ≡ c.in-Some.drawing ∷ c.next.new.self.rest.items = c.loop-drawing.invariant.left ∙ c.in-Some.ensures.steps.0 in
    let low = next-low ds c.next.new.self.rest.items k c.in-Some.drawing next in
    let some = c.requires.some in
    let keyed = keys-long c.args.shared.now ds c.args.keys.now some.m some.dofs some.a some.n some.are in
    let moved = moves-long c.args.shared.now ds (lists_of c.args.keys.now) some.m some.dofs some.a some.n some.are c.args.moves.now c.requires.moves in
    let at = at-hand ds c.next.new.self.rest.items c.args.keys.now c.args.moves.now c.len-rank.result k c.in-Some.drawing c.index-keys-rank.result c.index-moves-rank.result c.deref.result.now c.deref-in-loop-drawing.result.now
    rank next (omega (arith, rank, low, keyed)) (omega (arith, rank, low, moved)) c.index-keys-rank.is c.index-moves-rank.is c.deref.ensures.value c.deref-in-loop-drawing.ensures.value in
    record { m = some.m; dofs = some.dofs; a = some.a; n = some.n; is = rank-drawn c.args.shared.now ds (lists_of c.args.keys.now) some.m some.dofs some.a some.n some.are (lists_of c.args.moves.now) c.requires.moves c.len-rank.result c.in-Some.drawing c.deref.result.now c.deref-in-loop-drawing.result.now at }

pub loop-drawing-preserved : goal.loop-drawing-preserved
loop-drawing-preserved c =
    let ds = c.args.drawings.items in
    let k = length c.loop-drawing.locals.items in
    let rank : c.len-rank.result ≡ k = c.len-rank.ensures ∙ c.loop-drawing.locals.ok.0 in
    let next : drop k ds ≡ c.in-Some.drawing ∷ c.next.new.self.rest.items = c.loop-drawing.invariant.left ∙ c.in-Some.ensures.steps.0 in
    let low = next-low ds c.next.new.self.rest.items k c.in-Some.drawing next in
    let some = c.requires.some in
    let keyed = keys-long c.args.shared.now ds c.args.keys.now some.m some.dofs some.a some.n some.are in
    let moved = moves-long c.args.shared.now ds (lists_of c.args.keys.now) some.m some.dofs some.a some.n some.are c.args.moves.now c.requires.moves in
    let at = at-hand ds c.next.new.self.rest.items c.args.keys.now c.args.moves.now c.len-rank.result k c.in-Some.drawing c.index-keys-rank.result c.index-moves-rank.result c.deref.result.now c.deref-in-loop-drawing.result.now
    rank next (omega (arith, rank, low, keyed)) (omega (arith, rank, low, moved)) c.index-keys-rank.is c.index-moves-rank.is c.deref.ensures.value c.deref-in-loop-drawing.ensures.value in
    let count : length c.push.new.self.items ≡ k + 1 = ap length c.in_ok-push.ensures.items ∙ length_push c.loop-drawing.locals.items c.in_ok-rank_mesh.field-0 in
    record {
      can_next = tt;
      is_finite = tt;
      few = omega (arith, count, low);
      left = ap (λ j. drop j ds) count ∙ sym (next-is ds c.next.new.self.rest.items k c.in-Some.drawing next).1;
      made = λ m dofs a n are.
          let here = rank-drawn c.args.shared.now ds (lists_of c.args.keys.now) m dofs a n are (lists_of c.args.moves.now) c.requires.moves c.len-rank.result c.in-Some.drawing c.deref.result.now c.deref-in-loop-drawing.result.now at in
          pushed_below (λ r. local_mesh m dofs a (assigned m a r)) k c.loop-drawing.locals.items c.push.new.self.items c.in_ok-rank_mesh.field-0 (c.loop-drawing.invariant.made m dofs a n are)
          (c.in_ok-rank_mesh.ensures m dofs a n here ∙ ap (λ r. local_mesh m dofs a (assigned m a r)) rank) c.in_ok-push.ensures.items
          ∙ ap (λ j. map (λ r. local_mesh m dofs a (assigned m a r)) (below j)) (sym count);
    }
