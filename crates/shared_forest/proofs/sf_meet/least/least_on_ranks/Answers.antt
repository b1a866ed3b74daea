use Rattle.std.proofs.Common.{◌≡◌, ℕ, ◌<◌, List, [], length, map, get_or, ap, ◌∙◌, subst, sym, arith}
use Rattle.std.specs.declared.vec.Vec.{Vec}
use Rattle.std.specs.declared.alloc.Global.{Global}
use Rattle.std.proofs.lemmas.Grind.{common_steps}
use Rattle.plain_lists.specs.Vectors.{lists_of}
use Rattle.sf_defs.specs.Forest.{Forest}
use Rattle.sf_defs.specs.slots.Slots.{slot_counts}
use Rattle.shared_forest.specs.sf_meet.Named.{least_ids}
use Rattle.shared_forest.specs.sf_meet.SlotRoots.{AreLeast}
use Rattle.shared_forest.proofs.sf_meet.Ranks.{ranks-have, rank-has, list-at, least-next}
use Rattle.shared_forest.proofs.sf_meet.least.least_on_ranks.Goals as goal

pub bounds-firsts-own : goal.bounds-firsts-own
bounds-firsts-own c = let e = ranks-have c.args.f.now c.args.firsts.now c.requires.firsts in omega (arith, c.ranks-rank-end.ensures.ranks)

pub bounds-seconds-own : goal.bounds-seconds-own
bounds-seconds-own c = let e = ranks-have c.args.f.now c.args.seconds.now c.requires.seconds in omega (arith, c.ranks-rank-end.ensures.ranks)

pub bounds-ids-own : goal.bounds-ids-own
bounds-ids-own c = let e = ranks-have c.args.f.now c.args.ids.now c.requires.ids in omega (arith, c.ranks-rank-end.ensures.ranks)

pub least_ids-requires-clause-roots : goal.least_ids-requires-clause-roots
least_ids-requires-clause-roots c = let low : c.loop-rank.rank < length c.args.f.now.roots = omega (arith, c.ranks-rank-end.ensures.ranks) in
    ap length c.deref.ensures.value ∙ (c.in_ok-roots.ensures.count ∙ sym (ap length c.deref-in-loop-rank-3.ensures.value ∙ rank-has c.args.f.now c.args.ids.now c.loop-rank.rank c.index-ids-own.result c.requires.ids low c.index-ids-own.is))

pub least_ids-requires-clause-firsts : goal.least_ids-requires-clause-firsts
least_ids-requires-clause-firsts c = let low : c.loop-rank.rank < length c.args.f.now.roots = omega (arith, c.ranks-rank-end.ensures.ranks) in
    ap length c.deref-in-loop-rank.ensures.value ∙ (rank-has c.args.f.now c.args.firsts.now c.loop-rank.rank c.index-firsts-own.result c.requires.firsts low c.index-firsts-own.is ∙ sym (ap length c.deref-in-loop-rank-3.ensures.value ∙ rank-has c.args.f.now c.args.ids.now c.loop-rank.rank c.index-ids-own.result c.requires.ids low c.index-ids-own.is))

pub least_ids-requires-clause-seconds : goal.least_ids-requires-clause-seconds
least_ids-requires-clause-seconds c = let low : c.loop-rank.rank < length c.args.f.now.roots = omega (arith, c.ranks-rank-end.ensures.ranks) in
    ap length c.deref-in-loop-rank-2.ensures.value ∙ (rank-has c.args.f.now c.args.seconds.now c.loop-rank.rank c.index-seconds-own.result c.requires.seconds low c.index-seconds-own.is ∙ sym (ap length c.deref-in-loop-rank-3.ensures.value ∙ rank-has c.args.f.now c.args.ids.now c.loop-rank.rank c.index-ids-own.result c.requires.ids low c.index-ids-own.is))

pub loop-rank-preserved : goal.loop-rank-preserved
loop-rank-preserved c =
    let f : Forest = c.args.f.now in
    let rank : ℕ = c.loop-rank.rank in
    let low : rank < length f.roots = omega (arith, c.ranks-rank-end.ensures.ranks) in
    let at : (vs : List (Vec ℕ Global)) (v : Vec ℕ Global) → map length (lists_of vs) ≡ slot_counts f → v ≡ get_or vs rank v → v.items ≡ get_or (lists_of vs) rank [] = λ vs v e is. list-at f vs rank v e low is in
    let firsts = c.deref-in-loop-rank.ensures.value ∙ at c.args.firsts.now c.index-firsts-own.result c.requires.firsts c.index-firsts-own.is in
    let seconds = c.deref-in-loop-rank-2.ensures.value ∙ at c.args.seconds.now c.index-seconds-own.result c.requires.seconds c.index-seconds-own.is in
    let ids = c.deref-in-loop-rank-3.ensures.value ∙ at c.args.ids.now c.index-ids-own.result c.requires.ids c.index-ids-own.is in
    let own : AreLeast f rank (get_or (lists_of c.args.firsts.now) rank []) (get_or (lists_of c.args.seconds.now) rank []) (get_or (lists_of c.args.ids.now) rank []) c.in_ok-least_ids.field-0.items = record {
      roots = c.in_ok-roots.roots.items;
      stand = c.in_ok-roots.ensures;
      least = c.in_ok-least_ids.ensures ∙ (λ i. least_ids (c.deref.ensures.value i) (firsts i) (seconds i) (ids i));
    } in
    record {
      count = grind (arith, common_steps);
      each = λ r h. subst (λ (vs : List (Vec ℕ Global)). AreLeast f r (get_or (lists_of c.args.firsts.now) r []) (get_or (lists_of c.args.seconds.now) r []) (get_or (lists_of c.args.ids.now) r []) (get_or (lists_of vs) r [])) (sym c.in_ok-push.ensures.items)
          (least-next f (lists_of c.args.firsts.now) (lists_of c.args.seconds.now) (lists_of c.args.ids.now) c.loop-rank.least.items c.in_ok-least_ids.field-0 rank c.loop-rank.invariant.count c.loop-rank.invariant.each own r h);
    }
