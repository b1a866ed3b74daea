use Rattle.std.proofs.Common.{◌<◌, [], length, get_or, refl, sym, subst, arith, rules}
use Rattle.plain_lists.proofs.Each.{all_at}
use Rattle.dist_seed.specs.rank_marks.Own.{AreTold}
use Rattle.dist_seed.proofs.rank_marks.Sets.{told-none, told-more, told-all}
use Rattle.dist_seed.proofs.rank_marks.own_points.told.Goals as goal

pub loop-v-init : goal.loop-v-init
loop-v-init c = subst (AreTold [] c.args.count) (sym (c.in_ok-told.ensures.items_if_clones_equal (λ y e. e))) (told-none c.args.count)

pub index_mut-requires : goal.index_mut-requires
index_mut-requires c =
    let numbers = c.args.numbers.now in
    let low = all_at (λ v. v < c.args.count) numbers c.loop-v.v-index 0 c.requires c.loop-v-test.true in
    let there : get_or numbers c.loop-v.v-index 0 < length c.loop-v.told.items = let many = c.loop-v.invariant.many in omega (arith, low, many) in
    search rules

pub loop-v-preserved : goal.loop-v-preserved
loop-v-preserved c = told-more c.args.numbers.now c.args.count c.loop-v.v-index (get_or c.args.numbers.now c.loop-v.v-index 0) c.loop-v.told.items c.loop-v-test.true refl (all_at (λ v. v < c.args.count) c.args.numbers.now c.loop-v.v-index 0 c.requires c.loop-v-test.true) c.loop-v.invariant

pub returns : goal.returns
returns c = told-all c.args.numbers.now c.args.count c.loop-v.v-index c.loop-v.told.items (omega (arith, c.loop-v-test.false)) c.loop-v.invariant
