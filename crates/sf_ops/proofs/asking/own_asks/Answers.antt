use Rattle.std.proofs.Common.{ℕ, ◌+◌, [], ◌∷◌, ◌++◌, get_or, take, arith, sym, ap, ◌∙◌, List}
use Rattle.sf_defs.specs.declared.Ask.{Ask}
use Rattle.sf_defs.specs.Forest.{leaves_on}
use Rattle.sf_ops.specs.Asked.{first_word, own_asks, ask_of}
use Rattle.sf_ops.proofs.Words.{map-take-more}
use Rattle.sf_ops.proofs.Conditions.{at_place, leaf_has_root, word-within}
use Rattle.sf_ops.proofs.asking.own_asks.Goals as goal

pub bounds-firsts-leaf : goal.bounds-firsts-leaf
bounds-firsts-leaf c =
    let place = at_place (leaves_on c.args.forest.now c.args.rank) c.loop-i.i c.leaf-leaf.result c.leaf-leaf.ensures in
    let has = leaf_has_root c.args.forest.now c.args.rank c.loop-i.i c.leaf-leaf.result c.requires.right (omega (arith, c.requires.for_ranks.ranks)) place.0 place.1 in
    let word = word-within c.args.forest.now.roots c.leaf-leaf.result has in
    omega (arith, word.0)

pub overflow_add-firsts : goal.overflow_add-firsts
overflow_add-firsts c =
    let place = at_place (leaves_on c.args.forest.now c.args.rank) c.loop-i.i c.leaf-leaf.result c.leaf-leaf.ensures in
    let has = leaf_has_root c.args.forest.now c.args.rank c.loop-i.i c.leaf-leaf.result c.requires.right (omega (arith, c.requires.for_ranks.ranks)) place.0 place.1 in
    let word = word-within c.args.forest.now.roots c.leaf-leaf.result has in
    let first = c.requires.words c.leaf-leaf.result.rank word.0 in
    omega (arith, word.1, c.requires.for_ranks.few_roots)

pub loop-i-preserved : goal.loop-i-preserved
loop-i-preserved c =
    let place = at_place (leaves_on c.args.forest.now c.args.rank) c.loop-i.i c.leaf-leaf.result c.leaf-leaf.ensures in
    let has = leaf_has_root c.args.forest.now c.args.rank c.loop-i.i c.leaf-leaf.result c.requires.right (omega (arith, c.requires.for_ranks.ranks)) place.0 place.1 in
    let word = word-within c.args.forest.now.roots c.leaf-leaf.result has in
    let first = c.requires.words c.leaf-leaf.result.rank word.0 in
    let more = map-take-more (ask_of c.args.forest.now.roots c.args.op c.args.values.now) (leaves_on c.args.forest.now c.args.rank) c.loop-i.i c.leaf-leaf.result place.0 place.1 in
    let ask : ℕ → ℕ → Ask = λ (n v : ℕ). record { word = n + c.leaf-leaf.result.index; op = c.args.op; value = v } in
    let before : List Ask = own_asks c.args.forest.now.roots c.args.op c.args.values.now (take c.loop-i.i (leaves_on c.args.forest.now c.args.rank)) in
    c.in_ok-push.ensures.items ∙ (ap (λ (asks : List Ask). asks ++ ask (get_or c.args.firsts.now c.leaf-leaf.result.rank 0) c.value_at.result ∷ []) c.loop-i.invariant ∙ (ap (λ (n : ℕ). before ++ ask n c.value_at.result ∷ []) first ∙ (ap (λ (v : ℕ). before ++ ask (first_word c.args.forest.now.roots c.leaf-leaf.result.rank) v ∷ []) c.value_at.ensures ∙ sym more)))
