use Rattle.std.proofs.Common.{◌≡◌, ℕ, ◌+◌, ◌<◌, Bool, true, false, not, List, [], ◌∷◌, ◌++◌, map, length, get_or, set, take, replicate, Option, Some, None, Vec, Global, refl, sym, ap, ap₂, ◌∙◌, subst, arith}
use Rattle.std.specs.Prelude.{is_some}
use Rattle.std.specs.List.{AllByRecursion, slice_get}
use Rattle.std.proofs.lemmas.List.{get_or_read, length-map, take_all, take_more}
use Rattle.std.proofs.lemmas.Option.{get_or_from_slice_get}
use Rattle.plain_lists.specs.Lists.{below}
use Rattle.plain_lists.specs.Vectors.{lists_of}
use Rattle.plain_lists.proofs.Below.{length-below, get_or-map-below}
use Rattle.plain_lists.proofs.Each.{all_at}
use Rattle.sf_defs.specs.declared.Leaf.{Leaf}
use Rattle.sf_defs.specs.Forest.{Forest, leaves_on, roots_on}
use Rattle.rank_chart_laws.proofs.meeting_laws.Loops.{list_at}
use Rattle.rank_chart_laws.specs.moved_laws.Moves.{moved_place, moves_on, moved_root}
use Rattle.orient_iface.specs.moved_points.Fitting.{FitMoves}
use Rattle.orient_iface.proofs.moved_points.Routed.{routes, routes-none, routes-new, routes-old}
use Rattle.orient_iface.proofs.moved_points.forest.moved_roots.Goals as goal
use Rattle.orient_iface.proofs.moved_points.forest.moved_roots.Goals.{then-is_none, else-is_none}

-- the moves of a rank lie in their vector
own-is : (vs : List (Vec ℕ Global)) (r : ℕ) (v : Vec ℕ Global) → r < length vs → v ≡ get_or vs r v → moves_on (lists_of vs) r ≡ v.items
own-is vs r v low is = list_at vs r v low ∙ ap (λ (w : Vec ℕ Global). w.items) (sym is)

module _ (vs : List (Vec ℕ Global)) (f : Forest) (fit : FitMoves (lists_of vs) f) (r : ℕ) (rank : r < length vs) where
  there : r < length f.roots
  there = omega (arith, rank, fit.ranks, length-map vs (λ (v : Vec ℕ Global). v.items))

  -- a leaf that is read fits
  leaf-fits : (i : ℕ) (l : Leaf) → i < length (leaves_on f r) → slice_get (leaves_on f r) i ≡ Some l → (l.local < length (moves_on (lists_of vs) r)) × ((l.rank < length vs) × (l.index < length (moves_on (lists_of vs) l.rank)))
  leaf-fits i l low e =
      let is : get_or (leaves_on f r) i l ≡ l = get_or_from_slice_get (leaves_on f r) i l l e in
      let local = subst (λ (k : Leaf). k.local < roots_on f r) is (all_at (λ (k : Leaf). k.local < roots_on f r) (leaves_on f r) i l (fit.locals r there) low) in
      let on = subst (λ (k : Leaf). (k.rank < length (lists_of vs)) × (k.index < length (moves_on (lists_of vs) k.rank))) is (all_at (λ (k : Leaf). (k.rank < length (lists_of vs)) × (k.index < length (moves_on (lists_of vs) k.rank))) (leaves_on f r) i l (fit.on r there) low) in
      (omega (arith, local, fit.as_many r there), (omega (arith, on.0, length-map vs (λ (v : Vec ℕ Global). v.items)), on.1))

  -- the place to which a place goes
  place-is : (v : Vec ℕ Global) (local place : ℕ) → v ≡ get_or vs r v → local < length (moves_on (lists_of vs) r) → place ≡ get_or v.items local place → (place ≡ moved_place (moves_on (lists_of vs) r) local) × (place < length (moves_on (lists_of vs) r))
  place-is v local place is low e =
      let own = own-is vs r v rank is in
      let within : local < length v.items = omega (arith, low, ap length own) in
      let here : place ≡ moved_place (moves_on (lists_of vs) r) local = get_or_read v.items local place within e 0 ∙ ap (λ l. get_or l local 0) (sym own) in
      let down = all_at (λ j. j < length (moves_on (lists_of vs) r)) (moves_on (lists_of vs) r) local 0 (fit.low r there) low in
      (here, omega (arith, here, down))

none-of : {X : Type 0} (o : Option X) (b : Bool) → is_some o ≡ not b → b ≡ true → o ≡ None
none-of None b h t = refl
none-of (Some x) b h t = absurd (cc (h ∙ ap not t))

some-of : {X : Type 0} (o : Option X) (b : Bool) → is_some o ≡ not b → b ≡ false → o ≡ None → ⊥
some-of o b h t e = cc (sym (ap is_some e) ∙ h ∙ ap not t)

pub loop-i-init : goal.loop-i-init
loop-i-init c =
    let moves = lists_of c.args.moves.now in
    let own = own-is c.args.moves.now c.args.rank c.index-moves-rank.result c.requires.rank c.index-moves-rank.is in
    let size : c.len.result ≡ length (moves_on moves c.args.rank) = omega (arith, c.len.ensures, c.index-moves-rank.result.ok.0, ap length own) in
    c.in_ok-found.ensures ∙ ap (λ n. replicate n None) size ∙ sym (routes-none moves (moves_on moves c.args.rank) (length (moves_on moves c.args.rank)))

pub index-requires : goal.index-requires
index-requires c =
    let within : c.loop-i.i < length (leaves_on c.args.forest.now c.args.rank) = omega (arith, c.loop-i-test.true, c.leaf_count-i-end.ensures) in
    let leaf = leaf-fits c.args.moves.now c.args.forest.now c.requires.fit c.args.rank c.requires.rank c.loop-i.i c.leaf-leaf.result within c.leaf-leaf.ensures in
    let own = own-is c.args.moves.now c.args.rank c.index-moves-rank.result c.requires.rank c.index-moves-rank.is in
    omega (arith, leaf.0, ap length own, c.index-moves-rank.result.ok.0)

pub index-requires-in-loop-i : goal.index-requires-in-loop-i
index-requires-in-loop-i c =
    let own = moves_on (lists_of c.args.moves.now) c.args.rank in
    let within : c.loop-i.i < length (leaves_on c.args.forest.now c.args.rank) = omega (arith, c.loop-i-test.true, c.leaf_count-i-end.ensures) in
    let leaf = leaf-fits c.args.moves.now c.args.forest.now c.requires.fit c.args.rank c.requires.rank c.loop-i.i c.leaf-leaf.result within c.leaf-leaf.ensures in
    let place = place-is c.args.moves.now c.args.forest.now c.requires.fit c.args.rank c.requires.rank c.index-moves-rank.result c.leaf-leaf.result.local c.index.result.now c.index-moves-rank.is leaf.0 c.index.ensures in
    let size : length c.loop-i.found.items ≡ length own = ap length c.loop-i.invariant ∙ length-map (below (length own)) (routes (lists_of c.args.moves.now) own (take c.loop-i.i (leaves_on c.args.forest.now c.args.rank))) ∙ length-below (length own) in
    omega (arith, place.1, size, c.loop-i.found.ok.0)

pub bounds-moves-leaf : goal.bounds-moves-leaf
bounds-moves-leaf c =
    let within : c.loop-i.i < length (leaves_on c.args.forest.now c.args.rank) = omega (arith, c.loop-i-test.true, c.leaf_count-i-end.ensures) in
    (leaf-fits c.args.moves.now c.args.forest.now c.requires.fit c.args.rank c.requires.rank c.loop-i.i c.leaf-leaf.result within c.leaf-leaf.ensures).1.0

pub index-requires-then-is_none : goal.index-requires-then-is_none
index-requires-then-is_none c =
    let within : c.loop-i.i < length (leaves_on c.args.forest.now c.args.rank) = omega (arith, c.loop-i-test.true, c.leaf_count-i-end.ensures) in
    let leaf = leaf-fits c.args.moves.now c.args.forest.now c.requires.fit c.args.rank c.requires.rank c.loop-i.i c.leaf-leaf.result within c.leaf-leaf.ensures in
    let other = own-is c.args.moves.now c.leaf-leaf.result.rank c.index-moves-leaf.result leaf.1.0 c.index-moves-leaf.is in
    omega (arith, leaf.1.1, ap length other, c.index-moves-leaf.result.ok.0)

pub index_mut-requires : goal.index_mut-requires
index_mut-requires c =
    let own = moves_on (lists_of c.args.moves.now) c.args.rank in
    let within : c.loop-i.i < length (leaves_on c.args.forest.now c.args.rank) = omega (arith, c.loop-i-test.true, c.leaf_count-i-end.ensures) in
    let leaf = leaf-fits c.args.moves.now c.args.forest.now c.requires.fit c.args.rank c.requires.rank c.loop-i.i c.leaf-leaf.result within c.leaf-leaf.ensures in
    let place = place-is c.args.moves.now c.args.forest.now c.requires.fit c.args.rank c.requires.rank c.index-moves-rank.result c.leaf-leaf.result.local c.index.result.now c.index-moves-rank.is leaf.0 c.index.ensures in
    let size : length c.loop-i.found.items ≡ length own = ap length c.loop-i.invariant ∙ length-map (below (length own)) (routes (lists_of c.args.moves.now) own (take c.loop-i.i (leaves_on c.args.forest.now c.args.rank))) ∙ length-below (length own) in
    omega (arith, place.1, size, c.loop-i.found.ok.0)

pub loop-i-preserved : goal.loop-i-preserved
loop-i-preserved c =
    let moves = lists_of c.args.moves.now in
    let own = moves_on moves c.args.rank in
    let leaves = leaves_on c.args.forest.now c.args.rank in
    let before = take c.loop-i.i leaves in
    let l : Leaf = c.leaf-leaf.result in
    let n = length own in
    let within : c.loop-i.i < length leaves = omega (arith, c.loop-i-test.true, c.leaf_count-i-end.ensures) in
    let leaf = leaf-fits c.args.moves.now c.args.forest.now c.requires.fit c.args.rank c.requires.rank c.loop-i.i l within c.leaf-leaf.ensures in
    let place = place-is c.args.moves.now c.args.forest.now c.requires.fit c.args.rank c.requires.rank c.index-moves-rank.result l.local c.index.result.now c.index-moves-rank.is leaf.0 c.index.ensures in
    let low : moved_place own l.local < n = let same = place.0 in let down = place.1 in omega (arith, same, down) in
    let size : length c.loop-i.found.items ≡ n = ap length c.loop-i.invariant ∙ length-map (below n) (routes moves own before) ∙ length-below n in
    let inside : c.index.result.now < length c.loop-i.found.items = let down = place.1 in omega (arith, down, size) in
    let read : c.index-in-loop-i.result.now ≡ routes moves own before (moved_place own l.local) =
    get_or_read c.loop-i.found.items c.index.result.now c.index-in-loop-i.result.now inside c.index-in-loop-i.ensures None ∙ ap₂ (λ (xs : List (Option (ℕ × ℕ))) (k : ℕ). get_or xs k None) c.loop-i.invariant place.0
    ∙ get_or-map-below (routes moves own before) n (moved_place own l.local) None low in
    let more : before ++ l ∷ [] ≡ take (c.loop-i.i + 1) leaves = ap (λ k. before ++ k ∷ []) (sym (get_or_from_slice_get leaves c.loop-i.i l l c.leaf-leaf.ensures)) ∙ sym (take_more leaves c.loop-i.i l within) in
    elim c.if-is_none.branch [
      | then-is_none w ↦
          (let inner : w.index-then-is_none.result.now ≡ moved_place (moves_on moves l.rank) l.index =
          (place-is c.args.moves.now c.args.forest.now c.requires.fit l.rank leaf.1.0 w.index-moves-leaf.result l.index w.index-then-is_none.result.now w.index-moves-leaf.is leaf.1.1 w.index-then-is_none.ensures).0 in
          let none = sym read ∙ none-of c.index-in-loop-i.result.now c.is_none.result c.is_none.ensures w.if-is_none.true in
          ap (λ (v : Vec (Option (ℕ × ℕ)) Global). v.items) w.found-is
          ∙ (λ j. set (c.loop-i.invariant j) (place.0 j) (Some (l.rank, inner j)))
          ∙ sym (routes-new moves own before l n low none) ∙ ap (λ ls. map (routes moves own ls) (below n)) more)
      | else-is_none w ↦
          (let some = λ (e : routes moves own before (moved_place own l.local) ≡ None). some-of c.index-in-loop-i.result.now c.is_none.result c.is_none.ensures w.if-is_none.false (read ∙ e) in
          ap (λ (v : Vec (Option (ℕ × ℕ)) Global). v.items) w.found-is ∙ c.loop-i.invariant
          ∙ sym (routes-old moves own before l n some) ∙ ap (λ ls. map (routes moves own ls) (below n)) more)
    ]

pub returns : goal.returns
returns c =
    let moves = lists_of c.args.moves.now in
    let own = moves_on moves c.args.rank in
    c.loop-i.invariant ∙ ap (λ ls. map (routes moves own ls) (below (length own))) (take_all c.loop-i.i (leaves_on c.args.forest.now c.args.rank) (omega (arith, c.loop-i-test.false, c.leaf_count-i-end.ensures)))
