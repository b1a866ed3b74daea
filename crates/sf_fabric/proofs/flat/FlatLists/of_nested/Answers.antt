use Rattle.std.proofs.Common.{◌≡◌, ℕ, List, [], ◌∷◌, ◌++◌, length, sym, ap, subst, ◌∙◌}
use Rattle.std.specs.declared.vec.Vec.{Vec}
use Rattle.std.specs.declared.alloc.Global.{Global}
use Rattle.std.proofs.lemmas.List.{append_assoc}
use Rattle.plain_lists.specs.Vectors.{lists_of}
use Rattle.sf_fabric.specs.Cut.{cut, AreCuts}
use Rattle.sf_fabric.proofs.Cuts.{cuts-none, cut-none, cuts-more, cut-more}
use Rattle.sf_fabric.proofs.flat.FlatLists.of_nested.Goals as goal

pub loop-list-init : goal.loop-list-init
loop-list-init g c =
    let firsts : c.push.new.self.items ≡ 0 ∷ [] = c.in_ok-push.ensures.items ∙ ap (λ (ns : List ℕ). ns ++ 0 ∷ []) c.new-firsts.ensures.items in
    record {
      can_next = tt;
      is_finite = tt;
      cuts = subst (λ (xs : List g.row.T.Denot). AreCuts xs c.push.new.self.items) (sym c.new-items.ensures.items) (subst (AreCuts []) (sym firsts) cuts-none);
      lists = (λ i. cut (c.new-items.ensures.items i) (firsts i) ++ lists_of c.into_iter-list-iterator.result.rest.items)
          ∙ ap (λ (ls : List (List g.row.T.Denot)). ls ++ lists_of c.into_iter-list-iterator.result.rest.items) cut-none
          ∙ ap lists_of c.into_iter-list-iterator.ensures.into_iter_gives.0;
    }

pub loop-list-preserved : goal.loop-list-preserved
loop-list-preserved g c =
    let own : List g.row.T.Denot = c.in-Some.list.items in
    let items : c.extend_from_slice.new.self.items ≡ c.loop-list.items.items ++ own = c.in_ok-extend_from_slice.ensures.items ∙ ap (λ (xs : List g.row.T.Denot). c.loop-list.items.items ++ xs) c.deref.ensures.value in
    let firsts : c.push-in-loop-list.new.self.items ≡ c.loop-list.firsts.items ++ length (c.loop-list.items.items ++ own) ∷ [] =
    c.in_ok-push-2.ensures.items ∙ ap (λ (n : ℕ). c.loop-list.firsts.items ++ n ∷ []) (c.len.ensures ∙ c.extend_from_slice.new.self.ok.0 ∙ ap length items) in
    let rest : c.loop-list.list-iterator.rest.items ≡ c.in-Some.list ∷ c.next.new.self.rest.items = c.in-Some.ensures.steps.0 in
    record {
      can_next = tt;
      is_finite = tt;
      cuts = subst (λ (xs : List g.row.T.Denot). AreCuts xs c.push-in-loop-list.new.self.items) (sym items)
          (subst (AreCuts (c.loop-list.items.items ++ own)) (sym firsts) (cuts-more c.loop-list.items.items c.loop-list.firsts.items c.loop-list.invariant.cuts own));
      lists = (λ i. cut (items i) (firsts i) ++ lists_of c.next.new.self.rest.items)
          ∙ ap (λ (ls : List (List g.row.T.Denot)). ls ++ lists_of c.next.new.self.rest.items) (cut-more c.loop-list.items.items c.loop-list.firsts.items c.loop-list.invariant.cuts own)
          ∙ append_assoc (cut c.loop-list.items.items c.loop-list.firsts.items) (own ∷ []) (lists_of c.next.new.self.rest.items)
          ∙ ap (λ (vs : List (Vec g.row.T.Denot Global)). cut c.loop-list.items.items c.loop-list.firsts.items ++ lists_of vs) (sym rest)
          ∙ c.loop-list.invariant.lists;
    }
