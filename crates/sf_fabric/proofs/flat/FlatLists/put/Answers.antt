use Rattle.std.proofs.Common.{◌≡◌, ◌+◌, ◌<◌, ℕ, [], List, length, set, get_or, arith, ap, sym, subst, ◌∙◌}
use Rattle.std.proofs.lemmas.Grind.{get_or_default_zero}
use Rattle.sf_fabric.specs.Cut.{cut}
use Rattle.sf_fabric.proofs.Cuts.{place-within, put-within, cut-put}
use Rattle.sf_fabric.proofs.flat.FlatLists.put.Goals as goal

pub index-requires : goal.index-requires
index-requires g c =
    let within : c.args.k < length (cut c.self.inside.items.items c.self.inside.firsts.items) = subst (λ (n : ℕ). c.args.k < n) (sym (ap length c.self.view_is)) c.requires.list in
    let place : c.args.k + 1 < length c.self.inside.firsts.items = place-within c.self.inside.items.items c.self.inside.firsts.items c.args.k within in
    subst (λ (n : ℕ). c.args.k < n) (sym c.self.inside.firsts.ok.0) (omega arith)

pub overflow_add-place : goal.overflow_add-place
overflow_add-place g c =
    let within : c.args.k < length (cut c.self.inside.items.items c.self.inside.firsts.items) = subst (λ (n : ℕ). c.args.k < n) (sym (ap length c.self.view_is)) c.requires.list in
    let low : c.args.i < length (get_or (cut c.self.inside.items.items c.self.inside.firsts.items) c.args.k []) = subst (λ (ls : List (List g.row.T.Denot)). c.args.i < length (get_or ls c.args.k [])) (sym c.self.view_is) c.requires.place in
    let place : c.index.result.now + c.args.i < length c.self.inside.items.items = put-within c.self.inside.items.items c.self.inside.firsts.items c.self.invariant c.args.k c.args.i c.index.result.now within low c.index.ensures in
    omega (arith, place, c.self.inside.items.ok.0, c.self.inside.items.ok.1, c.self.inside.items.small)

pub index_mut-requires : goal.index_mut-requires
index_mut-requires g c =
    let within : c.args.k < length (cut c.self.inside.items.items c.self.inside.firsts.items) = subst (λ (n : ℕ). c.args.k < n) (sym (ap length c.self.view_is)) c.requires.list in
    let low : c.args.i < length (get_or (cut c.self.inside.items.items c.self.inside.firsts.items) c.args.k []) = subst (λ (ls : List (List g.row.T.Denot)). c.args.i < length (get_or ls c.args.k [])) (sym c.self.view_is) c.requires.place in
    subst (λ (n : ℕ). c.index.result.now + c.args.i < n) (sym c.self.inside.items.ok.0) (put-within c.self.inside.items.items c.self.inside.firsts.items c.self.invariant c.args.k c.args.i c.index.result.now within low c.index.ensures)

pub returns : goal.returns
returns g c =
    let items : List g.row.T.Denot = c.self.inside.items.items in
    let firsts : List ℕ = c.self.inside.firsts.items in
    let within : c.args.k < length (cut items firsts) = subst (λ (n : ℕ). c.args.k < n) (sym (ap length c.self.view_is)) c.requires.list in
    let low : c.args.i < length (get_or (cut items firsts) c.args.k []) = subst (λ (ls : List (List g.row.T.Denot)). c.args.i < length (get_or ls c.args.k [])) (sym c.self.view_is) c.requires.place in
    let place = place-within items firsts c.args.k within in
    let first : c.index.result.now ≡ get_or firsts c.args.k 0 = c.index.ensures ∙ get_or_default_zero firsts c.args.k c.index.result.now (let next : c.args.k + 1 < length firsts = place in omega arith) in
    ap (λ (n : ℕ). cut (set items (n + c.args.i) c.args.item) firsts) first
    ∙ cut-put items firsts c.self.invariant c.args.k c.args.i c.args.item within low
    ∙ ap (λ (ls : List (List g.row.T.Denot)). set ls c.args.k (set (get_or ls c.args.k []) c.args.i c.args.item)) c.self.view_is
