use Rattle.std.proofs.Common.{◌≡◌, ℕ, List, map, length, ap, sym, subst, ◌∙◌}
use Rattle.plain_lists.specs.Vectors.{lists_of}
use Rattle.mesh_defs.specs.Mesh.{Mesh}
use Rattle.sf_defs.specs.Forest.{Forest}
use Rattle.sf_ops.specs.Asked.{CoverLeaves}
use Rattle.rank_defs.specs.Spread.{PlainShared}
use Rattle.rank_chart_laws.specs.key_laws.Words.{IsLaidOut}
use Rattle.rank_chart_laws.proofs.key_laws.Stands.{laid-out}
use Rattle.orient_iface.proofs.iface_keys.Rounds.{covered}
use Rattle.orient_iface.proofs.iface_keys.Steps.{if-ok}
use Rattle.rank_cones.specs.arrangement_laws.Arrangements.{own_arrangements}
use Rattle.rank_cones.specs.arrangement_laws.Told.{all_ordered, offers, AreGreatest}
use Rattle.rank_cones.proofs.arrangement_laws.Told.{all-told, keys-shape, offers-shape}
use Rattle.orient_iface.specs.iface_arrangements.Keyed.{AreKeyed, AreSomeKeyed}
use Rattle.orient_iface.proofs.iface_arrangements.telling.arrangements.Goals as goal

-- what ranks have that know the keys of some mesh
laid : (s : PlainShared) (keys : List (List ℕ)) → AreSomeKeyed s keys → IsLaidOut s
laid s keys some = laid-out s some.m some.dofs some.a some.n some.are.shared

keyed-shape : (s : PlainShared) (keys : List (List ℕ)) → AreSomeKeyed s keys → map length keys ≡ s.forest.roots
keyed-shape s keys some = keys-shape s some.m some.dofs some.a some.n some.are.shared keys some.are.keys_are

offered-shape : (s : PlainShared) (keys : List (List ℕ)) → AreSomeKeyed s keys → map length (offers s keys) ≡ s.forest.roots
offered-shape s keys some = offers-shape s some.m some.dofs some.a some.n some.are.shared keys some.are.keys_are

pub offers-requires-clause-laid_out : goal.offers-requires-clause-laid_out
offers-requires-clause-laid_out g c = laid c.args.shared.now (lists_of c.args.keys.now) c.requires

pub offers-requires-clause-shape : goal.offers-requires-clause-shape
offers-requires-clause-shape g c = keyed-shape c.args.shared.now (lists_of c.args.keys.now) c.requires

pub greatest_copies-requires-clause-places : goal.greatest_copies-requires-clause-places
greatest_copies-requires-clause-places g c =
    let s : PlainShared = c.args.shared.now in
    let own : lists_of c.deref.result.now ≡ offers s (lists_of c.args.keys.now) = ap lists_of c.deref.ensures.value ∙ c.in_ok-own.ensures in
    ap (map length) own ∙ (offered-shape s (lists_of c.args.keys.now) c.requires ∙ ap (λ (f : Forest). f.roots) (sym c.forest.ensures))

pub greatest_copies-requires-clause-leaves : goal.greatest_copies-requires-clause-leaves
greatest_copies-requires-clause-leaves g c =
    let s : PlainShared = c.args.shared.now in
    let own : lists_of c.deref.result.now ≡ offers s (lists_of c.args.keys.now) = ap lists_of c.deref.ensures.value ∙ c.in_ok-own.ensures in
    subst (λ f. CoverLeaves f (lists_of c.deref.result.now)) (sym c.forest.ensures)
    (covered s (laid s (lists_of c.args.keys.now) c.requires) (lists_of c.deref.result.now) (ap (map length) own ∙ offered-shape s (lists_of c.args.keys.now) c.requires))

pub all_ordered-requires-clause-laid_out : goal.all_ordered-requires-clause-laid_out
all_ordered-requires-clause-laid_out g c = laid c.args.shared.now (lists_of c.args.keys.now) c.requires

-- the orders that ranks are told are those of what they offer
told : (s : PlainShared) (f : Forest) (keys lent orders : List (List ℕ)) → f ≡ s.forest → lent ≡ offers s keys → AreGreatest f lent orders → AreGreatest s.forest (offers s keys) orders
told s f keys lent orders forest own greatest = subst (λ t. AreGreatest t (offers s keys) orders) forest (subst (λ vs. AreGreatest f vs orders) own greatest)

pub all_ordered-requires-clause-shape : goal.all_ordered-requires-clause-shape
all_ordered-requires-clause-shape g c =
    let s : PlainShared = c.args.shared.now in
    let own : lists_of c.deref.result.now ≡ offers s (lists_of c.args.keys.now) = ap lists_of c.deref.ensures.value ∙ c.in_ok-own.ensures in
    let greatest = told s c.forest.result.now (lists_of c.args.keys.now) (lists_of c.deref.result.now) (lists_of c.in_ok-orders.orders.items) c.forest.ensures own c.in_ok-orders.ensures.greatest in
    ap (λ vs. map length (lists_of vs)) c.deref-2.ensures.value ∙ (greatest.same ∙ greatest.shape)

pub returns-clause-arrangements : goal.returns-clause-arrangements
returns-clause-arrangements g c =
    let s : PlainShared = c.args.shared.now in
    let keys : List (List ℕ) = lists_of c.args.keys.now in
    let orders : List (List ℕ) = lists_of c.in_ok-orders.orders.items in
    let own : lists_of c.deref.result.now ≡ offers s keys = ap lists_of c.deref.ensures.value ∙ c.in_ok-own.ensures in
    let greatest = told s c.forest.result.now keys (lists_of c.deref.result.now) orders c.forest.ensures own c.in_ok-orders.ensures.greatest in
    if-ok (λ all. lists_of all.items ≡ all_ordered s (lists_of c.deref-2.result.now)) (λ all. (m : Mesh) (dofs : List (List ℕ)) (a : List ℕ) (n : ℕ) → AreKeyed s keys m dofs a n → lists_of all.items ≡ own_arrangements m a n) c.all_ordered.result
    (λ all e m dofs a n keyed. e ∙ (ap (λ vs. all_ordered s (lists_of vs)) c.deref-2.ensures.value ∙ all-told s m dofs a n keyed.shared keys keyed.keys_are orders greatest))
    c.all_ordered.ensures
