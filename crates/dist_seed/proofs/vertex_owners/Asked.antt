-- What ranks ask that hold what is assigned to them.
use Rattle.std.proofs.Common.{◌≡◌, ℕ, ◌+◌, ◌<◌, ◌≤◌, ◌^◌, List, [], ◌∷◌, ◌++◌, map, length, get_or, take, sym, ap, ap₂, ◌∙◌, subst, arith, zero-add}
use Rattle.std.specs.List.{enumerate_from, AllByRecursion}
use Rattle.std.proofs.lemmas.List.{same_lists, length-map, get_or-map, map-append, map_more, take_all}
use Rattle.std.specs.declared.vec.Vec.{Vec}
use Rattle.std.specs.declared.alloc.Global.{Global}
use Rattle.plain_lists.specs.Vectors.{lists_of}
use Rattle.std.proofs.lemmas.List.FromFn.{length-enumerate_from, get_or-enumerate_from}
use Rattle.std.proofs.lemmas.Grind.{same_number_lists}
use Rattle.plain_lists.specs.Lists.{below}
use Rattle.plain_lists.proofs.Below.{length-below, get_or-map-below, below-all}
use Rattle.plain_lists.proofs.Each.{all_weaker, all_map}
use Rattle.mesh_defs.specs.Mesh.{Mesh}
use Rattle.mesh_defs.specs.RightMesh.{IsRightMesh}
use Rattle.sf_defs.specs.declared.Ask.{Ask}
use Rattle.sf_defs.specs.Rounds.{Round, IsLegal}
use Rattle.rank_defs.specs.Ranks.{IsRightAssignment, owner}
use Rattle.rank_laws.proofs.Owning.{owner-below}
use Rattle.dist_seed.specs.rank_cells.Own.{Held, held_of}
use Rattle.headline_laws.specs.seed_laws.Given.{vertex_point, owners_of}
use Rattle.headline_laws.specs.seed_laws.Asked.{asks_at, before_owners, holder_asks}
use Rattle.headline_laws.proofs.seed_laws.Asking.{length-before}
use Rattle.headline_laws.proofs.seed_laws.Owners.{owners-last}
use Rattle.headline_laws.proofs.seed_laws.Vertices.{vertex-used}
use Rattle.dist_seed.specs.vertex_owners.Asked.{own_asks, AreHeld}

-- numbered images are images of numbers
numbered-below : {X Y : Type 0} (f : ℕ → X) (g : ℕ × X → Y) (k n : ℕ) (xs : List X) → xs ≡ map f (below n) → map g (enumerate_from 0 xs) ≡ map (λ r. g (r, f r)) (below n)
numbered-below f g k n xs is =
    let count : length xs ≡ n = ap length is ∙ length-map (below n) f ∙ length-below n in
    let all = length-map (enumerate_from 0 xs) g in
    let size = length-enumerate_from 0 xs in
    let other = length-map (below n) (λ r. g (r, f r)) in
    same_lists (map g (enumerate_from 0 xs)) (map (λ r. g (r, f r)) (below n)) (omega (arith, all, size, count, other, length-below n))
    (λ r d low.
    let within : r < n = omega (arith, low, all, size, count) in
    let there : get_or xs r (f r) ≡ f r = ap (λ l. get_or l r (f r)) is ∙ get_or-map-below f n r (f r) within in
    get_or-map g (enumerate_from 0 xs) r (r, f r) d (omega (arith, within, size, count))
    ∙ ap g (get_or-enumerate_from 0 xs r (r, f r) (omega (arith, within, count)) ∙ (λ i. (zero-add r i, there i)))
    ∙ sym (get_or-map-below (λ q. g (q, f q)) n r d within))

module _ (m : Mesh) (a : List ℕ) (held : List Held) (are : AreHeld m a held) where
  pub asks-are : map own_asks (enumerate_from 0 held) ≡ holder_asks m a (length held)
  unfolding held_of holder_asks
  asks-are = numbered-below (held_of m a) own_asks 0 (length held) held are.each

  module _ (right : IsRightMesh m) (assignment : IsRightAssignment m (length held) a) (r : Round) (legal : IsLegal r) (before : r.before ≡ before_owners m) (asks : r.asks ≡ holder_asks m a (length held)) where
    count : length r.after ≡ length m.at
    count = legal.lasts ∙ ap length before ∙ length-before m a (length held)

    pub after-are : r.after ≡ owners_of m a (below (length m.at))
    unfolding owners_of
    after-are = let size = length-below (length m.at) in let images = length-map (below (length m.at)) (λ v. owner m a (vertex_point v)) in
        same_number_lists r.after (map (λ v. owner m a (vertex_point v)) (below (length m.at))) (omega (arith, count, size, images))
        (λ v low. let within : v < length m.at = omega (arith, low, count) in owners-last m a (length held) r right assignment legal before asks v within ∙ sym (get_or-map-below (λ w. owner m a (vertex_point w)) (length m.at) v 0 within))

    -- owners fit 32 bits
    pub after-small : AllByRecursion (λ w. w < 2 ^ 32) r.after
    unfolding owners_of
    after-small = subst (AllByRecursion (λ w. w < 2 ^ 32)) (sym after-are)
        (all_map (λ w. w < 2 ^ 32) (λ v. owner m a (vertex_point v)) (below (length m.at))
        (all_weaker (λ v. v < length m.at) (λ v. owner m a (vertex_point v) < 2 ^ 32) (λ v low. let few = assignment.few_ranks in let own = owner-below m (length held) a assignment.each (vertex_point v) (vertex-used m right v low) in omega (arith, few, own)) (below (length m.at)) (below-all (length m.at))))

-- one rank more
pub lists-push : (asks : List (Vec Ask Global)) (own : Vec Ask Global) (held : List Held) (r : ℕ) (there : Held) → r < length held → there ≡ get_or held r there → own.items ≡ asks_at r there.vertices
    → lists_of asks ≡ map own_asks (take r (enumerate_from 0 held)) → lists_of (asks ++ own ∷ []) ≡ map own_asks (take (r + 1) (enumerate_from 0 held))
lists-push asks own held r there low is asked before =
    map-append (λ (v : Vec Ask Global). v.items) asks (own ∷ [])
    ∙ ap₂ (λ xs x. xs ++ x ∷ []) before (asked ∙ sym (ap own_asks (get_or-enumerate_from 0 held r (r, there) low ∙ (λ i. (zero-add r i, sym is i)))))
    ∙ sym (map_more own_asks (enumerate_from 0 held) r (r, there) (let size = length-enumerate_from 0 held in omega (arith, low, size)))

pub all-pushed : (held : List Held) (r : ℕ) → length held ≤ r → map own_asks (take r (enumerate_from 0 held)) ≡ map own_asks (enumerate_from 0 held)
all-pushed held r le = ap (map own_asks) (take_all r (enumerate_from 0 held) (let size = length-enumerate_from 0 held in omega (arith, le, size)))
