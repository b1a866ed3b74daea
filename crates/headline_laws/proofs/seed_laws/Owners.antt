-- The owner of a vertex is the least rank that asks at it.
use Rattle.std.proofs.Common.{◌≡◌, ℕ, zero, suc, ◌<◌, ◌≤◌, Bool, true, false, ◌||◌, ◌&&◌, ◌==◌, List, [], ◌∷◌, map, length, get_or, refl, sym, ap, ◌∙◌, subst, ⊎_elim, arith}
use Rattle.std.specs.Prelude.{flat_map}
use Rattle.std.specs.List.{list_any, AllByRecursion}
use Rattle.std.proofs.lemmas.Bool.{or_cases, or_left, or_right, and_from, eq-eqb, eqb-true, cases_eq}
use Rattle.std.proofs.lemmas.List.Folds.{list_any-append}
use Rattle.plain_lists.specs.Lists.{below}
use Rattle.plain_lists.proofs.Below.{below-all}
use Rattle.plain_lists.proofs.Each.{all_weaker, all_both, all_filter, all_map, all_flat_map}
use Rattle.plain_lists.proofs.Filters.{filter_passing}
use Rattle.plain_lists.proofs.Finding.{any_map, any_filter}
use Rattle.mesh_defs.specs.Mesh.{Mesh, Cell, placed_cells}
use Rattle.mesh_defs.specs.RightMesh.{IsRightMesh, in_some}
use Rattle.sf_defs.specs.declared.Op.TheVariants.{Min}
use Rattle.sf_defs.specs.declared.Ask.{Ask}
use Rattle.sf_defs.specs.PrintedOrder.{kind_of}
use Rattle.sf_defs.specs.Rounds.{Round, IsLegal, all_asks, asks_on}
use Rattle.round_laws.specs.LastValues.{IsAsked, IsLeast}
use Rattle.round_laws.proofs.LoadsAndLeast.{legal-least}
use Rattle.rank_defs.specs.Ranks.{IsRightAssignment, assigned, rank_of, owner}
use Rattle.rank_laws.proofs.Owning.{owner-least, owner-assigned, owner-below}
use Rattle.headline_laws.specs.seed_laws.Given.{has_vertex, vertices_of, vertex_point}
use Rattle.headline_laws.specs.seed_laws.Asked.{no_rank, before_owners, holder_ask, asks_at, rank_vertices, holder_asks}
use Rattle.headline_laws.proofs.seed_laws.Vertices.{AreHigh, in_some-vertex, placed-high, vertex-used}
use Rattle.headline_laws.proofs.seed_laws.Asking.{IsMin, kind-min, mins-on, length-before, before-at}

-- ---- lists

-- some number below n passes where one does
any-below : (t : ℕ → Bool) (n k : ℕ) → k < n → t k ≡ true → list_any t (below n) ≡ true
any-below t zero k low h = absurd (omega (arith, low))
any-below t (suc n) k low h = list_any-append t (below n) (n ∷ []) ∙ ⊎_elim
    (λ same. or_right (list_any t (below n)) (t n || false) (or_left (t n) false (ap t (sym same) ∙ h)))
    (λ other. or_left (list_any t (below n)) (t n || false) (any-below t n k (omega (arith, low, other)) h))
    (cases_eq k n)

any-flat : {X Y : Type 0} (p : Y → Bool) (f : X → List Y) (xs : List X) → list_any p (flat_map f xs) ≡ list_any (λ x. list_any p (f x)) xs
any-flat p f [] = refl
any-flat p f (x ∷ xs) = list_any-append p (f x) (flat_map f xs) ∙ ap (λ b. list_any p (f x) || b) (any-flat p f xs)

-- what is asked is bounded as each value is
asked-above : (k x : ℕ) (asks : List Ask) → AllByRecursion (λ (a : Ask). k ≤ a.value) asks → IsAsked x asks → k ≤ x
asked-above k x [] all asked = absurd asked
asked-above k x (a ∷ asks) all asked = ⊎_elim (λ here. omega (arith, all.0, here.1)) (λ later. asked-above k x asks all.1 later) asked

-- a bound of each value is one of a value that is there
some-bounds : (x k : ℕ) (asks : List Ask) → AllByRecursion (λ (a : Ask). a.op ≡ Min → x ≤ a.value) asks → AllByRecursion IsMin asks → list_any (λ (a : Ask). a.value == k) asks ≡ true → x ≤ k
some-bounds x k [] all mins h = absurd (cc h)
some-bounds x k (a ∷ asks) all mins h = ⊎_elim (λ here. let is = eqb-true a.value k here in let low = all.0 mins.0 in omega (arith, is, low)) (λ later. some-bounds x k asks all.1 mins.1 later) (or_cases (a.value == k) (list_any (λ (b : Ask). b.value == k) asks) h)

kind-some : (k : ℕ) (asks : List Ask) → AllByRecursion IsMin asks → list_any (λ (a : Ask). a.value == k) asks ≡ true → kind_of asks ≡ Min
kind-some k [] mins h = absurd (cc h)
kind-some k (a ∷ asks) mins h = kind-min a asks mins

-- ---- holders of a vertex

module _ (m : Mesh) (a : List ℕ) (n : ℕ) (right : IsRightMesh m) (assignment : IsRightAssignment m n a) where
  assigned-high : (r : ℕ) → AreHigh (assigned m a r)
  unfolding assigned
  assigned-high r = all_filter _ (λ (c : ℕ × Cell). rank_of a c == r) (placed_cells m) (placed-high m right)

  module _ (v : ℕ) (low : v < length m.at) where
    owns : ℕ
    owns = owner m a (vertex_point v)

    used : in_some (vertex_point v) (placed_cells m) ≡ true
    used = vertex-used m right v low

    -- the owner asks at the vertex
    owner-asks : list_any (λ (b : Ask). b.value == owns) (asks_on v (holder_asks m a n)) ≡ true
    unfolding holder_asks rank_vertices vertices_of owns
    owner-asks =
        let r = owns in
        let q : Ask → Bool = λ b. (b.word == v) && (b.value == r) in
        let holds : has_vertex (assigned m a r) v ≡ true = sym (in_some-vertex (assigned m a r) v (assigned-high r)) ∙ owner-assigned m a (vertex_point v) used in
        let asks : ℕ → List Ask = λ k. asks_at k (rank_vertices m a k) in
        let own : list_any q (asks r) ≡ true =
        any_map q (holder_ask r) (rank_vertices m a r)
        ∙ any_filter (λ w. q (holder_ask r w)) (has_vertex (assigned m a r)) (below (length m.at))
        ∙ any-below (λ w. has_vertex (assigned m a r) w && q (holder_ask r w)) (length m.at) v low (and_from (has_vertex (assigned m a r) v) (q (holder_ask r v)) holds (and_from (v == v) (r == r) (eq-eqb v v refl) (eq-eqb r r refl))) in
        any_filter (λ (b : Ask). b.value == r) (λ (b : Ask). b.word == v) (all_asks (holder_asks m a n))
        ∙ any-flat q (λ (each : List Ask). each) (map asks (below n))
        ∙ any_map (list_any q) asks (below n)
        ∙ any-below (λ k. list_any q (asks k)) n r (owner-below m n a assignment.each (vertex_point v) used) own

    -- no rank below the owner does
    asks-above : AllByRecursion (λ (b : Ask). owns ≤ b.value) (asks_on v (holder_asks m a n))
    unfolding owns holder_asks rank_vertices vertices_of
    asks-above =
        all_both (λ (b : Ask). (b.word == v) ≡ true) (λ (b : Ask). owner m a (vertex_point b.word) ≤ b.value) (λ (b : Ask). owner m a (vertex_point v) ≤ b.value)
        (λ b on bound. let is = eqb-true b.word v on in subst (λ w. owner m a (vertex_point w) ≤ b.value) is bound)
        (asks_on v (holder_asks m a n))
        (filter_passing (λ (b : Ask). b.word == v) (all_asks (holder_asks m a n)))
        (all_filter (λ (b : Ask). owner m a (vertex_point b.word) ≤ b.value) (λ (b : Ask). b.word == v) (all_asks (holder_asks m a n)) bounds)
      where
        own : (r : ℕ) → AllByRecursion (λ (b : Ask). owner m a (vertex_point b.word) ≤ b.value) (asks_at r (rank_vertices m a r))
        own r = all_map (λ (b : Ask). owner m a (vertex_point b.word) ≤ b.value) (holder_ask r) (rank_vertices m a r)
            (all_weaker (λ w. has_vertex (assigned m a r) w ≡ true) (λ w. owner m a (vertex_point w) ≤ r) (λ w has. owner-least m a r (vertex_point w) (in_some-vertex (assigned m a r) w (assigned-high r) ∙ has)) (rank_vertices m a r)
            (filter_passing (has_vertex (assigned m a r)) (below (length m.at))))

        bounds : AllByRecursion (λ (b : Ask). owner m a (vertex_point b.word) ≤ b.value) (all_asks (holder_asks m a n))
        bounds = all_flat_map (λ (b : Ask). owner m a (vertex_point b.word) ≤ b.value) (λ (each : List Ask). each) (map (λ r. asks_at r (rank_vertices m a r)) (below n))
            (all_map (AllByRecursion (λ (b : Ask). owner m a (vertex_point b.word) ≤ b.value)) (λ r. asks_at r (rank_vertices m a r)) (below n) (all_weaker (λ r. r < n) (λ r. AllByRecursion (λ (b : Ask). owner m a (vertex_point b.word) ≤ b.value) (asks_at r (rank_vertices m a r))) (λ r within. own r) (below n) (below-all n)))

    -- so it is what is left of the word
    pub least-is : (x : ℕ) → IsLeast no_rank (asks_on v (holder_asks m a n)) x → x ≡ owner m a (vertex_point v)
    unfolding owns
    least-is x is =
        let most : x ≤ owner m a (vertex_point v) = some-bounds x owns (asks_on v (holder_asks m a n)) is.below_each (mins-on m a n v) owner-asks in
        let within : owner m a (vertex_point v) < n = owner-below m n a assignment.each (vertex_point v) used in
        let few = assignment.few_ranks in
        let more : owner m a (vertex_point v) ≤ x = ⊎_elim (λ first. omega (arith, first, within, few)) (λ asked. asked-above owns x (asks_on v (holder_asks m a n)) asks-above asked) is.among in
        omega (arith, most, more)

    pub kind-is : kind_of (asks_on v (holder_asks m a n)) ≡ Min
    kind-is = kind-some owns (asks_on v (holder_asks m a n)) (mins-on m a n v) owner-asks

-- the last values are the owners
pub owners-last : (m : Mesh) (a : List ℕ) (n : ℕ) (r : Round) → IsRightMesh m → IsRightAssignment m n a → IsLegal r → r.before ≡ before_owners m → r.asks ≡ holder_asks m a n → (v : ℕ) → v < length m.at → get_or r.after v 0 ≡ owner m a (vertex_point v)
owners-last m a n r right assignment legal before asks v low =
    let words = ap length before ∙ length-before m a n in
    let kind : kind_of (asks_on v r.asks) ≡ Min = ap (λ l. kind_of (asks_on v l)) asks ∙ kind-is m a n right assignment v low in
    let first : get_or r.before v 0 ≡ no_rank = ap (λ l. get_or l v 0) before ∙ before-at m a n v low in
    let least = legal-least r legal v (omega (arith, words, low)) kind in
    least-is m a n right assignment v low (get_or r.after v 0) (subst (λ w. IsLeast w (asks_on v (holder_asks m a n)) (get_or r.after v 0)) first (subst (λ l. IsLeast (get_or r.before v 0) (asks_on v l) (get_or r.after v 0)) asks least))
