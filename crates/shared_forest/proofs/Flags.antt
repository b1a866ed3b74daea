-- Flags on the vertices of a rank tell which sets may be shared.
use Rattle.std.proofs.Common.{◌≡◌, ◌⊎◌, ℕ, ◌<◌, ◌≤◌, Bool, true, false, ◌&&◌, ◌||◌, ◌==◌, List, [], ◌∷◌, length, get_or, refl, sym, ap, ap₂, ◌∙◌, subst, ⊎_elim, inl, inr, arith, zero, suc}
use Rattle.std.specs.List.{AllByRecursion, list_any}
use Rattle.std.proofs.lemmas.Bool.{cases_lt, eq-eqb}
use Rattle.std.proofs.lemmas.List.{get_or_default}
use Rattle.rank_laws.specs.share_laws.Packed.{no_vertex}
use Rattle.rank_chart_laws.specs.meeting_laws.Sets.{RankChart, Rising, chart_at, has_vertex}
use Rattle.rank_chart_laws.specs.meeting_laws.Steps.{is_copied, may_share, vertex_at, vertex_place}
use Rattle.rank_chart_laws.proofs.meeting_laws.Homes.{placed-vertex}
use Rattle.shared_forest.specs.Flags.{TellCopies, AreFlagged, all_up}

-- what stands at a place is among all
has-at : (vs : List ℕ) (i : ℕ) → i < length vs → list_any (λ w. w == get_or vs i no_vertex) vs ≡ true
has-at [] i low = absurd (omega arith)
has-at (v ∷ vs) zero low = ap (λ b. b || list_any (λ w. w == v) vs) (eq-eqb v v refl)
has-at (v ∷ vs) (suc i) low = go (v == get_or vs i no_vertex) (has-at vs i (omega arith))
  where
    go : (b : Bool) → list_any (λ w. w == get_or vs i no_vertex) vs ≡ true → (b || list_any (λ w. w == get_or vs i no_vertex) vs) ≡ true
    go true h = refl
    go false h = h

-- a vertex stands where its place is
pub place-back : (c : RankChart) (i : ℕ) → Rising c.vertices → i < length c.vertices → vertex_place (vertex_at c i) c ≡ i
place-back c i rising low =
    let there = placed-vertex c (vertex_at c i) (has-at c.vertices i low) in
    let p = vertex_place (vertex_at c i) c in
    let same : get_or c.vertices p 0 ≡ get_or c.vertices i 0 = get_or_default c.vertices p 0 no_vertex there.0 ∙ there.1 ∙ get_or_default c.vertices i no_vertex 0 low in
    ⊎_elim (λ (before : p < i). absurd (let less = rising p i before low in omega (arith, less, same)))
    (λ (after : i ≤ p). ⊎_elim (λ (behind : i < p). absurd (let less = rising i p behind there.0 in omega (arith, less, same))) (λ (end : p ≤ i). omega (arith, after, end)) (cases_lt i p))
    (cases_lt p i)

-- there is a flag for each vertex of a rank's set
pub set-flagged : (charts : List RankChart) (r : ℕ) (flags : List Bool) (s : List ℕ) → TellCopies charts r flags → AllByRecursion (λ v. (v ≡ no_vertex) ⊎ (has_vertex v (chart_at charts r) ≡ true)) s → AreFlagged flags s
set-flagged charts r flags [] tell inside = tt
set-flagged charts r flags (v ∷ s) tell inside = (⊎_elim (λ none. inl none) (λ has. inr (tell v has).0) inside.0, set-flagged charts r flags s tell inside.1)

-- all of them are up where the set may be shared
pub up-is : (charts : List RankChart) (r : ℕ) (flags : List Bool) (s : List ℕ) → TellCopies charts r flags → AllByRecursion (λ v. (v ≡ no_vertex) ⊎ (has_vertex v (chart_at charts r) ≡ true)) s → all_up flags s ≡ may_share charts r s
unfolding may_share
up-is charts r flags [] tell inside = refl
up-is charts r flags (v ∷ s) tell inside = ap₂ (λ a b. a && b) head (up-is charts r flags s tell inside.1)
  where
    head : ((v == no_vertex) || get_or flags v false) ≡ ((v == no_vertex) || is_copied charts r v)
    head = ⊎_elim (λ (none : v ≡ no_vertex). let e = eq-eqb v no_vertex none in ap (λ b. b || get_or flags v false) e ∙ sym (ap (λ b. b || is_copied charts r v) e)) (λ has. ap (λ b. (v == no_vertex) || b) (tell v has).1) inside.0

-- flags that are right at the vertices of a rank, one after another, tell its copies
pub flags-tell : (charts : List RankChart) (r : ℕ) (flags : List Bool) (vs : List ℕ) → vs ≡ (chart_at charts r).vertices → ((j : ℕ) → j < length vs → get_or vs j 0 < length flags) → ((j : ℕ) → j < length vs → get_or flags (get_or vs j 0) false ≡ is_copied charts r (get_or vs j 0)) → TellCopies charts r flags
flags-tell charts r flags vs is low each v has = (subst (λ w. w < length flags) same (low p within), subst (λ w. get_or flags w false ≡ is_copied charts r w) same (each p within))
  where
    chart : RankChart
    chart = chart_at charts r

    p : ℕ
    p = vertex_place v chart

    within : p < length vs
    within = subst (λ l. p < length l) (sym is) (placed-vertex chart v has).0

    same : get_or vs p 0 ≡ v
    same = get_or_default vs p 0 no_vertex within ∙ ap (λ l. get_or l p no_vertex) is ∙ (placed-vertex chart v has).1
