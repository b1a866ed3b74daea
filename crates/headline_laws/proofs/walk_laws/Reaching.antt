-- Points that are reached by entries of cones, and points of entries.
use Rattle.std.proofs.Common.{◌≡◌, ℕ, zero, suc, ◌≤◌, Bool, true, false, List, [], ◌∷◌, ◌++◌, ◌⊎◌, ⊎_elim, refl, sym, ap, ◌∙◌, inl, inr, arith}
use Rattle.std.specs.Prelude.{◌||◌, ◌==◌}
use Rattle.std.specs.List.{AllByRecursion, list_any}
use Rattle.std.proofs.lemmas.Bool.{false≢true, cases_Bool, cases_eq, eqb-true, eq-eqb, ne_eqb, or_cases, or_left, or_right}
use Rattle.std.proofs.lemmas.List.Folds.{list_any-append, list_any_at, Any-from_list_any}
use Rattle.mesh_defs.specs.declared.ConeEntry.{ConeEntry}
use Rattle.plain_lists.proofs.Each.{all_contained}
use Rattle.mesh_defs.specs.Diagram.{Diagram}
use Rattle.plex_defs.specs.Closure.{point_in, covers, new_points}
use Rattle.walk_defs.specs.Cones.{reaches}

-- ---- tests

-- two tests are one where each passes if the other does
pub same_test : (a b : Bool) → (a ≡ true → b ≡ true) → (b ≡ true → a ≡ true) → a ≡ b
same_test true b f g = sym (f refl)
same_test false true f g = g refl
same_test false false f g = refl

-- where an element passes a test, one passes a weaker test
any-weaker : {X : Type 0} (f g : X → Bool) (xs : List X) → ((a : X) → f a ≡ true → g a ≡ true) → list_any f xs ≡ true → list_any g xs ≡ true
any-weaker f g xs weaker h =
    let (k, a, within, at, passes) = Any-from_list_any f xs h in
    list_any_at g xs k a within (ap g at ∙ weaker a passes)

-- ---- points of entries

-- what all entries have, some entry of a point has
pub entry-of : (P : ConeEntry → Type 0) (es : List ConeEntry) (p : ℕ) → AllByRecursion P es → covers es p ≡ true → (e : ConeEntry) × P e × (e.point ≡ p)
entry-of P es p all h =
    let (k, e, within, at, is) = Any-from_list_any (λ (e : ConeEntry). e.point == p) es h in
    (e, all_contained P es e all (k, within, at), eqb-true e.point p is)

-- what is there and the new points together are what is there and all points
pub covers-new : (there es : List ConeEntry) (p : ℕ) → (covers there p || covers (new_points there es) p) ≡ (covers there p || covers es p)
covers-new there [] p = refl
covers-new there (e ∷ es) p = elim (cases_Bool (covers there e.point)) as (λ _. (covers there p || covers (new_points there (e ∷ es)) p) ≡ (covers there p || covers (e ∷ es) p)) [
  | inl h ↦ rw h (known (covers-new there es p) h)
  | inr h ↦ rw h (fresh (covers-new (e ∷ there) es p))
]
  where
    known : (covers there p || covers (new_points there es) p) ≡ (covers there p || covers es p) → covers there e.point ≡ true → (covers there p || covers (new_points there es) p) ≡ (covers there p || ((e.point == p) || covers es p))
    known more h = elim (cases_eq e.point p) as (λ _. (covers there p || covers (new_points there es) p) ≡ (covers there p || ((e.point == p) || covers es p))) [
      | inl same ↦
          let here : covers there p ≡ true = ap (covers there) (sym same) ∙ h in
          or_left (covers there p) (covers (new_points there es) p) here ∙ sym (or_left (covers there p) ((e.point == p) || covers es p) here)
      | inr other ↦ more ∙ ap (λ b. covers there p || (b || covers es p)) (sym (ne_eqb e.point p other))
    ]

    fresh : (((e.point == p) || covers there p) || covers (new_points (e ∷ there) es) p) ≡ (((e.point == p) || covers there p) || covers es p)
        → (covers there p || ((e.point == p) || covers (new_points (e ∷ there) es) p)) ≡ (covers there p || ((e.point == p) || covers es p))
    fresh more = elim (cases_eq e.point p) as (λ _. (covers there p || ((e.point == p) || covers (new_points (e ∷ there) es) p)) ≡ (covers there p || ((e.point == p) || covers es p))) [
      | inl same ↦ rw (eq-eqb e.point p same) refl
      | inr other ↦
          let apart : (e.point == p) ≡ false = ne_eqb e.point p other in
          ap (λ b. covers there p || (b || covers (new_points (e ∷ there) es) p)) apart
          ∙ ap (λ b. (b || covers there p) || covers (new_points (e ∷ there) es) p) (sym apart) ∙ more
          ∙ ap (λ b. (b || covers there p) || covers es p) apart
          ∙ ap (λ b. covers there p || (b || covers es p)) (sym apart)
    ]

-- a point of the entries is there once they are added
pub covers-added : (there es : List ConeEntry) (p : ℕ) → covers es p ≡ true → covers (there ++ new_points there es) p ≡ true
covers-added there es p h = list_any-append (λ (e : ConeEntry). e.point == p) there (new_points there es) ∙ covers-new there es p ∙ or_right (covers there p) (covers es p) h

-- ---- reached by so many entries

-- by more entries, at most
pub reaches-up : (x : Diagram) (n m p q : ℕ) → n ≤ m → reaches x n p q ≡ true → reaches x m p q ≡ true
reaches-up x zero zero p q le h = h
reaches-up x zero (suc m) p q le h = or_left (q == p) (list_any (λ (e : ConeEntry). reaches x m p e.point) (point_in x q).covers) h
reaches-up x (suc n) zero p q le h = absurd (omega arith)
reaches-up x (suc n) (suc m) p q le h = ⊎_elim
    (λ here. or_left (q == p) (list_any (λ (e : ConeEntry). reaches x m p e.point) (point_in x q).covers) here)
    (λ below. or_right (q == p) (list_any (λ (e : ConeEntry). reaches x m p e.point) (point_in x q).covers)
    (any-weaker (λ (e : ConeEntry). reaches x n p e.point) (λ (e : ConeEntry). reaches x m p e.point) (point_in x q).covers (λ e. reaches-up x n m p e.point (omega arith)) below))
    (or_cases (q == p) (list_any (λ (e : ConeEntry). reaches x n p e.point) (point_in x q).covers) h)

-- the cone of the point itself
reaches-cone : (x : Diagram) (n r p q : ℕ) → (q == r) ≡ true → covers (point_in x r).covers p ≡ true → reaches x (suc n) p q ≡ true
reaches-cone x n r p q same h =
    let covered : covers (point_in x q).covers p ≡ true = ap (λ s. covers (point_in x s).covers p) (eqb-true q r same) ∙ h in
    or_right (q == p) (list_any (λ (e : ConeEntry). reaches x n p e.point) (point_in x q).covers)
    (any-weaker (λ (e : ConeEntry). e.point == p) (λ (e : ConeEntry). reaches x n p e.point) (point_in x q).covers (λ e. reaches-up x 0 n p e.point (omega arith)) covered)

-- by one entry more
pub reaches-after : (x : Diagram) (n r p q : ℕ) → reaches x n r q ≡ true → covers (point_in x r).covers p ≡ true → reaches x (suc n) p q ≡ true
reaches-after x zero r p q h cone = reaches-cone x 0 r p q h cone
reaches-after x (suc n) r p q h cone = ⊎_elim
    (λ here. reaches-cone x (suc n) r p q here cone)
    (λ below. or_right (q == p) (list_any (λ (e : ConeEntry). reaches x (suc n) p e.point) (point_in x q).covers)
    (any-weaker (λ (e : ConeEntry). reaches x n r e.point) (λ (e : ConeEntry). reaches x (suc n) p e.point) (point_in x q).covers (λ e there. reaches-after x n r p e.point there cone) below))
    (or_cases (q == r) (list_any (λ (e : ConeEntry). reaches x n r e.point) (point_in x q).covers) h)

-- ---- entries that are closed under cones

-- what the cone of a point that is there names is there too, but for the points of the last level
abbrev pub closes : Diagram → List ConeEntry → List ConeEntry → Type 0
closes x there last = (r p : ℕ) → covers there r ≡ true → covers (point_in x r).covers p ≡ true → (covers there p ≡ true) ⊎ (covers last r ≡ true)

-- what is reached from a point that is there is there
pub closed-reached : (x : Diagram) (there : List ConeEntry) (n p q : ℕ) → closes x there [] → covers there q ≡ true → reaches x n p q ≡ true → covers there p ≡ true
closed-reached x there zero p q closed here h = ap (covers there) (sym (eqb-true q p h)) ∙ here
closed-reached x there (suc n) p q closed here h = ⊎_elim
    (λ same. ap (covers there) (sym (eqb-true q p same)) ∙ here)
    (λ below.
    let (k, e, within, at, passes) = Any-from_list_any (λ (e : ConeEntry). reaches x n p e.point) (point_in x q).covers below in
    let named : covers (point_in x q).covers e.point ≡ true = list_any_at (λ (c : ConeEntry). c.point == e.point) (point_in x q).covers k e within (eq-eqb _ _ (ap (λ (c : ConeEntry). c.point) at)) in
    ⊎_elim
    (λ inside. closed-reached x there n p e.point closed inside passes)
    (λ none. absurd (false≢true none))
    (closed q e.point here named))
    (or_cases (q == p) (list_any (λ (e : ConeEntry). reaches x n p e.point) (point_in x q).covers) h)
