-- The first elements at their places: how they are found one element after the other, and which become cells.
use Rattle.std.proofs.Common.{◌≡◌, ℕ, zero, suc, ◌+◌, ◌<◌, ◌≤◌, Bool, true, false, cond, not, ◌&&◌, ◌||◌, ◌==◌, nat_lt, nat_eq, List, [], ◌∷◌, ◌++◌, length, take, Option, Some, None, refl, sym, ap, ap₂, ◌∙◌, subst, arith, length-append}
use Rattle.std.specs.Prelude.{filter, option_map}
use Rattle.std.specs.List.{AllByRecursion, list_any, position, position_or_len}
use Rattle.std.specs.Cmp.Lexicographic.{same_text}
use Rattle.std.proofs.lemmas.Bool.{cond-true, cond-false, lt-ltb, le-ltb, eq-eqb, ne_eqb, eqb-true, or_left, or_from, and_parts, both_ways, false_from_ne_true}
use Rattle.std.proofs.lemmas.List.{length-take-le}
use Rattle.std.proofs.lemmas.List.Elements.{filter-append}
use Rattle.plain_lists.specs.Lists.{same_set, same_list, sorted}
use Rattle.plain_lists.proofs.Each.{all_at, all_append_first, all_weaker, all_from}
use Rattle.plain_lists.proofs.Finding.{same_tests, any_agree, any_weaker, any_filter, any_same, position-append_found, position-append_none, position-none, position-within, position_agree}
use Rattle.input_defs.specs.Content.{Element, Content}
use Rattle.input_defs.specs.Meshes.{dim, same_nodes, same_place, kept_after, kept, is_top, greatest_dim, cell_elements}
use Rattle.input_laws.proofs.Kept.{same_place-refl, same_place-same}
use Rattle.input_laws.specs.place_laws.Places.{IsPlace, stands_on, element_at, cells_before, key_of, same_key, has_key}
use Rattle.input_laws.proofs.place_laws.Keys.{key-same, same_key-equal, same_key-self, same_key-other}

-- ---- the first place as an option

pub position-some : {X : Type 0} (p : X → Bool) (xs : List X) → list_any p xs ≡ true → position p xs ≡ Some (position_or_len p xs)
position-some p xs h = cond-true (nat_lt (position_or_len p xs) (length xs)) (Some (position_or_len p xs)) None (lt-ltb (position_or_len p xs) (length xs) (position-within p xs h))

pub position-nowhere : {X : Type 0} (p : X → Bool) (xs : List X) → list_any p xs ≡ false → position p xs ≡ None
position-nowhere p xs h = cond-false (nat_lt (position_or_len p xs) (length xs)) (Some (position_or_len p xs)) None (le-ltb (position_or_len p xs) (length xs) (let e = position-none p xs h in omega arith))

-- what is found somewhere, and what nowhere
pub found-there : {X : Type 0} (p : X → Bool) (xs : List X) (v : ℕ) → position p xs ≡ Some v → (list_any p xs ≡ true) × (v ≡ position_or_len p xs)
found-there p xs v h = go (list_any p xs) refl
  where
    go : (b : Bool) → list_any p xs ≡ b → (list_any p xs ≡ true) × (v ≡ position_or_len p xs)
    go true e = (e, (let is : Some v ≡ Some (position_or_len p xs) = sym h ∙ position-some p xs e in cc))
    go false e = absurd (let is : Some v ≡ None = sym h ∙ position-nowhere p xs e in cc)

pub found-nowhere : {X : Type 0} (p : X → Bool) (xs : List X) → position p xs ≡ None → list_any p xs ≡ false
found-nowhere p xs h = false_from_ne_true (list_any p xs) (λ t. let is : None ≡ Some (position_or_len p xs) = sym h ∙ position-some p xs t in cc)

-- one more at the end
any-more : {X : Type 0} (p : X → Bool) (xs : List X) (x : X) → list_any p (xs ++ x ∷ []) ≡ (list_any p xs || p x)
any-more p [] x = go (p x)
  where
    go : (b : Bool) → (b || false) ≡ b
    go true = refl
    go false = refl
any-more p (y ∷ xs) x = ap (λ b. p y || b) (any-more p xs x) ∙ sym (go (p y))
  where
    go : (b : Bool) → ((b || list_any p xs) || p x) ≡ (b || (list_any p xs || p x))
    go true = refl
    go false = refl

position-more_found : {X : Type 0} (p : X → Bool) (xs : List X) (x : X) → list_any p xs ≡ true → position p (xs ++ x ∷ []) ≡ position p xs
position-more_found p xs x h = position-some p (xs ++ x ∷ []) (any-more p xs x ∙ ap (λ b. b || p x) h) ∙ ap Some (position-append_found p xs (x ∷ []) h) ∙ sym (position-some p xs h)

position-more_other : {X : Type 0} (p : X → Bool) (xs : List X) (x : X) → p x ≡ false → position p (xs ++ x ∷ []) ≡ position p xs
position-more_other p xs x other = go (list_any p xs) refl
  where
    go : (b : Bool) → list_any p xs ≡ b → position p (xs ++ x ∷ []) ≡ position p xs
    go true h = position-more_found p xs x h
    go false h = position-nowhere p (xs ++ x ∷ []) (any-more p xs x ∙ ap₂ (λ a b. a || b) h other) ∙ sym (position-nowhere p xs h)

position-more_here : {X : Type 0} (p : X → Bool) (xs : List X) (x : X) → list_any p xs ≡ false → p x ≡ true → position p (xs ++ x ∷ []) ≡ Some (length xs)
position-more_here p xs x none here =
    position-some p (xs ++ x ∷ []) (any-more p xs x ∙ ap₂ (λ a b. a || b) none here)
    ∙ ap Some (position-append_none p xs (x ∷ []) none ∙ (let e : position_or_len p (x ∷ []) ≡ 0 = ap (λ b. cond (not b) (1 + 0) 0) here in omega arith))

-- ---- the table of keys, one element after the other

-- the table has the first one of each key
abbrev pub Finds : List Element → (ℕ × List ℕ → Option ℕ) → Type 0
Finds es get = (key : ℕ × List ℕ) → get key ≡ position (has_key key) es

-- an element whose key is there changes nothing
pub finds-old : (es : List Element) (get : ℕ × List ℕ → Option ℕ) (e : Element) (v : ℕ) → Finds es get → get (key_of e) ≡ Some v → Finds (es ++ e ∷ []) get
finds-old es get e v finds there key = go (has_key key e) refl
  where
    go : (b : Bool) → has_key key e ≡ b → get key ≡ position (has_key key) (es ++ e ∷ [])
    go true h =
        let same = same_key-equal key (key_of e) h in
        finds key ∙ sym (position-more_found (has_key key) es e (found-there (has_key key) es v (sym (finds key) ∙ ap get same ∙ there)).0)
    go false h = finds key ∙ sym (position-more_other (has_key key) es e h)

-- a new key goes in with its place
pub finds-new : (es : List Element) (get get' : ℕ × List ℕ → Option ℕ) (e : Element) → Finds es get → get (key_of e) ≡ None → ((q : ℕ × List ℕ) → get' q ≡ cond (same_key (key_of e) q) (Some (length es)) (get q)) → Finds (es ++ e ∷ []) get'
finds-new es get get' e finds none more key = go (same_key (key_of e) key) refl
  where
    go : (b : Bool) → same_key (key_of e) key ≡ b → get' key ≡ position (has_key key) (es ++ e ∷ [])
    go true h =
        let same = same_key-equal (key_of e) key h in
        more key ∙ cond-true (same_key (key_of e) key) (Some (length es)) (get key) h
        ∙ sym (position-more_here (has_key key) es e (found-nowhere (has_key key) es (sym (finds key) ∙ ap get (sym same) ∙ none)) (ap (λ k. same_key k (key_of e)) (sym same) ∙ same_key-self (key_of e)))
    go false h =
        more key ∙ cond-false (same_key (key_of e) key) (Some (length es)) (get key) h
        ∙ finds key ∙ sym (position-more_other (has_key key) es e (same_key-other (key_of e) key h))

-- ---- element i of a list

-- the list up to it and behind it
pub split-at : (es : List Element) (i : ℕ) → i < length es → (rest : List Element) × (es ≡ take i es ++ element_at es i ∷ rest)
split-at [] i low = absurd (omega arith)
split-at (e ∷ es) zero low = (es, refl)
split-at (e ∷ es) (suc i) low = let s = split-at es i (omega arith) in (s.0, ap (λ xs. e ∷ xs) s.1)

pub take-next : (es : List Element) (i : ℕ) → i < length es → take (i + 1) es ≡ take i es ++ element_at es i ∷ []
take-next [] i low = absurd (omega arith)
take-next (e ∷ es) zero low = refl
take-next (e ∷ es) (suc i) low = let one : suc i + 1 ≡ suc (i + 1) = omega arith in ap (λ k. take k (e ∷ es)) one ∙ ap (λ xs. e ∷ xs) (take-next es i (omega arith))

-- where it was found before
pub first-old : (es : List Element) (i v : ℕ) → i < length es → AllByRecursion (λ (e : Element). IsPlace e.nodes) es → position (has_key (key_of (element_at es i))) (take i es) ≡ Some v → v ≡ position_or_len (same_place (element_at es i)) es
first-old es i v low all h =
    let e = element_at es i in
    let s = split-at es i low in
    let here = all_at (λ (f : Element). IsPlace f.nodes) es i (element_at [] 0) all low in
    let some = all_append_first (λ (f : Element). IsPlace f.nodes) (take i es) (e ∷ s.0) (subst (AllByRecursion (λ (f : Element). IsPlace f.nodes)) s.1 all) in
    let agree = all_weaker (λ (f : Element). IsPlace f.nodes) (λ f. has_key (key_of e) f ≡ same_place e f) (λ f p. key-same (dim e) e.nodes f here p) (take i es) some in
    let found = found-there (has_key (key_of e)) (take i es) v h in
    found.1 ∙ position_agree (has_key (key_of e)) (same_place e) (take i es) agree
    ∙ sym (position-append_found (same_place e) (take i es) (e ∷ s.0) (sym (any_agree (has_key (key_of e)) (same_place e) (take i es) agree) ∙ found.0))
    ∙ ap (position_or_len (same_place e)) (sym s.1)

-- an element before which none stands where it does is the first one there
pub first-here : (es : List Element) (i : ℕ) → i < length es → list_any (same_place (element_at es i)) (take i es) ≡ false → i ≡ position_or_len (same_place (element_at es i)) es
first-here es i low none =
    let e = element_at es i in
    let s = split-at es i low in
    let count : length (take i es) ≡ i = length-take-le i es (omega arith) in
    let self : position_or_len (same_place e) (e ∷ s.0) ≡ 0 = ap (λ b. cond (not b) (1 + position_or_len (same_place e) s.0) 0) (same_place-refl e) in
    let whole : position_or_len (same_place e) es ≡ length (take i es) + position_or_len (same_place e) (e ∷ s.0) = ap (position_or_len (same_place e)) s.1 ∙ position-append_none (same_place e) (take i es) (e ∷ s.0) none in
    omega (arith, count, self, whole)

-- and one before which some does is not
pub first-before : (es : List Element) (i : ℕ) → i < length es → list_any (same_place (element_at es i)) (take i es) ≡ true → position_or_len (same_place (element_at es i)) es < i
first-before es i low some =
    let e = element_at es i in
    let s = split-at es i low in
    let count : length (take i es) ≡ i = length-take-le i es (omega arith) in
    let below = position-within (same_place e) (take i es) some in
    let whole : position_or_len (same_place e) es ≡ position_or_len (same_place e) (take i es) = ap (position_or_len (same_place e)) s.1 ∙ position-append_found (same_place e) (take i es) (e ∷ s.0) some in
    omega (arith, count, below, whole)

-- where it was not
pub first-new : (es : List Element) (i : ℕ) → i < length es → AllByRecursion (λ (e : Element). IsPlace e.nodes) es → position (has_key (key_of (element_at es i))) (take i es) ≡ None → i ≡ position_or_len (same_place (element_at es i)) es
first-new es i low all h =
    let e = element_at es i in
    let s = split-at es i low in
    let here = all_at (λ (f : Element). IsPlace f.nodes) es i (element_at [] 0) all low in
    let some = all_append_first (λ (f : Element). IsPlace f.nodes) (take i es) (e ∷ s.0) (subst (AllByRecursion (λ (f : Element). IsPlace f.nodes)) s.1 all) in
    let agree = all_weaker (λ (f : Element). IsPlace f.nodes) (λ f. has_key (key_of e) f ≡ same_place e f) (λ f p. key-same (dim e) e.nodes f here p) (take i es) some in
    let none : list_any (same_place e) (take i es) ≡ false = sym (any_agree (has_key (key_of e)) (same_place e) (take i es) agree) ∙ found-nowhere (has_key (key_of e)) (take i es) h in
    first-here es i low none

-- ---- elements that are not merged, one after the other

-- it is the first one where it stands just where none before it stands there
pub is-first : (es : List Element) (i : ℕ) → i < length es → nat_eq (position_or_len (same_place (element_at es i)) es) i ≡ not (list_any (same_place (element_at es i)) (take i es))
is-first es i low = go (list_any (same_place e) (take i es)) refl
  where
    e : Element
    e = element_at es i

    go : (b : Bool) → list_any (same_place (element_at es i)) (take i es) ≡ b → nat_eq (position_or_len (same_place (element_at es i)) es) i ≡ not b
    go true h = let below = first-before es i low h in ne_eqb (position_or_len (same_place e) es) i (λ same. omega arith)
    go false h = eq-eqb (position_or_len (same_place e) es) i (sym (first-here es i low h))

-- the kept elements of a list with one more
kept-end : (earlier xs : List Element) (e : Element) → kept_after earlier (xs ++ e ∷ []) ≡ kept_after earlier xs ++ cond (list_any (same_place e) xs || list_any (same_place e) earlier) [] (e ∷ [])
kept-end earlier [] e = go (list_any (same_place e) earlier)
  where
    go : (b : Bool) → cond b [] (e ∷ []) ≡ cond (false || b) [] (e ∷ [])
    go b = refl
kept-end earlier (x ∷ xs) e = go (list_any (same_place x) earlier) refl (kept-end earlier xs e) (kept-end (x ∷ earlier) xs e)
  where
    end : List Element → List Element → List Element
    end before ys = cond (list_any (same_place e) ys || list_any (same_place e) before) [] (e ∷ [])

    go : (b : Bool) → list_any (same_place x) earlier ≡ b → kept_after earlier (xs ++ e ∷ []) ≡ kept_after earlier xs ++ end earlier xs → kept_after (x ∷ earlier) (xs ++ e ∷ []) ≡ kept_after (x ∷ earlier) xs ++ end (x ∷ earlier) xs
        → cond b (kept_after earlier (xs ++ e ∷ [])) (x ∷ kept_after (x ∷ earlier) (xs ++ e ∷ [])) ≡ cond b (kept_after earlier xs) (x ∷ kept_after (x ∷ earlier) xs) ++ end earlier (x ∷ xs)
    go true h r s = r ∙ ap (λ t. kept_after earlier xs ++ cond t [] (e ∷ [])) (after (same_place e x) (list_any (same_place e) xs) (list_any (same_place e) earlier)
        (λ here. any_same (same_place e) (same_place x) (λ f. same_place-same e x f here) earlier ∙ h))
      where
        after : (a b c : Bool) → (a ≡ true → c ≡ true) → (b || c) ≡ ((a || b) || c)
        after true true c f = refl
        after true false c f = f refl
        after false b c f = refl
    go false h r s = ap (λ ys. x ∷ ys) s ∙ ap (λ t. x ∷ (kept_after (x ∷ earlier) xs ++ cond t [] (e ∷ []))) (swap (same_place e x) (list_any (same_place e) xs) (list_any (same_place e) earlier))
      where
        swap : (a b c : Bool) → (b || (a || c)) ≡ ((a || b) || c)
        swap true true c = refl
        swap true false c = refl
        swap false b c = refl

-- those of the first elements of a list with one more
pub kept-next : (es : List Element) (i : ℕ) → i < length es → kept_after [] (take (i + 1) es) ≡ kept_after [] (take i es) ++ cond (nat_eq (position_or_len (same_place (element_at es i)) es) i) (element_at es i ∷ []) []
kept-next es i low =
    let e = element_at es i in
    ap (kept_after []) (take-next es i low) ∙ kept-end [] (take i es) e
    ∙ ap (λ ys. kept_after [] (take i es) ++ ys) (turned (list_any (same_place e) (take i es)) (nat_eq (position_or_len (same_place e) es) i) (is-first es i low))
  where
    turned : (b t : Bool) → t ≡ not b → cond (b || false) [] (element_at es i ∷ []) ≡ cond t (element_at es i ∷ []) []
    turned true true h = absurd (cc h)
    turned true false h = refl
    turned false true h = refl
    turned false false h = absurd (cc h)

pub kept-count : (es : List Element) (i : ℕ) → i < length es → length (kept_after [] (take (i + 1) es)) ≡ length (kept_after [] (take i es)) + cond (nat_eq (position_or_len (same_place (element_at es i)) es) i) 1 0
kept-count es i low = ap (λ (ys : List Element). length ys) (kept-next es i low) ∙ length-append (kept_after [] (take i es)) (cond (nat_eq (position_or_len (same_place (element_at es i)) es) i) (element_at es i ∷ []) []) ∙ ap (λ n. length (kept_after [] (take i es)) + n) (go (nat_eq (position_or_len (same_place (element_at es i)) es) i))
  where
    go : (b : Bool) → length (cond b (element_at es i ∷ []) []) ≡ cond b 1 0
    go true = refl
    go false = refl

-- and those that become cells
pub cells-next : (top : Element → Bool) (es : List Element) (i : ℕ) → i < length es
    → filter top (kept_after [] (take (i + 1) es)) ≡ filter top (kept_after [] (take i es)) ++ cond (nat_eq (position_or_len (same_place (element_at es i)) es) i && top (element_at es i)) (element_at es i ∷ []) []
cells-next top es i low = ap (filter top) (kept-next es i low) ∙ filter-append top (kept_after [] (take i es)) (cond (nat_eq (position_or_len (same_place (element_at es i)) es) i) (element_at es i ∷ []) []) ∙ ap (λ ys. filter top (kept_after [] (take i es)) ++ ys) (go (nat_eq (position_or_len (same_place (element_at es i)) es) i))
  where
    go : (b : Bool) → filter top (cond b (element_at es i ∷ []) []) ≡ cond (b && top (element_at es i)) (element_at es i ∷ []) []
    go true = refl
    go false = refl

-- ---- the cell on a set of nodes

-- a test that is the same for elements at one place
Respects : (Element → Bool) → Type 0
Respects q = (e f : Element) → same_place e f ≡ true → q e ≡ q f

-- some kept element passes it just where some element does
any-kept : (q : Element → Bool) → Respects q → (earlier es : List Element) → list_any q earlier ≡ false → list_any q (kept_after earlier es) ≡ list_any q es
unfolding Respects
any-kept q same earlier [] none = refl
any-kept q same earlier (e ∷ es) none = go (list_any (same_place e) earlier) refl (any-kept q same earlier es none) (any-kept q same (e ∷ earlier) es)
  where
    here : (b : Bool) → q e ≡ b → (list_any q (e ∷ earlier) ≡ false → list_any q (kept_after (e ∷ earlier) es) ≡ list_any q es) → (q e || list_any q (kept_after (e ∷ earlier) es)) ≡ (q e || list_any q es)
    here true k s = or_left (q e) (list_any q (kept_after (e ∷ earlier) es)) k ∙ sym (or_left (q e) (list_any q es) k)
    here false k s = ap (λ b. q e || b) (s (or_from (q e) (list_any q earlier) k none))

    go : (b : Bool) → list_any (same_place e) earlier ≡ b → list_any q (kept_after earlier es) ≡ list_any q es → (list_any q (e ∷ earlier) ≡ false → list_any q (kept_after (e ∷ earlier) es) ≡ list_any q es)
        → list_any q (cond b (kept_after earlier es) (e ∷ kept_after (e ∷ earlier) es)) ≡ (q e || list_any q es)
    go true h r s = r ∙ ap (λ b. b || list_any q es) (sym (false_from_ne_true (q e) (λ t. both_ways (list_any q earlier) none (any_weaker (same_place e) q (λ f k. sym (same e f k) ∙ t) earlier h))))
    go false h r s = here (q e) refl s

-- the place of the first cell that passes a test is the number of cells before the first element that does
place-kept : (top t : Element → Bool) → Respects (λ e. top e && t e) → (earlier es : List Element) → list_any (λ e. top e && t e) earlier ≡ false
    → position_or_len t (filter top (kept_after earlier es)) ≡ length (filter top (kept_after earlier (take (position_or_len (λ e. top e && t e) es) es)))
unfolding Respects
place-kept top t same earlier [] none = refl
place-kept top t same earlier (e ∷ es) none = go (list_any (same_place e) earlier) (top e) (t e) refl refl refl (place-kept top t same earlier es none) (place-kept top t same (e ∷ earlier) es)
  where
    n : ℕ
    n = position_or_len (λ x. top x && t x) es

    -- an element that does not pass
    past : (m a : Bool) → list_any (same_place e) earlier ≡ m → top e ≡ a → (a ≡ true → t e ≡ false)
        → position_or_len t (filter top (kept_after earlier es)) ≡ length (filter top (kept_after earlier (take n es)))
        → position_or_len t (filter top (kept_after (e ∷ earlier) es)) ≡ length (filter top (kept_after (e ∷ earlier) (take n es)))
        → position_or_len t (filter top (cond m (kept_after earlier es) (e ∷ kept_after (e ∷ earlier) es))) ≡ length (filter top (kept_after earlier (e ∷ take n es)))
    past true a h k other r s = r ∙ sym (ap (λ (b : Bool). length (filter top (cond b (kept_after earlier (take n es)) (e ∷ kept_after (e ∷ earlier) (take n es))))) h)
    past false true h k other r s =
        ap (λ (b : Bool). position_or_len t (cond b (e ∷ filter top (kept_after (e ∷ earlier) es)) (filter top (kept_after (e ∷ earlier) es)))) k
        ∙ ap (λ (b : Bool). cond (not b) (1 + position_or_len t (filter top (kept_after (e ∷ earlier) es))) 0) (other refl)
        ∙ (let one : 1 + position_or_len t (filter top (kept_after (e ∷ earlier) es)) ≡ suc (length (filter top (kept_after (e ∷ earlier) (take n es)))) = omega (arith, s) in one)
        ∙ sym (ap (λ (b : Bool). length (cond b (e ∷ filter top (kept_after (e ∷ earlier) (take n es))) (filter top (kept_after (e ∷ earlier) (take n es))))) k)
        ∙ sym (ap (λ (b : Bool). length (filter top (cond b (kept_after earlier (take n es)) (e ∷ kept_after (e ∷ earlier) (take n es))))) h)
    past false false h k other r s =
        ap (λ (b : Bool). position_or_len t (cond b (e ∷ filter top (kept_after (e ∷ earlier) es)) (filter top (kept_after (e ∷ earlier) es)))) k
        ∙ s
        ∙ sym (ap (λ (b : Bool). length (cond b (e ∷ filter top (kept_after (e ∷ earlier) (take n es))) (filter top (kept_after (e ∷ earlier) (take n es))))) k)
        ∙ sym (ap (λ (b : Bool). length (filter top (cond b (kept_after earlier (take n es)) (e ∷ kept_after (e ∷ earlier) (take n es))))) h)

    go : (m a b : Bool) → list_any (same_place e) earlier ≡ m → top e ≡ a → t e ≡ b
        → position_or_len t (filter top (kept_after earlier es)) ≡ length (filter top (kept_after earlier (take n es)))
        → (list_any (λ x. top x && t x) (e ∷ earlier) ≡ false → position_or_len t (filter top (kept_after (e ∷ earlier) es)) ≡ length (filter top (kept_after (e ∷ earlier) (take n es))))
        → position_or_len t (filter top (cond m (kept_after earlier es) (e ∷ kept_after (e ∷ earlier) es))) ≡ length (filter top (kept_after earlier (take (cond (not (a && b)) (1 + n) 0) (e ∷ es))))
    go true true true h k l r s = absurd (both_ways (list_any (λ x. top x && t x) earlier) none (any_weaker (same_place e) (λ x. top x && t x) (λ f g. sym (same e f g) ∙ ap₂ (λ x y. x && y) k l) earlier h))
    go false true true h k l r s =
        ap (λ (b : Bool). position_or_len t (cond b (e ∷ filter top (kept_after (e ∷ earlier) es)) (filter top (kept_after (e ∷ earlier) es)))) k
        ∙ ap (λ (b : Bool). cond (not b) (1 + position_or_len t (filter top (kept_after (e ∷ earlier) es))) 0) l
    go m true false h k l r s = past m true h k (λ _. l) r (s (or_from (top e && t e) (list_any (λ x. top x && t x) earlier) (ap₂ (λ x y. x && y) k l) none)) ∙ sym (ap (λ i. length (filter top (kept_after earlier (take i (e ∷ es))))) (let one : 1 + n ≡ suc n = omega arith in one))
    go m false b h k l r s = past m false h k (λ f. absurd (cc f)) r (s (or_from (top e && t e) (list_any (λ x. top x && t x) earlier) (ap (λ x. x && t e) k) none)) ∙ sym (ap (λ i. length (filter top (kept_after earlier (take i (e ∷ es))))) (let one : 1 + n ≡ suc n = omega arith in one))

eqb-turn : (a b : ℕ) → (a == b) ≡ (b == a)
eqb-turn a b = same_tests (a == b) (b == a) (λ h. eq-eqb b a (sym (eqb-true a b h))) (λ h. eq-eqb a b (sym (eqb-true b a h)))

-- the place among the cells of the one on these nodes is the number of cells before the first element of the mesh's dimension there
pub cell-place : (c : Content) (nodes : List ℕ)
    → position (λ (e : Element). same_set nodes e.nodes) (cell_elements c) ≡ option_map (cells_before c) (position (stands_on (greatest_dim c) nodes) c.elements)
unfolding cell_elements kept Respects
cell-place c nodes = go (list_any q c.elements) refl
  where
    t : Element → Bool
    t e = same_set nodes e.nodes

    q : Element → Bool
    q e = is_top c e && t e

    stands : Element → Bool
    stands = stands_on (greatest_dim c) nodes

    turned : (e : Element) → q e ≡ stands e
    turned e = ap (λ b. b && t e) (eqb-turn (dim e) (greatest_dim c))

    respects : Respects q
    respects e f h =
        let both = and_parts (dim e == dim f) (same_nodes e f) h in
        ap₂ (λ d ns. (d == greatest_dim c) && same_list (sorted nodes) ns) (eqb-true (dim e) (dim f) both.0) (same_text (sorted e.nodes) (sorted f.nodes) (sym both.1))

    cells : list_any t (filter (is_top c) (kept_after [] c.elements)) ≡ list_any q c.elements
    cells = any_filter t (is_top c) (kept_after [] c.elements) ∙ any-kept q respects [] c.elements refl

    whole : position_or_len q c.elements ≡ position_or_len stands c.elements
    whole = position_agree q stands c.elements (all_from (λ e. q e ≡ stands e) turned c.elements)

    go : (b : Bool) → list_any q c.elements ≡ b → position t (filter (is_top c) (kept_after [] c.elements)) ≡ option_map (cells_before c) (position stands c.elements)
    go true h =
        position-some t (filter (is_top c) (kept_after [] c.elements)) (cells ∙ h)
        ∙ ap Some (place-kept (is_top c) t respects [] c.elements refl ∙ ap (cells_before c) whole)
        ∙ sym (ap (option_map (cells_before c)) (position-some stands c.elements (sym (any_same q stands turned c.elements) ∙ h)))
    go false h =
        position-nowhere t (filter (is_top c) (kept_after [] c.elements)) (cells ∙ h)
        ∙ sym (ap (option_map (cells_before c)) (position-nowhere stands c.elements (sym (any_same q stands turned c.elements) ∙ h)))

-- of the first elements no more are kept than there are
pub kept-few : (es : List Element) (i : ℕ) → length (kept_after [] (take i es)) ≤ i
kept-few es i = let a = few [] (take i es) in let b = length-take-most i es in omega arith
  where
    length-take-most : (i : ℕ) (xs : List Element) → length (take i xs) ≤ i
    length-take-most zero xs = omega arith
    length-take-most (suc i) [] = omega arith
    length-take-most (suc i) (x ∷ xs) = let r = length-take-most i xs in omega arith

    few : (earlier xs : List Element) → length (kept_after earlier xs) ≤ length xs
    few earlier [] = omega arith
    few earlier (x ∷ xs) = go (list_any (same_place x) earlier) (few earlier xs) (few (x ∷ earlier) xs)
      where
        go : (b : Bool) → length (kept_after earlier xs) ≤ length xs → length (kept_after (x ∷ earlier) xs) ≤ length xs → length (cond b (kept_after earlier xs) (x ∷ kept_after (x ∷ earlier) xs)) ≤ suc (length xs)
        go true r s = omega arith
        go false r s = omega arith

-- what is found is in range
pub found-low : {X : Type 0} (p : X → Bool) (xs : List X) (v : ℕ) → position p xs ≡ Some v → v < length xs
found-low p xs v h = let f = found-there p xs v h in let low = position-within p xs f.0 in omega arith
