-- Sets of cells, one after another, and what positions tell.
use Rattle.std.proofs.Common.{◌≡◌, ℕ, ◌+◌, ◌<◌, ◌≤◌, Bool, true, false, cond, ◌||◌, ◌==◌, List, [], ◌∷◌, ◌++◌, length, get_or, take, set, nat_lt, refl, sym, ap, ◌∙◌, subst, ⊎_elim, arith}
use Rattle.std.specs.Prelude.{position, is_some, Some, None, replicate, filter}
use Rattle.std.specs.List.{list_any, position_or_len}
use Rattle.std.specs.Cmp.Lexicographic.{same_text}
use Rattle.std.proofs.lemmas.Bool.{cases_Bool, cases_eq, eq-eqb, ne_eqb, or_right, lt-ltb, le-ltb, cond-true, cond-false}
use Rattle.std.proofs.lemmas.List.{take_all, take_more, length-replicate, get_or-replicate, length-set, get_or-set_same, get_or-set_other}
use Rattle.std.proofs.lemmas.List.Elements.{filter-append}
use Rattle.plex_base.specs.Dim.{dim_number}
use Rattle.dist_state.specs.declared.scatter_state.rank_part.MarkHead.{MarkHead}
use Rattle.dist_state.specs.scatter_state.Parts.{marks_of}
use Rattle.std.proofs.lemmas.List.Folds.{list_any-append, list_any_more}
use Rattle.plain_lists.specs.Lists.{same_list, same_set}
use Rattle.plain_lists.proofs.Each.{all_weaker}
use Rattle.plain_lists.proofs.Finding.{any_agree, position-within, position-none}
use Rattle.mesh_defs.specs.Mesh.{Cell}
use Rattle.rank_chart_laws.specs.mark_laws.Sets.{filled, IsShort}
use Rattle.rank_chart_laws.proofs.mark_laws.Filled.{filled-same}
use Rattle.dist_seed.specs.rank_marks.Own.{AreTold, AreShort, HasSets, some_on}

-- a place is found where something passes
pub position-any : {X : Type 0} (p : X → Bool) (xs : List X) → is_some (position p xs) ≡ list_any p xs
position-any p xs = ⊎_elim
    (λ yes. ap is_some (cond-true (nat_lt (position_or_len p xs) (length xs)) (Some (position_or_len p xs)) None (lt-ltb (position_or_len p xs) (length xs) (position-within p xs yes))) ∙ sym yes)
    (λ no. ap is_some (cond-false (nat_lt (position_or_len p xs) (length xs)) (Some (position_or_len p xs)) None (le-ltb (position_or_len p xs) (length xs) (let e = position-none p xs no in omega (arith, e)))) ∙ sym no)
    (cases_Bool (list_any p xs))

or_false : (b : Bool) → (b || false) ≡ b
or_false true = refl
or_false false = refl

-- one more set, or one that is there
pub sets-more : (cells : List (ℕ × Cell)) (i : ℕ) (c : ℕ × Cell) (old new : List (List ℕ)) (one : List ℕ) → i < length cells → get_or cells i c ≡ c → one ≡ filled c.1.vertices
    → HasSets (take i cells) old → new ≡ cond (list_any (same_list one) old) old (old ++ one ∷ []) → HasSets (take (i + 1) cells) new
sets-more cells i c old new one low at is before pushed = record {
  found = λ other.
      ap (list_any (same_list other)) pushed
      ∙ grown (list_any (same_list one) old) refl other
      ∙ ap (λ b. b || same_list other one) (before.found other)
      ∙ (λ j. list_any (λ (d : ℕ × Cell). same_list other (filled d.1.vertices)) (take i cells) || same_list other ((is ∙ ap (λ (d : ℕ × Cell). filled d.1.vertices) (sym at)) j))
      ∙ sym (list_any_more (λ (d : ℕ × Cell). same_list other (filled d.1.vertices)) cells i c low);
}
  where
    grown : (b : Bool) → list_any (same_list one) old ≡ b → (other : List ℕ) → list_any (same_list other) (cond b old (old ++ one ∷ [])) ≡ (list_any (same_list other) old || same_list other one)
    grown false h other = list_any-append (same_list other) old (one ∷ []) ∙ ap (λ b. list_any (same_list other) old || b) (or_false (same_list other one))
    grown true h other = ⊎_elim
        (λ yes. let e : other ≡ one = same_text other one (sym yes) in let there : list_any (same_list other) old ≡ true = ap (λ s. list_any (same_list s) old) e ∙ h in there ∙ sym (ap (λ b. b || same_list other one) there))
        (λ no. sym (ap (λ b. list_any (same_list other) old || b) no ∙ or_false (list_any (same_list other) old)))
        (cases_Bool (same_list other one))

-- a set is there where some cell is on these vertices
pub sets-on : (cells : List (ℕ × Cell)) (sets : List (List ℕ)) (vertices : List ℕ) → HasSets cells sets → AreShort cells → IsShort vertices → list_any (same_list (filled vertices)) sets ≡ some_on vertices cells
sets-on cells sets vertices has short own =
    has.found (filled vertices)
    ∙ any_agree (λ (c : ℕ × Cell). same_list (filled vertices) (filled c.1.vertices)) (λ (c : ℕ × Cell). same_set vertices c.1.vertices) cells
    (all_weaker (λ (c : ℕ × Cell). IsShort c.1.vertices) (λ (c : ℕ × Cell). same_list (filled vertices) (filled c.1.vertices) ≡ same_set vertices c.1.vertices) (λ c is. filled-same vertices c.1.vertices own is) cells short)

pub sets-none : HasSets [] []
sets-none = record { found = λ one. refl }

pub sets-all : (cells : List (ℕ × Cell)) (i : ℕ) (sets : List (List ℕ)) → length cells ≤ i → HasSets (take i cells) sets → HasSets cells sets
sets-all cells i sets le has = subst (λ l. HasSets l sets) (take_all i cells le) has

-- ---- numbers that are told

pub told-none : (count : ℕ) → AreTold [] count (replicate count false)
told-none count = record { many = length-replicate count false; each = λ v low. get_or-replicate count v false false low }

pub told-more : (numbers : List ℕ) (count k v : ℕ) (told : List Bool) → k < length numbers → v ≡ get_or numbers k 0 → v < count → AreTold (take k numbers) count told → AreTold (take (k + 1) numbers) count (set told v true)
told-more numbers count k v told low is within before = record {
  many = length-set told v true ∙ before.many;
  each = λ w small. ⊎_elim
      (λ (same : v ≡ w).
      let long : v < length told = let many = before.many in omega (arith, many, within) in
      let there : get_or (set told v true) w false ≡ true = ap (λ u. get_or (set told v true) u false) (sym same) ∙ get_or-set_same told v true false long in
      let yes : (get_or numbers k 0 == w) ≡ true = eq-eqb (get_or numbers k 0) w (sym is ∙ same) in
      there ∙ sym (list_any_more (λ u. u == w) numbers k 0 low ∙ or_right (list_any (λ u. u == w) (take k numbers)) (get_or numbers k 0 == w) yes))
      (λ (other : v ≡ w → ⊥).
      let no : (get_or numbers k 0 == w) ≡ false = ne_eqb (get_or numbers k 0) w (λ e. other (is ∙ e)) in
      get_or-set_other told v w true false (λ e. other (sym e)) ∙ before.each w small
      ∙ sym (list_any_more (λ u. u == w) numbers k 0 low ∙ ap (λ b. list_any (λ u. u == w) (take k numbers) || b) no ∙ or_false (list_any (λ u. u == w) (take k numbers))))
      (cases_eq v w);
}

pub told-all : (numbers : List ℕ) (count k : ℕ) (told : List Bool) → length numbers ≤ k → AreTold (take k numbers) count told → AreTold numbers count told
told-all numbers count k told le all = subst (λ l. AreTold l count told) (take_all k numbers le) all

-- ---- marks

-- one mark more
pub marks-push : (heads : List MarkHead) (lists : List (List ℕ)) (head : MarkHead) (vertices : List ℕ) → length lists ≡ length heads
    → marks_of (heads ++ head ∷ []) (lists ++ vertices ∷ []) ≡ marks_of heads lists ++ record { dim = dim_number head.dim; vertices = vertices; value = head.value } ∷ []
marks-push [] [] head vertices e = refl
marks-push [] (l ∷ lists) head vertices e = absurd (omega (arith, e))
marks-push (h ∷ heads) [] head vertices e = absurd (omega (arith, e))
marks-push (h ∷ heads) (l ∷ lists) head vertices e = ap (λ ms. record { dim = dim_number h.dim; vertices = l; value = h.value } ∷ ms) (marks-push heads lists head vertices (omega (arith, e)))

-- a mark that is kept, or not
pub filter-more : {X : Type 0} (p : X → Bool) (xs : List X) (i : ℕ) (x : X) → i < length xs → filter p (take (i + 1) xs) ≡ filter p (take i xs) ++ cond (p (get_or xs i x)) (get_or xs i x ∷ []) []
filter-more p xs i x low = ap (filter p) (take_more xs i x low) ∙ filter-append p (take i xs) (get_or xs i x ∷ [])
