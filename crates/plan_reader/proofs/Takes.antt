-- What a line makes of what was read before.
use Rattle.std.proofs.Common.{◌≡◌, ◌≢◌, get_or, ℕ, ◌+◌, ◌<◌, ◌≤◌, subst, length-append, Bool, true, false, not, ◌||◌, List, [], ◌∷◌, ◌++◌, length, Option, Some, None, Ok, Err, refl, sym, ◌∙◌, arith}
use Rattle.std.specs.Prelude.{Result, MatchResult, IsErrAnd, nat_le, nat_lt, ◌==◌}
use Rattle.std.specs.List.{list_all, list_any, AllByRecursion}
use Rattle.std.specs.Option.{IsSome}
use Rattle.std.proofs.lemmas.Bool.{le-leb, lt-leb, lt-ltb, eq-eqb, ne_eqb, or_parts, leb-false, ltb-false}
use Rattle.std.proofs.lemmas.List.{length-map}
use Rattle.plain_lists.specs.Lists.{same_list}
use Rattle.plain_lists.proofs.Each.{all_append}
use Rattle.plain_lists.proofs.Finding.{any_map}
use Rattle.plex_defs.specs.Fields.{AreRightDofs}
use Rattle.input_defs.specs.declared.PlanFault.TheVariants.{Dofs, Overlap, Steps, Word}
use Rattle.input_defs.specs.Plans as plans
use Rattle.input_defs.specs.Plans.{Before, IsDofs, IsMove, Move, Part, Layers, is_part, layers_of, layers_with, form_of, with_form, with_line, plan_with, is_field_name, is_letter}
use Rattle.input_defs.specs.declared.Show.{Show}
use Rattle.plan_reader.specs.declared.moves.MoveLine.{MoveLine}
use Rattle.plan_reader.specs.Drafts.{drafted, counts_of, spread_at}
use Rattle.plan_reader.proofs.FitLemmas.{some_none}
use Rattle.plan_reader.specs.declared.moves.DofsLine.{DofsLine}
use Rattle.plan_reader.specs.Reading.{dofs_view, dofs_views, move_views}

-- the bytes of a name whose length is right
pub field_name-is : (name : List ℕ) → 1 ≤ length name → length name ≤ 32 → list_all is_letter name ≡ is_field_name name
field_name-is name some few = rw (le-leb _ _ some, le-leb _ _ few) refl

-- whether a section can't be added to these
abbrev pub is_wrong : List DofsLine → List ℕ → List ℕ → Bool
is_wrong sections name dofs = not (is_field_name name) || list_any (λ (d : DofsLine). same_list d.name.items name) sections
    || list_any (λ n. nat_lt 16 n) dofs || nat_le 8 (length sections)

abbrev is_wrong_beside : List plans.DofsLine → List ℕ → List ℕ → Bool
is_wrong_beside sections name dofs = not (is_field_name name) || list_any (λ (d : plans.DofsLine). same_list d.name name) sections
    || list_any (λ n. nat_lt 16 n) dofs || nat_le 8 (length sections)

wrong_view : (sections : List DofsLine) (name dofs : List ℕ) → is_wrong_beside (dofs_views sections) name dofs ≡ is_wrong sections name dofs
wrong_view sections name dofs = rw (any_map (λ (d : plans.DofsLine). same_list d.name name) dofs_view sections, length-map sections dofs_view) refl

pub dofs-wrong : (b : Before) (line : ℕ) (name dofs : List ℕ) (sections : List DofsLine) → b.dofs ≡ dofs_views sections → is_wrong sections name dofs ≡ true
    → with_form b line (Some (IsDofs (record { name = name; dofs = dofs }))) ≡ Err (Dofs line)
unfolding with_form
dofs-wrong b line name dofs sections e wrong =
    let test : is_wrong_beside b.dofs name dofs ≡ true = rw e (wrong_view sections name dofs ∙ wrong) in
    rw test refl

pub dofs-right : (b : Before) (line : ℕ) (name dofs : List ℕ) (sections : List DofsLine) → b.dofs ≡ dofs_views sections → is_wrong sections name dofs ≡ false
    → with_form b line (Some (IsDofs (record { name = name; dofs = dofs }))) ≡ Ok (record b { dofs = b.dofs ++ record { name = name; dofs = dofs } ∷ [] })
unfolding with_form
dofs-right b line name dofs sections e right =
    let test : is_wrong_beside b.dofs name dofs ≡ false = rw e (wrong_view sections name dofs ∙ right) in
    rw test refl

-- ---- layers

some_part : (moves : List (ℕ × Move)) → (0 < length moves → IsSome (spread_at moves 0)) → 0 < length moves → list_any (λ (m : ℕ × Move). is_part m.1) moves ≡ true
some_part [] begins some = absurd (omega (arith, some))
some_part ((line, Part spread) ∷ moves) begins some = refl
some_part ((line, Layers k) ∷ moves) begins some = absurd (some_none (begins some))

-- where the first of so many moves is a part, and there are some, one of them is
pub part_there : (moves : List MoveLine) (n : ℕ) → (0 < length (move_views moves) → IsSome (spread_at (move_views moves) 0)) → n ≡ length moves → (n == 0) ≡ false → list_any (λ (m : ℕ × Move). is_part m.1) (move_views moves) ≡ true
part_there [] n begins e some = absurd (grind arith)
part_there (m ∷ moves) n begins e some = some_part (move_views (m ∷ moves)) begins (omega arith)

-- `overlap 0` drops the layers
pub layers-dropped : (layers k : ℕ) → k ≡ 0 → layers_with layers (Layers k) ≡ 0
layers-dropped layers k none = rw (eq-eqb k 0 none) refl

pub layers-added : (layers k : ℕ) → k ≢ 0 → layers_with layers (Layers k) ≡ layers + k
layers-added layers k some = rw (ne_eqb k 0 some) refl

module _ (b : Before) (line k : ℕ) (moves : List (ℕ × Move)) (are : b.moves ≡ moves) (part : list_any (λ (m : ℕ × Move). is_part m.1) moves ≡ true) where
  -- after as many steps as there can be
  pub layers-late : 32 ≤ length moves → with_form b line (Some (IsMove (Layers k))) ≡ Err (Steps line)
  unfolding with_form
  layers-late many = rw (are, part, le-leb 32 (length moves) many) refl

  -- beyond the most layers
  pub layers-high : (total : ℕ) → length moves < 32 → total ≡ layers_with (layers_of moves) (Layers k) → 4 < total → with_form b line (Some (IsMove (Layers k))) ≡ Err (Overlap line total)
  unfolding with_form
  layers-high total few is high = rw (are, part, lt-leb 32 (length moves) few, ← is, lt-ltb 4 total high) refl

-- at the end, with ranks and a part
pub plan_with-is : (d : Before) (ranks : Option ℕ) (moves : List MoveLine) (dofs : List DofsLine) (shows : Show) (line n : ℕ) → drafted ranks moves dofs shows ≡ d → ranks ≡ Some n
    → list_any (λ (m : ℕ × Move). is_part m.1) (move_views moves) ≡ true
    → Ok (record { ranks = n; moves = move_views moves; dofs = dofs_views dofs; shows = shows }) ≡ plan_with d line d.ranks
plan_with-is d ranks moves dofs shows line n e some part = rw (← e, some, part) refl

-- ---- one line

not_ok : {T D : Type 0} (x : T) (P : D → Type 0) → IsErrAnd (Ok x) P → ⊥
not_ok x P h = h

-- what `map_err` handed on
pub mapped : {T E D : Type 0} (r : Result T E) (s : Result T D) (P : E → D → Type 0) (x : T) → MatchResult r (λ y. s ≡ Ok y) (λ e. IsErrAnd s (P e)) → s ≡ Ok x → r ≡ Ok x
mapped {T = T} {D = D} (Ok y) s P x m e = let same : ◌≡◌ {A = Result T D} (Ok y) (Ok x) = sym m ∙ e in cc
mapped (Err d) s P x m e = absurd (not_ok x (P d) (rw e at m))

-- a line that begins with no `#` and has none of the forms
pub no_form : (b : Before) (line : ℕ) (text : List (List ℕ)) (word : List ℕ) (tokens : List (List ℕ)) → text ≡ word ∷ tokens → get_or word 0 0 ≢ 35 → form_of word tokens ≡ None → with_line b line text ≡ Err (Word line)
unfolding with_form
no_form b line text word tokens e said none = rw (e, ne_eqb (get_or word 0 0) 35 said, none) refl

-- ---- the words of sections

-- no count is too large
small-counts : (ns : List ℕ) → list_any (λ n. nat_lt 16 n) ns ≡ false → AllByRecursion (λ n. n ≤ 16) ns
small-counts [] h = tt
small-counts (n ∷ ns) h = let parts = or_parts (nat_lt 16 n) (list_any (λ n. nat_lt 16 n) ns) h in (ltb-false 16 n parts.0, small-counts ns parts.1)

-- a section that can be added leaves sections and words few
pub counts-right : (b : Before) (name dofs : List ℕ) (sections : List DofsLine) → b.dofs ≡ dofs_views sections → length dofs ≡ 4 → is_wrong sections name dofs ≡ false
    → AreRightDofs (counts_of (dofs_views sections)) → AreRightDofs (counts_of b.dofs ++ dofs ∷ [])
counts-right b name dofs sections e four right old =
    let last = or_parts _ (nat_le 8 (length sections)) right in
    let middle = or_parts _ (list_any (λ n. nat_lt 16 n) dofs) last.0 in
    let many : length (counts_of (dofs_views sections)) ≡ length sections = length-map (dofs_views sections) (λ (d : plans.DofsLine). d.dofs) ∙ length-map sections dofs_view in
    let few : length sections < 8 = leb-false 8 (length sections) last.1 in
    subst (λ (ds : List plans.DofsLine). AreRightDofs (counts_of ds ++ dofs ∷ [])) (sym e) (record {
      few_lines = omega (arith, many, length-append (counts_of (dofs_views sections)) (dofs ∷ []));
      four_counts = all_append (λ (counts : List ℕ). length counts ≡ 4) (counts_of (dofs_views sections)) (dofs ∷ []) old.four_counts (four, tt);
      small_counts = all_append (AllByRecursion (λ n. n ≤ 16)) (counts_of (dofs_views sections)) (dofs ∷ []) old.small_counts (small-counts dofs middle.1, tt);
    })
