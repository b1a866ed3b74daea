-- What every plan that is read has: 1 to 64 ranks, a part as its first step, at most 32 steps, and right counts in its `dofs` lines.
use Rattle.std.proofs.Common.{◌≡◌, ℕ, ◌+◌, ◌≤◌, Bool, true, false, cond, not, ◌&&◌, ◌||◌, ◌==◌, List, [], ◌∷◌, ◌++◌, map, Option, Some, None, Ok, length, refl, sym, ◌∙◌, subst, arith}
use Rattle.std.specs.Prelude.{Result, nat_lt, nat_le, slice_get, is_none, option_map, find, codes}
use Rattle.std.specs.List.{list_any, list_all, AllByRecursion}
use Rattle.std.proofs.lemmas.Bool.{or_parts, eqb-false, leb-false, ltb-false, not-false}
use Rattle.std.proofs.lemmas.List.{length-append, length-map, map-append}
use Rattle.plain_lists.specs.Lists.{same_list}
use Rattle.plain_lists.proofs.Each.{all_weaker, all_append}
use Rattle.plain_lists.proofs.Finding.{each_fails}
use Rattle.input_defs.specs.line_defs.Rows.{lines_of, tokens_of}
use Rattle.input_defs.specs.line_defs.Numbers.{number_of_digits}
use Rattle.plex_defs.specs.Fields.{AreRightDofs}
use Rattle.input_defs.specs.declared.PlanFault.{PlanFault}
use Rattle.input_defs.specs.declared.PlanFault.TheVariants.{Word, Ranks, NoPart, Overlap, Dofs, Steps}
use Rattle.input_defs.specs.declared.Show.{Show}
use Rattle.input_defs.specs.Plans.{Plan, Spread, Block, Stripe, Listed, Move, Part, Layers, DofsLine, Form, IsRanks, IsMove, IsDofs, IsShow, Before, before_any_line, is_number, plan_numbers, shows_of, show_of, part_of, dofs_of, with_number, form_of, both, is_part, has_part, is_field_name, layers_with, layers_of, with_form, is_comment, with_line, plan_with, plan_from, plan_of}
use Rattle.input_laws.proofs.Causes.{unless-ok, first_cause-none, bind-ok}

-- ---- forms

-- a `dofs` line has four counts
HasFour : Option Form → Type 0
HasFour None = Unit {0}
HasFour (Some (IsRanks n)) = Unit {0}
HasFour (Some (IsMove move)) = Unit {0}
HasFour (Some (IsDofs d)) = length d.dofs ≡ 4
HasFour (Some (IsShow s)) = Unit {0}

four-either : (b : Bool) (f g : Option Form) → HasFour f → HasFour g → HasFour (cond b f g)
four-either true f g x y = x
four-either false f g x y = y

four-numbers : (form : ℕ → Form) → ((n : ℕ) → HasFour (Some (form n))) → (tokens : List (List ℕ)) → HasFour (with_number form tokens)
unfolding HasFour
four-numbers form each [] = tt
four-numbers form each (token ∷ []) = four-either (is_number token) (Some (form (number_of_digits token))) None (each (number_of_digits token)) tt
four-numbers form each (a ∷ b ∷ tokens) = tt

four-part : (tokens : List (List ℕ)) → HasFour (part_of tokens)
unfolding HasFour
four-part [] = tt
four-part (token ∷ tokens) = go (same_list token (codes "block") && is_none (slice_get tokens 0)) (same_list token (codes "stripe") && is_none (slice_get tokens 0)) (plan_numbers (token ∷ tokens))
  where
    go : (block stripe : Bool) (o : Option (List ℕ)) → HasFour (cond block (Some (IsMove (Part Block))) (cond stripe (Some (IsMove (Part Stripe))) (option_map (λ ranks. IsMove (Part (Listed ranks))) o)))
    go true stripe o = tt
    go false true o = tt
    go false false (Some ranks) = tt
    go false false None = tt

four-dofs : (tokens : List (List ℕ)) → HasFour (dofs_of tokens)
unfolding HasFour
four-dofs [] = tt
four-dofs (n ∷ []) = tt
four-dofs (n ∷ a ∷ []) = tt
four-dofs (n ∷ a ∷ b ∷ []) = tt
four-dofs (n ∷ a ∷ b ∷ c ∷ []) = tt
four-dofs (n ∷ a ∷ b ∷ c ∷ d ∷ []) = counted (list_all is_number (a ∷ b ∷ c ∷ d ∷ []))
  where
    counted : (t : Bool) → HasFour (option_map (λ ds. IsDofs (record { name = n; dofs = ds })) (cond t (Some (map number_of_digits (a ∷ b ∷ c ∷ d ∷ []))) None))
    counted true = refl
    counted false = tt
four-dofs (n ∷ a ∷ b ∷ c ∷ d ∷ e ∷ tokens) = tt

four-show : (tokens : List (List ℕ)) → HasFour (show_of tokens)
unfolding HasFour
four-show [] = tt
four-show (token ∷ []) = shown (find (λ row. same_list row.0 token) shows_of)
  where
    shown : (o : Option (List ℕ × Show)) → HasFour (option_map (λ (row : List ℕ × Show). IsShow row.1) o)
    shown (Some row) = tt
    shown None = tt
four-show (a ∷ b ∷ tokens) = tt

four-form : (word : List ℕ) (tokens : List (List ℕ)) → HasFour (form_of word tokens)
unfolding form_of HasFour
four-form word tokens =
    first (same_list word (codes "ranks")) (same_list word (codes "part")) (same_list word (codes "overlap")) (same_list word (codes "dofs")) (same_list word (codes "show"))
  where
    layers : HasFour (with_number (λ k. IsMove (Layers k)) tokens)
    layers = four-numbers (λ k. IsMove (Layers k)) (λ n. tt) tokens

    first : (a b c d e : Bool) → HasFour (cond a (with_number IsRanks tokens) (cond b (part_of tokens) (cond c (with_number (λ k. IsMove (Layers k)) tokens) (cond d (dofs_of tokens) (cond e (show_of tokens) None)))))
    first true b c d e = four-numbers IsRanks (λ n. tt) tokens
    first false true c d e = four-part tokens
    first false false true d e = layers
    first false false false true e = four-dofs tokens
    first false false false false true = four-show tokens
    first false false false false false = tt

-- ---- what was read up to a line

-- there are no steps, or the first of them is a part
unfoldable pub BeginsWithPart : List (ℕ × Move) → Type 0
BeginsWithPart [] = Unit {0}
BeginsWithPart ((line, Part spread) ∷ moves) = Unit {0}
BeginsWithPart ((line, Layers k) ∷ moves) = ⊥

begins-part : (moves : List (ℕ × Move)) (line : ℕ) (spread : Spread) → BeginsWithPart moves → BeginsWithPart (moves ++ (line, Part spread) ∷ [])
unfolding BeginsWithPart
begins-part [] line spread begins = tt
begins-part ((l, Part s) ∷ moves) line spread begins = tt
begins-part ((l, Layers k) ∷ moves) line spread begins = absurd begins

begins-more : (moves : List (ℕ × Move)) (move : ℕ × Move) → list_any (λ (m : ℕ × Move). is_part m.1) moves ≡ true → BeginsWithPart moves → BeginsWithPart (moves ++ move ∷ [])
unfolding BeginsWithPart
begins-more [] move some begins = absurd (cc some)
begins-more ((l, Part s) ∷ moves) move some begins = tt
begins-more ((l, Layers k) ∷ moves) move some begins = absurd begins

abbrev counts_of : List DofsLine → List (List ℕ)
counts_of ds = map (λ (d : DofsLine). d.dofs) ds

record IsRead (b : Before) : Type 0 where
  pub ranks : (n : ℕ) → b.ranks ≡ Some n → (1 ≤ n) × (n ≤ 64)
  pub begins : BeginsWithPart b.moves
  pub steps : length b.moves ≤ 32
  pub dofs : AreRightDofs (counts_of b.dofs)

-- the same ranks, steps and counts
read-same : (b next : Before) → b.ranks ≡ next.ranks → b.moves ≡ next.moves → b.dofs ≡ next.dofs → IsRead b → IsRead next
read-same b next ranks moves dofs read = record { ranks = λ n e. read.ranks n (ranks ∙ e); begins = subst BeginsWithPart moves read.begins; steps = subst (λ (ms : List (ℕ × Move)). length ms ≤ 32) moves read.steps; dofs = subst (λ ds. AreRightDofs (counts_of ds)) dofs read.dofs }

the_ok : Before → Result Before PlanFault
the_ok x = Ok x

same_ok : (x y : Before) → the_ok x ≡ the_ok y → x ≡ y
unfolding the_ok
same_ok x y e = cc e

-- a number that is not 0 and not above 64
in-range : (r n : ℕ) → (r == 0) ≡ false → nat_lt 64 r ≡ false → Some r ≡ Some n → (1 ≤ n) × (n ≤ 64)
in-range r n nonzero few same = let k : r ≡ n = cc same in (omega (arith, k, eqb-false r 0 nonzero), omega (arith, k, ltb-false 64 r few))

-- one more line of counts
more-dofs : (ds : List DofsLine) (d : DofsLine) → AreRightDofs (counts_of ds) → length d.dofs ≡ 4 → list_any (λ n. nat_lt 16 n) d.dofs ≡ false → nat_le 8 (length ds) ≡ false → AreRightDofs (counts_of (ds ++ d ∷ []))
more-dofs ds d right four small few = subst AreRightDofs (sym (map-append (λ (e : DofsLine). e.dofs) ds (d ∷ []))) (record {
  few_lines = omega (arith, leb-false 8 (length ds) few, length-append (counts_of ds) (d.dofs ∷ []), length-map ds (λ (e : DofsLine). e.dofs));
  four_counts = all_append (λ (counts : List ℕ). length counts ≡ 4) (counts_of ds) (d.dofs ∷ []) right.four_counts (four, tt);
  small_counts = all_append (AllByRecursion (λ n. n ≤ 16)) (counts_of ds) (d.dofs ∷ []) right.small_counts (all_weaker (λ n. nat_lt 16 n ≡ false) (λ n. n ≤ 16) (λ n h. ltb-false 16 n h) d.dofs (each_fails (λ n. nat_lt 16 n) d.dofs small), tt);
})

-- one more step
one-more : (moves : List (ℕ × Move)) (move : ℕ × Move) → nat_le 32 (length moves) ≡ false → length (moves ++ move ∷ []) ≤ 32
one-more moves move few = omega (arith, leb-false 32 (length moves) few, length-append moves (move ∷ []))

with_form-read : (b next : Before) (line : ℕ) (form : Option Form) → HasFour form → IsRead b → with_form b line form ≡ Ok next → IsRead next
unfolding the_ok with_form HasFour
with_form-read b next line None four read h = absurd (cc h)
with_form-read b next line (Some (IsRanks r)) four read h =
    let fits = unless-ok _ _ next h in
    let all : AllByRecursion (λ (c : Bool × PlanFault). c.0 ≡ false) ((not (is_none b.ranks), Word line) ∷ ((r == 0) || nat_lt 64 r, Ranks line r) ∷ []) = first_cause-none ((not (is_none b.ranks), Word line) ∷ ((r == 0) || nat_lt 64 r, Ranks line r) ∷ []) fits.0 in
    let range = or_parts (r == 0) (nat_lt 64 r) all.1.0 in
    subst IsRead fits.1 (record { ranks = λ n e. in-range r n range.0 range.1 e; begins = read.begins; steps = read.steps; dofs = read.dofs })
with_form-read b next line (Some (IsMove (Part spread))) four read h =
    let fits = unless-ok _ _ next h in
    let causes = (is_none b.ranks, Word line) ∷ (nat_le 32 (length b.moves), Steps line) ∷ [] in
    let all : AllByRecursion (λ (c : Bool × PlanFault). c.0 ≡ false) causes = first_cause-none causes fits.0 in
    subst IsRead fits.1 (record { ranks = read.ranks; begins = begins-part b.moves line spread read.begins; steps = one-more b.moves (line, Part spread) all.1.0; dofs = read.dofs })
with_form-read b next line (Some (IsMove (Layers k))) four read h =
    let fits = unless-ok _ _ next h in
    let causes = (not (has_part b), NoPart line) ∷ (nat_le 32 (length b.moves), Steps line) ∷ (nat_lt 4 (layers_with (layers_of b.moves) (Layers k)), Overlap line (layers_with (layers_of b.moves) (Layers k))) ∷ [] in
    let all : AllByRecursion (λ (c : Bool × PlanFault). c.0 ≡ false) causes = first_cause-none causes fits.0 in
    subst IsRead fits.1 (record { ranks = read.ranks; begins = begins-more b.moves (line, Layers k) (not-false (has_part b) all.0) read.begins; steps = one-more b.moves (line, Layers k) all.1.0; dofs = read.dofs })
with_form-read b next line (Some (IsDofs d)) four read h =
    let fits = unless-ok _ _ next h in
    let names = not (is_field_name d.name) || list_any (λ (e : DofsLine). same_list e.name d.name) b.dofs in
    let all : AllByRecursion (λ (c : Bool × PlanFault). c.0 ≡ false) ((names || list_any (λ n. nat_lt 16 n) d.dofs || nat_le 8 (length b.dofs), Dofs line) ∷ []) = first_cause-none ((names || list_any (λ n. nat_lt 16 n) d.dofs || nat_le 8 (length b.dofs), Dofs line) ∷ []) fits.0 in
    let outer = or_parts (names || list_any (λ n. nat_lt 16 n) d.dofs) (nat_le 8 (length b.dofs)) all.0 in
    let inner = or_parts names (list_any (λ n. nat_lt 16 n) d.dofs) outer.0 in
    subst IsRead fits.1 (record { ranks = read.ranks; begins = read.begins; steps = read.steps; dofs = more-dofs b.dofs d read.dofs four inner.1 outer.1 })
with_form-read b next line (Some (IsShow s)) four read h = subst IsRead (same_ok (record b { shows = both b.shows s }) next h) (record { ranks = read.ranks; begins = read.begins; steps = read.steps; dofs = read.dofs })

with_line-read : (b next : Before) (line : ℕ) (tokens : List (List ℕ)) → IsRead b → with_line b line tokens ≡ Ok next → IsRead next
unfolding the_ok
with_line-read b next line [] read h = subst IsRead (same_ok b next h) read
with_line-read b next line (word ∷ tokens) read h = go (is_comment word) h
  where
    go : (test : Bool) → cond test (Ok b) (with_form b line (form_of word tokens)) ≡ Ok next → IsRead next
    go true e = subst IsRead (same_ok b next e) read
    go false e = with_form-read b next line (form_of word tokens) (four-form word tokens) read e

-- ---- a whole plan

pub record IsReadPlan (plan : Plan) : Type 0 where
  pub some_rank : 1 ≤ plan.ranks
  pub few_ranks : plan.ranks ≤ 64
  pub begins : BeginsWithPart plan.moves
  pub some_part : list_any (λ (m : ℕ × Move). is_part m.1) plan.moves ≡ true
  pub few_steps : length plan.moves ≤ 32
  pub dofs : AreRightDofs (map (λ (d : DofsLine). d.dofs) plan.dofs)

plan_with-read : (b : Before) (line : ℕ) (ranks : Option ℕ) (plan : Plan) → b.ranks ≡ ranks → IsRead b → plan_with b line ranks ≡ Ok plan → IsReadPlan plan
plan_with-read b line None plan same read h = absurd (cc h)
plan_with-read b line (Some n) plan same read h =
    let fits = unless-ok _ _ plan h in
    let all : AllByRecursion (λ (c : Bool × PlanFault). c.0 ≡ false) ((not (has_part b), NoPart line) ∷ []) = first_cause-none ((not (has_part b), NoPart line) ∷ []) fits.0 in
    subst IsReadPlan fits.1 (record { some_rank = (read.ranks n same).0; few_ranks = (read.ranks n same).1; begins = read.begins; some_part = not-false (has_part b) all.0; few_steps = read.steps; dofs = read.dofs })

plan_from-read : (b : Before) (end line : ℕ) (texts : List (List ℕ)) (plan : Plan) → IsRead b → plan_from b end line texts ≡ Ok plan → IsReadPlan plan
unfolding plan_from
plan_from-read b end line [] plan read h = plan_with-read b end b.ranks plan refl read h
plan_from-read b end line (text ∷ texts) plan read h =
    let next = bind-ok (with_line b line (tokens_of text)) (λ next. plan_from next end (line + 1) texts) plan h in
    plan_from-read next.0 end (line + 1) texts plan (with_line-read b next.0 line (tokens_of text) read next.1) next.2

-- what a plan that is read has
pub plan-read : (bytes : List ℕ) (plan : Plan) → plan_of bytes ≡ Ok plan → IsReadPlan plan
unfolding plan_of BeginsWithPart
plan-read bytes plan h = plan_from-read before_any_line (length (lines_of bytes)) 1 (lines_of bytes) plan (record { ranks = λ n e. absurd (cc e); begins = tt; steps = omega arith; dofs = record { few_lines = omega arith; four_counts = tt; small_counts = tt } }) h
