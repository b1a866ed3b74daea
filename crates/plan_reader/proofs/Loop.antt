-- A plan read line by line.
use Rattle.std.proofs.Common.{◌≡◌, ◌≢◌, ℕ, ◌+◌, ◌≤◌, List, [], ◌∷◌, length, Option, Some, None, Ok, Err, refl, sym, ap, ◌∙◌, arith}
use Rattle.std.specs.Prelude.{Result, IfOk, IfErr, IfSome, option_map}
use Rattle.std.specs.Borrow.{Bor}
use Rattle.input_defs.specs.line_defs.Rows.{lines_of, tokens_of}
use Rattle.input_defs.specs.declared.PlanFault.{PlanFault}
use Rattle.input_defs.specs.declared.PlanFault.TheVariants.{NoMemory}
use Rattle.input_defs.specs.Causes.{map_ok}
use Rattle.input_defs.specs.Plans.{Before, Plan, before_any_line, plan_from, plan_of, plan_with, with_line}
use Rattle.plan_reader.specs.Reading.{bytes_left}
use Rattle.plan_reader.specs.Drafts.{PlanText}

-- ---- the plan

pub plan_start : (bytes : List ℕ) → plan_of bytes ≡ plan_from before_any_line (length (lines_of bytes)) 1 (lines_of bytes)
unfolding plan_of
plan_start bytes = refl

-- a line is read
pub plan_more : (wanted : Result Plan PlanFault) (b next : Before) (end line : ℕ) (lines : List (List ℕ)) (text : List ℕ) (after : List (List ℕ)) → lines ≡ text ∷ after → with_line b line (tokens_of text) ≡ Ok next
    → wanted ≡ plan_from b end line lines → wanted ≡ plan_from next end (line + 1) after
unfolding plan_from
plan_more wanted b next end line lines text after e read so_far = so_far ∙ rw (e, read) refl

-- a line has a fault
pub plan_fails : (wanted : Result Plan PlanFault) (b : Before) (fault : PlanFault) (end line : ℕ) (lines : List (List ℕ)) (text : List ℕ) (after : List (List ℕ)) → lines ≡ text ∷ after → with_line b line (tokens_of text) ≡ Err fault
    → wanted ≡ plan_from b end line lines → wanted ≡ Err fault
unfolding plan_from
plan_fails wanted b fault end line lines text after e read so_far = so_far ∙ rw (e, read) refl

-- all lines are read
pub plan_ends : (wanted : Result Plan PlanFault) (b : Before) (end line next : ℕ) (lines : List (List ℕ)) → lines ≡ [] → line + length lines ≡ end → wanted ≡ plan_from b end next lines → wanted ≡ plan_with b line b.ranks
unfolding plan_from
plan_ends wanted b end line next lines e last so_far =
    let here : end ≡ line = omega (arith, last, ap length e) in
    so_far ∙ rw (e, here) refl

pub finished : (found : Result PlanText PlanFault) (wanted last : Result Plan PlanFault) → map_ok (λ p. p.plan) found ≡ last → wanted ≡ last → IfOk found (λ p. wanted ≡ Ok p.plan) × IfErr found (λ e. e ≢ NoMemory → wanted ≡ Err e)
finished (Ok p) wanted last e so_far = (so_far ∙ sym e, tt)
finished (Err fault) wanted last e so_far = (tt, λ _. so_far ∙ sym e)

-- ---- what is left

pub left_bound : (left : Option (Bor (List ℕ))) (n m : ℕ) → IfSome left (λ rest. length rest.now ≤ n) → n ≤ m → bytes_left (option_map (λ rest. rest.now) left) ≤ m
left_bound None n m bound le = omega arith
left_bound (Some rest) n m bound le = omega arith
