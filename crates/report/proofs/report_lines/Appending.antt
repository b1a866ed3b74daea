-- Parts that are appended one after another to the bytes of a line.
use Rattle.std.proofs.Common.{◌≡◌, ℕ, Bool, true, false, List, [], ◌∷◌, ◌++◌, map, nat_lt, Result, Ok, Err, refl, ap, sym, ◌∙◌, append_assoc, append-nil}
use Rattle.std.specs.Prelude.{OnOk, codes, decimal, flat_map, if◌then◌else◌}
use Rattle.std.specs.List.{join_with_byte}
use Rattle.input_defs.specs.line_defs.Numbers.{fixed_text}
use Rattle.input_defs.specs.Further.{field_text}
use Rattle.walk_defs.specs.step_defs.Words.{signed_of}
use Rattle.walk_defs.specs.step_defs.Points.{words_text}
use Rattle.report.specs.report_lines.Words.{words_by}

-- two parts
pub appended-two : (old a b mid new : List ℕ) → mid ≡ old ++ a → new ≡ mid ++ b → new ≡ old ++ (a ++ b)
appended-two old a b mid new e f = f ∙ ap (λ (t : List ℕ). t ++ b) e ∙ append_assoc old a b

-- texts with commas between, as a first one and others after commas
pub joined : (f : ℕ → List ℕ) (first : List ℕ) (others : List ℕ) → join_with_byte 44 (first ∷ map f others) ≡ first ++ flat_map (λ x. codes "," ++ f x) others
joined f first [] = sym (append-nil first)
joined f first (x ∷ others) = ap (λ (t : List ℕ). first ++ (44 ∷ t)) (joined f (f x) others)

-- a field's words, part by part
pub appended-words : {A E : Type 0} (r : Result A E) (old before equals first rest all l1 l2 l3 new : List ℕ) → all ≡ first ++ rest → l1 ≡ old ++ before → l2 ≡ l1 ++ equals → l3 ≡ l2 ++ first → OnOk r (new ≡ l3 ++ rest)
    → OnOk r (new ≡ old ++ (before ++ equals ++ all))
appended-words (Ok x) old before equals first rest all l1 l2 l3 new e a b c d =
    let head : l2 ≡ old ++ (before ++ equals) = appended-two old before equals l1 l2 a b in
    let tail : new ≡ l2 ++ (first ++ rest) = appended-two l2 first rest l3 new c d in
    appended-two old (before ++ equals) all l2 new head (tail ∙ ap (λ (t : List ℕ). l2 ++ t) (sym e))
appended-words (Err x) old before equals first rest all l1 l2 l3 new e a b c d = d

-- the words of a field one by one
pub words_text-by : (sections i : ℕ) (words : List ℕ) → words_text sections i words ≡ words_by (nat_lt i sections) i words
unfolding words_text
words_text-by sections i words = go (nat_lt i sections)
  where
    go : (b : Bool) → field_text i (if b then map (λ w. fixed_text (signed_of w)) words else map decimal words) ≡ words_by b i words
    go true = refl
    go false = refl
