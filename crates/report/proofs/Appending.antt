-- Parts that are appended one after another to the bytes of a line.
use Rattle.std.proofs.Common.{◌≡◌, ℕ, ℤ, List, [], ◌∷◌, ◌++◌, map, Result, Ok, Err, ap, sym, ◌∙◌, append_assoc, append-nil}
use Rattle.std.specs.Prelude.{OnOk, codes, decimal, flat_map}
use Rattle.std.specs.List.{join_with_byte}
use Rattle.input_defs.specs.line_defs.Numbers.{fixed_text}
use Rattle.input_defs.specs.Refused.{on_line}

-- two parts
pub appended-two : (old a b mid new : List ℕ) → mid ≡ old ++ a → new ≡ mid ++ b → new ≡ old ++ (a ++ b)
appended-two old a b mid new e f = f ∙ ap (λ (t : List ℕ). t ++ b) e ∙ append_assoc old a b

-- three parts
pub appended-three : (old a b c first second new : List ℕ) → first ≡ old ++ a → second ≡ first ++ b → new ≡ second ++ c → new ≡ old ++ (a ++ (b ++ c))
appended-three old a b c first second new e f g = appended-two old a (b ++ c) first new e (appended-two first b c second new f g)

-- the number of a line of a file, and a text where the call succeeds
pub appended-on_line : {A E : Type 0} (r : Result A E) (l : ℕ) (old text mid new : List ℕ) → mid ≡ old ++ on_line l [] → OnOk r (new ≡ mid ++ text) → OnOk r (new ≡ old ++ on_line l text)
appended-on_line (Ok x) l old text mid new e f = appended-two old (on_line l []) text mid new e f ∙ ap (λ (t : List ℕ). old ++ t) (regroup l text)
  where
    regroup : (n : ℕ) (t : List ℕ) → on_line n [] ++ t ≡ on_line n t
    regroup n t = ap (λ (s : List ℕ). s ++ t) (append-nil (codes "line " ++ decimal n ++ codes " "))
appended-on_line (Err x) l old text mid new e f = f
