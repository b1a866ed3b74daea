-- A loop that reports a text for each item of a list, by its place.
use Rattle.std.proofs.Common.{◌≡◌, ℕ, ◌+◌, ◌<◌, ◌≤◌, Bool, List, [], ◌∷◌, ◌++◌, length, get_or, take, Option, Result, Ok, Err, ap, ◌∙◌, append-nil, arith}
use Rattle.std.specs.List.{flat_map, enumerate_from}
use Rattle.std.specs.Result.{IsErrAnd}
use Rattle.std.proofs.lemmas.List.{take_more, take_all}
use Rattle.std.proofs.lemmas.List.FromFn.{get_or-enumerate_from}
use Rattle.std.proofs.lemmas.List.Concat.{flat_map-append}
use Rattle.cause_defs.specs.declared.ReportFault.{ReportFault}
use Rattle.cause_defs.specs.Reports.{Reports}
use Rattle.cause_defs.proofs.Reporting.{Reports-then, Reports-exit, Reports-inside}

-- the texts of the items up to a place, and of the one there
pub texts-more : {X : Type 0} (f : X → List ℕ) (xs : List X) (i : ℕ) (d : X) → i < length xs → flat_map f (take (i + 1) xs) ≡ flat_map f (take i xs) ++ f (get_or xs i d)
texts-more f xs i d lt =
    ap (flat_map f) (take_more xs i d lt) ∙ flat_map-append f (take i xs) (get_or xs i d ∷ []) ∙ ap (λ (t : List ℕ). flat_map f (take i xs) ++ t) (append-nil (f (get_or xs i d)))

module _ {W : Type 0} {written : W → Option (List ℕ)} {flushed faults : W → ℕ} {alone : W → Bool} {X : Type 0} (f : X → List ℕ) (xs : List X) (i : ℕ) (d : X) where
  -- one item more
  pub texts-next : {A B : Type 0} {x : A} {y : B} {old mid new : W} → i < length xs
      → Reports written flushed faults alone (Ok x) old mid (flat_map f (take i xs)) → Reports written flushed faults alone (Ok y) mid new (f (get_or xs i d))
      → Reports written flushed faults alone (Ok y) old new (flat_map f (take (i + 1) xs))
  texts-next lt p q = rw (texts-more f xs i d lt) (Reports-then p q)

  -- the loop stops, since the call at one item failed
  pub texts-stop : {A B C : Type 0} {x : C} {e : ReportFault} {old mid new : W} (r : Result B ReportFault) → IsErrAnd r (λ h. h ≡ e) → i < length xs
      → Reports written flushed faults alone (Ok x) old mid (flat_map f (take i xs)) → Reports {A = A} written flushed faults alone (Err e) mid new (f (get_or xs i d))
      → Reports written flushed faults alone r old new (flat_map f xs)
  texts-stop r is lt p q = Reports-exit r is (Reports-inside f xs i d lt p q)

  -- the loop has come to the end
  pub texts-all : {A : Type 0} {x : A} {old new : W} → length xs ≤ i
      → Reports written flushed faults alone (Ok x) old new (flat_map f (take i xs)) → Reports written flushed faults alone (Ok x) old new (flat_map f xs)
  texts-all {A} {x} {old} {new} le p =
      let whole : flat_map f (take i xs) ≡ flat_map f xs = ap (flat_map f) (take_all i xs le) in
      rw whole at p

-- an item with its place
pub enumerated-at : {X : Type 0} (xs : List X) (i : ℕ) (d : X) → i < length xs → get_or (enumerate_from 0 xs) i (0, d) ≡ (i, get_or xs i d)
enumerated-at xs i d lt = get_or-enumerate_from 0 xs i (0, d) lt ∙ ap (λ (n : ℕ). (n, get_or xs i d)) (let e : 0 + i ≡ i = omega arith in e)
