-- One step of a walk.
use Rattle.std.proofs.Common.{◌≡◌, ℕ, suc, ◌+◌, ◌<◌, true, ◌&&◌, List, [], ◌∷◌, length, get_or, set, drop, sym, ap, ◌∙◌, add-one, drop-cons, arith}
use Rattle.std.proofs.lemmas.List.{length-set}
use Rattle.sf_defs.specs.declared.Ask.{Ask}
use Rattle.sf_defs.specs.declared.Turn.{Turn}
use Rattle.sf_defs.specs.Asks.{Entry}
use Rattle.sf_defs.specs.Rounds.{entry_at}
use Rattle.sf_fabric.specs.declared.replays.walk.Walk.{Walk}
use Rattle.sf_fabric.specs.replays.Walks.{names, takes, taken, goes_on}

-- there are next places for as many ranks as before
pub length-taken : (s : Walk) (e : Entry) → length (taken s e).next ≡ length s.next
unfolding taken
length-taken s e = length-set s.next e.rank (e.index + 1)

-- after a turn that names an ask that may come, the walk goes on with the rest
pub step-goes_on : (asks : List (List Ask)) (got : List (List ℕ)) (w last : ℕ) (s : Walk) (ts : List Turn) (i : ℕ) (d : Turn) → i < length ts → names asks w (get_or ts i d) ≡ true → takes s (entry_at asks got (get_or ts i d)) ≡ true
    → goes_on asks got w last (taken s (entry_at asks got (get_or ts i d))) (drop (i + 1) ts) ≡ goes_on asks got w last s (drop i ts)
step-goes_on asks got w last s ts i d within named comes =
    ap (λ n. goes_on asks got w last (taken s (entry_at asks got (get_or ts i d))) (drop n ts)) (add-one i)
    ∙ sym (ap (goes_on asks got w last s) (drop-cons ts i d within)
    ∙ ap (λ b. b && (takes s (entry_at asks got (get_or ts i d)) && goes_on asks got w last (taken s (entry_at asks got (get_or ts i d))) (drop (suc i) ts))) named
    ∙ ap (λ b. b && goes_on asks got w last (taken s (entry_at asks got (get_or ts i d))) (drop (suc i) ts)) comes)
