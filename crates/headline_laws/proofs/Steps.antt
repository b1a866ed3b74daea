-- The text of a step depends on the rounds up to its part alone.
use Rattle.std.proofs.Common.{◌≡◌, ℕ, ◌+◌, ◌<◌, List, take, get_or, sym, ap, ◌∙◌, arith}
use Rattle.std.proofs.lemmas.List.{get_or-take}
use Rattle.sf_defs.specs.Rounds.{Round}
use Rattle.input_defs.specs.States.{State}
use Rattle.headline_defs.specs.StepText.{Subject, step_lines, step_text, home_round, number_round}

-- lists with the same first n elements have the same element at each place below n
same_at : {X : Type 0} (xs ys : List X) (n k : ℕ) (d : X) → take n xs ≡ take n ys → k < n → get_or xs k d ≡ get_or ys k d
same_at xs ys n k d same h = sym (get_or-take n xs k d h) ∙ ap (λ l. get_or l k d) same ∙ get_or-take n ys k d h

-- the text of a step depends on the rounds up to its part alone
pub step-own : (x : Subject) (rounds others : List Round) (s : State) → take (s.parts + 1) rounds ≡ take (s.parts + 1) others → step_text x rounds s ≡ step_text x others s
step-own x rounds others s same =
    let home : home_round rounds ≡ home_round others = same_at rounds others (s.parts + 1) 0 _ same (omega arith) in
    let latest : number_round s rounds ≡ number_round s others = same_at rounds others (s.parts + 1) s.parts _ same (omega arith) in
    (λ i. step_lines x s (home i) (latest i))
