-- A word of 64 bits gives back the signed value that it tells.
use Rattle.std.proofs.Common.{◌≡◌, ◌-◌, ◌<◌, ◌^◌, nat_lt, pos, negsuc, ℤ, ap, ◌∙◌, arith}
use Rattle.std.proofs.lemmas.Bool.{cond-true, cond-false, lt-ltb, le-ltb}
use mir.Syntax.{w64}
use mir.Val.{SFits}
use Rattle.walk_defs.specs.step_defs.Words.{signed_of, FitsWord}

-- a word gives back its value
pub fits-word : (z : ℤ) → SFits w64 z → FitsWord z
unfolding signed_of
fits-word (pos n) h = let low : n < 2 ^ 63 = h.sfits in cond-true (nat_lt n (2 ^ 63)) _ _ (lt-ltb n (2 ^ 63) low)
fits-word (negsuc n) h =
    let low : n < 2 ^ 63 = h.sfits in
    cond-false (nat_lt (2 ^ 64 - 1 - n) (2 ^ 63)) _ _ (le-ltb (2 ^ 64 - 1 - n) (2 ^ 63) (omega arith)) ∙ ap negsuc (let back : 2 ^ 64 - 1 - (2 ^ 64 - 1 - n) ≡ n = omega arith in back)
