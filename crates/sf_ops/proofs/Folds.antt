-- A legal round leaves folds, and a Free one is not kept.
use Rattle.std.proofs.Common.{◌≡◌, ℕ, List, sym, ap, subst}
use Rattle.sf_defs.specs.declared.Ask.{Ask}
use Rattle.sf_defs.specs.declared.Tag.TheVariants.{Free}
use Rattle.sf_defs.specs.Rounds.{Round, IsLegal}
use Rattle.sf_fabric.specs.Kept.{kept_as, kept_with}
use Rattle.round_laws.proofs.LastValues.{legal-last}
use Rattle.sf_ops.specs.Folds.{AreFolds}

-- the last values of a legal round are folds
pub AreFolds-legal : (r : Round) (asks : List (List Ask)) (before after : List ℕ) → IsLegal r → r.before ≡ before → r.asks ≡ asks → after ≡ r.after → AreFolds asks before after
AreFolds-legal r asks before after legal same_before same_asks same_after =
    subst (λ (ws : List ℕ). AreFolds asks ws after) same_before (subst (λ (asked : List (List Ask)). AreFolds asked r.before after) same_asks (subst (AreFolds r.asks r.before) (sym same_after) record { count = legal.lasts; words = legal-last r legal }))

-- a Free round is not kept
pub not_kept : (rounds : List Round) (r : Round) → r.tag ≡ Free → kept_with rounds r ≡ rounds
not_kept rounds r free = ap (λ tag. kept_as tag rounds r) free
