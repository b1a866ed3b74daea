-- Flags that are set for parts, one part after the other.
use Rattle.std.proofs.Common.{◌≡◌, ◌≢◌, ℕ, ◌<◌, Bool, true, false, cond, ◌&&◌, ◌||◌, ◌==◌, List, [], ◌∷◌, ◌++◌, length, get_or, set, refl, sym, ap, ◌∙◌, arith, get_or-set_other, get_or-set_same}
use Rattle.std.specs.Prelude.{nat_lt, position, Some, None}
use Rattle.std.specs.List.{AllByRecursion, list_any, position_or_len}
use Rattle.std.proofs.lemmas.Bool.{eqb-true, ne_eqb, eqb-false, cond-true, lt-ltb}
use Rattle.std.proofs.lemmas.List.Folds.{list_any-append}
use Rattle.plain_lists.specs.Lists.{same_set}
use Rattle.plain_lists.proofs.Each.{all_weaker}
use Rattle.plain_lists.proofs.Finding.{each_fails, none_passes, position-none, position-within}
use Rattle.input_defs.specs.Content.{Element}
use Rattle.input_defs.specs.Meshes.{dim}
use Rattle.input_laws.specs.place_laws.Places.{stands_on}
use Rattle.mesh_check.specs.element_points.Parts.{Part, leads_to}
use Rattle.mesh_check.specs.element_points.Flags.{AreSet, has_dim}

or-false : (a : Bool) → (a || false) ≡ a
or-false true = refl
or-false false = refl

or-true : (a : Bool) → (a || true) ≡ true
or-true true = refl
or-true false = refl

or-assoc : (a b c : Bool) → ((a || b) || c) ≡ (a || (b || c))
or-assoc true b c = refl
or-assoc false b c = refl

-- no part sets none
pub set-none : (es : List Element) (flags : List Bool) → AreSet es [] flags flags
set-none es flags k low = sym (or-false (get_or flags k false))

-- some parts and then others
pub set-append : (es : List Element) (ps qs : List Part) (a b c : List Bool) → AreSet es ps a b → AreSet es qs b c → AreSet es (ps ++ qs) a c
set-append es ps qs a b c first second k low =
    second k low ∙ ap (λ t. t || list_any (leads_to es k) qs) (first k low) ∙ or-assoc (get_or a k false) (list_any (leads_to es k) ps) (list_any (leads_to es k) qs) ∙ ap (λ t. get_or a k false || t) (sym (list_any-append (leads_to es k) ps qs))

-- the part of the first element that stands on it
pub set-one : (es : List Element) (p : Part) (flags : List Bool) (first : ℕ) → length flags ≡ length es → position_or_len (stands_on p.dim p.nodes) es ≡ first → AreSet es (p ∷ []) flags (set flags first true)
set-one es p flags first count at k low = go (first == k) refl
  where
    go : (b : Bool) → (first == k) ≡ b → get_or (set flags first true) k false ≡ (get_or flags k false || (leads_to es k p || false))
    go true e =
        let same : first ≡ k = eqb-true first k e in
        let within : first < length flags = omega arith in
        ap (λ j. get_or (set flags first true) j false) (sym same) ∙ get_or-set_same flags first true false within ∙ sym (ap (λ t. get_or flags k false || (t || false)) (ap (λ n. n == k) at ∙ e) ∙ or-true (get_or flags k false))
    go false e =
        let other : k ≢ first = λ (h : k ≡ first). eqb-false first k e (sym h) in
        get_or-set_other flags first k true false other ∙ sym (ap (λ t. get_or flags k false || (t || false)) (ap (λ n. n == k) at ∙ e) ∙ or-false (get_or flags k false))

-- a part on which no element stands
pub set-nowhere : (es : List Element) (p : Part) (flags : List Bool) → list_any (stands_on p.dim p.nodes) es ≡ false → AreSet es (p ∷ []) flags flags
set-nowhere es p flags none k low =
    let past : position_or_len (stands_on p.dim p.nodes) es ≡ length es = position-none (stands_on p.dim p.nodes) es none in
    sym (ap (λ t. get_or flags k false || (t || false)) (ne_eqb (position_or_len (stands_on p.dim p.nodes) es) k (λ h. omega arith)) ∙ or-false (get_or flags k false))

-- what a search for the part answers
pub set-found : (es : List Element) (p : Part) (flags : List Bool) (first : ℕ) → length flags ≡ length es → position (stands_on p.dim p.nodes) es ≡ Some first → AreSet es (p ∷ []) flags (set flags first true)
set-found es p flags first count h = set-one es p flags first count (go (nat_lt (position_or_len (stands_on p.dim p.nodes) es) (length es)) h)
  where
    go : (b : Bool) → cond b (Some (position_or_len (stands_on p.dim p.nodes) es)) None ≡ Some first → position_or_len (stands_on p.dim p.nodes) es ≡ first
    go true e = cc e
    go false e = absurd (cc e)

pub set-missing : (es : List Element) (p : Part) (flags : List Bool) → position (stands_on p.dim p.nodes) es ≡ None → AreSet es (p ∷ []) flags flags
set-missing es p flags h = set-nowhere es p flags (go (list_any (stands_on p.dim p.nodes) es) refl)
  where
    go : (b : Bool) → list_any (stands_on p.dim p.nodes) es ≡ b → b ≡ false
    go false e = refl
    go true e = absurd (cc (sym h ∙ cond-true (nat_lt (position_or_len (stands_on p.dim p.nodes) es) (length es)) (Some (position_or_len (stands_on p.dim p.nodes) es)) None (lt-ltb (position_or_len (stands_on p.dim p.nodes) es) (length es) (position-within (stands_on p.dim p.nodes) es e))))

-- parts of a dimension that no element has
pub set-absent : (es : List Element) (ps : List Part) (d : ℕ) (flags : List Bool) → has_dim es d ≡ false → AllByRecursion (λ (p : Part). p.dim ≡ d) ps → AreSet es ps flags flags
set-absent es [] d flags none all = set-none es flags
set-absent es (p ∷ ps) d flags none all = set-append es (p ∷ []) ps flags flags flags (set-nowhere es p flags nowhere) (set-absent es ps d flags none all.1)
  where
    other : (e : Element) → (dim e == d) ≡ false → stands_on p.dim p.nodes e ≡ false
    other e h = ap (λ t. t && same_set p.nodes e.nodes) (ne_eqb p.dim (dim e) (λ same. eqb-false (dim e) d h (sym same ∙ all.0)))

    nowhere : list_any (stands_on p.dim p.nodes) es ≡ false
    nowhere = none_passes (stands_on p.dim p.nodes) es (all_weaker (λ (e : Element). (dim e == d) ≡ false) (λ e. stands_on p.dim p.nodes e ≡ false) other es (each_fails (λ (e : Element). dim e == d) es none))
