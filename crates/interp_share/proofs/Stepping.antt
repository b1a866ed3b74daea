-- One step of a walk over what ranks have, rank by rank.
use Rattle.std.proofs.Common.{◌≡◌, ℕ, ◌+◌, ◌<◌, ◌≤◌, List, [], ◌∷◌, length, get_or, set, drop, Vec, Global, sym, ap, ◌∙◌, arith}
use Rattle.std.proofs.lemmas.List.{length-drop, drop_more, drop-drop, drop-set-lt, get_or-drop}
use Rattle.plain_lists.specs.Vectors.{lists_of}
use Rattle.mesh_defs.specs.Mesh.{Mesh}
use Rattle.plex_defs.specs.Fields.{fields}
use Rattle.rank_defs.specs.Ranks.{assigned}
use Rattle.rank_defs.specs.Spread.{PlainScatter, IsScatter, own_chart}
use Rattle.rank_chart_laws.proofs.meeting_laws.Loops.{list_is, lists_count}
use Rattle.interp_share.proofs.rank_points.Own.{parts-count}
use Rattle.interp_share.specs.Known.{AreFields, AreAllFields}

-- the next of what is left is the next of the whole
pub next-low : {X : Type 0} (xs left rest : List X) (k : ℕ) (x : X) → left ≡ drop k xs → left ≡ x ∷ rest → k < length xs
next-low xs left rest k x are next = omega (arith, ap length (sym are ∙ next), length-drop k xs)

pub next-is : {X : Type 0} (xs left rest : List X) (k : ℕ) (x : X) → left ≡ drop k xs → left ≡ x ∷ rest → (x ≡ get_or xs k x) × (rest ≡ drop (k + 1) xs)
next-is xs left rest k x are next =
    let both : x ∷ rest ≡ get_or xs k x ∷ drop (k + 1) xs = sym next ∙ are ∙ drop_more xs k x (next-low xs left rest k x are next) in
    (cc both, cc both)

-- nothing is left behind the last one
pub none-left : {X : Type 0} (xs left : List X) (k : ℕ) → left ≡ drop k xs → left ≡ [] → length xs ≤ k
none-left xs left k are none = omega (arith, ap length (sym are ∙ none), length-drop k xs)

-- an entry that is not taken yet
pub still-there : {X : Type 0} (now old : List X) (k : ℕ) (d : X) → drop k now ≡ drop k old → get_or now k d ≡ get_or old k d
still-there now old k d same =
    let place : k + 0 ≡ k = omega arith in
    ap (λ i. get_or now i d) (sym place) ∙ sym (get_or-drop k now 0 d) ∙ ap (λ l. get_or l 0 d) same ∙ get_or-drop k old 0 d ∙ ap (λ i. get_or old i d) place

-- after it was taken
pub left-behind : {X : Type 0} (now old : List X) (k : ℕ) (x : X) → drop k now ≡ drop k old → drop (k + 1) (set now k x) ≡ drop (k + 1) old
left-behind now old k x same = drop-set-lt (k + 1) now k x (omega arith) ∙ sym (drop-drop 1 k now) ∙ ap (drop 1) same ∙ drop-drop 1 k old

module _ (s : PlainScatter) (words : List (Vec (List (List ℕ)) Global)) (are : AreAllFields s (lists_of words)) where
  -- as many lists of fields as ranks
  pub words-many : (m : Mesh) (dofs : List (List ℕ)) (a : List ℕ) (n : ℕ) → IsScatter s m dofs a n → length words ≡ length s.parts
  words-many m dofs a n is = lists_count words (λ r. fields m dofs (own_chart m (assigned m a r))) n (are.are m dofs a n is) ∙ sym (parts-count s m dofs a n is)

  -- those of one rank
  pub words-there : (r : ℕ) (own d : Vec (List (List ℕ)) Global) → r < length s.parts → own ≡ get_or words r d → AreFields s r own.items
  words-there r own d low there = record {
    are = λ m dofs a n is.
        ap (λ (v : Vec (List (List ℕ)) Global). v.items) there
        ∙ list_is words (λ q. fields m dofs (own_chart m (assigned m a q))) n (are.are m dofs a n is) r d (let count = parts-count s m dofs a n is in omega arith);
  }
