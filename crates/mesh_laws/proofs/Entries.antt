-- Edges among edges: when they are the same, and their entries.
use Rattle.std.proofs.Common.{◌≡◌, ◌≢◌, ◌⊎◌, ℕ, ◌+◌, min, max, Bool, true, false, cond, not, ◌&&◌, ◌==◌, nat_le, List, [], ◌∷◌, ◌++◌, map, length, pos, negsuc, ℤ, Option, Some, None, refl, sym, ap, ap₂, ◌∙◌, subst, subst₂, inl, inr, ⊎_elim, arith}
use Rattle.std.specs.Prelude.{find, option_and_then, unwrap_or, slice_index, if◌then◌else◌}
use Rattle.std.specs.List.{list_any, position_or_len, AllByRecursion}
use Rattle.std.proofs.lemmas.Bool.{cond-true, eq-eqb, ne_eqb, eqb-true, cases_eq, and_parts}
use Rattle.std.proofs.lemmas.List.{map-append}
use Rattle.mesh_defs.specs.Tables.{dim_of}
use Rattle.mesh_defs.specs.declared.Poly.TheVariants.{Segment}
use Rattle.plain_lists.specs.Lists.{same_list, sorted}
use Rattle.plain_lists.proofs.Finding.{any_agree, position_agree, any_map, position_map, find-append_found, find-append_none, position-append_found, position-append_none, position-within, find-passes}
use Rattle.plain_lists.proofs.Each.{all_weaker}
use Rattle.plain_lists.proofs.Sorted.{same_list-turn}
use Rattle.mesh_defs.specs.Orientation.{relative}
use Rattle.mesh_defs.specs.Points.{Sight, point_of, shows}
use Rattle.mesh_defs.specs.Diagram.{firsts}
use Rattle.mesh_defs.specs.Sights.{IsEdgeEntry, IsEdgeSight, edge_sight, entry_among, edge_key}
use Rattle.mesh_laws.proofs.Firsts.{firsts-push, firsts-all, shows-own, list_any-firsts, firsts-prefix}
use Rattle.mesh_laws.proofs.Turns.{sorted-two, sorted-min_max, relative-segment_same, relative-segment_turned, relative-segment_cases}

-- ---- the same edge

-- edges show each other's points where they have the same ends
pub shows-edge : (k l a b c d : ℕ) → shows (point_of (edge_sight k a b)) (edge_sight l c d) ≡ same_list (if nat_le a b then a ∷ b ∷ [] else b ∷ a ∷ []) (if nat_le c d then c ∷ d ∷ [] else d ∷ c ∷ [])
shows-edge k l a b c d = ap₂ (λ x y. same_list x y) (sorted-two a b) (sorted-two c d)

-- the same by the smaller and the larger end
pub shows-edge_ends : (k l a b c d : ℕ) → shows (point_of (edge_sight k a b)) (edge_sight l c d) ≡ ((min a b == min c d) && (max a b == max c d))
shows-edge_ends k l a b c d = ap₂ (λ x y. same_list x y) (sorted-min_max a b) (sorted-min_max c d) ∙ last (min a b == min c d) (max a b == max c d)
  where
    last : (x y : Bool) → (x && (y && true)) ≡ (x && y)
    last true true = refl
    last true false = refl
    last false y = refl

-- the same edge has the same ends, in one order or the other
ends-of_same : (a b c d : ℕ) → min a b ≡ min c d → max a b ≡ max c d → ((a ≡ c) × (b ≡ d)) ⊎ ((a ≡ d) × (b ≡ c))
ends-of_same a b c d low high = ⊎_elim (λ (e : a ≡ c). inl (e, omega arith)) (λ (ne : a ≡ c → ⊥). inr (omega arith, omega arith)) (cases_eq a c)

-- the orientation of an edge that another sight shows, by the first ends
pub relative-edge : (a b c d : ℕ) → a ≢ b → same_list (sorted (c ∷ d ∷ [])) (sorted (a ∷ b ∷ [])) ≡ true → relative Segment (a ∷ b ∷ []) (c ∷ d ∷ []) ≡ Some (if a == c then pos 0 else negsuc 0)
relative-edge a b c d ne same = ⊎_elim as-it-is turned-over (ends-of_same a b c d (eqb-true (min a b) (min c d) ends.0) (eqb-true (max a b) (max c d) ends.1))
  where
    ends : ((min a b == min c d) ≡ true) × ((max a b == max c d) ≡ true)
    ends = and_parts (min a b == min c d) (max a b == max c d) (sym (shows-edge_ends 0 0 a b c d) ∙ same_list-turn (sorted (c ∷ d ∷ [])) (sorted (a ∷ b ∷ [])) same)

    as-it-is : (a ≡ c) × (b ≡ d) → relative Segment (a ∷ b ∷ []) (c ∷ d ∷ []) ≡ Some (if a == c then pos 0 else negsuc 0)
    as-it-is h =
        subst₂ (λ x y. relative Segment (a ∷ b ∷ []) (x ∷ y ∷ []) ≡ Some (pos 0)) h.0 h.1 (relative-segment_same a b ne)
        ∙ sym (ap (λ t. Some (cond t (pos 0) (negsuc 0))) (eq-eqb a c h.0))

    turned-over : (a ≡ d) × (b ≡ c) → relative Segment (a ∷ b ∷ []) (c ∷ d ∷ []) ≡ Some (if a == c then pos 0 else negsuc 0)
    turned-over h =
        subst₂ (λ x y. relative Segment (a ∷ b ∷ []) (x ∷ y ∷ []) ≡ Some (negsuc 0)) h.1 h.0 (relative-segment_turned a b)
        ∙ sym (ap (λ t. Some (cond t (pos 0) (negsuc 0))) (ne_eqb a c (λ e. ne (e ∙ sym h.1))))

-- ---- edges by their keys

-- edges are the same where their keys are
pub shows-key : (s t : Sight) → s.poly ≡ Segment → t.poly ≡ Segment → shows (point_of s) t ≡ same_list (edge_key s) (edge_key t)
shows-key s t e f = ap₂ (λ p q. (dim_of p == dim_of q) && same_list (edge_key s) (edge_key t)) e f

-- an edge is shown where its key is among the keys
pub any-keys : (s : Sight) (edges : List Sight) → s.poly ≡ Segment → AllByRecursion (λ (t : Sight). t.poly ≡ Segment) edges → list_any (shows (point_of s)) edges ≡ list_any (same_list (edge_key s)) (map edge_key edges)
any-keys s edges e h =
    any_agree (shows (point_of s)) (λ t. same_list (edge_key s) (edge_key t)) edges (all_weaker (λ (t : Sight). t.poly ≡ Segment) (λ t. shows (point_of s) t ≡ same_list (edge_key s) (edge_key t)) (λ t f. shows-key s t e f) edges h)
    ∙ sym (any_map (same_list (edge_key s)) edge_key edges)

-- an edge stands where its key does
pub position-keys : (s : Sight) (edges : List Sight) → s.poly ≡ Segment → AllByRecursion (λ (t : Sight). t.poly ≡ Segment) edges → position_or_len (shows (point_of s)) edges ≡ position_or_len (same_list (edge_key s)) (map edge_key edges)
position-keys s edges e h =
    position_agree (shows (point_of s)) (λ t. same_list (edge_key s) (edge_key t)) edges (all_weaker (λ (t : Sight). t.poly ≡ Segment) (λ t. shows (point_of s) t ≡ same_list (edge_key s) (edge_key t)) (λ t f. shows-key s t e f) edges h)
    ∙ sym (position_map (same_list (edge_key s)) edge_key edges)

-- the keys of first sights grow as a set does that keeps the order of insertion
pub keys-push : (ss : List Sight) (s : Sight) → s.poly ≡ Segment → AllByRecursion (λ (t : Sight). t.poly ≡ Segment) ss → map edge_key (firsts (ss ++ s ∷ [])) ≡ (if list_any (same_list (edge_key s)) (map edge_key (firsts ss)) then map edge_key (firsts ss) else map edge_key (firsts ss) ++ edge_key s ∷ [])
keys-push ss s e h =
    ap (map edge_key) (firsts-push ss s ∙ ap (λ b. cond b (firsts ss) (firsts ss ++ s ∷ [])) (any-keys s (firsts ss) e (firsts-all (λ (t : Sight). t.poly ≡ Segment) ss h)))
    ∙ either (list_any (same_list (edge_key s)) (map edge_key (firsts ss)))
  where
    either : (b : Bool) → map edge_key (cond b (firsts ss) (firsts ss ++ s ∷ [])) ≡ cond b (map edge_key (firsts ss)) (map edge_key (firsts ss) ++ edge_key s ∷ [])
    either true = refl
    either false = map-append edge_key (firsts ss) (s ∷ [])

-- ---- entries

-- an entry among edges has the orientation 0 or -1
pub entry_among-turn : (base : ℕ) (edges : List Sight) (s : Sight) → ((entry_among base edges s).o ≡ pos 0) ⊎ ((entry_among base edges s).o ≡ negsuc 0)
unfolding entry_among
entry_among-turn base edges s = go (find (shows (point_of s)) edges)
  where
    unwrapped : (o : Option ℤ) → (o ≡ Some (negsuc 0)) ⊎ ((o ≡ Some (pos 0)) ⊎ (o ≡ None)) → (unwrap_or o (pos 0) ≡ pos 0) ⊎ (unwrap_or o (pos 0) ≡ negsuc 0)
    unwrapped o (inl e) = inr (ap (λ t. unwrap_or t (pos 0)) e)
    unwrapped o (inr (inl e)) = inl (ap (λ t. unwrap_or t (pos 0)) e)
    unwrapped o (inr (inr e)) = inl (ap (λ t. unwrap_or t (pos 0)) e)

    go : (f : Option Sight) → (unwrap_or (option_and_then (λ (own : Sight). relative Segment own.arrangement s.arrangement) f) (pos 0) ≡ pos 0) ⊎ (unwrap_or (option_and_then (λ (own : Sight). relative Segment own.arrangement s.arrangement) f) (pos 0) ≡ negsuc 0)
    go None = inl refl
    go (Some own) = unwrapped (relative Segment own.arrangement s.arrangement) (relative-segment_cases own.arrangement s.arrangement)

-- where the sight is shown, its entry is one of the edges
pub entry_among-bounds : (base : ℕ) (edges : List Sight) (s : Sight) → list_any (shows (point_of s)) edges ≡ true → IsEdgeEntry base (length edges) (entry_among base edges s)
unfolding entry_among
entry_among-bounds base edges s h =
    let within = position-within (shows (point_of s)) edges h in
    record { low = omega arith; high = omega arith; turn = entry_among-turn base edges s }

-- an entry stays as further edges come
pub entry_among-more : (base : ℕ) (edges more : List Sight) (s : Sight) → list_any (shows (point_of s)) edges ≡ true → entry_among base (edges ++ more) s ≡ entry_among base edges s
unfolding entry_among
entry_among-more base edges more s h = rw (position-append_found (shows (point_of s)) edges more h, find-append_found (shows (point_of s)) edges more h)

-- the entry of a sight stays as further sights come
pub entry_among-settled : (base : ℕ) (seen more : List Sight) (s : Sight) → list_any (shows (point_of s)) seen ≡ true → entry_among base (firsts (seen ++ more)) s ≡ entry_among base (firsts seen) s
entry_among-settled base seen more s h =
    let prefix = firsts-prefix seen more in
    ap (λ edges. entry_among base edges s) prefix.1 ∙ entry_among-more base (firsts seen) prefix.0 s (list_any-firsts (point_of s) seen ∙ h)

-- the entry of a new edge
pub entry_among-new : (base n : ℕ) (edges : List Sight) (s : Sight) → IsEdgeSight n s → list_any (shows (point_of s)) edges ≡ false → entry_among base (edges ++ s ∷ []) s ≡ record { point = base + length edges; o = pos 0 }
unfolding entry_among
entry_among-new base n edges s is none =
    let own : position_or_len (shows (point_of s)) (s ∷ []) ≡ 0 = ap (λ t. cond (not t) (1 + 0) 0) (shows-own s) in
    let place : base + position_or_len (shows (point_of s)) (edges ++ s ∷ []) ≡ base + length edges = omega (arith, position-append_none (shows (point_of s)) edges (s ∷ []) none, own) in
    let first : find (shows (point_of s)) (edges ++ s ∷ []) ≡ Some s = find-append_none (shows (point_of s)) edges (s ∷ []) none ∙ cond-true _ _ _ (shows-own s) in
    let turn : relative Segment s.arrangement s.arrangement ≡ Some (pos 0) = subst (λ l. relative Segment l l ≡ Some (pos 0)) (sym is.ends) (relative-segment_same _ _ is.apart) in
    let o = ap (option_and_then (λ (t : Sight). relative Segment t.arrangement s.arrangement)) first ∙ turn in
    λ i. record { point = place i; o = unwrap_or (o i) (pos 0) }

-- the entry of an edge that stands there
pub entry_among-found : (base n : ℕ) (edges : List Sight) (s own : Sight) → IsEdgeSight n s → IsEdgeSight n own → find (shows (point_of s)) edges ≡ Some own → entry_among base edges s ≡ record { point = base + position_or_len (shows (point_of s)) edges; o = if slice_index own.arrangement 0 == slice_index s.arrangement 0 then pos 0 else negsuc 0 }
unfolding entry_among
entry_among-found base n edges s own is is' found =
    let shown = and_parts _ _ (find-passes (shows (point_of s)) edges own found) in
    let same = subst₂ (λ x y. same_list (sorted x) (sorted y) ≡ true) is.ends is'.ends shown.1 in
    let turn = relative-edge (slice_index own.arrangement 0) (slice_index own.arrangement 1) (slice_index s.arrangement 0) (slice_index s.arrangement 1) is'.apart same in
    let o = ap (option_and_then (λ (t : Sight). relative Segment t.arrangement s.arrangement)) found ∙ ap₂ (relative Segment) is'.ends is.ends ∙ turn in
    λ i. record { point = base + position_or_len (shows (point_of s)) edges; o = unwrap_or (o i) (pos 0) }
