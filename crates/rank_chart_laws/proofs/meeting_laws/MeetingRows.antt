-- Worked rows: three ranks meet, of which the first has a triangle, the second the two triangles at two of its sides and the third
-- nothing.
use Rattle.std.proofs.Common.{◌≡◌, ℕ, zero, suc, ◌<◌, false, ◌||◌, ◌==◌, List, [], ◌∷◌, map, None, refl, sym, ap, arith}
use Rattle.std.specs.Prelude.{option_map}
use Rattle.std.specs.List.{list_any}
use Rattle.std.proofs.lemmas.Bool.{ne_eqb}
use Rattle.plain_lists.proofs.Finding.{find-none}
use Rattle.sf_defs.specs.declared.Leaf.{Leaf}
use Rattle.sf_defs.specs.Forest.{Forest, leaf, leaves_on, degree, root_at, root_of}
use Rattle.sf_defs.specs.meeting.Meeting.{ids_meeting, id_at, met_on, met_id, AreMet}
use Rattle.rank_laws.specs.share_laws.Packed.{no_vertex, packed}
use Rattle.rank_chart_laws.specs.meeting_laws.Sets.{RankChart, no_chart, forest_of_sets, AreRankCharts}
use Rattle.rank_chart_laws.specs.meeting_laws.Steps.{vertex_forest, is_copied, may_share, candidates, meeting_place, meeting_forest, all_keys, all_ids, joined_forest}
use Rattle.rank_chart_laws.proofs.meeting_laws.RightCharts.{right-charts}

-- ---- the charts

abbrev pair : ℕ → ℕ → List ℕ
pair a b = a ∷ b ∷ no_vertex ∷ no_vertex ∷ []

-- the triangles have the vertices 0, 1 and 2; 0, 2 and 3; 2, 1 and 4
abbrev fan : List RankChart
fan =
    record { cells = 1; vertices = 0 ∷ 1 ∷ 2 ∷ []; owners = 0 ∷ 0 ∷ 0 ∷ []; sets = pair 0 1 ∷ pair 1 2 ∷ pair 0 2 ∷ [] }
    ∷ record { cells = 2; vertices = 0 ∷ 1 ∷ 2 ∷ 3 ∷ 4 ∷ []; owners = 0 ∷ 0 ∷ 0 ∷ 1 ∷ 1 ∷ []; sets = pair 0 2 ∷ pair 2 3 ∷ pair 0 3 ∷ pair 1 2 ∷ pair 1 4 ∷ pair 2 4 ∷ [] }
    ∷ no_chart ∷ []

fan_is_right : AreRankCharts fan
fan_is_right = right-charts fan refl

-- ---- what they share

-- The second rank has the first one's vertices at its places 2, 3 and 4, and two edges of it at 7 and 10. The edge between the
-- vertices 0 and 1 has no leaf, although the second rank has both ends.
abbrev shared : Forest
shared = record { roots = 7 ∷ 13 ∷ 0 ∷ []; leaves = [] ∷ (leaf 2 (0, 1) ∷ leaf 3 (0, 2) ∷ leaf 4 (0, 3) ∷ leaf 7 (0, 6) ∷ leaf 10 (0, 5) ∷ []) ∷ [] ∷ [] }

by_sets : forest_of_sets fan ≡ shared
unfolding forest_of_sets
by_sets = refl

-- ---- what meets

vertices_of_fan : vertex_forest fan ≡ record { roots = 3 ∷ 5 ∷ 0 ∷ []; leaves = [] ∷ (leaf 0 (0, 0) ∷ leaf 1 (0, 1) ∷ leaf 2 (0, 2) ∷ []) ∷ [] ∷ [] }
unfolding vertex_forest
vertices_of_fan = refl

-- all vertices of the first rank have copies, and so all its edges meet; of the second one's two do
candidates_of_fan : map (candidates fan) (0 ∷ 1 ∷ 2 ∷ []) ≡ (0 ∷ 1 ∷ 2 ∷ []) ∷ (0 ∷ 3 ∷ []) ∷ [] ∷ []
unfolding degree vertex_forest is_copied may_share
candidates_of_fan = refl

-- each at its least vertex, on the first rank
abbrev meeting : Forest
meeting = record { roots = 3 ∷ 5 ∷ 0 ∷ []; leaves = (leaf 0 (0, 0) ∷ leaf 1 (0, 1) ∷ leaf 2 (0, 0) ∷ []) ∷ (leaf 0 (0, 0) ∷ leaf 1 (0, 1) ∷ []) ∷ [] ∷ [] }

abbrev keys : List (List (List ℕ))
keys = ((1 ∷ 18446744073709551615 ∷ []) ∷ (4294967298 ∷ 18446744073709551615 ∷ []) ∷ (2 ∷ 18446744073709551615 ∷ []) ∷ []) ∷ ((2 ∷ 18446744073709551615 ∷ []) ∷ (4294967298 ∷ 18446744073709551615 ∷ []) ∷ []) ∷ [] ∷ []

-- places 4, 5 and 6 of the first rank, and 7 and 10 of the second
abbrev ids : List (List ℕ)
ids = (4 ∷ 5 ∷ 6 ∷ []) ∷ (4294967303 ∷ 4294967306 ∷ []) ∷ [] ∷ []

meeting_of_fan : meeting_forest fan ≡ meeting
unfolding degree vertex_forest is_copied may_share meeting_place meeting_forest
meeting_of_fan = refl

keys_of_fan : all_keys fan ≡ keys
unfolding degree vertex_forest is_copied may_share packed all_keys
keys_of_fan = refl

ids_of_fan : all_ids fan ≡ ids
unfolding degree vertex_forest is_copied may_share all_ids
ids_of_fan = refl

-- ---- after they met

-- the edges of the second rank met those of the first one at its places 6 and 5
abbrev met : List (List ℕ)
met = (4 ∷ 5 ∷ 6 ∷ []) ∷ (6 ∷ 5 ∷ []) ∷ [] ∷ []

-- past the leaves of a rank there is no root, and what stands there stays
no_root : (rank local : ℕ) → list_any (λ (l : Leaf). l.local == local) (leaves_on meeting rank) ≡ false → root_of meeting rank local ≡ None
unfolding root_of
no_root rank local none = ap (option_map root_at) (find-none (λ (l : Leaf). l.local == local) (leaves_on meeting rank) none)

stays : (rank local : ℕ) → list_any (λ (l : Leaf). l.local == local) (leaves_on meeting rank) ≡ false → id_at ids rank local ≡ met_id meeting keys ids rank local
stays rank local none = sym (ap (met_on meeting keys ids rank local) (no_root rank local none))

other : (k local : ℕ) → k < local → (k == local) ≡ false
other k local low = ne_eqb k local (λ e. absurd (omega (arith, low, e)))

each_met : (rank local : ℕ) → id_at met rank local ≡ met_id meeting keys ids rank local
unfolding root_of ids_meeting
each_met zero zero = refl
each_met zero (suc zero) = refl
each_met zero (suc (suc zero)) = refl
each_met zero (suc (suc (suc k))) = let local = suc (suc (suc k)) in stays 0 local (λ i. other 0 local (omega arith) i || (other 1 local (omega arith) i || (other 2 local (omega arith) i || false)))
each_met (suc zero) zero = refl
each_met (suc zero) (suc zero) = refl
each_met (suc zero) (suc (suc k)) = let local = suc (suc k) in stays 1 local (λ i. other 0 local (omega arith) i || (other 1 local (omega arith) i || false))
each_met (suc (suc zero)) local = refl
each_met (suc (suc (suc rank))) local = refl

fan_has_met : AreMet meeting keys ids met
fan_has_met = record { shape = refl; each = each_met }

-- joined from what they met, the forest is that of the sets
joined_of_fan : joined_forest fan met ≡ shared
unfolding degree vertex_forest is_copied may_share joined_forest
joined_of_fan = refl
