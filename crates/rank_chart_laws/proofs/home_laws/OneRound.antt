-- The home round is one fetch-and-op on the forest of its words.
use Rattle.std.proofs.Common.{◌≡◌, ℕ, ◌+◌, ◌<◌, Bool, true, false, cond, ◌==◌, List, [], map, get_or, Option, Some, None, refl, sym, ap, ◌∙◌, subst}
use Rattle.std.specs.Prelude.{filter_map, option_map, unwrap_or}
use Rattle.std.specs.List.{list_any, AllByRecursion, enumerate_from}
use Rattle.plain_lists.specs.Lists.{below}
use Rattle.plain_lists.proofs.Below.{below-all}
use Rattle.plain_lists.proofs.Each.{all_weaker, all_mapped, all_enumerated, all_from}
use Rattle.plain_lists.proofs.Finding.{stands}
use Rattle.plain_lists.proofs.Filters.{map_map_same, flat_map_same}
use Rattle.mesh_defs.specs.Mesh.{Mesh}
use Rattle.mesh_defs.specs.Points.{Point, same_point}
use Rattle.mesh_laws.proofs.Firsts.{same_point-self}
use Rattle.sf_defs.specs.declared.Op.TheVariants.{Min}
use Rattle.sf_defs.specs.declared.Tag.TheVariants.{Home}
use Rattle.sf_defs.specs.declared.Ask.{Ask}
use Rattle.sf_defs.specs.declared.Leaf.{Leaf}
use Rattle.sf_defs.specs.Rounds.{Round, IsLegal}
use Rattle.sf_defs.specs.Forest.{leaf}
use Rattle.sf_ops.specs.Asked.{first_word, ask_of, own_asks, asks_of, words_of}
use Rattle.rank_defs.specs.Ranks.{owner, own_key}
use Rattle.rank_defs.specs.Home.{home_points, home_words, home_asks, IsHomeRound}
use Rattle.rank_laws.proofs.orient_laws.HomeParts.{home-parts}
use Rattle.rank_chart_laws.specs.home_laws.HomeForest.{home_of, home_counts, home_values, home_roots, home_leaf, home_forest, HaveOwnKeys}
use Rattle.rank_chart_laws.proofs.home_laws.Numbered.{enumerate-below, map-given, given-map, given-same, map-joined, joined-images, numbered-whole}

-- the words are the values of the roots
pub words-are : (m : Mesh) (a : List ℕ) (n : ℕ) → words_of (home_values m a n) ≡ home_words m a (home_points m a n)
unfolding home_values home_words
words-are m a n = joined-images (λ r. home_words m a (home_of m a r)) (below n) ∙ (sym (map-joined word (home_of m a) (below n)) ∙ ap (map word) (sym (home-parts m a n)))
  where
    word : Point → ℕ
    word p = unwrap_or (own_key m a (owner m a p) p) 0

module _ (m : Mesh) (a : List ℕ) (n : ℕ) where
  -- the number of a root among all words
  abbrev pub numbered : (ℕ × ℕ) × Point → ℕ × Point
  numbered w = (first_word (home_counts m a n) w.0.0 + w.0.1, w.1)

  -- the points of the words, numbered through, are those of the roots
  pub points-numbered : enumerate_from 0 (home_points m a n) ≡ map numbered (home_roots m a n)
  unfolding home_roots home_counts
  points-numbered =
      ap (enumerate_from 0) (home-parts m a n)
      ∙ (numbered-whole (home_of m a) n
      ∙ sym (map-joined numbered (λ r. map (λ (w : ℕ × Point). ((r, w.0), w.1)) (enumerate_from 0 (home_of m a r))) (below n)
      ∙ flat_map_same (λ r. map numbered (map (λ (w : ℕ × Point). ((r, w.0), w.1)) (enumerate_from 0 (home_of m a r)))) (λ r. map (λ (w : ℕ × Point). (first_word (home_counts m a n) r + w.0, w.1)) (enumerate_from 0 (home_of m a r))) (below n)
      (all_from (λ r. map numbered (map (λ (w : ℕ × Point). ((r, w.0), w.1)) (enumerate_from 0 (home_of m a r))) ≡ map (λ (w : ℕ × Point). (first_word (home_counts m a n) r + w.0, w.1)) (enumerate_from 0 (home_of m a r)))
      (λ r. map_map_same numbered (λ (w : ℕ × Point). ((r, w.0), w.1)) (λ (w : ℕ × Point). (first_word (home_counts m a n) r + w.0, w.1)) (enumerate_from 0 (home_of m a r)) (all_from (λ (w : ℕ × Point). numbered ((r, w.0), w.1) ≡ (first_word (home_counts m a n) r + w.0, w.1)) (λ w. refl) (enumerate_from 0 (home_of m a r)))) (below n))))

  -- each root has a point of the words
  roots-have : AllByRecursion (λ (w : (ℕ × ℕ) × Point). list_any (same_point w.1) (home_points m a n) ≡ true) (home_roots m a n)
  roots-have = all_mapped (λ (x : ℕ × Point). list_any (same_point x.1) (home_points m a n) ≡ true) numbered (home_roots m a n)
      (subst (AllByRecursion (λ (x : ℕ × Point). list_any (same_point x.1) (home_points m a n) ≡ true)) points-numbered
      (all_enumerated (λ p. list_any (same_point p) (home_points m a n) ≡ true) 0 (home_points m a n)
      (all_weaker (λ p. (q : Point → Bool) → q p ≡ true → list_any q (home_points m a n) ≡ true) (λ p. list_any (same_point p) (home_points m a n) ≡ true) (λ p f. f (same_point p) (same_point-self p)) (home_points m a n) (stands (home_points m a n)))))

  module _ (local : ℕ → Point → ℕ) (values : List (List ℕ)) (own : HaveOwnKeys m a n local values) where
    -- what the leaves of a rank ask is what the rank asks in the home round
    rank-asks : (r : ℕ) → r < n → own_asks (home_counts m a n) Min (get_or values r []) (filter_map (home_leaf m a local r) (home_roots m a n)) ≡ home_asks m a (home_points m a n) r
    unfolding home_asks
    rank-asks r low =
        map-given (ask_of (home_counts m a n) Min (get_or values r [])) (home_leaf m a local r) (home_roots m a n)
        ∙ (given-same (λ w. option_map (ask_of (home_counts m a n) Min (get_or values r [])) (home_leaf m a local r w)) (λ w. asked (numbered w)) (home_roots m a n) (all_weaker (λ (w : (ℕ × ℕ) × Point). list_any (same_point w.1) (home_points m a n) ≡ true) (λ w. option_map (ask_of (home_counts m a n) Min (get_or values r [])) (home_leaf m a local r w) ≡ asked (numbered w)) each (home_roots m a n) roots-have)
        ∙ (sym (given-map asked numbered (home_roots m a n)) ∙ ap (filter_map asked) (sym points-numbered)))
      where
        asked : ℕ × Point → Option Ask
        asked w = cond (owner m a w.1 == r) None (option_map (λ k. record { word = w.0; op = Min; value = k }) (own_key m a r w.1))

        each : (w : (ℕ × ℕ) × Point) → list_any (same_point w.1) (home_points m a n) ≡ true → option_map (ask_of (home_counts m a n) Min (get_or values r [])) (home_leaf m a local r w) ≡ asked (numbered w)
        each w h = go (owner m a w.1 == r) (own_key m a r w.1) refl
          where
            go : (b : Bool) → (o : Option ℕ) → own_key m a r w.1 ≡ o → option_map (ask_of (home_counts m a n) Min (get_or values r [])) (cond b None (option_map (λ (k : ℕ). leaf (local r w.1) w.0) o)) ≡ cond b None (option_map (λ k. record { word = first_word (home_counts m a n) w.0.0 + w.0.1; op = Min; value = k }) o)
            go true o e = refl
            go false None e = refl
            go false (Some k) e = ap (λ v. Some (record { word = first_word (home_counts m a n) w.0.0 + w.0.1; op = Min; value = v })) (own r low w.1 h k e)

    -- so do all ranks
    pub asks-are : asks_of (home_forest m a n local) Min values ≡ map (home_asks m a (home_points m a n)) (below n)
    unfolding asks_of home_forest
    asks-are =
        ap (map (λ (x : ℕ × List Leaf). own_asks (home_counts m a n) Min (get_or values x.0 []) x.1)) (enumerate-below (λ r. filter_map (home_leaf m a local r) (home_roots m a n)) n)
        ∙ map_map_same (λ (x : ℕ × List Leaf). own_asks (home_counts m a n) Min (get_or values x.0 []) x.1) (λ r. (r, filter_map (home_leaf m a local r) (home_roots m a n))) (home_asks m a (home_points m a n)) (below n)
        (all_weaker (λ r. r < n) (λ r. own_asks (home_counts m a n) Min (get_or values r []) (filter_map (home_leaf m a local r) (home_roots m a n)) ≡ home_asks m a (home_points m a n) r) rank-asks (below n) (below-all n))

    -- a legal round of the forest is the home round
    pub one-round : (r : Round) → r.tag ≡ Home → r.before ≡ words_of (home_values m a n) → r.asks ≡ asks_of (home_forest m a n local) Min values → IsLegal r → IsHomeRound m a n r
    one-round r tag before asks legal = record { tag = tag; words = before ∙ words-are m a n; asks = asks ∙ asks-are; legal = legal }
