-- What a scripted round has.
use Rattle.std.proofs.Common.{◌≡◌, ℕ, List, length, map, refl, ap, arith, ◌∙◌}
use Rattle.plain_lists.specs.Lists.{below}
use Rattle.sf_defs.specs.declared.Tag.{Tag}
use Rattle.sf_defs.specs.declared.Tag.TheVariants.{Free}
use Rattle.sf_defs.specs.declared.Ask.{Ask}
use Rattle.sf_defs.specs.Rounds.{MeetsConditions, printed_turns}
use Rattle.sf_defs.specs.Script.{scripted, walk, queues, fetching, fetched_by_rank, words_after_all}
use Rattle.round_laws.proofs.Scripts.{scripted-legal}
use Rattle.sf_fabric.specs.orders.Places.{AreAsked}

-- the round of these parts
pub scripted-of : (tag : Tag) (words : List ℕ) (asks : List (List Ask)) (picks : List ℕ) (got : List (List ℕ)) (after : List ℕ)
    → got ≡ fetched_by_rank (length asks) (fetching words (walk picks (queues asks))) → after ≡ words_after_all words (walk picks (queues asks))
    → record { tag = tag; before = words; asks = asks; got = got; after = after; order = map (printed_turns words asks got) (below (length words)) } ≡ scripted tag words asks picks
unfolding scripted
scripted-of tag words asks picks got after g a = (λ i. record { tag = tag; before = words; asks = asks; got = g i; after = a i; order = map (printed_turns words asks (g i)) (below (length words)) })

-- its asks have fetched values, so that they have printed orders
pub scripted-asked : (words : List ℕ) (asks : List (List Ask)) (picks : List ℕ) (got : List (List ℕ)) → MeetsConditions words asks → got ≡ fetched_by_rank (length asks) (fetching words (walk picks (queues asks))) → AreAsked words asks got
unfolding scripted
scripted-asked words asks picks got meets g =
    let few = meets.few_ranks in
    record {
      few_words = meets.few_words;
      few_ranks = omega arith;
      few_asks = meets.few_asks;
      in_range = meets.in_range;
      fetched = ap (map length) g ∙ (scripted-legal Free words asks picks meets).fetched;
    }

pub scripted-tag : (tag : Tag) (words : List ℕ) (asks : List (List Ask)) (picks : List ℕ) → (scripted tag words asks picks).tag ≡ tag
unfolding scripted
scripted-tag tag words asks picks = refl

pub scripted-before : (tag : Tag) (words : List ℕ) (asks : List (List Ask)) (picks : List ℕ) → (scripted tag words asks picks).before ≡ words
unfolding scripted
scripted-before tag words asks picks = refl

pub scripted-asks : (tag : Tag) (words : List ℕ) (asks : List (List Ask)) (picks : List ℕ) → (scripted tag words asks picks).asks ≡ asks
unfolding scripted
scripted-asks tag words asks picks = refl
