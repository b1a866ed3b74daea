use Rattle.std.proofs.Common.{◌≡◌, ℕ, ◌^◌, ◌<◌, List, map, length, get_or, Vec, Global, ap, sym, subst, ◌∙◌}
use Rattle.std.specs.List.{AllByRecursion}
use Rattle.plain_lists.specs.Vectors.{lists_of}
use Rattle.sf_defs.specs.declared.Op.TheVariants.{Min}
use Rattle.sf_ops.specs.Asked.{asks_of, words_of, CoverLeaves}
use Rattle.rank_chart_laws.proofs.meeting_laws.Loops.{shape_count}
use Rattle.rank_chart_laws.specs.key_laws.Places.{AreInside}
use Rattle.rank_chart_laws.specs.key_laws.Words.{word_keys}
use Rattle.orient_iface.proofs.iface_keys.Rounds.{may-ask, numbers-small, keys-inside, words-shape, leaves-covered}
use Rattle.orient_iface.proofs.iface_keys.Steps.{written-back}
use Rattle.orient_iface.proofs.iface_keys.home.key_round.Goals as goal

pub word_forest-requires-clause-small : goal.word_forest-requires-clause-small
word_forest-requires-clause-small g c = numbers-small c.args.shared.now c.requires.laid_out c.for_ranks.ensures (lists_of c.args.places.now) c.requires.words (lists_of c.args.numbers.now) c.requires.told

pub word_keys-requires : goal.word_keys-requires
word_keys-requires g c = subst (AreInside (lists_of c.args.places.now)) (sym (ap lists_of c.deref.ensures.value ∙ c.in_ok-own.ensures)) (keys-inside c.args.shared.now c.requires.laid_out c.for_ranks.ensures (lists_of c.args.places.now) c.requires.words)

pub fetch_and_op-requires-clause-roots : goal.fetch_and_op-requires-clause-roots
fetch_and_op-requires-clause-roots g c =
    ap (map length) (ap lists_of c.deref_mut.ensures.value ∙ c.in_ok-least.ensures.words)
    ∙ (words-shape c.args.shared.now c.requires.laid_out c.for_ranks.ensures (lists_of c.args.places.now) c.requires.words _ ∙ sym c.in_ok-forest.ensures.roots)

pub fetch_and_op-requires-clause-leaves : goal.fetch_and_op-requires-clause-leaves
fetch_and_op-requires-clause-leaves g c = subst (CoverLeaves c.in_ok-forest.forest) (sym (ap lists_of c.deref-2.ensures.value ∙ c.in_ok-own.ensures)) (leaves-covered c.args.shared.now c.requires.laid_out c.for_ranks.ensures (lists_of c.args.places.now) c.requires.words (lists_of c.args.numbers.now) c.in_ok-forest.forest c.in_ok-forest.ensures)

pub fetch_and_op-requires-clause-asks : goal.fetch_and_op-requires-clause-asks
fetch_and_op-requires-clause-asks g c = may-ask c.in_ok-forest.forest (lists_of c.deref-2.result.now) (lists_of c.deref_mut.result.now) (subst (AllByRecursion (λ own. (k : ℕ) → get_or own k 0 < 2 ^ 64)) (sym (ap lists_of c.deref_mut.ensures.value)) c.in_ok-least.ensures.low)

pub returns-clause-round : goal.returns-clause-round
returns-clause-round g c = record {
  forest = c.in_ok-forest.forest;
  of_words = c.in_ok-forest.ensures;
  tag = c.in_ok-round.ensures.tag;
  before = c.in_ok-round.ensures.before ∙ ap words_of (ap lists_of c.deref_mut.ensures.value ∙ (c.in_ok-least.ensures.words ∙ ap (word_keys (lists_of c.args.places.now)) (ap lists_of c.deref.ensures.value ∙ c.in_ok-own.ensures)));
  asks = c.in_ok-round.ensures.asks ∙ ap (asks_of c.in_ok-forest.forest Min) (ap lists_of c.deref-2.ensures.value ∙ c.in_ok-own.ensures);
  legal = c.in_ok-round.ensures.legal;
}

pub returns-clause-shape : goal.returns-clause-shape
returns-clause-shape g c =
    let old : List (Vec ℕ Global) = c.in_ok-least.least.items in
    let now : List (Vec ℕ Global) = c.fetch_and_op.new.roots in
    let same : map length (lists_of now) ≡ map length (lists_of c.args.places.now) = c.in_ok-round.ensures.shape ∙ c.in_ok-forest.ensures.roots in
    let own : map length (lists_of old) ≡ map length (lists_of c.args.places.now) = ap (map length) c.in_ok-least.ensures.words ∙ words-shape c.args.shared.now c.requires.laid_out c.for_ranks.ensures (lists_of c.args.places.now) c.requires.words _ in
    let back = written-back now old c.in_ok-least.least.len (shape_count now old (same ∙ sym own)) (sym (ap length c.deref_mut.ensures.value) ∙ c.deref_mut.ensures.len) in
    ap (λ vs. map length (lists_of vs)) back ∙ same

pub returns-clause-least : goal.returns-clause-least
returns-clause-least g c =
    let old : List (Vec ℕ Global) = c.in_ok-least.least.items in
    let now : List (Vec ℕ Global) = c.fetch_and_op.new.roots in
    let same : map length (lists_of now) ≡ map length (lists_of c.args.places.now) = c.in_ok-round.ensures.shape ∙ c.in_ok-forest.ensures.roots in
    let own : map length (lists_of old) ≡ map length (lists_of c.args.places.now) = ap (map length) c.in_ok-least.ensures.words ∙ words-shape c.args.shared.now c.requires.laid_out c.for_ranks.ensures (lists_of c.args.places.now) c.requires.words _ in
    let back = written-back now old c.in_ok-least.least.len (shape_count now old (same ∙ sym own)) (sym (ap length c.deref_mut.ensures.value) ∙ c.deref_mut.ensures.len) in
    ap (λ vs. words_of (lists_of vs)) back ∙ c.in_ok-round.ensures.after
