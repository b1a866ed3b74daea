use Rattle.std.proofs.Common.{◌≡◌, ℕ, List, map, length, inr, ap, sym, subst, ◌∙◌}
use Rattle.plain_lists.specs.Vectors.{lists_of}
use Rattle.sf_fabric.specs.Kept.{kept_with}
use Rattle.sf_ops.specs.Copies.{AreCopies}
use Rattle.rank_defs.specs.Spread.{PlainShared}
use Rattle.rank_chart_laws.specs.key_laws.Words.{told_keys, word_numbers, AreAllWords, IsKeyRound}
use Rattle.rank_chart_laws.proofs.key_laws.Stands.{laid-out}
use Rattle.rank_chart_laws.proofs.key_laws.Told.{keys-told, round-is}
use Rattle.orient_iface.proofs.iface_keys.Steps.{on-err}
use Rattle.orient_iface.proofs.iface_keys.keys.home_keys.Goals as goal

pub all_words-requires : goal.all_words-requires
all_words-requires g c = laid-out c.args.shared.now c.requires.0 c.requires.1 c.requires.2 c.requires.3 c.requires.4

pub told_numbers-requires-clause-laid_out : goal.told_numbers-requires-clause-laid_out
told_numbers-requires-clause-laid_out g c = laid-out c.args.shared.now c.requires.0 c.requires.1 c.requires.2 c.requires.3 c.requires.4

pub told_numbers-requires-clause-words : goal.told_numbers-requires-clause-words
told_numbers-requires-clause-words g c = subst (λ ps. AreAllWords c.args.shared.now (lists_of ps)) (sym c.deref.ensures.value) c.in_ok-places.ensures

pub key_round-requires-clause-laid_out : goal.key_round-requires-clause-laid_out
key_round-requires-clause-laid_out g c = laid-out c.args.shared.now c.requires.0 c.requires.1 c.requires.2 c.requires.3 c.requires.4

pub key_round-requires-clause-words : goal.key_round-requires-clause-words
key_round-requires-clause-words g c = subst (λ ps. AreAllWords c.args.shared.now (lists_of ps)) (sym c.deref-2.ensures.value) c.in_ok-places.ensures

pub key_round-requires-clause-told : goal.key_round-requires-clause-told
key_round-requires-clause-told g c =
    let s : PlainShared = c.args.shared.now in
    subst (λ ns. AreCopies s.forest (word_numbers s (lists_of c.deref-2.result.now)) (word_numbers s (lists_of c.deref-2.result.now)) (lists_of ns)) (sym c.deref-3.ensures.value)
    (subst (λ ps. AreCopies s.forest (word_numbers s (lists_of ps)) (word_numbers s (lists_of ps)) (lists_of c.in_ok-numbers.numbers.items)) (c.deref.ensures.value ∙ sym c.deref-2.ensures.value) c.in_ok-numbers.ensures.told)

pub key_round-requires-clause-shape : goal.key_round-requires-clause-shape
key_round-requires-clause-shape g c = ap (λ ns. map length (lists_of ns)) c.deref-3.ensures.value ∙ c.in_ok-numbers.ensures.shape

pub spread_keys-requires-clause-laid_out : goal.spread_keys-requires-clause-laid_out
spread_keys-requires-clause-laid_out g c = laid-out c.args.shared.now c.requires.0 c.requires.1 c.requires.2 c.requires.3 c.requires.4

pub spread_keys-requires-clause-words : goal.spread_keys-requires-clause-words
spread_keys-requires-clause-words g c = subst (λ ps. AreAllWords c.args.shared.now (lists_of ps)) (sym c.deref-4.ensures.value) c.in_ok-places.ensures

pub spread_keys-requires-clause-shape : goal.spread_keys-requires-clause-shape
spread_keys-requires-clause-shape g c =
    ap (λ ls. map length (lists_of ls)) c.deref-5.ensures.value ∙ (c.in_ok-least.ensures.shape ∙ ap (λ ps. map length (lists_of ps)) (c.deref-2.ensures.value ∙ sym c.deref-4.ensures.value))

pub returns-in_err-keys-clause-no_memory : goal.returns-in_err-keys-clause-no_memory
returns-in_err-keys-clause-no_memory g c =
    let s : PlainShared = c.args.shared.now in
    let places : List (List ℕ) = lists_of c.in_ok-places.places.items in
    let numbers : List (List ℕ) = lists_of c.in_ok-numbers.numbers.items in
    let told : AreCopies s.forest (word_numbers s places) (word_numbers s places) numbers = subst (λ ps. AreCopies s.forest (word_numbers s (lists_of ps)) (word_numbers s (lists_of ps)) numbers) c.deref.ensures.value c.in_ok-numbers.ensures.told in
    let run : IsKeyRound s places numbers c.in_ok-least.round = subst (λ ps. IsKeyRound s (lists_of ps) numbers c.in_ok-least.round) c.deref-2.ensures.value (subst (λ ns. IsKeyRound s (lists_of c.deref-2.result.now) (lists_of ns) c.in_ok-least.round) c.deref-3.ensures.value c.in_ok-least.ensures.round) in
    on-err c.from_residual-in_err-keys.result _ (inr (c.in_ok-least.round, (λ m dofs a n is. round-is s m dofs a n is places c.in_ok-places.ensures numbers told c.in_ok-least.round run), c.spread_keys.ensures.kept ∙ (c.in_ok-least.ensures.kept ∙ ap (λ k. kept_with k c.in_ok-least.round) c.told_numbers.ensures.kept)))

pub returns-clause-keys : goal.returns-clause-keys
returns-clause-keys g c m dofs a n is =
    let s : PlainShared = c.args.shared.now in
    let places : List (List ℕ) = lists_of c.in_ok-places.places.items in
    let numbers : List (List ℕ) = lists_of c.in_ok-numbers.numbers.items in
    let told : AreCopies s.forest (word_numbers s places) (word_numbers s places) numbers = subst (λ ps. AreCopies s.forest (word_numbers s (lists_of ps)) (word_numbers s (lists_of ps)) numbers) c.deref.ensures.value c.in_ok-numbers.ensures.told in
    let run : IsKeyRound s places numbers c.in_ok-least.round = subst (λ ps. IsKeyRound s (lists_of ps) numbers c.in_ok-least.round) c.deref-2.ensures.value (subst (λ ns. IsKeyRound s (lists_of c.deref-2.result.now) (lists_of ns) c.in_ok-least.round) c.deref-3.ensures.value c.in_ok-least.ensures.round) in
    let least : List (List ℕ) = lists_of c.in_ok-least.least.items in
    let keys : List (List ℕ) = lists_of c.in_ok-keys.keys.items in
    let shape : map length least ≡ map length places = c.in_ok-least.ensures.shape ∙ ap (λ ps. map length (lists_of ps)) c.deref-2.ensures.value in
    let copies : AreCopies s.forest (told_keys s places least) (told_keys s places least) keys = subst (λ ls. AreCopies s.forest (told_keys s places (lists_of ls)) (told_keys s places (lists_of ls)) keys) c.deref-5.ensures.value (subst (λ ps. AreCopies s.forest (told_keys s (lists_of ps) (lists_of c.deref-5.result.now)) (told_keys s (lists_of ps) (lists_of c.deref-5.result.now)) keys) c.deref-4.ensures.value c.in_ok-keys.ensures.keys) in
    keys-told s m dofs a n is places c.in_ok-places.ensures c.in_ok-least.round (round-is s m dofs a n is places c.in_ok-places.ensures numbers told c.in_ok-least.round run) least shape c.in_ok-least.ensures.least keys copies c.in_ok-keys.ensures.shape

pub returns-clause-round : goal.returns-clause-round
returns-clause-round g c m dofs a n is =
    let s : PlainShared = c.args.shared.now in
    let places : List (List ℕ) = lists_of c.in_ok-places.places.items in
    let numbers : List (List ℕ) = lists_of c.in_ok-numbers.numbers.items in
    let told : AreCopies s.forest (word_numbers s places) (word_numbers s places) numbers = subst (λ ps. AreCopies s.forest (word_numbers s (lists_of ps)) (word_numbers s (lists_of ps)) numbers) c.deref.ensures.value c.in_ok-numbers.ensures.told in
    let run : IsKeyRound s places numbers c.in_ok-least.round = subst (λ ps. IsKeyRound s (lists_of ps) numbers c.in_ok-least.round) c.deref-2.ensures.value (subst (λ ns. IsKeyRound s (lists_of c.deref-2.result.now) (lists_of ns) c.in_ok-least.round) c.deref-3.ensures.value c.in_ok-least.ensures.round) in
    round-is s m dofs a n is places c.in_ok-places.ensures numbers told c.in_ok-least.round run
