use Rattle.std.proofs.Common.{◌≡◌, ℕ, ◌+◌, Bool, [], get_or, Vec, Global, ap, sym, ◌∙◌, arith}
use Rattle.rank_chart_laws.specs.meeting_laws.Steps.{chosen}
use Rattle.rank_chart_laws.proofs.meeting_laws.Loops.{chosen_more, chosen_less}
use Rattle.rank_chart_laws.specs.key_laws.Places.{is_word, set_number}
use Rattle.rank_chart_laws.specs.key_laws.Words.{part}
use Rattle.orient_iface.proofs.iface_keys.Steps.{words-chosen}
use Rattle.orient_iface.proofs.iface_keys.places.words_among.Goals.{then-is_word+in_ok-push, else-is_word}
use Rattle.orient_iface.proofs.iface_keys.places.words_among.Goals as goal

pub loop-k-preserved : goal.loop-k-preserved
loop-k-preserved c =
    let test : ℕ → Bool = λ k. is_word c.args.shared.now.forest c.args.rank (c.args.first + k) in
    let to : ℕ → ℕ × ℕ = λ k. (set_number (get_or (part c.args.shared.now c.args.rank).sets (c.args.first + k) []), c.args.first + k) in
    elim c.if-is_word.branch [
      | then-is_word+in_ok-push w ↦ chosen_more test to c.loop-k.k c.loop-k.words.items c.if-is_word.words.items _ c.loop-k.invariant (sym c.is_word.ensures ∙ w.if-is_word.true) ((λ i. (w.set_number.ensures i, c.args.first + c.loop-k.k)) ∙ ap (λ s. (set_number s, c.args.first + c.loop-k.k)) w.set.ensures) (ap (λ (v : Vec (ℕ × ℕ) Global). v.items) w.words-is ∙ w.in_ok-push.ensures.items)
      | else-is_word w ↦ ap (λ (v : Vec (ℕ × ℕ) Global). v.items) w.words-is ∙ chosen_less test to c.loop-k.k c.loop-k.words.items c.loop-k.invariant (sym c.is_word.ensures ∙ w.if-is_word.false)
    ]

pub returns : goal.returns
returns c =
    c.loop-k.invariant
    ∙ (ap (chosen {X = ℕ × ℕ} (λ k. is_word c.args.shared.now.forest c.args.rank (c.args.first + k)) (λ k. (set_number (get_or (part c.args.shared.now c.args.rank).sets (c.args.first + k) []), c.args.first + k))) (let e : c.loop-k.k ≡ c.args.count = omega arith in e)
    ∙ words-chosen c.args.shared.now.forest c.args.rank c.args.first c.args.count (λ i. set_number (get_or (part c.args.shared.now c.args.rank).sets i [])))
