-- Lists of entries that replay on all words.
use Rattle.std.proofs.Common.{◌≡◌, ℕ, ◌<◌, Bool, true, false, cond, ◌==◌, List, [], ◌∷◌, ◌++◌, length, get_or, refl, sym, ap, subst, ◌∙◌}
use Rattle.std.proofs.lemmas.Bool.{eqb-true, eqb-false}
use Rattle.std.proofs.lemmas.List.{length-set, get_or-set_same, get_or-set_other}
use Rattle.sf_defs.specs.Asks.{Entry, Replays, after_ask, on_word}
use Rattle.sf_threads.specs.thread_rule.Rule.{Plays, words_with}

-- words stay as many
pub plays-length : (words : List ℕ) (log : List Entry) (last : List ℕ) → Plays words log last → length last ≡ length words
plays-length words [] last p = ap length (sym p)
plays-length words (e ∷ es) last p = plays-length (words_with words e) es last p.2 ∙ length-set words e.ask.word (after_ask e.ask (get_or words e.ask.word 0))

-- one more entry that fetched its word as it stands
pub plays-more : (words : List ℕ) (log : List Entry) (last : List ℕ) (e : Entry) → Plays words log last → e.ask.word < length last → e.got ≡ get_or last e.ask.word 0
    → Plays words (log ++ e ∷ []) (words_with last e)
plays-more words [] last e p h g = subst (λ ws. Plays ws (e ∷ []) (words_with last e)) (sym p) (h, g, refl)
plays-more words (x ∷ xs) last e p h g = (p.0, p.1, plays-more (words_with words x) xs last e p.2 h g)

-- on each word its entries replay
pub plays-on : (words : List ℕ) (log : List Entry) (last : List ℕ) (w : ℕ) → Plays words log last → Replays (get_or words w 0) (on_word w log) (get_or last w 0)
plays-on words [] last w p = ap (λ ws. get_or ws w 0) p
plays-on words (e ∷ es) last w p = go (e.ask.word == w) refl (plays-on (words_with words e) es last w p.2)
  where
    next : List ℕ
    next = words_with words e

    go : (b : Bool) → (e.ask.word == w) ≡ b → Replays (get_or next w 0) (on_word w es) (get_or last w 0) → Replays (get_or words w 0) (cond b (e ∷ on_word w es) (on_word w es)) (get_or last w 0)
    go true h rest =
        let same : e.ask.word ≡ w = eqb-true e.ask.word w h in
        let stands : get_or next w 0 ≡ after_ask e.ask (get_or words w 0) =
        ap (λ k. get_or next k 0) (sym same) ∙ get_or-set_same words e.ask.word (after_ask e.ask (get_or words e.ask.word 0)) 0 p.0 ∙ ap (λ k. after_ask e.ask (get_or words k 0)) same in
        (p.1 ∙ ap (λ k. get_or words k 0) same, subst (λ n. Replays n (on_word w es) (get_or last w 0)) stands rest)
    go false h rest =
        let stays : get_or next w 0 ≡ get_or words w 0 = get_or-set_other words e.ask.word w (after_ask e.ask (get_or words e.ask.word 0)) 0 (λ k. eqb-false e.ask.word w h (sym k)) in
        subst (λ n. Replays n (on_word w es) (get_or last w 0)) stays rest
