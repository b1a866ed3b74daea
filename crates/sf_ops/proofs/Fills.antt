-- Putting words back to their roots, rank by rank.
use Rattle.std.proofs.Common.{◌≡◌, ℕ, zero, suc, ◌+◌, ◌-◌, ◌<◌, ◌≤◌, List, [], ◌∷◌, ◌++◌, length, map, get_or, take, drop, set, sum, slice_range, arith, refl, ap, sym, subst, ◌∙◌, append_assoc}
use Rattle.std.proofs.lemmas.Grind.{common_steps, take-set_at}
use Rattle.std.proofs.lemmas.List.{map-set, append-nil, length-map}
use Rattle.std.proofs.Math.Seq.{map-set_same, take-length, take-add}
use Rattle.std.specs.declared.vec.Vec.{Vec}
use Rattle.std.specs.declared.alloc.Global.{Global}
use Rattle.plain_lists.specs.Vectors.{lists_of}
use Rattle.sf_ops.specs.Asked.{first_word, words_of}
use Rattle.sf_ops.proofs.Words.{first_word-more, first_word-within, length-words_of, lists_of-at, length-lists_of, lists_of-push}

-- the words before place `first` are those of the ranks before `rank`, the others are to be put back
pub record IsPutBack (initial now : List (Vec ℕ Global)) (words : List ℕ) (rank first : ℕ) : Type 0 where
  pub shape : map length (lists_of now) ≡ map length (lists_of initial)
  pub place : first ≡ first_word (map length (lists_of initial)) rank
  pub put : words_of (lists_of (take rank now)) ≡ take first words

-- as many values as the shape says
own_length : (vectors : List (Vec ℕ Global)) (rank : ℕ) (v : Vec ℕ Global) → rank < length vectors → get_or (map length (lists_of vectors)) rank 0 ≡ length (get_or vectors rank v).items
own_length [] rank v h = absurd (omega arith)
own_length (u ∷ us) zero v h = refl
own_length (u ∷ us) (suc rank) v h = own_length us rank v (omega arith)

-- ranks of both
same_ranks : (initial now : List (Vec ℕ Global)) → map length (lists_of now) ≡ map length (lists_of initial) → length (map length (lists_of initial)) ≡ length now
same_ranks initial now shape = ap length (sym shape) ∙ (length-map (lists_of now) length ∙ length-lists_of now)

-- the values of a rank are there
pub rank_is_there : (initial now : List (Vec ℕ Global)) (words : List ℕ) (rank first : ℕ) (v : Vec ℕ Global) → length words ≡ length (words_of (lists_of initial)) → IsPutBack initial now words rank first → rank < length now → first + length (get_or now rank v).items ≤ length words
rank_is_there initial now words rank first v whole s h =
    let shape : List ℕ = map length (lists_of initial) in
    let own : get_or shape rank 0 ≡ length (get_or now rank v).items = ap (λ (ns : List ℕ). get_or ns rank 0) (sym s.shape) ∙ own_length now rank v h in
    let within = first_word-within shape rank (subst (λ (n : ℕ). rank < n) (sym (same_ranks initial now s.shape)) h) in
    let all : length words ≡ sum shape = whole ∙ length-words_of (lists_of initial) in
    let place = s.place in
    omega arith

-- one rank's values more
words_of-push : (values : List (List ℕ)) (own : List ℕ) → words_of (values ++ own ∷ []) ≡ words_of values ++ own
words_of-push [] own = append-nil own
words_of-push (v ∷ vs) own = ap (λ (ws : List ℕ). v ++ ws) (words_of-push vs own) ∙ sym (append_assoc v (words_of vs) own)

-- words and those after them
take-range : (words : List ℕ) (first n : ℕ) → first + n ≤ length words → take first words ++ slice_range words first (first + n) ≡ take (first + n) words
take-range words first n h = let count : n ≡ first + n - first = omega arith in sym (take-add first n words ∙ ap (λ (k : ℕ). take first words ++ take k (drop first words)) count)

length-range : (words : List ℕ) (first n : ℕ) → first + n ≤ length words → length (slice_range words first (first + n)) ≡ n
length-range words first n h = grind (arith, common_steps)

-- a rank's values are put back
pub IsPutBack-more : (initial now : List (Vec ℕ Global)) (words : List ℕ) (rank first n : ℕ) (v own : Vec ℕ Global) → length words ≡ length (words_of (lists_of initial)) → IsPutBack initial now words rank first → rank < length now → n ≡ length (get_or now rank v).items → own.items ≡ slice_range words first (first + length (get_or now rank v).items) → IsPutBack initial (set now rank own) words (rank + 1) (first + n)
IsPutBack-more initial now words rank first n v own whole s h count filled =
    let old : List ℕ = (get_or now rank v).items in
    let there = rank_is_there initial now words rank first v whole s h in
    let size : length own.items ≡ length old = ap length filled ∙ length-range words first (length old) there in
    let same : length own.items ≡ length (get_or (lists_of now) rank []) = size ∙ sym (ap length (lists_of-at now rank v h)) in
    let shape : List ℕ = map length (lists_of initial) in
    let own_count : get_or shape rank 0 ≡ length old = ap (λ (ns : List ℕ). get_or ns rank 0) (sym s.shape) ∙ own_length now rank v h in
    record {
      shape = ap (map length) (map-set (λ (u : Vec ℕ Global). u.items) now rank own) ∙ (map-set_same length (lists_of now) rank own.items [] same ∙ s.shape);
      place = ap (λ (m : ℕ). first + m) (count ∙ sym own_count) ∙ (ap (λ (m : ℕ). m + get_or shape rank 0) s.place ∙ sym (first_word-more shape rank (subst (λ (m : ℕ). rank < m) (sym (same_ranks initial now s.shape)) h)));
      put = ap (λ (vs : List (Vec ℕ Global)). words_of (lists_of vs)) (take-set_at now rank (rank + 1) own refl h) ∙ (ap words_of (lists_of-push (take rank now) own) ∙ (words_of-push (lists_of (take rank now)) own.items ∙ (ap (λ (ws : List ℕ). ws ++ own.items) s.put ∙ (ap (λ (ws : List ℕ). take first words ++ ws) filled ∙ (take-range words first (length old) there ∙ ap (λ (m : ℕ). take (first + m) words) (sym count))))));
    }

-- all ranks' values are put back
pub IsPutBack-all : (initial now : List (Vec ℕ Global)) (words : List ℕ) (rank first : ℕ) → length words ≡ length (words_of (lists_of initial)) → IsPutBack initial now words rank first → rank ≡ length now → words_of (lists_of now) ≡ words
IsPutBack-all initial now words rank first whole s end =
    let shape : List ℕ = map length (lists_of initial) in
    let ranks : rank ≡ length shape = end ∙ sym (same_ranks initial now s.shape) in
    let last : first ≡ length words = s.place ∙ (ap (λ (n : ℕ). sum (take n shape)) ranks ∙ (ap sum (take-length shape) ∙ sym (whole ∙ length-words_of (lists_of initial)))) in
    sym (ap (λ (vs : List (Vec ℕ Global)). words_of (lists_of vs)) (ap (λ (n : ℕ). take n now) end ∙ take-length now)) ∙ (s.put ∙ (ap (λ (n : ℕ). take n words) last ∙ take-length words))
