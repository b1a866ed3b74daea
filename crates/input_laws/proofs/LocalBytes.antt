-- Two files that agree up to the end of a line have the same fault, where one of them has its first fault up to there.
use Rattle.std.proofs.Common.{◌≡◌, ℕ, ◌+◌, ◌<◌, ◌≤◌, Bool, true, false, cond, List, [], ◌∷◌, ◌++◌, map, length, take, drop, Err, refl, sym, ap, ap₂, ◌∙◌, subst, arith, length-append}
use Rattle.std.specs.Prelude.{flat_map, count_by}
use Rattle.std.specs.List.{AllByRecursion}
use Rattle.std.proofs.lemmas.Grind.{flat_map-append}
use Rattle.std.proofs.lemmas.List.{map-append, take-append-drop, take-append-le, length-take}
use Rattle.std.proofs.lemmas.List.Sums.{sum_by-cons}
use Rattle.std.proofs.Math.Seq.{take-length}
use Rattle.plain_lists.proofs.Each.{all_both, all_weaker, all_flat_map, all_append_first}
use Rattle.input_defs.specs.line_defs.Rows.{is_newline, parts, onto_first, lines_of}
use Rattle.input_defs.specs.declared.scan_defs.Token.{Token}
use Rattle.input_defs.specs.scan_defs.Lines.{Line, lines_at, line_number, lines_from, is_indent}
use Rattle.input_defs.specs.scan_defs.Items.{Item, Header, Word, text_of, items_on, items_of, ahead, items, body}
use Rattle.input_defs.specs.declared.MshFault.{MshFault}
use Rattle.input_defs.specs.Bodies.{Lexeme, lexeme_of}
use Rattle.input_defs.specs.Files.{Block, blocks_of, nothing, Opening, said, content}
use Rattle.input_laws.specs.FaultLines.{line_of}
use Rattle.input_laws.proofs.Local.{Beyond, Upto}
use Rattle.input_laws.proofs.LocalFiles.{BeyondBlock, AllBeyond, block_of, Rests, said-beyond, said-before}
use Rattle.input_laws.proofs.LocalLines.{Stands, SaysSame, token_of, items_on-same, items_on-late, file-stands, lines-apart, numbers-low, numbers-late}

-- ---- bodies

has_header : List Item → Bool
has_header [] = false
has_header (Header t ∷ is) = true
has_header (Word t ∷ is) = has_header is

body-closed : (is js : List Item) → has_header is ≡ true → body (is ++ js) ≡ body is
unfolding has_header
body-closed [] js h = absurd (cc h)
body-closed (Header t ∷ is) js h = refl
body-closed (Word t ∷ is) js h = ap (λ ts. t ∷ ts) (body-closed is js h)

body-open : (is js : List Item) → has_header is ≡ false → body (is ++ js) ≡ body is ++ body js
unfolding has_header
body-open [] js h = refl
body-open (Header t ∷ is) js h = absurd (cc h)
body-open (Word t ∷ is) js h = ap (λ ts. t ∷ ts) (body-open is js h)

blocks-open : (bytes : List ℕ) (is js : List Item) → has_header is ≡ false → blocks_of bytes (is ++ js) ≡ blocks_of bytes js
unfolding has_header blocks_of
blocks-open bytes [] js h = refl
blocks-open bytes (Header t ∷ is) js h = absurd (cc h)
blocks-open bytes (Word t ∷ is) js h = blocks-open bytes is js h

body-same : (a b : List ℕ) (l : ℕ) (is : List Item) → AllByRecursion (SaysSame a b l) is → map (lexeme_of a) (body is) ≡ map (lexeme_of b) (body is)
unfolding SaysSame
body-same a b l [] same = refl
body-same a b l (Header t ∷ is) same = refl
body-same a b l (Word t ∷ is) same = ap₂ (λ x xs. x ∷ xs) same.0.0 (body-same a b l is same.1)

lexeme-line : (bytes : List ℕ) (t : Token) → (lexeme_of bytes t).line ≡ t.line
unfolding lexeme_of
lexeme-line bytes t = refl

body-low : (a b : List ℕ) (l : ℕ) (is : List Item) → AllByRecursion (SaysSame a b l) is → Upto l (map (lexeme_of a) (body is))
unfolding SaysSame
body-low a b l [] same = tt
body-low a b l (Header t ∷ is) same = tt
body-low a b l (Word t ∷ is) same = (omega (arith, lexeme-line a t, same.0.1), body-low a b l is same.1)

body-late : (bytes : List ℕ) (l : ℕ) (is : List Item) → AllByRecursion (λ item. l < (token_of item).line) is → Beyond l (map (lexeme_of bytes) (body is))
body-late bytes l [] late = tt
body-late bytes l (Header t ∷ is) late = tt
body-late bytes l (Word t ∷ is) late = (omega (arith, lexeme-line bytes t, late.0), body-late bytes l is late.1)

blocks-late : (bytes : List ℕ) (l : ℕ) (is : List Item) → AllByRecursion (λ item. l < (token_of item).line) is → AllBeyond l (blocks_of bytes is)
unfolding blocks_of BeyondBlock
blocks-late bytes l [] late = tt
blocks-late bytes l (Header t ∷ is) late = ((late.0, body-late bytes l is late.1), blocks-late bytes l is late.1)
blocks-late bytes l (Word t ∷ is) late = blocks-late bytes l is late.1

-- ---- the block in which the files part

record Cut (l : ℕ) (first second : List Block) : Type 0 where
  before : List Block
  name : List ℕ
  line : ℕ
  low : List Lexeme
  late_first : List Lexeme
  late_second : List Lexeme
  rest_first : List Block
  rest_second : List Block
  is_first : first ≡ before ++ block_of name line (low ++ late_first) ∷ rest_first
  is_second : second ≡ before ++ block_of name line (low ++ late_second) ∷ rest_second
  upto : Upto l low
  beyond_first : Beyond l late_first
  beyond_second : Beyond l late_second
  blocks : AllBeyond l rest_first

cut : (a b : List ℕ) (l : ℕ) (is js ks : List Item) → AllByRecursion (SaysSame a b l) is → AllByRecursion (λ item. l < (token_of item).line) js → AllByRecursion (λ item. l < (token_of item).line) ks
    → has_header is ≡ true → Cut l (blocks_of a (is ++ js)) (blocks_of b (is ++ ks))
unfolding has_header blocks_of SaysSame
cut a b l [] js ks same late_js late_ks h = absurd (cc h)
cut a b l (Word t ∷ is) js ks same late_js late_ks h = cut a b l is js ks same.1 late_js late_ks h
cut a b l (Header t ∷ is) js ks same late_js late_ks h = go (has_header is) refl (λ g. cut a b l is js ks same.1 late_js late_ks g)
  where
    go : (x : Bool) → has_header is ≡ x → (has_header is ≡ true → Cut l (blocks_of a (is ++ js)) (blocks_of b (is ++ ks)))
        → Cut l (block_of (text_of a t) t.line (map (lexeme_of a) (body (is ++ js))) ∷ blocks_of a (is ++ js)) (block_of (text_of b t) t.line (map (lexeme_of b) (body (is ++ ks))) ∷ blocks_of b (is ++ ks))
    go true e r = let c = r e in record {
      before = block_of (text_of a t) t.line (map (lexeme_of a) (body is)) ∷ c.before;
      name = c.name;
      line = c.line;
      low = c.low;
      late_first = c.late_first;
      late_second = c.late_second;
      rest_first = c.rest_first;
      rest_second = c.rest_second;
      is_first = ap₂ (λ (ts : List Token) bs. block_of (text_of a t) t.line (map (lexeme_of a) ts) ∷ bs) (body-closed is js e) c.is_first;
      is_second = ap₂ (λ (n : List ℕ) (ws : List Lexeme). block_of n t.line ws ∷ blocks_of b (is ++ ks)) (sym same.0.0) (ap (map (lexeme_of b)) (body-closed is ks e) ∙ sym (body-same a b l is same.1))
          ∙ ap (λ bs. block_of (text_of a t) t.line (map (lexeme_of a) (body is)) ∷ bs) c.is_second;
      upto = c.upto;
      beyond_first = c.beyond_first;
      beyond_second = c.beyond_second;
      blocks = c.blocks;
    }
    go false e r = record {
      before = [];
      name = text_of a t;
      line = t.line;
      low = map (lexeme_of a) (body is);
      late_first = map (lexeme_of a) (body js);
      late_second = map (lexeme_of b) (body ks);
      rest_first = blocks_of a js;
      rest_second = blocks_of b ks;
      is_first = ap₂ (λ (ws : List Lexeme) bs. block_of (text_of a t) t.line ws ∷ bs) (ap (map (lexeme_of a)) (body-open is js e) ∙ map-append (lexeme_of a) (body is) (body js)) (blocks-open a is js e);
      is_second = ap₂ (λ (n : List ℕ) (ws : List Lexeme). block_of n t.line ws ∷ blocks_of b (is ++ ks)) (sym same.0.0)
          (ap (map (lexeme_of b)) (body-open is ks e) ∙ (map-append (lexeme_of b) (body is) (body ks) ∙ ap (λ ws. ws ++ map (lexeme_of b) (body ks)) (sym (body-same a b l is same.1))))
          ∙ ap (λ bs. block_of (text_of a t) t.line (map (lexeme_of a) (body is) ++ map (lexeme_of b) (body ks)) ∷ bs) (blocks-open b is ks e);
      upto = body-low a b l is same.1;
      beyond_first = body-late a l js late_js;
      beyond_second = body-late b l ks late_ks;
      blocks = blocks-late a l js late_js;
    }

-- ---- the items of a file

pub items-whole : (bytes : List ℕ) → items bytes ≡ flat_map items_on (lines_at 0 1 (lines_of bytes))
unfolding ahead items_of is_indent lines_from line_number
items-whole bytes = go (lines_at 0 1 (lines_of bytes))
  where
    go : (ls : List Line) → items_of true ls ≡ flat_map items_on ls
    go [] = refl
    go (line ∷ ls) = refl

-- a file has one line more than it has LF
length-parts : (test : ℕ → Bool) (text : List ℕ) → length (parts test text) ≡ count_by test text + 1
length-parts test [] = refl
length-parts test (b ∷ bs) = go (test b) (parts test bs) (length-parts test bs) ∙ ap (λ n. n + 1) (sym (sum_by-cons (λ x. cond (test x) 1 0) b bs))
  where
    go : (t : Bool) (runs : List (List ℕ)) → length runs ≡ count_by test bs + 1 → length (cond t ([] ∷ runs) (onto_first b runs)) ≡ cond t 1 0 + count_by test bs + 1
    go true runs r = omega (arith, r)
    go false [] r = absurd (omega (arith, r))
    go false (run ∷ runs) r = omega (arith, r)

last-line : (bytes : List ℕ) → line_number bytes (length bytes) ≡ length (lines_of bytes)
unfolding line_number lines_of
last-line bytes = ap (λ (bs : List ℕ). count_by is_newline bs + 1) (take-length bytes) ∙ sym (length-parts is_newline bytes)

-- a file cut after a line
record Halves (bytes : List ℕ) (l : ℕ) : Type 0 where
  later : List Item
  whole : items bytes ≡ flat_map items_on (lines_at 0 1 (take l (lines_of bytes))) ++ later
  late : AllByRecursion (λ item. l < (token_of item).line) later
  stands : AllByRecursion (Stands bytes) (lines_at 0 1 (take l (lines_of bytes)))

halves : (bytes : List ℕ) (l : ℕ) → l ≤ length (take l (lines_of bytes)) → Halves bytes l
halves bytes l full = record {
  later = flat_map items_on (lines_at apart.0 (1 + length first) others);
  whole = items-whole bytes ∙ (ap (flat_map items_on) lines ∙ flat_map-append items_on (lines_at 0 1 first) (lines_at apart.0 (1 + length first) others));
  late = all_flat_map (λ item. l < (token_of item).line) items_on (lines_at apart.0 (1 + length first) others)
      (all_weaker (λ (line : Line). l < line.number) (λ line. AllByRecursion (λ item. l < (token_of item).line) (items_on line)) (items_on-late l) (lines_at apart.0 (1 + length first) others)
      (numbers-late apart.0 (1 + length first) l others (omega (arith, full))));
  stands = all_append_first (Stands bytes) (lines_at 0 1 first) (lines_at apart.0 (1 + length first) others) (subst (AllByRecursion (Stands bytes)) lines (file-stands bytes));
}
  where
    first : List (List ℕ)
    first = take l (lines_of bytes)

    others : List (List ℕ)
    others = drop l (lines_of bytes)

    apart : (start' : ℕ) × (lines_at 0 1 (first ++ others) ≡ lines_at 0 1 first ++ lines_at start' (1 + length first) others)
    apart = lines-apart 0 1 first others

    lines : lines_at 0 1 (lines_of bytes) ≡ lines_at 0 1 first ++ lines_at apart.0 (1 + length first) others
    lines = ap (lines_at 0 1) (sym (take-append-drop l (lines_of bytes))) ∙ apart.1

-- ---- the law

pub fault-local : (a b : List ℕ) (e : MshFault) (l : ℕ) → content a ≡ Err e → line_of e ≤ l → l < length (lines_of a) → take l (lines_of a) ≡ take l (lines_of b) → content b ≡ Err e
unfolding content
fault-local a b e l fault low short agree = go (has_header is) refl
  where
    is : List Item
    is = flat_map items_on (lines_at 0 1 (take l (lines_of a)))

    count : length (take l (lines_of a)) ≡ l
    count = omega (arith, length-take l (lines_of a), short)

    first : Halves a l
    first = halves a l (omega (arith, count))

    second : Halves b l
    second = halves b l (omega (arith, count, ap length agree))

    second_items : items b ≡ is ++ second.later
    second_items = second.whole ∙ ap (λ (ts : List (List ℕ)). flat_map items_on (lines_at 0 1 ts) ++ second.later) (sym agree)

    stands_b : AllByRecursion (Stands b) (lines_at 0 1 (take l (lines_of a)))
    stands_b = subst (λ (ts : List (List ℕ)). AllByRecursion (Stands b) (lines_at 0 1 ts)) (sym agree) second.stands

    both_stand : AllByRecursion (λ (line : Line). Stands a line × Stands b line) (lines_at 0 1 (take l (lines_of a)))
    both_stand = all_both (Stands a) (Stands b) (λ (line : Line). Stands a line × Stands b line) (λ line s u. (s, u)) (lines_at 0 1 (take l (lines_of a))) first.stands stands_b

    same : AllByRecursion (SaysSame a b l) is
    same = all_flat_map (SaysSame a b l) items_on (lines_at 0 1 (take l (lines_of a)))
        (all_both (λ (line : Line). Stands a line × Stands b line) (λ (line : Line). line.number ≤ l) (λ line. AllByRecursion (SaysSame a b l) (items_on line)) (λ line s n. items_on-same a b l line s.0 s.1 n) (lines_at 0 1 (take l (lines_of a)))
        both_stand (numbers-low 0 1 l (take l (lines_of a)) (omega (arith, count))))

    less : l < line_number a (length a)
    less = omega (arith, last-line a, short)

    said_a : said (line_number a (length a)) Opening nothing (blocks_of a (is ++ first.later)) ≡ Err e
    said_a = ap (λ its. said (line_number a (length a)) Opening nothing (blocks_of a its)) (sym first.whole) ∙ fault

    go : (x : Bool) → has_header is ≡ x → said (line_number b (length b)) Opening nothing (blocks_of b (items b)) ≡ Err e
    go true h =
        let c = cut a b l is first.later second.later same first.late second.late h in
        let rests : Rests l (line_number a (length a)) c.low c.late_first c.late_second c.rest_first = record { less = less; upto = c.upto; first = c.beyond_first; second = c.beyond_second; blocks = c.blocks } in
        ap (λ its. said (line_number b (length b)) Opening nothing (blocks_of b its)) second_items
        ∙ (ap (said (line_number b (length b)) Opening nothing) c.is_second
        ∙ said-before l (line_number a (length a)) (line_number b (length b)) Opening nothing c.before c.name c.line c.low c.late_first c.late_second c.rest_first c.rest_second e rests low
        (ap (said (line_number a (length a)) Opening nothing) (sym c.is_first) ∙ said_a))
    go false h = absurd (omega (
      arith,
      low,
      said-beyond l (line_number a (length a)) Opening nothing (blocks_of a first.later) e less (blocks-late a l first.later first.late)
          (ap (said (line_number a (length a)) Opening nothing) (sym (blocks-open a is first.later h)) ∙ said_a),
    ))

-- an LF after a file adds an empty line
lines-longer : (bytes : List ℕ) → parts is_newline (bytes ++ 10 ∷ []) ≡ parts is_newline bytes ++ [] ∷ []
lines-longer [] = refl
lines-longer (b ∷ bs) = go (is_newline b) (parts is_newline bs) (length-parts is_newline bs) (lines-longer bs)
  where
    go : (t : Bool) (texts : List (List ℕ)) → length texts ≡ count_by is_newline bs + 1 → parts is_newline (bs ++ 10 ∷ []) ≡ texts ++ [] ∷ []
        → cond t ([] ∷ parts is_newline (bs ++ 10 ∷ [])) (onto_first b (parts is_newline (bs ++ 10 ∷ []))) ≡ cond t ([] ∷ texts) (onto_first b texts) ++ [] ∷ []
    go true texts r same = ap (λ (ts : List (List ℕ)). [] ∷ ts) same
    go false [] r same = absurd (omega (arith, r))
    go false (text ∷ texts) r same = ap (onto_first b) same

-- the same where the fault is on the last line and not at the end of the file: it stays where an LF stands after
pub last-local : (a b : List ℕ) (e : MshFault) (l : ℕ) → content (a ++ 10 ∷ []) ≡ Err e → line_of e ≤ l → l ≤ length (lines_of a) → take l (lines_of a) ≡ take l (lines_of b) → content b ≡ Err e
unfolding lines_of
last-local a b e l fault low short agree =
    fault-local (a ++ 10 ∷ []) b e l fault low
    (omega (arith, ap length (lines-longer a), length-append (parts is_newline a) ([] ∷ []), short))
    (ap (take l) (lines-longer a) ∙ (take-append-le l (parts is_newline a) ([] ∷ []) short ∙ agree))
