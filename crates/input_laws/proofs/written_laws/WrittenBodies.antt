-- Written bodies are read back: names, nodes and elements.
use Rattle.std.proofs.Common.{◌≡◌, ℕ, ◌+◌, ◌^◌, ◌<◌, ◌≤◌, Bool, true, false, cond, not, ◌||◌, ◌==◌, nat_le, List, [], ◌∷◌, ◌++◌, map, length, get_or, ℤ, pos, Ok, Err, refl, sym, ap, ap₂, ◌∙◌, subst, arith, append-nil}
use Rattle.std.specs.Prelude.{Result, Some, is_some, nat_eq, decimal, find, option_map}
use Rattle.std.specs.Fmt.{signed_decimal}
use Rattle.std.specs.List.{AllByRecursion, IsDistinct}
use Rattle.std.proofs.lemmas.Bool.{le-leb, ne_eqb, eqb-true}
use Rattle.plain_lists.proofs.Each.{all_weaker, all_both, all_from, all_map}
use Rattle.input_defs.specs.line_defs.Numbers.{fixed_text}
use Rattle.mesh_defs.specs.declared.Poly.{Poly}
use Rattle.mesh_defs.specs.Mesh.{Name}
use Rattle.input_defs.specs.declared.scan_defs.NumberFault.{NumberFault}
use Rattle.input_defs.specs.scan_defs.Numbers.{uint_of, int_of, fixed_of, decimal_of, scaled, fixed_value}
use Rattle.input_defs.specs.Content.{Node, Element}
use Rattle.input_defs.specs.declared.What.{What}
use Rattle.input_defs.specs.declared.What.TheVariants as what
use Rattle.input_defs.specs.declared.MshFault.{MshFault}
use Rattle.input_defs.specs.declared.MshFault.TheVariants.{BadCount, RepeatedNodeNumber, UnknownNode, RepeatedNode, OutOfRange, TooMany, ElementType}
use Rattle.input_defs.specs.Causes.{ok_where}
use Rattle.input_defs.specs.Bodies.{Lexeme, Faults, Reader, give, ◌>>=◌, read_on, many, with_rest, number_where, number, tested, uint, int, fixed, quoted, text_where, whole, nothing_left}
use Rattle.input_defs.specs.Sections.{has_number, count, format, name, names, fresh_number, node, nodes_after, nodes, types, poly_of_type, corners_of_type, corner, corners_after, element, elements}
use Rattle.input_defs.specs.RightContent.{IsUnsigned, IsRightNode, IsKnown, IsRightElement, IsRightName}
use Rattle.input_laws.specs.written_laws.Written.{spaced, counted, quote, name_line, node_line, element_line, IsOneLine}
use Rattle.input_laws.proofs.written_laws.NumberTexts.{uint-back, int-back, fixed-back}
use Rattle.input_laws.proofs.written_laws.PlainLines.{lexemes_on}
use Rattle.input_laws.proofs.written_laws.WrittenLines.{IsWord, decimal-word, signed-word, fixed-word, lexeme, lexemes-next, lexemes-last, word_lexemes, words-plain, Quoted, quote-lexemes, past-line, AreLater, body_lines, body-later}

-- ---- readers one after the other

pub then-ok : {E A B : Type 0} (r : Reader E A) (k : A → Reader E B) (faults : Faults E) (before after : List Lexeme) (x : A) → r faults before ≡ Ok (x, after) → (r >>= k) faults before ≡ k x faults after
then-ok r k faults before after x h = ap (read_on k faults) h

-- a number that passes its test
pub tested-reads : {E A B : Type 0} (number_of : List ℕ → Result A NumberFault) (test : ℕ → A → Result B E) (faults : Faults E) (token : Lexeme) (rest : List Lexeme) (x : A) (y : B)
    → number_of token.text ≡ Ok x → test token.line x ≡ Ok y → tested number_of test faults (token ∷ rest) ≡ Ok (y, rest)
tested-reads number_of test faults token rest x y read passes = ap (λ o. with_rest rest (number_where faults token.line test o)) read ∙ ap (with_rest rest) passes

pub number-reads : {E A : Type 0} (number_of : List ℕ → Result A NumberFault) (faults : Faults E) (token : Lexeme) (rest : List Lexeme) (x : A) → number_of token.text ≡ Ok x → number number_of faults (token ∷ rest) ≡ Ok (x, rest)
number-reads number_of faults token rest x read = tested-reads number_of (λ line y. Ok y) faults token rest x x read refl

pub where-true : {E A : Type 0} (b : Bool) (x : A) (e : E) → b ≡ true → ok_where b x e ≡ Ok x
where-true b x e h = ap (λ t. ok_where t x e) h

-- numbers on a line
pub many-numbers : {E A : Type 0} (number_of : List ℕ → Result A NumberFault) (text : A → List ℕ) (n : ℕ) (faults : Faults E) (xs : List A) (rest : List Lexeme) → AllByRecursion (λ x. number_of (text x) ≡ Ok x) xs
    → many (length xs) (number number_of) faults (word_lexemes n (map text xs) ++ rest) ≡ Ok (xs, rest)
many-numbers number_of text n faults [] rest h = refl
many-numbers number_of text n faults (x ∷ xs) rest h =
    let more = word_lexemes n (map text xs) ++ rest in
    then-ok (number number_of) (λ y. many (length xs) (number number_of) >>= (λ ys. give (y ∷ ys))) faults (lexeme n (text x) (spaced (text x ∷ map text xs)) ∷ more) more x (number-reads number_of faults (lexeme n (text x) (spaced (text x ∷ map text xs))) more x h.0)
    ∙ then-ok (many (length xs) (number number_of)) (λ ys. give (x ∷ ys)) faults more rest xs (many-numbers number_of text n faults xs rest h.1)

-- a line for each
pub many-lines : {E A : Type 0} (P : A → Type 0) (r : Reader E A) (line : A → List ℕ) (faults : Faults E)
    → ((n : ℕ) (x : A) (rest : List Lexeme) → P x → AreLater n rest → r faults (lexemes_on n (line x) ++ rest) ≡ Ok (x, rest))
    → (n : ℕ) (xs : List A) → AllByRecursion P xs → many (length xs) r faults (body_lines n (map line xs)) ≡ Ok (xs, [])
many-lines P r line faults each n [] h = refl
many-lines P r line faults each n (x ∷ xs) h =
    let more = body_lines (n + 1) (map line xs) in
    then-ok r (λ y. many (length xs) r >>= (λ ys. give (y ∷ ys))) faults (lexemes_on n (line x) ++ more) more x (each n x more h.0 (body-later n (n + 1) (map line xs) (omega arith)))
    ∙ then-ok (many (length xs) r) (λ ys. give (x ∷ ys)) faults more [] xs (many-lines P r line faults each (n + 1) xs h.1)

-- how many there are, on a line
pub count-line : (n k : ℕ) (more : List Lexeme) → IsUnsigned k → lexemes_on n (decimal k) ++ more ≡ lexeme n (decimal k) (decimal k) ∷ more
count-line n k more low = ap (λ xs. xs ++ more) (lexemes-last n (decimal k) (decimal-word k low))

count-reads : (limit : ℕ) (w : What) (n k : ℕ) (faults : Faults MshFault) (more : List Lexeme) → k ≤ limit → limit < 2 ^ 32 → count limit w faults (lexemes_on n (decimal k) ++ more) ≡ Ok (k, more)
count-reads limit w n k faults more few low =
    let low_count : k < 2 ^ 32 = omega (arith, few, low) in
    ap (count limit w faults) (count-line n k more low_count)
    ∙ tested-reads uint_of (λ line m. ok_where (nat_le m limit) m (TooMany line w)) faults (lexeme n (decimal k) (decimal k)) more k k (uint-back k low_count) (where-true (nat_le k limit) k (TooMany n w) (le-leb k limit few))

-- ---- MeshFormat

pub format-reads : (n : ℕ) (faults : Faults MshFault) → whole BadCount format faults (body_lines n ((50 ∷ 46 ∷ 50 ∷ 32 ∷ 48 ∷ 32 ∷ 56 ∷ []) ∷ [])) ≡ Ok 8
unfolding format uint_of fixed_of decimal_of scaled fixed_value
format-reads n faults = refl

-- ---- names

-- a quoted text, and then other lines
pub quoted-reads : {E : Type 0} (faults : Faults E) (n : ℕ) (text : List ℕ) (first : Lexeme) (others rest : List Lexeme) → first.quoted ≡ Some text → first.line ≡ n → AllByRecursion (λ (x : Lexeme). x.line ≡ n) others → AreLater n rest
    → quoted faults (first ∷ (others ++ rest)) ≡ Ok (text, rest)
quoted-reads faults n text first others rest is on_line on late =
    ap₂ (λ k q. text_where faults k (others ++ rest) q) on_line is ∙ ap (λ xs. Ok (text, xs)) (past-line n others rest on late)

-- a name, and then other lines
name-reads : (faults : Faults MshFault) (n : ℕ) (x : Name) (rest : List Lexeme) → IsRightName x × IsOneLine x.text → AreLater n rest → name faults (lexemes_on n (name_line x) ++ rest) ≡ Ok (x, rest)
unfolding name
name-reads faults n x rest right late =
    ap (λ ws. r faults (ws ++ rest)) split
    ∙ then-ok uint (λ dim. int >>= (λ number. quoted >>= (λ text. give (record { dim = dim; number = number; text = text })))) faults (one ∷ two ∷ q.first ∷ (q.others ++ rest)) (two ∷ q.first ∷ (q.others ++ rest)) x.dim
    (number-reads uint_of faults one (two ∷ q.first ∷ (q.others ++ rest)) x.dim (uint-back x.dim right.0.dim))
    ∙ then-ok int (λ number. quoted >>= (λ text. give (record { dim = x.dim; number = number; text = text }))) faults (two ∷ q.first ∷ (q.others ++ rest)) (q.first ∷ (q.others ++ rest)) x.number
    (number-reads int_of faults two (q.first ∷ (q.others ++ rest)) x.number (int-back x.number right.0.number))
    ∙ then-ok quoted (λ text. give (record { dim = x.dim; number = x.number; text = text })) faults (q.first ∷ (q.others ++ rest)) rest x.text (quoted-reads faults n x.text q.first q.others rest q.quoted q.on_line q.others_on_line late)
  where
    r : Reader MshFault Name
    r = uint >>= (λ dim. int >>= (λ number. quoted >>= (λ text. give (record { dim = dim; number = number; text = text }))))

    d : List ℕ
    d = decimal x.dim

    z : List ℕ
    z = signed_decimal x.number

    q : Quoted n x.text (lexemes_on n (quote x.text))
    q = quote-lexemes n x.text

    one : Lexeme
    one = lexeme n d (d ++ 32 ∷ (z ++ 32 ∷ quote x.text))

    two : Lexeme
    two = lexeme n z (z ++ 32 ∷ quote x.text)

    split : lexemes_on n (name_line x) ≡ one ∷ two ∷ q.first ∷ q.others
    split = ap (λ (t : List ℕ). lexemes_on n (d ++ 32 ∷ (z ++ 32 ∷ t))) (append-nil (quote x.text))
        ∙ lexemes-next n d (z ++ 32 ∷ quote x.text) (decimal-word x.dim right.0.dim)
        ∙ ap (λ ws. one ∷ ws) (lexemes-next n z (quote x.text) (signed-word x.number right.0.number) ∙ ap (λ ws. two ∷ ws) q.whole)

pub names-read : (faults : Faults MshFault) (n : ℕ) (xs : List Name) → length xs ≤ 1024 → AllByRecursion IsRightName xs → AllByRecursion (λ (x : Name). IsOneLine x.text) xs → whole BadCount names faults (body_lines n (counted name_line xs)) ≡ Ok xs
unfolding names
names-read faults n xs few right plain = ap (nothing_left BadCount) (
    then-ok (count 1024 what.Names) (λ k. many k name) faults (body_lines n (counted name_line xs)) (body_lines (n + 1) (map name_line xs)) (length xs) (count-reads 1024 what.Names n (length xs) faults (body_lines (n + 1) (map name_line xs)) few (omega arith))
    ∙ many-lines (λ x. IsRightName x × IsOneLine x.text) name name_line faults (name-reads faults) (n + 1) xs (all_both IsRightName (λ x. IsOneLine x.text) (λ x. IsRightName x × IsOneLine x.text) (λ x a b. (a, b)) xs right plain)
    )

-- ---- nodes

node-reads : (faults : Faults MshFault) (earlier : List ℕ) (n k : ℕ) (at : List ℤ) (rest : List Lexeme) → IsRightNode (record { number = k; at = at }) → has_number earlier k ≡ false
    → node earlier faults (lexemes_on n (node_line (record { number = k; at = at })) ++ rest) ≡ Ok (record { number = k; at = at }, rest)
unfolding node
node-reads faults earlier n k [] rest right fresh = absurd (omega (arith, right.three))
node-reads faults earlier n k (x ∷ []) rest right fresh = absurd (omega (arith, right.three))
node-reads faults earlier n k (x ∷ y ∷ []) rest right fresh = absurd (omega (arith, right.three))
node-reads faults earlier n k (x ∷ y ∷ z ∷ v ∷ vs) rest right fresh = absurd (omega (arith, right.three))
node-reads faults earlier n k (x ∷ y ∷ z ∷ []) rest right fresh = ap (λ ws. node earlier faults (ws ++ rest)) split ∙ read
  where
    a : List Lexeme
    a = word_lexemes n (fixed_text x ∷ fixed_text y ∷ fixed_text z ∷ []) ++ rest

    b : List Lexeme
    b = word_lexemes n (fixed_text y ∷ fixed_text z ∷ []) ++ rest

    c : List Lexeme
    c = word_lexemes n (fixed_text z ∷ []) ++ rest

    tokens : List Lexeme
    tokens = word_lexemes n (decimal k ∷ fixed_text x ∷ fixed_text y ∷ fixed_text z ∷ [])

    split : lexemes_on n (node_line (record { number = k; at = x ∷ y ∷ z ∷ [] })) ≡ tokens
    split = words-plain n (decimal k ∷ fixed_text x ∷ fixed_text y ∷ fixed_text z ∷ []) (decimal-word k right.number, (fixed-word x right.in_range.0, (fixed-word y right.in_range.1.0, (fixed-word z right.in_range.1.1.0, tt))))

    not_zero : (k == 0) ≡ false
    not_zero = ne_eqb k 0 (λ e. omega (arith, e, right.some_number))

    passes : (line : ℕ) → cond (k == 0) (Err (OutOfRange line)) (ok_where (not (has_number earlier k)) k (RepeatedNodeNumber line k)) ≡ Ok k
    passes line = ap₂ (λ s t. cond s (Err (OutOfRange line)) (ok_where (not t) k (RepeatedNodeNumber line k))) not_zero fresh

    read : node earlier faults (tokens ++ rest) ≡ Ok (record { number = k; at = x ∷ y ∷ z ∷ [] }, rest)
    read = then-ok (fresh_number earlier) (λ number. fixed >>= (λ x. fixed >>= (λ y. fixed >>= (λ z. give (record { number = number; at = x ∷ y ∷ z ∷ [] }))))) faults (tokens ++ rest) a k
        (tested-reads uint_of (λ line m. cond (m == 0) (Err (OutOfRange line)) (ok_where (not (has_number earlier m)) m (RepeatedNodeNumber line m))) faults (lexeme n (decimal k) (spaced (decimal k ∷ fixed_text x ∷ fixed_text y ∷ fixed_text z ∷ []))) a k k (uint-back k right.number) (passes n))
        ∙ then-ok fixed (λ x. fixed >>= (λ y. fixed >>= (λ z. give (record { number = k; at = x ∷ y ∷ z ∷ [] })))) faults a b x (number-reads fixed_of faults (lexeme n (fixed_text x) (spaced (fixed_text x ∷ fixed_text y ∷ fixed_text z ∷ []))) b x (fixed-back x right.in_range.0))
        ∙ then-ok fixed (λ y. fixed >>= (λ z. give (record { number = k; at = x ∷ y ∷ z ∷ [] }))) faults b c y (number-reads fixed_of faults (lexeme n (fixed_text y) (spaced (fixed_text y ∷ fixed_text z ∷ []))) c y (fixed-back y right.in_range.1.0))
        ∙ then-ok fixed (λ z. give (record { number = k; at = x ∷ y ∷ z ∷ [] })) faults c rest z (number-reads fixed_of faults (lexeme n (fixed_text z) (spaced (fixed_text z ∷ []))) rest z (fixed-back z right.in_range.1.1.0))

-- numbers that are none of the earlier ones and not this one
fresh-more : (first : ℕ) (earlier ns : List ℕ) → AllByRecursion (λ m. nat_eq first m ≡ false) ns → AllByRecursion (λ m. has_number earlier m ≡ false) ns → AllByRecursion (λ m. has_number (first ∷ earlier) m ≡ false) ns
fresh-more first earlier ns other fresh = all_both (λ m. nat_eq first m ≡ false) (λ m. has_number earlier m ≡ false) (λ m. has_number (first ∷ earlier) m ≡ false) (λ m a b. ap₂ (λ s t. s || t) a b) ns other fresh

nodes-after-read : (faults : Faults MshFault) (earlier : List ℕ) (n : ℕ) (xs : List Node) → AllByRecursion IsRightNode xs → AllByRecursion (λ m. has_number earlier m ≡ false) (map (λ (x : Node). x.number) xs) → IsDistinct nat_eq (map (λ (x : Node). x.number) xs)
    → nodes_after earlier (length xs) faults (body_lines n (map node_line xs)) ≡ Ok (xs, [])
unfolding nodes_after IsDistinct
nodes-after-read faults earlier n [] right fresh differ = refl
nodes-after-read faults earlier n (x ∷ xs) right fresh differ =
    let more = body_lines (n + 1) (map node_line xs) in
    then-ok (node earlier) (λ first. nodes_after (first.number ∷ earlier) (length xs) >>= (λ others. give (first ∷ others))) faults (lexemes_on n (node_line x) ++ more) more x (node-reads faults earlier n x.number x.at more right.0 fresh.0)
    ∙ then-ok (nodes_after (x.number ∷ earlier) (length xs)) (λ others. give (x ∷ others)) faults more [] xs
    (nodes-after-read faults (x.number ∷ earlier) (n + 1) xs right.1 (fresh-more x.number earlier (map (λ (y : Node). y.number) xs) differ.0 fresh.1) differ.1)

pub nodes-read : (faults : Faults MshFault) (n : ℕ) (xs : List Node) → length xs ≤ 500000 → AllByRecursion IsRightNode xs → IsDistinct nat_eq (map (λ (x : Node). x.number) xs) → whole BadCount nodes faults (body_lines n (counted node_line xs)) ≡ Ok xs
unfolding nodes
nodes-read faults n xs few right differ = ap (nothing_left BadCount) (
    then-ok (count 500000 what.Nodes) (λ k. nodes_after [] k) faults (body_lines n (counted node_line xs)) (body_lines (n + 1) (map node_line xs)) (length xs) (count-reads 500000 what.Nodes n (length xs) faults (body_lines (n + 1) (map node_line xs)) few (omega arith))
    ∙ nodes-after-read faults [] (n + 1) xs right (all_from (λ m. has_number [] m ≡ false) (λ m. refl) (map (λ (x : Node). x.number) xs)) differ
    )

-- ---- elements

corners-read : (faults : Faults MshFault) (known earlier : List ℕ) (n : ℕ) (vs : List ℕ) (rest : List Lexeme) → AllByRecursion IsUnsigned vs → AllByRecursion (IsKnown known) vs → AllByRecursion (λ m. has_number earlier m ≡ false) vs → IsDistinct nat_eq vs
    → corners_after known earlier (length vs) faults (word_lexemes n (map decimal vs) ++ rest) ≡ Ok (vs, rest)
unfolding IsDistinct
corners-read faults known earlier n [] rest low all fresh differ = refl
corners-read faults known earlier n (v ∷ vs) rest low all fresh differ =
    let more = word_lexemes n (map decimal vs) ++ rest in
    let token = lexeme n (decimal v) (spaced (decimal v ∷ map decimal vs)) in
    then-ok (corner known earlier) (λ first. corners_after known (first ∷ earlier) (length vs) >>= (λ others. give (first ∷ others))) faults (token ∷ more) more v
    (tested-reads uint_of (λ line m. cond (has_number known m) (ok_where (not (has_number earlier m)) m (RepeatedNode line m)) (Err (UnknownNode line m))) faults token more v v (uint-back v low.0)
    (ap₂ (λ s t. cond s (ok_where (not t) v (RepeatedNode n v)) (Err (UnknownNode n v))) all.0 fresh.0))
    ∙ then-ok (corners_after known (v ∷ earlier) (length vs)) (λ others. give (v ∷ others)) faults more rest vs
    (corners-read faults known (v ∷ earlier) n vs rest low.1 all.1 (fresh-more v earlier vs differ.0 fresh.1) differ.1)

-- the types that are read are small numbers
pub kind-low : (k : ℕ) → is_some (poly_of_type k) ≡ true → IsUnsigned k
kind-low k h = among types (omega arith, (omega arith, (omega arith, (omega arith, (omega arith, (omega arith, tt)))))) h
  where
    among : (rows : List (ℕ × Poly)) → AllByRecursion (λ (row : ℕ × Poly). IsUnsigned row.0) rows → is_some (option_map (λ (row : ℕ × Poly). row.1) (find (λ row. row.0 == k) rows)) ≡ true → IsUnsigned k
    among [] low t = absurd (cc t)
    among (row ∷ rows) low t = go (row.0 == k) refl (among rows low.1) t
      where
        go : (b : Bool) → (row.0 == k) ≡ b → (is_some (option_map (λ (r : ℕ × Poly). r.1) (find (λ r. r.0 == k) rows)) ≡ true → IsUnsigned k)
            → is_some (option_map (λ (r : ℕ × Poly). r.1) (cond b (Some row) (find (λ r. r.0 == k) rows))) ≡ true → IsUnsigned k
        go true e r u = subst IsUnsigned (eqb-true row.0 k e) low.0
        go false e r u = r u

-- a number that is known is of 32 bits where all of these are
pub known-low : (known : List ℕ) (v : ℕ) → AllByRecursion IsUnsigned known → IsKnown known v → IsUnsigned v
known-low [] v low h = absurd (cc h)
known-low (m ∷ known) v low h = go (m == v) refl (known-low known v low.1) h
  where
    go : (b : Bool) → (m == v) ≡ b → (IsKnown known v → IsUnsigned v) → (b || has_number known v) ≡ true → IsUnsigned v
    go true e r t = subst IsUnsigned (eqb-true m v e) low.0
    go false e r t = r t

-- what is left to read of an element after its number, kind, count of tags, and tags
abbrev with_corners : List ℕ → ℕ → ℕ → List ℤ → Reader MshFault Element
with_corners known number kind tags = corners_after known [] (corners_of_type kind) >>= (λ corners. give (record { number = number; kind = kind; physical = get_or tags 0 (pos 0); nodes = corners }))

abbrev with_tags : List ℕ → ℕ → ℕ → ℕ → Reader MshFault Element
with_tags known number kind tag_count = many tag_count int >>= with_corners known number kind

abbrev with_kind : List ℕ → ℕ → ℕ → Reader MshFault Element
with_kind known number kind = uint >>= with_tags known number kind

abbrev kind_test : ℕ → ℕ → Result ℕ MshFault
kind_test line k = ok_where (is_some (poly_of_type k)) k (ElementType line k)

element-reads : (faults : Faults MshFault) (known : List ℕ) (n : ℕ) (x : Element) (rest : List Lexeme) → AllByRecursion IsUnsigned known → IsRightElement known x → element known faults (lexemes_on n (element_line x) ++ rest) ≡ Ok (x, rest)
unfolding element
element-reads faults known n x rest low right =
    ap (λ ws. r faults (ws ++ rest)) (words-plain n words are_words)
    ∙ then-ok uint (λ number. tested uint_of kind_test >>= with_kind known number) faults (one ∷ two ∷ three ∷ four ∷ last) (two ∷ three ∷ four ∷ last) x.number (number-reads uint_of faults one (two ∷ three ∷ four ∷ last) x.number (uint-back x.number right.number))
    ∙ then-ok (tested uint_of kind_test) (with_kind known x.number) faults (two ∷ three ∷ four ∷ last) (three ∷ four ∷ last) x.kind
    (tested-reads uint_of kind_test faults two (three ∷ four ∷ last) x.kind x.kind (uint-back x.kind kind) (where-true (is_some (poly_of_type x.kind)) x.kind (ElementType n x.kind) right.kind))
    ∙ then-ok uint (with_tags known x.number x.kind) faults (three ∷ four ∷ last) (four ∷ last) 1 (number-reads uint_of faults three (four ∷ last) 1 (uint-back 1 (omega arith)))
    ∙ then-ok (many 1 int) (with_corners known x.number x.kind) faults (four ∷ last) last (x.physical ∷ [])
    (then-ok int (λ y. many 0 int >>= (λ ys. give (y ∷ ys))) faults (four ∷ last) last x.physical (number-reads int_of faults four last x.physical (int-back x.physical right.physical)))
    ∙ then-ok (corners_after known [] (corners_of_type x.kind)) (λ corners. give (record { number = x.number; kind = x.kind; physical = x.physical; nodes = corners })) faults last rest x.nodes
    (ap (λ c. corners_after known [] c faults last) (sym right.corners)
    ∙ corners-read faults known [] n x.nodes rest lows right.nodes_known (all_from (λ m. has_number [] m ≡ false) (λ m. refl) x.nodes) right.nodes_differ)
  where
    r : Reader MshFault Element
    r = uint >>= (λ number. tested uint_of kind_test >>= with_kind known number)

    words : List (List ℕ)
    words = decimal x.number ∷ decimal x.kind ∷ decimal 1 ∷ signed_decimal x.physical ∷ map decimal x.nodes

    kind : IsUnsigned x.kind
    kind = kind-low x.kind right.kind

    lows : AllByRecursion IsUnsigned x.nodes
    lows = all_weaker (IsKnown known) IsUnsigned (λ v. known-low known v low) x.nodes right.nodes_known

    are_words : AllByRecursion IsWord words
    are_words = (decimal-word x.number right.number, (decimal-word x.kind kind, (decimal-word 1 (omega arith), (signed-word x.physical right.physical, all_map IsWord decimal x.nodes (all_weaker IsUnsigned (λ v. IsWord (decimal v)) decimal-word x.nodes lows)))))

    last : List Lexeme
    last = word_lexemes n (map decimal x.nodes) ++ rest

    one : Lexeme
    one = lexeme n (decimal x.number) (spaced words)

    two : Lexeme
    two = lexeme n (decimal x.kind) (spaced (decimal x.kind ∷ decimal 1 ∷ signed_decimal x.physical ∷ map decimal x.nodes))

    three : Lexeme
    three = lexeme n (decimal 1) (spaced (decimal 1 ∷ signed_decimal x.physical ∷ map decimal x.nodes))

    four : Lexeme
    four = lexeme n (signed_decimal x.physical) (spaced (signed_decimal x.physical ∷ map decimal x.nodes))

pub elements-read : (faults : Faults MshFault) (known : List ℕ) (n : ℕ) (xs : List Element) → AllByRecursion IsUnsigned known → length xs ≤ 1000000 → AllByRecursion (IsRightElement known) xs → whole BadCount (elements known) faults (body_lines n (counted element_line xs)) ≡ Ok xs
unfolding elements
elements-read faults known n xs low few right = ap (nothing_left BadCount) (
    then-ok (count 1000000 what.Elements) (λ k. many k (element known)) faults (body_lines n (counted element_line xs)) (body_lines (n + 1) (map element_line xs)) (length xs)
    (count-reads 1000000 what.Elements n (length xs) faults (body_lines (n + 1) (map element_line xs)) few (omega arith))
    ∙ many-lines (IsRightElement known) (element known) element_line faults (λ m x rest h late. element-reads faults known m x rest low h) (n + 1) xs right
    )
