-- The folding of ASCII.
use Rattle.std.specs.Prelude.{◌≡◌, ℕ, ◌≤◌, ◌+◌, ◌-◌, ◌++◌, List, length, map, take, drop, IsAscii}
use Rattle.std.specs.Prelude.{chars, encode_utf8_all}
use Rattle.std.specs.Str.{IsUtf8}
use Rattle.std.proofs.Common.{arith, ap, sym, ◌∙◌}
use Rattle.std.proofs.lemmas.Grind.{flat_map-append}
use Rattle.std.proofs.lemmas.List.{length-append, length-map, append_assoc, take_all, take-append-drop, drop-drop}
use Rattle.std.proofs.Math.Seq.{take-append_seam, take-append-add, drop-append_seam}
use Rattle.std.specs.Char.{to_ascii_lowercase}
use Rattle.std.proofs.lemmas.Str.{chars-IsAscii, encodes-IsAscii, chars-append, encodes-append, IsUtf8-from_ascii, IsUtf8-between, IsCharBoundary-from_take, IsCharBoundary-from_drop}
use Rattle.std.proofs.lemmas.Str.Ascii.{All-from_ascii, IsAscii-map}
use Rattle.caseless.specs.Caseless.{default_case_fold}
use Rattle.caseless.proofs.CaselessLemmas.{default_case_fold-ascii}
use Rattle.history_model.specs.Queries.{folded}

-- ASCII is folded to its lower case
pub ascii_is_folded : (text : List ℕ) → IsAscii text → folded text ≡ map to_ascii_lowercase text
unfolding folded
ascii_is_folded text ascii =
    rw (chars-IsAscii text ascii, default_case_fold-ascii text (All-from_ascii text ascii))
    (encodes-IsAscii _ (IsAscii-map to_ascii_lowercase text (λ b low. grind arith) ascii))

-- the end of a text is made lower case where it stands
pub lower_case_added : (old term all made post rest : List ℕ) (start n len : ℕ) → IsAscii term
    → all ≡ old ++ term → start ≡ len → n ≡ len + length term → length all ≡ n
    → made ≡ map to_ascii_lowercase (take (length all - start) (drop start all))
    → take n ((take start all ++ (made ++ post)) ++ rest) ≡ old ++ folded term
lower_case_added old term all made post rest start n len low all_is start_from n_is all_long made_is =
    let long : length all ≡ length old + length term = ap (λ (xs : List ℕ). length xs) all_is ∙ length-append old term in
    let start_is : start ≡ length old = omega (arith, long, start_from, n_is, all_long) in
    let front : take start all ≡ old = ap (λ m. take m all) start_is ∙ ap (take (length old)) all_is ∙ take-append_seam old term in
    let back : drop start all ≡ term = ap (λ m. drop m all) start_is ∙ ap (drop (length old)) all_is ∙ drop-append_seam old term in
    let whole : take (length all - start) (drop start all) ≡ term =
    ap (take (length all - start)) back ∙ take_all (length all - start) term (omega (arith, long, start_is)) in
    let lower : made ≡ folded term = made_is ∙ ap (map to_ascii_lowercase) whole ∙ sym (ascii_is_folded term low) in
    let as_long : length made ≡ length term = ap (λ (xs : List ℕ). length xs) (made_is ∙ ap (map to_ascii_lowercase) whole) ∙ length-map term to_ascii_lowercase in
    let n_made : n ≡ length old + length made = omega (arith, long, all_long, as_long) in
    ap (take n) (append_assoc (take start all) (made ++ post) rest)
    ∙ ap (λ xs. take n (xs ++ ((made ++ post) ++ rest))) front
    ∙ ap (λ m. take m (old ++ ((made ++ post) ++ rest))) n_made
    ∙ take-append-add old ((made ++ post) ++ rest) (length made)
    ∙ ap (λ xs. old ++ take (length made) xs) (append_assoc made post rest)
    ∙ ap (λ xs. old ++ xs) (take-append_seam made (post ++ rest))
    ∙ ap (λ xs. old ++ xs) lower

-- a term that was added at the end of a text is all that stands there
pub folding_added : (text folding made : List ℕ) (start : ℕ) → made ≡ text ++ folding → start ≡ length text
    → take (length made - start) (drop start made) ≡ folding
folding_added text folding made start is start_is =
    let back : drop start made ≡ folding = ap (λ m. drop m made) start_is ∙ ap (drop (length text)) is ∙ drop-append_seam text folding in
    let long : length made ≡ length text + length folding = ap (λ (xs : List ℕ). length xs) is ∙ length-append text folding in
    ap (take (length made - start)) back ∙ take_all (length made - start) folding (omega (arith, long, start_is))

pub ascii_is_as_long : (text : List ℕ) → IsAscii text → length (folded text) ≡ length text
ascii_is_as_long text low = ap (λ (xs : List ℕ). length xs) (ascii_is_folded text low) ∙ length-map text to_ascii_lowercase

-- ---- a term between whose ends in ASCII others stand

-- both parts are folded apart
pub folded-append : (front back : List ℕ) → IsUtf8 front → folded (front ++ back) ≡ folded front ++ folded back
unfolding folded default_case_fold
folded-append front back utf8 =
    ap (λ cs. encode_utf8_all (default_case_fold cs)) (chars-append front back utf8)
    ∙ ap encode_utf8_all (flat_map-append _ (chars front) (chars back))
    ∙ encodes-append (default_case_fold (chars front)) (default_case_fold (chars back))

-- what stands between is a text
pub between_ascii : (term : List ℕ) (begin end : ℕ) → IsUtf8 term → begin ≤ end → end ≤ length term → IsAscii (take begin term) → IsAscii (drop end term)
    → IsUtf8 (take (end - begin) (drop begin term))
between_ascii term begin end utf8 le within front back =
    IsUtf8-between term begin end utf8 le
    (IsCharBoundary-from_take term begin utf8 (omega (arith, le, within)) (IsUtf8-from_ascii (take begin term) front))
    (IsCharBoundary-from_drop term end within (IsUtf8-from_ascii (drop end term) back))

-- the three parts are folded apart
pub parts_folded : (term : List ℕ) (begin end : ℕ) → IsUtf8 term → begin ≤ end → end ≤ length term → IsAscii (take begin term) → IsAscii (drop end term)
    → (folded (take begin term) ++ folded (take (end - begin) (drop begin term))) ++ folded (drop end term) ≡ folded term
parts_folded term begin end utf8 le within front back =
    let middle = take (end - begin) (drop begin term) in
    let middle_is = between_ascii term begin end utf8 le within front back in
    let rest : middle ++ drop end term ≡ drop begin term =
    ap (λ xs. middle ++ xs) (let e : begin + (end - begin) ≡ end = omega (arith, le) in sym (drop-drop (end - begin) begin term ∙ ap (λ n. drop n term) e))
    ∙ take-append-drop (end - begin) (drop begin term) in
    append_assoc (folded (take begin term)) (folded middle) (folded (drop end term))
    ∙ ap (λ xs. folded (take begin term) ++ xs) (sym (folded-append middle (drop end term) middle_is))
    ∙ ap (λ xs. folded (take begin term) ++ folded xs) rest
    ∙ sym (folded-append (take begin term) (drop begin term) (IsUtf8-from_ascii (take begin term) front))
    ∙ ap folded (take-append-drop begin term)
