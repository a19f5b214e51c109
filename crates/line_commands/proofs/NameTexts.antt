-- A name is UTF-8.
use Rattle.std.proofs.Common.{ℕ, Bool, true, false, ◌≤◌, List, [], ◌∷◌, length, get_or, eqb, ◌<◌, refl, subst, arith}
use Rattle.std.specs.List.{slice_split, AllWithin, HoldsAt}
use Rattle.std.proofs.lemmas.List.Elements.{All-cons}
use Rattle.std.specs.List.{join_with_byte, AllByRecursion}
use Rattle.std.specs.Str.{IsUtf8}
use Rattle.std.specs.Prelude.{◌↔◌, IsTrue, MatchBool}
use Rattle.std.proofs.lemmas.Bool.{false≢true}
use Rattle.std.proofs.lemmas.List.Elements.{recursion_from_All}
use Rattle.std.proofs.lemmas.List.Splits.{join_with_byte-slice_split}
use Rattle.std.proofs.lemmas.Str.{IsUtf8-append, IsUtf8-nil, IsUtf8-from_ascii}
use Rattle.std.proofs.lemmas.Str.Ascii.{IsAscii-from_all}
use Rattle.line_commands.specs.Names.{IsName, IsNamePart, IsNameByte}

-- ---- a name is UTF-8

plain_below : (b : ℕ) → IsNameByte b → b < 128
plain_below b h = grind arith

part_utf8 : (part : List ℕ) → IsNamePart part → IsUtf8 part
part_utf8 part h = IsUtf8-from_ascii part (IsAscii-from_all part (λ k d l. plain_below (get_or part k d) (h.plain k d l)))

slash_utf8 : IsUtf8 (47 ∷ [])
slash_utf8 = IsUtf8-from_ascii (47 ∷ []) (IsAscii-from_all (47 ∷ []) (All-cons (λ x. x < 128) 47 [] (omega arith) (λ k x l. absurd (omega arith))))

joined_utf8 : (parts : List (List ℕ)) → AllByRecursion IsNamePart parts → IsUtf8 (join_with_byte 47 parts)
joined_utf8 [] h = IsUtf8-nil
joined_utf8 (p ∷ []) h = part_utf8 p h.0
joined_utf8 (p ∷ q ∷ qs) h = IsUtf8-append p (47 ∷ join_with_byte 47 (q ∷ qs)) (part_utf8 p h.0) (IsUtf8-append (47 ∷ []) (join_with_byte 47 (q ∷ qs)) slash_utf8 (joined_utf8 (q ∷ qs) h.1))

pub name_utf8 : (name : List ℕ) → IsName name → IsUtf8 name
name_utf8 name h = subst IsUtf8 (join_with_byte-slice_split 47 name) (joined_utf8 _ (recursion_from_All IsNamePart (slice_split (λ b. eqb b 47) name) h.parts))

-- ---- whether a text is a name

pub decides_name : (text : List ℕ) (r : Bool) → length text ≤ 1024
    → MatchBool r (AllWithin IsNamePart (slice_split (λ b. eqb b 47) text) 0 (length (slice_split (λ b. eqb b 47) text)))
    ((k : ℕ) × (k < length (slice_split (λ b. eqb b 47) text)) × HoldsAt (λ part. IsNamePart part → ⊥) (slice_split (λ b. eqb b 47) text) k)
    → IsTrue r ↔ IsName text
decides_name text true short h = (λ _. record { short = short; parts = λ k d l. h k d (omega arith) l }, λ _. refl)
decides_name text false short h = (λ e. absurd (false≢true e), λ is. absurd (h.2 [] (is.parts h.0 [] h.1)))
