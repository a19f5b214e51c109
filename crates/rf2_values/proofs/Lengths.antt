-- How long the texts of columns are once they are joined.
use Rattle.std.proofs.Common.{◌≡◌, ℕ, ◌+◌, ◌≤◌, ◌<◌, ◌^◌, Bool, true, false, List, [], ◌∷◌, length, length-append, refl, ap, ◌⊎◌, inl, inr, arith}
use Rattle.std.specs.Prelude.{decimal}
use Rattle.std.proofs.lemmas.Fmt.{length-decimal-le}
use Rattle.uuid.proofs.TextLemmas.{by_index_length}
use Rattle.rf2_values.specs.declared.row.Kind.{Kind}
use Rattle.rf2_values.specs.declared.row.Kind.TheVariants as kind
use Rattle.rf2_values.specs.declared.row.Body.{Body}
use Rattle.rf2_values.specs.declared.row.Concept.{Concept}
use Rattle.rf2_values.specs.declared.row.Relationship.{Relationship}
use Rattle.rf2_values.specs.declared.row.Association.{Association}
use Rattle.rf2_values.specs.declared.row.Body.TheVariants as body
use Rattle.rf2_values.specs.Time.{IsTime}
use Rattle.rf2_values.specs.Private.{columns_len}
use Rattle.rf2_values.proofs.FurtherColumns.{further_length}
use Rattle.rf2_values.specs.Row.{version, canonical, line_of, flag, id_text, later_columns, body_columns, kind_of_body, line_limit, IsIdOf, IsConcept, IsBody}

pub length-line : (text : List ℕ) (texts : List (List ℕ)) → length (line_of (text ∷ texts)) ≡ length text + columns_len texts
length-line t [] = omega arith
length-line t (u ∷ us) = omega (arith, length-append t (9 ∷ line_of (u ∷ us)), length-line u us)

pub length-flag : (active : Bool) → length (flag active) ≡ 1
length-flag false = refl
length-flag true = refl

-- ---- numbers are short

number_short : (n : ℕ) → n < 2 ^ 64 → length (decimal n) ≤ 20
number_short n lt = length-decimal-le 20 n (omega arith) (omega arith) lt

id_short : (k : Kind) (n : ℕ) → IsIdOf k n → length (id_text k n) ≤ 40
id_short kind.Concept n h = let high = h.sctid.high in omega (arith, number_short n (omega arith))
id_short kind.Description n h = let high = h.sctid.high in omega (arith, number_short n (omega arith))
id_short kind.Relationship n h = let high = h.sctid.high in omega (arith, number_short n (omega arith))
id_short kind.Association n h = let long : length (id_text kind.Association n) ≡ 36 = by_index_length 36 _ in omega arith
id_short kind.Member n h = let long : length (id_text kind.Member n) ≡ 36 = by_index_length 36 _ in omega arith
id_short kind.Concrete n h = let high = h.sctid.high in omega (arith, number_short n (omega arith))

concept_short : (n : ℕ) → IsConcept n → length (decimal n) ≤ 20
concept_short n h = let high = h.sctid.high in number_short n (omega arith)

-- the texts among the columns, each with a TAB before it
abbrev pub texts_length : Body → ℕ
texts_length (body.Concept c) = 0
texts_length (body.Description d) = length d.language_code + 1 + (length d.term + 1)
texts_length (body.Relationship r) = 0
texts_length (body.Association a) = 0
texts_length (body.Concrete c) = length c.value + 1
texts_length (body.Member m) = length m.further

pub no_texts : (b : Body) → ((c : Concept) × (b ≡ body.Concept c)) ⊎ (((r : Relationship) × (b ≡ body.Relationship r)) ⊎ ((a : Association) × (b ≡ body.Association a))) → texts_length b ≡ 0
no_texts b (inl h) = ap texts_length h.1
no_texts b (inr (inl h)) = ap texts_length h.1
no_texts b (inr (inr h)) = ap texts_length h.1

pub own_short : (b : Body) → IsBody b → columns_len (body_columns b) ≤ texts_length b + 126
own_short (body.Concept c) h = omega (arith, concept_short c.definition_status h)
own_short (body.Description d) h = omega (arith, concept_short d.concept h.0, concept_short d.type_id h.2, concept_short d.case_significance h.4)
own_short (body.Relationship r) h =
    let group = h.2 in
    omega (arith, concept_short r.source h.0, concept_short r.destination h.1, number_short r.group (omega arith), concept_short r.type_id h.3, concept_short r.characteristic_type h.4, concept_short r.modifier h.5)
own_short (body.Association a) h =
    let referenced = h.1.sctid.high in
    let target = h.2.sctid.high in
    omega (arith, concept_short a.refset h.0, number_short a.referenced (omega arith), number_short a.target (omega arith))
own_short (body.Concrete c) h =
    let group = h.2 in
    omega (arith, concept_short c.source h.0, number_short c.group (omega arith), concept_short c.type_id h.3, concept_short c.characteristic_type h.4, concept_short c.modifier h.5)
own_short (body.Member m) h =
    let referenced = h.1.sctid.high in
    omega (arith, concept_short m.refset h.0, number_short m.referenced (omega arith), further_length m.further)

-- a row whose texts are short has a short line
pub line_short : (id time : ℕ) (active : Bool) (m : ℕ) (b : Body) (texts : ℕ) → IsIdOf (kind_of_body b) id → IsTime time → IsConcept m
    → columns_len (body_columns b) ≤ texts + 126 → texts ≤ 65000 → length (canonical (version id time active m b)) ≤ line_limit
line_short id time active m b texts is_id is_time is_module own short =
    let v = version id time active m b in
    let to = is_time.year_to in
    omega (arith, length-line (id_text (kind_of_body b) id) (later_columns v), id_short (kind_of_body b) id is_id, number_short time (omega arith), length-flag active, concept_short m is_module)
