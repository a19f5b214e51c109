-- Fields that are read are the fields that were written, and what was written is read again.
use Rattle.std.proofs.Common.{◌≡◌, ℕ, ◌+◌, ◌-◌, ◌^◌, ◌<◌, ◌≤◌, Bool, true, false, cond, ltb, eqb, List, [], ◌∷◌, ◌++◌, length, take, drop, map, Option, Some, None, refl, sym, ap, subst, ◌∙◌, append_assoc, arith}
use Rattle.std.specs.List.{AllByRecursion}
use Rattle.std.specs.Int.{Width, w16, w32, byte_len, from_be_bytes, to_be_bytes}
use Rattle.std.proofs.lemmas.Bool.{ltb-false, le-ltb, eqb-true}
use Rattle.std.proofs.lemmas.List.{take_at, drop_at, take-append-drop, length-append, length-take, append-nil, nil_from_length}
use Rattle.std.proofs.lemmas.Option.{same_Some, cond_some}
use Rattle.segment.specs.Records.{Field, Number, Text, field_bytes, spelled}
use Rattle.segment.specs.Private.Reading.{Form, Wide, Counted, form_of, Fits, ◌>>=◌, cut_at, number_at, text_at, field_at, fields_at, all_at, record_bytes_at}
use Rattle.segment.proofs.Numbers.{IsBytes, IsBytes-take, IsBytes-drop, limit, number_length, number_back, number_again}

-- the value of a step that gave one
bind_some : {A B : Type 0} (r : Option A) (f : A → Option B) (y : B) → (r >>= f) ≡ Some y → (x : A) × (r ≡ Some x) × (f x ≡ Some y)
bind_some (Some x) f y e = (x, refl, e)
bind_some None f y e = absurd cc

-- bytes that are a front and a rest
pub record Parts (bytes front rest : List ℕ) : Type 0 where
  pub whole : bytes ≡ front ++ rest
  pub rest_fits : IsBytes rest

Parts-then : (a x b y c : List ℕ) → Parts a x b → Parts b y c → Parts a (x ++ y) c
Parts-then a x b y c p q = record { whole = p.whole ∙ ap (λ (t : List ℕ). x ++ t) q.whole ∙ sym (append_assoc x y c); rest_fits = q.rest_fits }

-- ---- a cut

chosen : {A : Type 0} (b : Bool) (x y : A) → cond b None (Some x) ≡ Some y → (b ≡ false) × (x ≡ y)
chosen true x y e = absurd cc
chosen false x y e = (refl, cc)

cut_some : (n : ℕ) (bytes : List ℕ) (p : List ℕ × List ℕ) → IsBytes bytes → cut_at n bytes ≡ Some p → Parts bytes p.0 p.1 × (length p.0 ≡ n) × IsBytes p.0
cut_some n bytes p fits e =
    let c = chosen (ltb (length bytes) n) (take n bytes, drop n bytes) p e in
    let long : n ≤ length bytes = ltb-false _ _ c.0 in
    subst (λ (q : List ℕ × List ℕ). Parts bytes q.0 q.1 × (length q.0 ≡ n) × IsBytes q.0) c.1
    (record { whole = sym (take-append-drop n bytes); rest_fits = IsBytes-drop n bytes fits }, omega (arith, length-take n bytes), IsBytes-take n bytes fits)

cut_again : (front rest : List ℕ) (n : ℕ) → length front ≡ n → cut_at n (front ++ rest) ≡ Some (front, rest)
cut_again front rest n len =
    let long : n ≤ length (front ++ rest) = omega (arith, length-append front rest) in
    rw (le-ltb (length (front ++ rest)) n long, take_at front rest n len, drop_at front rest n len) refl

-- ---- a number

pub number_some : (w : Width) (bytes : List ℕ) (p : ℕ × List ℕ) → IsBytes bytes → number_at w bytes ≡ Some p → Parts bytes (to_be_bytes w p.0) p.1
unfolding number_at
number_some w bytes p fits e =
    let c = bind_some (cut_at (byte_len w) bytes) (λ parts. Some (from_be_bytes w parts.0, parts.1)) p e in
    let k = cut_some (byte_len w) bytes c.0 fits c.1 in
    let back : to_be_bytes w (from_be_bytes w c.0.0) ≡ c.0.0 = number_back w c.0.0 k.1 k.2 in
    let made : ℕ × List ℕ = (from_be_bytes w c.0.0, c.0.1) in
    let there : Parts bytes (to_be_bytes w made.0) made.1 = subst (λ (front : List ℕ). Parts bytes front c.0.1) (sym back) k.0 in
    subst (λ (q : ℕ × List ℕ). Parts bytes (to_be_bytes w q.0) q.1) (same_Some made p c.2) there

pub number_again_at : (w : Width) (n : ℕ) (rest : List ℕ) → n < limit w → number_at w (to_be_bytes w n ++ rest) ≡ Some (n, rest)
unfolding number_at
number_again_at w n rest fits =
    let cut = cut_again (to_be_bytes w n) rest (byte_len w) (number_length w n) in
    ap (λ (r : Option (List ℕ × List ℕ)). r >>= λ parts. Some (from_be_bytes w parts.0, parts.1)) cut
    ∙ ap (λ (m : ℕ). Some (m, rest)) (number_again w n fits)

-- ---- a text

text_some : (bytes : List ℕ) (p : List ℕ × List ℕ) → IsBytes bytes → text_at bytes ≡ Some p → Parts bytes (field_bytes (Text p.0)) p.1
unfolding text_at field_bytes
text_some bytes p fits e =
    let a = bind_some (number_at w16 bytes) (λ len. cut_at len.0 len.1) p e in
    let n = number_some w16 bytes a.0 fits a.1 in
    let k = cut_some a.0.0 a.0.1 p n.rest_fits a.2 in
    Parts-then bytes (to_be_bytes w16 (length p.0)) a.0.1 p.0 p.1 (subst (λ (m : ℕ). Parts bytes (to_be_bytes w16 m) a.0.1) (sym k.1) n) k.0

text_again : (text rest : List ℕ) → length text < 2 ^ 16 → text_at (field_bytes (Text text) ++ rest) ≡ Some (text, rest)
unfolding text_at field_bytes
text_again text rest fits =
    ap (λ (bytes : List ℕ). number_at w16 bytes >>= λ len. cut_at len.0 len.1) (append_assoc (to_be_bytes w16 (length text)) text rest)
    ∙ ap (λ (r : Option (ℕ × List ℕ)). r >>= λ len. cut_at len.0 len.1) (number_again_at w16 (length text) (text ++ rest) fits)
    ∙ cut_again text rest (length text) refl

-- ---- fields

field_some : (form : Form) (bytes : List ℕ) (p : Field × List ℕ) → IsBytes bytes → field_at form bytes ≡ Some p → Parts bytes (field_bytes p.0) p.1
unfolding field_bytes
field_some (Wide w) bytes p fits e =
    let a = bind_some (number_at w bytes) (λ n. Some (Number w n.0, n.1)) p e in
    let made : Field × List ℕ = (Number w a.0.0, a.0.1) in
    subst (λ (q : Field × List ℕ). Parts bytes (field_bytes q.0) q.1) (same_Some made p a.2) (number_some w bytes a.0 fits a.1)
field_some Counted bytes p fits e =
    let a = bind_some (text_at bytes) (λ text. Some (Text text.0, text.1)) p e in
    let made : Field × List ℕ = (Text a.0.0, a.0.1) in
    subst (λ (q : Field × List ℕ). Parts bytes (field_bytes q.0) q.1) (same_Some made p a.2) (text_some bytes a.0 fits a.1)

field_again : (f : Field) (rest : List ℕ) → Fits f → field_at (form_of f) (field_bytes f ++ rest) ≡ Some (f, rest)
unfolding field_bytes
field_again (Number w n) rest fits = ap (λ (r : Option (ℕ × List ℕ)). r >>= λ n. Some (Number w n.0, n.1)) (number_again_at w n rest fits)
field_again (Text text) rest fits = ap (λ (r : Option (List ℕ × List ℕ)). r >>= λ t. Some (Text t.0, t.1)) (text_again text rest fits)

-- fields that are read are those that stand there
pub fields_some : (forms : List Form) (bytes : List ℕ) (p : List Field × List ℕ) → IsBytes bytes → fields_at forms bytes ≡ Some p → Parts bytes (spelled p.0) p.1
fields_some [] bytes p fits e =
    let none : List Field = [] in
    subst (λ (q : List Field × List ℕ). Parts bytes (spelled q.0) q.1) (same_Some (none, bytes) p e) (record { whole = refl; rest_fits = fits })
fields_some (form ∷ forms) bytes p fits e =
    let a = bind_some (field_at form bytes) (λ field. fields_at forms field.1 >>= λ fields. Some (field.0 ∷ fields.0, fields.1)) p e in
    let first = field_some form bytes a.0 fits a.1 in
    let b = bind_some (fields_at forms a.0.1) (λ fields. Some (a.0.0 ∷ fields.0, fields.1)) p a.2 in
    let others = fields_some forms a.0.1 b.0 first.rest_fits b.1 in
    let made : List Field × List ℕ = (a.0.0 ∷ b.0.0, b.0.1) in
    subst (λ (q : List Field × List ℕ). Parts bytes (spelled q.0) q.1) (same_Some made p b.2) (Parts-then bytes (field_bytes a.0.0) a.0.1 (spelled b.0.0) b.0.1 first others)

-- fields that stand there are read
pub fields_again : (fields : List Field) (rest : List ℕ) → AllByRecursion Fits fields → fields_at (map form_of fields) (spelled fields ++ rest) ≡ Some (fields, rest)
fields_again [] rest fits = refl
fields_again (f ∷ fields) rest fits =
    ap (fields_at (form_of f ∷ map form_of fields)) (append_assoc (field_bytes f) (spelled fields) rest)
    ∙ ap (λ (r : Option (Field × List ℕ)). r >>= λ field. fields_at (map form_of fields) field.1 >>= λ others. Some (field.0 ∷ others.0, others.1)) (field_again f (spelled fields ++ rest) fits.0)
    ∙ ap (λ (r : Option (List Field × List ℕ)). r >>= λ others. Some (f ∷ others.0, others.1)) (fields_again fields rest fits.1)

pub all_some : (forms : List Form) (bytes : List ℕ) (fields : List Field) → IsBytes bytes → all_at forms bytes ≡ Some fields → bytes ≡ spelled fields
all_some forms bytes fields fits e =
    let a = bind_some (fields_at forms bytes) (λ x. cond (eqb (length x.1) 0) (Some x.0) None) fields e in
    let parts = fields_some forms bytes a.0 fits a.1 in
    let end = cond_some (eqb (length a.0.1) 0) a.0.0 fields a.2 in
    parts.whole ∙ ap (λ (rest : List ℕ). spelled a.0.0 ++ rest) (nil_from_length a.0.1 (eqb-true _ _ end.0)) ∙ append-nil (spelled a.0.0) ∙ ap spelled end.1

pub all_again : (fields : List Field) → AllByRecursion Fits fields → all_at (map form_of fields) (spelled fields) ≡ Some fields
all_again fields fits =
    ap (all_at (map form_of fields)) (sym (append-nil (spelled fields)))
    ∙ ap (λ (r : Option (List Field × List ℕ)). r >>= λ x. cond (eqb (length x.1) 0) (Some x.0) None) (fields_again fields [] fits)

-- ---- the bytes of a record

not_short : {A : Type 0} (b : Bool) (r : Option A) (y : A) → cond b None r ≡ Some y → (b ≡ false) × (r ≡ Some y)
not_short true r y e = absurd cc
not_short false r y e = (refl, e)

pub record_bytes_some : (bytes : List ℕ) (p : List ℕ × List ℕ) → IsBytes bytes → record_bytes_at bytes ≡ Some p → Parts bytes (field_bytes (Number w32 (4 + length p.0)) ++ p.0) p.1 × IsBytes p.0
unfolding record_bytes_at field_bytes
record_bytes_some bytes p fits e =
    let a = bind_some (number_at w32 bytes) (λ len. cond (ltb len.0 4) None (cut_at (len.0 - 4) len.1)) p e in
    let n = number_some w32 bytes a.0 fits a.1 in
    let t = not_short (ltb a.0.0 4) (cut_at (a.0.0 - 4) a.0.1) p a.2 in
    let k = cut_some (a.0.0 - 4) a.0.1 p n.rest_fits t.1 in
    let long : 4 ≤ a.0.0 = ltb-false _ _ t.0 in
    let len : a.0.0 ≡ 4 + length p.0 = omega (arith, k.1) in
    (Parts-then bytes (to_be_bytes w32 (4 + length p.0)) a.0.1 p.0 p.1 (subst (λ (m : ℕ). Parts bytes (to_be_bytes w32 m) a.0.1) len n) k.0, k.2)

pub record_bytes_again : (fields rest : List ℕ) → 4 + length fields < 2 ^ 32 → record_bytes_at ((field_bytes (Number w32 (4 + length fields)) ++ fields) ++ rest) ≡ Some (fields, rest)
unfolding record_bytes_at field_bytes
record_bytes_again fields rest fits =
    let n : ℕ = 4 + length fields in
    ap (λ (bytes : List ℕ). number_at w32 bytes >>= λ len. cond (ltb len.0 4) None (cut_at (len.0 - 4) len.1)) (append_assoc (to_be_bytes w32 (4 + length fields)) fields rest)
    ∙ ap (λ (r : Option (ℕ × List ℕ)). r >>= λ len. cond (ltb len.0 4) None (cut_at (len.0 - 4) len.1)) (number_again_at w32 (4 + length fields) (fields ++ rest) fits)
    ∙ ap (λ (b : Bool). cond b None (cut_at (4 + length fields - 4) (fields ++ rest))) (le-ltb (4 + length fields) 4 (omega arith))
    ∙ cut_again fields rest (4 + length fields - 4) (omega arith)
