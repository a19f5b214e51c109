-- The first fault of texts in columns.
use Rattle.std.proofs.Common.{◌≡◌, ◌≢◌, ℕ, ◌+◌, ◌≤◌, ◌∙◌, Bool, ap, List, [], ◌∷◌, ◌++◌, length, drop, inl, inr, refl, sym, subst, arith}
use Rattle.std.specs.Borrow.{Bor}
use Rattle.std.proofs.lemmas.List.{length-map, length-drop, length-replicate}
use Rattle.rf2_values.specs.declared.row.Kind.{Kind}
use Rattle.std.specs.Prelude.{Result, Ok, Err, MatchResult, decimal, replicate}
use Rattle.std.specs.Str.{IsUtf8}
use Rattle.rf2_rows.specs.declared.fault.LineFault.{LineFault}
use Rattle.rf2_rows.specs.declared.fault.RowFault.{RowFault}
use Rattle.rf2_rows.specs.declared.fault.RowFault.TheVariants as rowfault
use Rattle.rf2_values.specs.Row.{RowValue, version, IsVersion, IsIdOf, IsBody, IsConcept, SpellsId, SpellsColumns, kind_of, kind_of_body, line_limit, line_of, id_text, later_columns, body_columns, flag}
use Rattle.rf2_rows.specs.declared.shape.Shape.{Shape}
use Rattle.rf2_rows.specs.File.{shape_with}
use Rattle.rf2_rows.specs.Line.{Column, ConceptReference, ComponentReference, Any, MayStand, HasFault, FirstFault, columns as columns_of_shape, columns_in, common_layout, own_columns, columns_of, HasShape, IsFaultOfColumns, IsLineFaultThat}
use Rattle.rf2_rows.specs.Private.{texts, HaveNoTab, AllStand, IsLineReading}
use Rattle.rf2_values.specs.Time.{IsTime}
use Rattle.rf2_values.specs.declared.row.Body.{Body}
use Rattle.rf2_values.specs.declared.row.Kind.TheVariants as kind
use Rattle.rf2_values.proofs.Lengths.{length-line}
use Rattle.uuid.proofs.TextLemmas.{by_index_length}
use Rattle.rf2_rows.proofs.Texts.{text_at}

pub fault_here : (c : Column) (cs : List Column) (t : List ℕ) (ts : List (List ℕ)) (f : LineFault) → HasFault c t f → FirstFault (c ∷ cs) (t ∷ ts) f
unfolding FirstFault
fault_here c cs t ts f h = inl h

pub fault_later : (c : Column) (cs : List Column) (t : List ℕ) (ts : List (List ℕ)) (f : LineFault) → MayStand c t → FirstFault cs ts f → FirstFault (c ∷ cs) (t ∷ ts) f
unfolding FirstFault
fault_later c cs t ts f stands h = inr (stands, h)

-- a fault of the first columns is one of all, and one of the others, where the first have none
pub fault_within : (cs ds : List Column) (ts us : List (List ℕ)) (f : LineFault) → FirstFault cs ts f → FirstFault (cs ++ ds) (ts ++ us) f
unfolding FirstFault
fault_within [] ds ts us f h = absurd h
fault_within (c ∷ cs) ds [] us f h = absurd h
fault_within (c ∷ cs) ds (t ∷ ts) us f (inl h) = inl h
fault_within (c ∷ cs) ds (t ∷ ts) us f (inr h) = inr (h.0, fault_within cs ds ts us f h.1)

pub fault_after : (cs ds : List Column) (ts us : List (List ℕ)) (f : LineFault) → AllStand cs ts → FirstFault ds us f → FirstFault (cs ++ ds) (ts ++ us) f
unfolding FirstFault
fault_after [] ds [] us f stand h = h
fault_after [] ds (t ∷ ts) us f stand h = absurd stand
fault_after (c ∷ cs) ds [] us f stand h = absurd stand
fault_after (c ∷ cs) ds (t ∷ ts) us f stand h = inr (stand.0, fault_after cs ds ts us f stand.1 h)

-- the texts of at least four columns
common_first : (columns : List (Bor (List ℕ))) → 4 ≤ length columns → texts columns ≡ (text_at columns 0 ∷ text_at columns 1 ∷ text_at columns 2 ∷ text_at columns 3 ∷ []) ++ texts (drop 4 columns)
common_first (a ∷ b ∷ c ∷ d ∷ rest) le = refl
common_first (a ∷ b ∷ c ∷ []) le = absurd (omega arith)
common_first (a ∷ b ∷ []) le = absurd (omega arith)
common_first (a ∷ []) le = absurd (omega arith)
common_first [] le = absurd (omega arith)

-- columns behind the first four have no TAB either
pub later_free : (columns : List (Bor (List ℕ))) → 4 ≤ length columns → HaveNoTab (texts columns) → HaveNoTab (texts (drop 4 columns))
later_free columns le h = (subst (λ (ts : List (List ℕ)). HaveNoTab ts) (common_first columns le) h).1.1.1.1

as_many : (shape : Shape) (columns : List (Bor (List ℕ))) → 4 ≤ length columns → length (drop 4 columns) ≡ length (own_columns shape) → length (texts columns) ≡ length (columns_of_shape shape)
as_many shape columns le own =
    let n = length-map columns (λ (x : Bor (List ℕ)). x.now) in
    let d = length-drop 4 columns in
    omega arith

pub fault_in_common : (shape : Shape) (columns : List (Bor (List ℕ))) (f : LineFault) → 4 ≤ length columns → length (drop 4 columns) ≡ length (own_columns shape)
    → FirstFault (columns_in (common_layout shape.kind)) (text_at columns 0 ∷ text_at columns 1 ∷ text_at columns 2 ∷ text_at columns 3 ∷ []) f → IsFaultOfColumns shape (texts columns) f
fault_in_common shape columns f le own h =
    inr (as_many shape columns le own, subst (λ (ts : List (List ℕ)). FirstFault (columns_of_shape shape) ts f) (sym (common_first columns le)) (fault_within (columns_in (common_layout shape.kind)) (own_columns shape) _ (texts (drop 4 columns)) f h))

pub fault_in_own : (shape : Shape) (columns : List (Bor (List ℕ))) (f : LineFault) → 4 ≤ length columns → length (drop 4 columns) ≡ length (own_columns shape)
    → AllStand (columns_in (common_layout shape.kind)) (text_at columns 0 ∷ text_at columns 1 ∷ text_at columns 2 ∷ text_at columns 3 ∷ []) → FirstFault (own_columns shape) (texts (drop 4 columns)) f → IsFaultOfColumns shape (texts columns) f
fault_in_own shape columns f le own stand h =
    inr (as_many shape columns le own, subst (λ (ts : List (List ℕ)). FirstFault (columns_of_shape shape) ts f) (sym (common_first columns le)) (fault_after (columns_in (common_layout shape.kind)) (own_columns shape) (text_at columns 0 ∷ text_at columns 1 ∷ text_at columns 2 ∷ text_at columns 3 ∷ []) (texts (drop 4 columns)) f stand h))

-- another number of columns
pub wrong_count : (shape : Shape) (columns : List (Bor (List ℕ))) → 4 ≤ length columns → (length (drop 4 columns) ≡ length (own_columns shape) → ⊥) → length (texts columns) ≢ length (columns_of_shape shape)
wrong_count shape columns le other same =
    let n = length-map columns (λ (x : Bor (List ℕ)). x.now) in
    let d = length-drop 4 columns in
    other (omega arith)

-- three columns at once, for a search of few steps
pub fault_past_three : (c d e : Column) (cs : List Column) (t u v : List ℕ) (ts : List (List ℕ)) (f : LineFault) → MayStand c t → MayStand d u → MayStand e v → FirstFault cs ts f → FirstFault (c ∷ d ∷ e ∷ cs) (t ∷ u ∷ v ∷ ts) f
fault_past_three c d e cs t u v ts f hc hd he h = fault_later c (d ∷ e ∷ cs) t (u ∷ v ∷ ts) f hc (fault_later d (e ∷ cs) u (v ∷ ts) f hd (fault_later e cs v ts f he h))

-- ---- columns of members

-- the texts of at least two columns
own_first : (own : List (Bor (List ℕ))) → 2 ≤ length own → texts own ≡ text_at own 0 ∷ text_at own 1 ∷ texts (drop 2 own)
own_first (a ∷ b ∷ rest) le = refl
own_first (a ∷ []) le = absurd (omega arith)
own_first [] le = absurd (omega arith)

pub others_free : (own : List (Bor (List ℕ))) → 2 ≤ length own → HaveNoTab (texts own) → HaveNoTab (texts (drop 2 own))
others_free own le h = (subst (λ (ts : List (List ℕ)). HaveNoTab ts) (own_first own le) h).1.1

-- lines of members have two columns of their own at least
pub two_at_least : (shape : Shape) → shape.kind ≡ kind.Member → 2 ≤ length (own_columns shape)
two_at_least shape e = subst (λ (k : Kind). 2 ≤ length (own_columns (shape_with k shape.further))) (sym e) (omega arith)

pub members_count : (shape : Shape) → shape.kind ≡ kind.Member → length (own_columns shape) ≡ 2 + shape.further
members_count shape e =
    let own_are : own_columns shape ≡ ConceptReference ∷ ComponentReference ∷ replicate shape.further Any = ap (λ (k : Kind). own_columns (shape_with k shape.further)) e in
    let count : length (own_columns shape) ≡ length (ConceptReference ∷ ComponentReference ∷ replicate shape.further Any) = ap length own_are in
    omega (arith, length-replicate shape.further Any)

-- what a member's columns give is what all of them give
pub member_reading : (shape : Shape) (own : List (Bor (List ℕ))) (r : Result Body RowFault) → shape.kind ≡ kind.Member → length own ≡ length (own_columns shape)
    → MatchResult r (λ b. (kind_of_body b ≡ kind.Member) × IsBody b × (text_at own 0 ∷ text_at own 1 ∷ texts (drop 2 own) ≡ body_columns b))
    (IsLineFaultThat (FirstFault (ConceptReference ∷ ComponentReference ∷ replicate (length (drop 2 own)) Any) (text_at own 0 ∷ text_at own 1 ∷ texts (drop 2 own))))
    → MatchResult r (λ b. (kind_of_body b ≡ shape.kind) × IsBody b × (texts own ≡ body_columns b)) (IsLineFaultThat (FirstFault (own_columns shape) (texts own)))
member_reading shape own (Ok b) e many h = (h.0 ∙ sym e, h.1, own_first own (let le = two_at_least shape e in omega arith) ∙ h.2)
member_reading shape own (Err rowfault.OutOfMemory) e many h = tt
member_reading shape own (Err (rowfault.Line f)) e many h =
    let le = two_at_least shape e in
    let own_are : own_columns shape ≡ ConceptReference ∷ ComponentReference ∷ replicate shape.further Any = ap (λ (k : Kind). own_columns (shape_with k shape.further)) e in
    let count : length (own_columns shape) ≡ length (ConceptReference ∷ ComponentReference ∷ replicate shape.further Any) = ap length own_are in
    let further : shape.further ≡ length (drop 2 own) = omega (arith, length-replicate shape.further Any, length-drop 2 own) in
    subst (λ (cs : List Column). FirstFault cs (texts own) f) (sym (own_are ∙ ap (λ (n : ℕ). ConceptReference ∷ ComponentReference ∷ replicate n Any) further))
    (subst (λ (ts : List (List ℕ)). FirstFault (ConceptReference ∷ ComponentReference ∷ replicate (length (drop 2 own)) Any) ts f) (sym (own_first own (omega arith))) h)

-- ---- lines

pub given_map : (P Q : LineFault → Type 0) → ((f : LineFault) → P f → Q f) → (e : RowFault) → IsLineFaultThat P e → IsLineFaultThat Q e
given_map P Q g rowfault.OutOfMemory h = tt
given_map P Q g (rowfault.Line f) h = g f h

-- what the columns of a line give is what the line gives
pub line_reading : (shape : Shape) (text : List ℕ) (parts : List (List ℕ)) (r : Result RowValue RowFault) → length text ≤ line_limit → IsUtf8 text → text ≡ line_of parts → parts ≡ columns_of text
    → MatchResult r (λ v. HasShape shape v × IsVersion v × SpellsColumns v parts) (IsLineFaultThat (IsFaultOfColumns shape parts)) → IsLineReading shape text r
line_reading shape text parts (Ok v) short utf8 whole cut h = (h.0, record { is_row = h.1; columns = (parts, h.2, whole); short = short })
line_reading shape text parts (Err rowfault.OutOfMemory) short utf8 whole cut h = tt
line_reading shape text parts (Err (rowfault.Line f)) short utf8 whole cut h = inr (short, inr (utf8, subst (λ (ts : List (List ℕ)). IsFaultOfColumns shape ts f) cut h))

-- ---- a row from its columns

pub id_length : (kind : Kind) (n : ℕ) (text : List ℕ) → SpellsId kind n text → length (id_text kind n) ≡ length text
id_length kind.Concept n text s = sym (ap length s)
id_length kind.Description n text s = sym (ap length s)
id_length kind.Relationship n text s = sym (ap length s)
id_length kind.Association n text s = by_index_length 36 _ ∙ sym s.long
id_length kind.Concrete n text s = sym (ap length s)
id_length kind.Member n text s = by_index_length 36 _ ∙ sym s.long

-- what the columns of a line say has the shape of the line
pub shape_of_columns : (shape : Shape) (columns : List (Bor (List ℕ))) (id time : ℕ) (active : Bool) (m : ℕ) (body : Body) → length (drop 4 columns) ≡ length (own_columns shape)
    → kind_of_body body ≡ shape.kind → texts (drop 4 columns) ≡ body_columns body → HasShape shape (version id time active m body)
shape_of_columns shape columns id time active m body own same spells =
    let n = length-map (drop 4 columns) (λ (x : Bor (List ℕ)). x.now) in
    (same, sym (ap length spells) ∙ n ∙ own)

-- what the columns of a line say is a row, if the line is short
pub row_of_columns : (kind : Kind) (columns : List (Bor (List ℕ))) (id time : ℕ) (active : Bool) (m : ℕ) (body : Body) → 4 ≤ length columns
    → IsIdOf kind id → SpellsId kind id (text_at columns 0) → IsTime time → text_at columns 1 ≡ decimal time → text_at columns 2 ≡ flag active → IsConcept m → text_at columns 3 ≡ decimal m
    → kind_of_body body ≡ kind → IsBody body → texts (drop 4 columns) ≡ body_columns body → length (line_of (texts columns)) ≤ line_limit → IsVersion (version id time active m body)
row_of_columns kind columns id time active m body le is_id spells_id is_time spells_time spells_flag is_module spells_module same is_body spells_body short =
    let v = version id time active m body in
    let all : texts columns ≡ text_at columns 0 ∷ later_columns v = common_first columns le ∙ cc in
    let long : length (line_of (text_at columns 0 ∷ later_columns v)) ≤ line_limit = subst (λ (ts : List (List ℕ)). length (line_of ts) ≤ line_limit) all short in
    let first : length (id_text (kind_of_body body) id) ≡ length (text_at columns 0) = ap (λ (k : Kind). length (id_text k id)) same ∙ id_length kind id (text_at columns 0) spells_id in
    record {
      id = subst (λ (k : Kind). IsIdOf k id) (sym same) is_id;
      time = is_time;
      module_id = is_module;
      body = is_body;
      short = omega (arith, length-line (text_at columns 0) (later_columns v), length-line (id_text (kind_of_body body) id) (later_columns v));
    }
