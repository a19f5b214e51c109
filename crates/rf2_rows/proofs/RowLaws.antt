-- A text that spells a row has no fault, and spells no other row of its kind.
use Rattle.std.proofs.Common.{◌≡◌, ℕ, Some, ◌<◌, ◌^◌, Bool, true, false, zero, suc, List, [], ◌∷◌, ◌++◌, length, get_or, refl, sym, ap, subst, ◌∙◌, inl, inr, arith, append_assoc}
use Rattle.std.specs.Prelude.{decimal, replicate}
use Rattle.std.specs.List.{AllByRecursion}
use Rattle.std.proofs.lemmas.List.{append-nil, length-replicate}
use Rattle.std.specs.Str.{IsUtf8}
use Rattle.std.proofs.lemmas.Fmt.{decimal_injective}
use Rattle.rf2_values.specs.declared.row.Kind.{Kind}
use Rattle.rf2_values.specs.declared.row.Kind.TheVariants as kind
use Rattle.rf2_values.specs.declared.row.Body.{Body}
use Rattle.rf2_values.specs.declared.row.Body.TheVariants as body
use Rattle.rf2_rows.specs.declared.fault.LineFault.{LineFault}
use Rattle.rf2_values.specs.declared.row.RefsetMember.{RefsetMember}
use Rattle.rf2_values.specs.Member.{member_text}
use Rattle.rf2_values.specs.Text.{IsColumn, further_columns}
use Rattle.rf2_values.specs.Private.{tabbed}
use Rattle.rf2_values.specs.Row.{RowValue, IsVersion, IsBody, IsConcept, IsComponent, IsIdOf, Spells, SpellsColumns, SpellsId, id_text, canonical, later_columns, body_columns, kind_of, kind_of_body, flag, line_of}
use Rattle.rf2_rows.specs.declared.shape.Shape.{Shape}
use Rattle.rf2_rows.specs.Line.{Column, Identifier, Time, Active, ConceptReference, ComponentReference, Number, Text, Any, MayStand, HasFault, FirstFault, columns, own_columns, columns_of, HasShape, IsFaultOf}
use Rattle.rf2_rows.specs.File.{shape_with}
use Rattle.rf2_rows.specs.Private.{AllStand}
use Rattle.std.specs.Int.{from_be_bytes, w128}
use Rattle.list_lemmas.proofs.Parts.{same_first_and_rest}
use Rattle.rf2_values.proofs.Ids.{same_ids}
use Rattle.rf2_values.proofs.Members.{member_text_spells}
use Rattle.rf2_values.proofs.FurtherColumns.{tabbed_line, tabbed_further, each_is_column}
use Rattle.rf2_values.proofs.Decimals.{time_below}
use Rattle.rf2_rows.proofs.Splits.{split-joined}
use Rattle.rf2_rows.proofs.Clean.{all_clean, all_no_tab, line_is_utf8}

-- ---- no fault

pub no_fault : (c : Column) (t : List ℕ) (f : LineFault) → MayStand c t → HasFault c t f → ⊥
no_fault (Identifier kind.Concept) t f h (inl fault) = fault.0 (h.0, h.1.sctid, h.2)
no_fault (Identifier kind.Concept) t f h (inr fault) = fault.1 h
no_fault (Identifier kind.Description) t f h (inl fault) = fault.0 (h.0, h.1.sctid, h.2)
no_fault (Identifier kind.Description) t f h (inr fault) = fault.1 h
no_fault (Identifier kind.Relationship) t f h (inl fault) = fault.0 (h.0, h.1.sctid, h.2)
no_fault (Identifier kind.Relationship) t f h (inr fault) = fault.1 h
no_fault (Identifier kind.Association) t f h fault = fault.0 h
no_fault (Identifier kind.Member) t f h fault = fault.0 h
no_fault (Identifier kind.Concrete) t f h (inl fault) = fault.0 (h.0, h.1.sctid, h.2)
no_fault (Identifier kind.Concrete) t f h (inr fault) = fault.1 h
no_fault Time t f h fault = fault.0 h
no_fault Active t f h fault = fault.0 h
no_fault ConceptReference t f h fault = fault.0 h
no_fault ComponentReference t f h fault = fault.0 h
no_fault Number t f h fault = fault.0 h
no_fault Text t f h fault = fault.0 h
no_fault Any t f h fault = fault.0 h

no_first_fault : (cs : List Column) (ts : List (List ℕ)) (f : LineFault) → AllStand cs ts → FirstFault cs ts f → ⊥
unfolding FirstFault
no_first_fault [] ts f stand h = h
no_first_fault (c ∷ cs) [] f stand h = h
no_first_fault (c ∷ cs) (t ∷ ts) f stand (inl h) = no_fault c t f stand.0 h
no_first_fault (c ∷ cs) (t ∷ ts) f stand (inr h) = no_first_fault cs ts f stand.1 h.1

-- what may stand in columns of any meaning
any_stand : (ts : List (List ℕ)) (n : ℕ) → length ts ≡ n → AllByRecursion IsColumn ts → AllStand (replicate n Any) ts
any_stand [] zero e h = tt
any_stand [] (suc n) e h = absurd (omega arith)
any_stand (t ∷ ts) zero e h = absurd (omega arith)
any_stand (t ∷ ts) (suc n) e h = (h.0, any_stand ts n (omega arith) h.1)

own_stand : (b : Body) (n : ℕ) → length (body_columns b) ≡ length (own_columns (shape_with (kind_of_body b) n)) → IsBody b → AllStand (own_columns (shape_with (kind_of_body b) n)) (body_columns b)
own_stand (body.Concept c) n e h = ((c.definition_status, h, refl), tt)
own_stand (body.Description d) n e h = ((d.concept, h.0, refl), (h.1, ((d.type_id, h.2, refl), (h.3, ((d.case_significance, h.4, refl), tt)))))
own_stand (body.Relationship r) n e h = ((r.source, h.0, refl), ((r.destination, h.1, refl), ((r.group, h.2, refl), ((r.type_id, h.3, refl), ((r.characteristic_type, h.4, refl), ((r.modifier, h.5, refl), tt))))))
own_stand (body.Association a) n e h = ((a.refset, h.0, refl), ((a.referenced, h.1, refl), ((a.target, h.2, refl), tt)))
own_stand (body.Concrete c) n e h = ((c.source, h.0, refl), (h.1, ((c.group, h.2, refl), ((c.type_id, h.3, refl), ((c.characteristic_type, h.4, refl), ((c.modifier, h.5, refl), tt))))))
own_stand (body.Member m) n e h =
    let count = length-replicate n Any in
    ((m.refset, h.0, refl), ((m.referenced, h.1, refl), any_stand (further_columns m.further) n (omega arith) (each_is_column m.further h.2)))

-- the columns of a row may stand where they stand
pub columns_stand : (shape : Shape) (v : RowValue) (texts : List (List ℕ)) → HasShape shape v → IsVersion v → SpellsColumns v texts → AllStand (columns shape) texts
columns_stand shape v texts has h s =
    let many : length (body_columns v.body) ≡ length (own_columns (shape_with (kind_of v) shape.further)) = subst (λ (k : Kind). length (body_columns v.body) ≡ length (own_columns (shape_with k shape.further))) (sym has.0) has.1 in
    let stand : AllStand (columns (shape_with (kind_of v) shape.further)) (s.0 ∷ later_columns v) = ((v.id, h.id, s.1), ((v.time, h.time, refl), ((v.active, refl), ((v.module_id, h.module_id, refl), own_stand v.body shape.further many h.body)))) in
    subst (λ (ts : List (List ℕ)). AllStand (columns shape) ts) (sym s.2) (subst (λ (k : Kind). AllStand (columns (shape_with k shape.further)) (s.0 ∷ later_columns v)) has.0 stand)

-- the shape that a row has
further_count : Body → ℕ
further_count (body.Member m) = length (further_columns m.further)
further_count _ = 0

own_count : (b : Body) → length (body_columns b) ≡ length (own_columns (shape_with (kind_of_body b) (further_count b)))
unfolding further_count
own_count (body.Concept c) = refl
own_count (body.Description d) = refl
own_count (body.Relationship r) = refl
own_count (body.Association a) = refl
own_count (body.Concrete c) = refl
own_count (body.Member m) = let count = length-replicate (length (further_columns m.further)) Any in omega arith

pub shape_of : RowValue → Shape
shape_of v = shape_with (kind_of v) (further_count v.body)

pub has_own_shape : (v : RowValue) → HasShape (shape_of v) v
unfolding shape_of
has_own_shape v = (refl, own_count v.body)

pub columns_len : (cs : List Column) (ts : List (List ℕ)) → AllStand cs ts → length ts ≡ length cs
columns_len [] [] h = refl
columns_len [] (t ∷ ts) h = absurd h
columns_len (c ∷ cs) [] h = absurd h
columns_len (c ∷ cs) (t ∷ ts) h = ap suc (columns_len cs ts h.1)

-- what a line that spells a row holds between its TABs
columns_cut : (shape : Shape) (texts : List (List ℕ)) → AllStand (columns shape) texts → columns_of (line_of texts) ≡ texts
columns_cut shape [] h = absurd h
columns_cut shape (t ∷ ts) h = let free = all_no_tab (t ∷ ts) (all_clean (columns shape) (t ∷ ts) h) in split-joined 9 t ts free.0 free.1

pub spelled_has_no_fault : (shape : Shape) (v : RowValue) (text : List ℕ) (f : LineFault) → HasShape shape v → Spells v text → IsFaultOf shape text f → ⊥
spelled_has_no_fault shape v text f has s (inl long) = let short = s.short in omega arith
spelled_has_no_fault shape v text f has s (inr other) =
    let texts = s.columns.0 in
    let stand = columns_stand shape v texts has s.is_row s.columns.1 in
    let cut : columns_of text ≡ texts = ap columns_of s.columns.2 ∙ columns_cut shape texts stand in
    elim other.1 [
      | inl bad ↦ bad.0 (subst IsUtf8 (sym s.columns.2) (line_is_utf8 texts (all_clean (columns shape) texts stand)))
      | inr good ↦
          elim good.1 [
            | inl count ↦ count.0 (ap length cut ∙ columns_len (columns shape) texts stand)
            | inr first ↦ no_first_fault (columns shape) texts f stand (subst (λ (ts : List (List ℕ)). FirstFault (columns shape) ts f) cut first.1)
          ]
    ]

-- ---- one row

same_decimals : (m n : ℕ) → m < 2 ^ 64 → n < 2 ^ 64 → (ms ns : List (List ℕ)) → decimal m ∷ ms ≡ decimal n ∷ ns → (m ≡ n) × (ms ≡ ns)
same_decimals m n lt lt' ms ns e =
    let heads : decimal m ≡ decimal n = cc in
    (decimal_injective m n lt lt' heads, cc)

same_flags : (a b : Bool) (ms ns : List (List ℕ)) → flag a ∷ ms ≡ flag b ∷ ns → (a ≡ b) × (ms ≡ ns)
same_flags false false ms ns e = (refl, cc)
same_flags true true ms ns e = (refl, cc)
same_flags false true ms ns e = let digits : ◌≡◌ {A = ℕ} 48 49 = ap (λ (ts : List (List ℕ)). get_or (get_or ts 0 []) 0 0) e in absurd (omega arith)
same_flags true false ms ns e = let digits : ◌≡◌ {A = ℕ} 49 48 = ap (λ (ts : List (List ℕ)). get_or (get_or ts 0 []) 0 0) e in absurd (omega arith)

same_components : (m n : ℕ) → IsComponent m → IsComponent n → (ms ns : List (List ℕ)) → decimal m ∷ ms ≡ decimal n ∷ ns → (m ≡ n) × (ms ≡ ns)
same_components m n hm hn ms ns e =
    let low = hm.sctid.high in
    let high = hn.sctid.high in
    same_decimals m n (omega arith) (omega arith) ms ns e

same_concepts : (m n : ℕ) → IsConcept m → IsConcept n → (ms ns : List (List ℕ)) → decimal m ∷ ms ≡ decimal n ∷ ns → (m ≡ n) × (ms ≡ ns)
same_concepts m n hm hn ms ns e =
    let low = hm.sctid.high in
    let high = hn.sctid.high in
    same_decimals m n (omega arith) (omega arith) ms ns e

same_bodies : (a b : Body) → IsBody a → IsBody b → kind_of_body a ≡ kind_of_body b → body_columns a ≡ body_columns b → a ≡ b
same_bodies (body.Concept a) (body.Concept b) ha hb k e =
    let low = ha.sctid.high in
    let high = hb.sctid.high in
    let status = (same_decimals a.definition_status b.definition_status (omega arith) (omega arith) [] [] e).0 in
    ap (λ (n : ℕ). body.Concept (record { definition_status = n })) status
same_bodies (body.Description a) (body.Description b) ha hb k e =
    let concept = same_concepts a.concept b.concept ha.0 hb.0 _ _ e in
    let language = same_first_and_rest a.language_code b.language_code _ _ concept.1 in
    let type_id = same_concepts a.type_id b.type_id ha.2 hb.2 _ _ language.1 in
    let term = same_first_and_rest a.term b.term _ _ type_id.1 in
    let significance = same_concepts a.case_significance b.case_significance ha.4 hb.4 _ _ term.1 in
    let made : ℕ → List ℕ → ℕ → List ℕ → ℕ → Body = λ c l t m s. body.Description (record { concept = c; language_code = l; type_id = t; term = m; case_significance = s }) in
    ap (λ c. made c a.language_code a.type_id a.term a.case_significance) concept.0 ∙ ap (λ l. made b.concept l a.type_id a.term a.case_significance) language.0 ∙ ap (λ t. made b.concept b.language_code t a.term a.case_significance) type_id.0 ∙ ap (λ m. made b.concept b.language_code b.type_id m a.case_significance) term.0 ∙ ap (λ s. made b.concept b.language_code b.type_id b.term s) significance.0
same_bodies (body.Relationship a) (body.Relationship b) ha hb k e =
    let source = same_concepts a.source b.source ha.0 hb.0 _ _ e in
    let destination = same_concepts a.destination b.destination ha.1 hb.1 _ _ source.1 in
    let low = ha.2 in
    let high = hb.2 in
    let group = same_decimals a.group b.group (omega arith) (omega arith) _ _ destination.1 in
    let type_id = same_concepts a.type_id b.type_id ha.3 hb.3 _ _ group.1 in
    let characteristic = same_concepts a.characteristic_type b.characteristic_type ha.4 hb.4 _ _ type_id.1 in
    let modifier = same_concepts a.modifier b.modifier ha.5 hb.5 _ _ characteristic.1 in
    let made : ℕ → ℕ → ℕ → ℕ → ℕ → ℕ → Body = λ s d g t c m. body.Relationship (record { source = s; destination = d; group = g; type_id = t; characteristic_type = c; modifier = m }) in
    ap (λ s. made s a.destination a.group a.type_id a.characteristic_type a.modifier) source.0 ∙ ap (λ d. made b.source d a.group a.type_id a.characteristic_type a.modifier) destination.0 ∙ ap (λ g. made b.source b.destination g a.type_id a.characteristic_type a.modifier) group.0 ∙ ap (λ t. made b.source b.destination b.group t a.characteristic_type a.modifier) type_id.0 ∙ ap (λ c. made b.source b.destination b.group b.type_id c a.modifier) characteristic.0 ∙ ap (λ m. made b.source b.destination b.group b.type_id b.characteristic_type m) modifier.0
same_bodies (body.Association a) (body.Association b) ha hb k e =
    let refset = same_concepts a.refset b.refset ha.0 hb.0 _ _ e in
    let referenced = same_components a.referenced b.referenced ha.1 hb.1 _ _ refset.1 in
    let target = same_components a.target b.target ha.2 hb.2 _ _ referenced.1 in
    let made : ℕ → ℕ → ℕ → Body = λ s r t. body.Association (record { refset = s; referenced = r; target = t }) in
    ap (λ s. made s a.referenced a.target) refset.0 ∙ ap (λ r. made b.refset r a.target) referenced.0 ∙ ap (λ t. made b.refset b.referenced t) target.0
same_bodies (body.Concrete a) (body.Concrete b) ha hb k e =
    let source = same_concepts a.source b.source ha.0 hb.0 _ _ e in
    let value = same_first_and_rest a.value b.value _ _ source.1 in
    let low = ha.2 in
    let high = hb.2 in
    let group = same_decimals a.group b.group (omega arith) (omega arith) _ _ value.1 in
    let type_id = same_concepts a.type_id b.type_id ha.3 hb.3 _ _ group.1 in
    let characteristic = same_concepts a.characteristic_type b.characteristic_type ha.4 hb.4 _ _ type_id.1 in
    let modifier = same_concepts a.modifier b.modifier ha.5 hb.5 _ _ characteristic.1 in
    let made : ℕ → List ℕ → ℕ → ℕ → ℕ → ℕ → Body = λ s v g t c m. body.Concrete (record { source = s; value = v; group = g; type_id = t; characteristic_type = c; modifier = m }) in
    ap (λ s. made s a.value a.group a.type_id a.characteristic_type a.modifier) source.0 ∙ ap (λ v. made b.source v a.group a.type_id a.characteristic_type a.modifier) value.0 ∙ ap (λ g. made b.source b.value g a.type_id a.characteristic_type a.modifier) group.0 ∙ ap (λ t. made b.source b.value b.group t a.characteristic_type a.modifier) type_id.0 ∙ ap (λ c. made b.source b.value b.group b.type_id c a.modifier) characteristic.0 ∙ ap (λ m. made b.source b.value b.group b.type_id b.characteristic_type m) modifier.0
same_bodies (body.Member a) (body.Member b) ha hb k e =
    let refset = same_concepts a.refset b.refset ha.0 hb.0 _ _ e in
    let referenced = same_components a.referenced b.referenced ha.1 hb.1 _ _ refset.1 in
    let further : a.further ≡ b.further = sym (tabbed_further a.further ha.2) ∙ ap (λ (ts : List (List ℕ)). tabbed ts) referenced.1 ∙ tabbed_further b.further hb.2 in
    let made : ℕ → ℕ → List ℕ → Body = λ s r f. body.Member (record { refset = s; referenced = r; further = f }) in
    ap (λ s. made s a.referenced a.further) refset.0 ∙ ap (λ r. made b.refset r a.further) referenced.0 ∙ ap (λ f. made b.refset b.referenced f) further
same_bodies a b ha hb k e = absurd cc

same_versions : (v w : RowValue) → v.id ≡ w.id → v.time ≡ w.time → v.active ≡ w.active → v.module_id ≡ w.module_id → v.body ≡ w.body → v ≡ w
same_versions v w id time active modul body =
    let P : ℕ → ℕ → Bool → ℕ → Body → Type 0 = λ i t a m b. v ≡ record { id = i; time = t; active = a; module_id = m; body = b } in
    subst (λ i. P i w.time w.active w.module_id w.body) id (subst (λ t. P v.id t w.active w.module_id w.body) time (subst (λ a. P v.id v.time a w.module_id w.body) active (subst (λ m. P v.id v.time v.active m w.body) modul (subst (λ b. P v.id v.time v.active v.module_id b) body refl))))

pub spells_one_row : (v w : RowValue) (text : List ℕ) → kind_of v ≡ kind_of w → Spells v text → Spells w text → v ≡ w
spells_one_row v w text k s t =
    let a = columns_stand (shape_of v) v s.columns.0 (has_own_shape v) s.is_row s.columns.1 in
    let b = columns_stand (shape_of w) w t.columns.0 (has_own_shape w) t.is_row t.columns.1 in
    let cut_v : columns_of text ≡ s.columns.0 = ap columns_of s.columns.2 ∙ columns_cut (shape_of v) s.columns.0 a in
    let cut_w : columns_of text ≡ t.columns.0 = ap columns_of t.columns.2 ∙ columns_cut (shape_of w) t.columns.0 b in
    let all : s.columns.1.0 ∷ later_columns v ≡ t.columns.1.0 ∷ later_columns w = sym s.columns.1.2 ∙ sym cut_v ∙ cut_w ∙ t.columns.1.2 in
    let id_text_same : s.columns.1.0 ≡ t.columns.1.0 = cc in
    let later : later_columns v ≡ later_columns w = cc in
    let id : v.id ≡ w.id = same_ids (kind_of v) v.id w.id s.columns.1.0 s.is_row.id (subst (λ (x : Kind). IsIdOf x w.id) (sym k) t.is_row.id) s.columns.1.1
    (subst (λ (x : Kind). SpellsId x w.id s.columns.1.0) (sym k) (subst (λ (x : List ℕ). SpellsId (kind_of w) w.id x) (sym id_text_same) t.columns.1.1)) in
    let time = same_decimals v.time w.time (time_below v.time s.is_row.time) (time_below w.time t.is_row.time) _ _ later in
    let active = same_flags v.active w.active _ _ time.1 in
    let low = s.is_row.module_id.sctid.high in
    let high = t.is_row.module_id.sctid.high in
    let modul = same_decimals v.module_id w.module_id (omega arith) (omega arith) (body_columns v.body) (body_columns w.body) active.1 in
    let bodies = same_bodies v.body w.body s.is_row.body t.is_row.body k modul.1 in
    same_versions v w id time.0 active.0 modul.0 bodies

-- ---- the canonical spelling

pub canonical_spells : (v : RowValue) → IsVersion v → Spells v (canonical v)
canonical_spells v h = record { is_row = h; columns = (id_text (kind_of v) v.id ∷ later_columns v, (id_text (kind_of v) v.id, canonical_id (kind_of v) v.id h.id, refl), refl); short = h.short }
  where
    canonical_id : (k : Kind) (n : ℕ) → IsIdOf k n → SpellsId k n (id_text k n)
    canonical_id kind.Concept n h = refl
    canonical_id kind.Description n h = refl
    canonical_id kind.Relationship n h = refl
    canonical_id kind.Association n h = member_text_spells n h
    canonical_id kind.Concrete n h = refl
    canonical_id kind.Member n h = member_text_spells n h

-- columns of a known meaning, and others behind them
pub joined : (u : List ℕ) (us ts : List (List ℕ)) → line_of (u ∷ us ++ ts) ≡ line_of (u ∷ us) ++ tabbed ts
joined u [] [] = sym (append-nil u)
joined u [] (t ∷ ts) = ap (λ (x : List ℕ). u ++ x) (sym (tabbed_line t ts))
joined u (x ∷ xs) ts = ap (λ (rest : List ℕ). u ++ 9 ∷ rest) (joined x xs ts) ∙ sym (append_assoc u (9 ∷ line_of (x ∷ xs)) (tabbed ts))

pub member_keeps_its_bytes : (v : RowValue) (m : RefsetMember) → IsVersion v → v.body ≡ body.Member m
    → canonical v ≡ line_of (member_text v.id ∷ decimal v.time ∷ flag v.active ∷ decimal v.module_id ∷ decimal m.refset ∷ decimal m.referenced ∷ []) ++ m.further
member_keeps_its_bytes v m h e =
    let is_further = (subst IsBody e h.body).2 in
    let whole : canonical v ≡ line_of (member_text v.id ∷ decimal v.time ∷ flag v.active ∷ decimal v.module_id ∷ body_columns (body.Member m)) =
    ap (λ (b : Body). line_of (id_text (kind_of_body b) v.id ∷ decimal v.time ∷ flag v.active ∷ decimal v.module_id ∷ body_columns b)) e in
    whole
    ∙ joined (member_text v.id) (decimal v.time ∷ flag v.active ∷ decimal v.module_id ∷ decimal m.refset ∷ decimal m.referenced ∷ []) (further_columns m.further)
    ∙ ap (λ (x : List ℕ). line_of (member_text v.id ∷ decimal v.time ∷ flag v.active ∷ decimal v.module_id ∷ decimal m.refset ∷ decimal m.referenced ∷ []) ++ x) (tabbed_further m.further is_further)
