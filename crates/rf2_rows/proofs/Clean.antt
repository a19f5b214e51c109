-- What may stand in a column is UTF-8, without TAB and LF; and so are lines, but for TAB.
use Rattle.std.proofs.Common.{◌≡◌, ◌≢◌, ℕ, ◌<◌, ◌≤◌, ◌^◌, true, false, eqb, List, [], ◌∷◌, get_or, refl, sym, subst, arith, All, inl, inr}
use Rattle.std.specs.Prelude.{decimal}
use Rattle.std.specs.Int.{IsInRange}
use Rattle.std.specs.List.{AllByRecursion}
use Rattle.std.specs.Str.{IsUtf8}
use Rattle.std.proofs.lemmas.Bool.{ne_eqb}
use Rattle.std.proofs.lemmas.List.Elements.{All-from_get_or, All-append, All-cons}
use Rattle.std.proofs.lemmas.Str.{IsUtf8-append, IsUtf8-nil, IsUtf8-from_ascii}
use Rattle.std.proofs.lemmas.Str.Ascii.{IsAscii-from_all}
use Rattle.std.proofs.lemmas.Str.Parse.{not_in_digits}
use Rattle.std.proofs.lemmas.Fmt.{digits_decimal}
use Rattle.rf2_values.specs.declared.row.Kind.TheVariants as kind
use Rattle.rf2_values.specs.Row.{line_of}
use Rattle.rf2_values.specs.Member.{IsMemberByte}
use Rattle.rf2_rows.specs.Line.{Column, Identifier, Time, Active, ConceptReference, ComponentReference, Number, Text, Any, MayStand}
use Rattle.rf2_rows.specs.Private.{AllStand}
use Rattle.rf2_values.proofs.Decimals.{own, decimal_is_utf8, time_below}
use Rattle.rf2_rows.proofs.Splits.{IsFree}

pub record IsClean (text : List ℕ) : Type 0 where
  pub no_tab : IsFree 9 text
  pub no_lf : IsFree 10 text
  pub utf8 : IsUtf8 text

pub decimal_is_free : (c n : ℕ) → (IsInRange 48 57 c → ⊥) → n < 2 ^ 64 → IsFree c (decimal n)
decimal_is_free c n out lt =
    All-from_get_or (λ b. eqb b c ≡ false) (decimal n) 0 (λ i l. ne_eqb _ c (not_in_digits own (decimal n) c (digits_decimal own n lt) out i l))

decimal_is_clean : (n : ℕ) (text : List ℕ) → n < 2 ^ 64 → text ≡ decimal n → IsClean text
decimal_is_clean n text lt e =
    subst IsClean (sym e) (record {
      no_tab = decimal_is_free 9 n (λ (h : IsInRange 48 57 9). absurd (omega arith)) lt;
      no_lf = decimal_is_free 10 n (λ (h : IsInRange 48 57 10). absurd (omega arith)) lt;
      utf8 = decimal_is_utf8 n lt;
    })

byte_is_utf8 : (b : ℕ) → b < 128 → IsUtf8 (b ∷ [])
byte_is_utf8 b lt = IsUtf8-from_ascii (b ∷ []) (IsAscii-from_all (b ∷ []) (All-cons (λ x. x < 128) b [] lt (λ k x l. absurd (omega arith))))

digit_is_clean : (d : ℕ) → 48 ≤ d → d ≤ 57 → IsClean (d ∷ [])
digit_is_clean d low high = record {
  no_tab = All-cons (λ b. eqb b 9 ≡ false) d [] (ne_eqb d 9 (λ (h : d ≡ 9). omega arith)) (λ k x l. absurd (omega arith));
  no_lf = All-cons (λ b. eqb b 10 ≡ false) d [] (ne_eqb d 10 (λ (h : d ≡ 10). omega arith)) (λ k x l. absurd (omega arith));
  utf8 = byte_is_utf8 d (omega arith);
}

free_from : (c : ℕ) (text : List ℕ) → All (λ b. b ≢ c) text → IsFree c text
free_from c text h = λ k d l. ne_eqb _ c (h k d l)

member_byte_below : (b : ℕ) → IsMemberByte b → (b < 128) × (32 < b)
member_byte_below b (inl h) = grind arith
member_byte_below b (inr h) = (omega arith, omega arith)

member_is_clean : (text : List ℕ) → All IsMemberByte text → IsClean text
member_is_clean text h = record {
  no_tab = λ k d l. ne_eqb _ 9 (λ (e : get_or text k d ≡ 9). let low = (member_byte_below (get_or text k d) (h k d l)).1 in omega arith);
  no_lf = λ k d l. ne_eqb _ 10 (λ (e : get_or text k d ≡ 10). let low = (member_byte_below (get_or text k d) (h k d l)).1 in omega arith);
  utf8 = IsUtf8-from_ascii text (IsAscii-from_all text (λ k d l. (member_byte_below (get_or text k d) (h k d l)).0));
}

pub stands_clean : (c : Column) (text : List ℕ) → MayStand c text → IsClean text
stands_clean (Identifier kind.Concept) text h = let high = h.1.sctid.high in decimal_is_clean h.0 text (omega arith) h.2
stands_clean (Identifier kind.Description) text h = let high = h.1.sctid.high in decimal_is_clean h.0 text (omega arith) h.2
stands_clean (Identifier kind.Relationship) text h = let high = h.1.sctid.high in decimal_is_clean h.0 text (omega arith) h.2
stands_clean (Identifier kind.Association) text h = member_is_clean text h.2.plain
stands_clean (Identifier kind.Member) text h = member_is_clean text h.2.plain
stands_clean (Identifier kind.Concrete) text h = let high = h.1.sctid.high in decimal_is_clean h.0 text (omega arith) h.2
stands_clean Time text h = decimal_is_clean h.0 text (time_below h.0 h.1) h.2
stands_clean Active text (false, e) = subst IsClean (sym e) (digit_is_clean 48 (omega arith) (omega arith))
stands_clean Active text (true, e) = subst IsClean (sym e) (digit_is_clean 49 (omega arith) (omega arith))
stands_clean ConceptReference text h = let high = h.1.sctid.high in decimal_is_clean h.0 text (omega arith) h.2
stands_clean ComponentReference text h = let high = h.1.sctid.high in decimal_is_clean h.0 text (omega arith) h.2
stands_clean Number text h = let high = h.1 in decimal_is_clean h.0 text (omega arith) h.2
stands_clean Text text h = record { no_tab = free_from 9 text h.no_tab; no_lf = free_from 10 text h.no_lf; utf8 = h.utf8 }
stands_clean Any text h = record { no_tab = free_from 9 text h.no_tab; no_lf = free_from 10 text h.no_lf; utf8 = h.utf8 }

pub all_clean : (columns : List Column) (texts : List (List ℕ)) → AllStand columns texts → AllByRecursion IsClean texts
all_clean [] [] h = tt
all_clean [] (t ∷ ts) h = absurd h
all_clean (c ∷ cs) [] h = absurd h
all_clean (c ∷ cs) (t ∷ ts) h = (stands_clean c t h.0, all_clean cs ts h.1)

pub all_no_tab : (texts : List (List ℕ)) → AllByRecursion IsClean texts → AllByRecursion (IsFree 9) texts
all_no_tab [] h = tt
all_no_tab (t ∷ ts) h = (h.0.no_tab, all_no_tab ts h.1)

pub line_is_utf8 : (texts : List (List ℕ)) → AllByRecursion IsClean texts → IsUtf8 (line_of texts)
line_is_utf8 [] h = IsUtf8-nil
line_is_utf8 (t ∷ []) h = h.0.utf8
line_is_utf8 (t ∷ u ∷ us) h = IsUtf8-append t (9 ∷ line_of (u ∷ us)) h.0.utf8 (IsUtf8-append (9 ∷ []) (line_of (u ∷ us)) (byte_is_utf8 9 (omega arith)) (line_is_utf8 (u ∷ us) h.1))

pub line_no_lf : (texts : List (List ℕ)) → AllByRecursion IsClean texts → IsFree 10 (line_of texts)
line_no_lf [] h = λ k x l. absurd (omega arith)
line_no_lf (t ∷ []) h = h.0.no_lf
line_no_lf (t ∷ u ∷ us) h = All-append (λ b. eqb b 10 ≡ false) t (9 ∷ line_of (u ∷ us)) h.0.no_lf (All-cons (λ b. eqb b 10 ≡ false) 9 (line_of (u ∷ us)) refl (line_no_lf (u ∷ us) h.1))
