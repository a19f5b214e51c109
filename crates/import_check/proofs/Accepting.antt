-- A release is accepted where it has no contradictions, and else it has one.
use Rattle.std.proofs.Common.{◌≡◌, ℕ, ◌+◌, Bool, true, false, List, [], ◌∷◌, ◌++◌, length, take, refl, sym, ap, subst, inl, inr, ◌∙◌, ◌-◌, append_assoc, append-nil, arith, length-take}
use Rattle.std.proofs.lemmas.List.{nil_from_length}
use Rattle.rf2_values.specs.declared.key.Key.{Key}
use Rattle.rf2_values.specs.Row.{RowValue}
use Rattle.rf2_values.specs.Key.{key_of}
use Rattle.history_model.specs.InOrder.{Has}
use Rattle.history_model.specs.History.{IsConsistent}
use Rattle.history_model.proofs.InOrder.{Has-append_left, Has-append_right, Has-append_cases}
use Rattle.history_model.proofs.Filtered.{Has-map, Has-map_from}
use Rattle.import_check.specs.declared.release.PlacedLine.{PlacedLine}
use Rattle.import_check.specs.declared.contradicting.OtherRow.{OtherRow}
use Rattle.import_check.specs.declared.contradicting.OtherRow.TheVariants as others
use Rattle.import_check.specs.declared.contradicting.ContradictingLine.{ContradictingLine}
use Rattle.import_check.specs.declared.contradicting.Contradictions.{Contradictions}
use Rattle.import_check.specs.Known.{IsUnknown, has_key}
use Rattle.import_check.specs.Release.{IsFirstContradiction, placed_lines, rows_of, row_of}
use Rattle.import_check.specs.Contradictions.{CountsForKey, IsContradiction}
use Rattle.import_check.specs.Laws.{AcceptedHasNone}
use Rattle.import_check.proofs.Asking.{has_from, no_key}
use Rattle.import_check.proofs.Deciding.{same_or_other_key, consistent_or_not}
use Rattle.import_check.proofs.Receipts.{one_list}
use Rattle.import_check.proofs.Uniting.{rows-files}

-- ---- a row that counts is known or stands in the release

line_there : (lines : List PlacedLine) (line : PlacedLine) → Has lines line → Has (rows_of lines) line.row
line_there lines line h = Has-map_from (λ (l : PlacedLine). l.row) lines line h

counts_there : (known : List RowValue) (lines : List PlacedLine) (o : OtherRow) → CountsForKey known lines o → Has (known ++ rows_of lines) (row_of o)
counts_there known lines (others.Known row) is = Has-append_left known (rows_of lines) row is
counts_there known lines (others.Line first) (before, after, lines_are, unknown) =
    Has-append_right known (rows_of lines) first.row (line_there lines first (subst (λ ls. Has ls first) (sym lines_are) (Has-append_right before (first ∷ after) first (inl refl))))

none_contradicts : (known : List RowValue) (lines : List PlacedLine) (c : ContradictingLine) → IsConsistent (known ++ rows_of lines) → IsContradiction known lines c → ⊥
none_contradicts known lines c consistent is =
    is.differs (consistent (row_of c.other) c.line.row (counts_there known lines c.other is.counts) (Has-append_right known (rows_of lines) c.line.row (line_there lines c.line is.there)) is.same_key)

-- ---- the first line with a key

more_unknown : (known : List RowValue) (done : List PlacedLine) (b : PlacedLine) (key : Key) → IsUnknown (known ++ rows_of done) key → (key_of b.row ≡ key → ⊥) → IsUnknown (known ++ rows_of (done ++ b ∷ [])) key
more_unknown known done b key unknown other row h same = elim (Has-append_cases known (rows_of (done ++ b ∷ [])) row h) [
  | inl old ↦ unknown row (Has-append_left known (rows_of done) row old) same
  | inr new ↦
      let m = Has-map (λ (l : PlacedLine). l.row) (done ++ b ∷ []) row new in
      elim (Has-append_cases done (b ∷ []) m.0 m.1) [
        | inl d ↦ unknown m.0.row (Has-append_right known (rows_of done) m.0.row (line_there done m.0 d)) (ap key_of m.2 ∙ same)
        | inr t ↦ elim t [ inl e ↦ other (ap (λ (l : PlacedLine). key_of l.row) e ∙ ap key_of m.2 ∙ same) | inr n ↦ absurd n ]
      ]
]

-- a line is the first with the key, and what stands before it
record IsFirst (known : List RowValue) (lines before : List PlacedLine) (key : Key) : Type 0 where
  pub first : PlacedLine
  pub there : Has before first
  pub same : key_of first.row ≡ key
  pub ahead : List PlacedLine
  pub behind : List PlacedLine
  pub lines_are : lines ≡ ahead ++ first ∷ behind
  pub unknown : IsUnknown (known ++ rows_of ahead) key

first_of : (known : List RowValue) (lines done before rest : List PlacedLine) (key : Key) (row : RowValue) → lines ≡ done ++ (before ++ rest) → IsUnknown (known ++ rows_of done) key → Has (rows_of before) row → key_of row ≡ key → IsFirst known lines before key
first_of known lines done [] rest key row e unknown h same = absurd h
first_of known lines done (b ∷ bs) rest key row e unknown h same = elim (same_or_other_key (key_of b.row) key) [
  | inl is ↦ record { first = b; there = inl refl; same = is; ahead = done; behind = bs ++ rest; lines_are = e; unknown = unknown }
  | inr other ↦ elim h [
    | inl same_row ↦ absurd (other (ap key_of same_row ∙ same))
    | inr t ↦
        let f = first_of known lines (done ++ b ∷ []) bs rest key row (e ∙ sym (append_assoc done (b ∷ []) (bs ++ rest))) (more_unknown known done b key unknown other) t same in
        record { first = f.first; there = inr f.there; same = f.same; ahead = f.ahead; behind = f.behind; lines_are = f.lines_are; unknown = f.unknown }
  ]
]

-- ---- a first contradiction is one of them

module _ (known : List RowValue) (lines : List PlacedLine) (file line : ℕ) (key : Key) (f : IsFirstContradiction known lines file line key) where
  counting : (b : Bool) → has_key known (key_of f.other) ≡ b → (o : OtherRow) × CountsForKey known lines o × (row_of o ≡ f.other)
  counting true e =
      let r = has_from known (key_of f.other) e in
      (others.Known r.0, r.1, f.consistent r.0 f.other (Has-append_left known (rows_of f.before) r.0 r.1) f.stands r.2)
  counting false e =
      let unknown = no_key known (key_of f.other) e in
      elim (Has-append_cases known (rows_of f.before) f.other f.stands) [
        | inl old ↦ absurd (unknown f.other old refl)
        | inr new ↦
            let none : IsUnknown (known ++ rows_of []) (key_of f.other) = λ row h same. elim (Has-append_cases known [] row h) [ inl k ↦ unknown row k same | inr n ↦ absurd n ] in
            let first = first_of known lines [] f.before (f.contradicting ∷ f.after) (key_of f.other) f.other f.lines_are none new refl in
            let is = f.consistent first.first.row f.other (Has-append_right known (rows_of f.before) first.first.row (line_there f.before first.first first.there)) f.stands first.same in
            (others.Line first.first, (first.ahead, first.behind, first.lines_are, subst (λ k. IsUnknown (known ++ rows_of first.ahead) k) (sym first.same) first.unknown), is)
      ]

  first_is_one : (c : ContradictingLine) × IsContradiction known lines c
  first_is_one =
      let o = counting (has_key known (key_of f.other)) refl in (
        record { line = f.contradicting; other = o.0 },
        record {
          there = subst (λ ls. Has ls f.contradicting) (sym f.lines_are) (Has-append_right f.before (f.contradicting ∷ f.after) f.contradicting (inl refl));
          counts = o.1;
          same_key = ap key_of o.2 ∙ f.same_key;
          differs = λ same. f.differs (sym o.2 ∙ same);
        },
      )

-- ---- none is listed and none counted where there is none

counted : (limit : ℕ) (all : List ContradictingLine) (found : Contradictions) → found.listed.items ≡ take limit all → found.further ≡ length all - limit → length found.listed.items + found.further ≡ length all
counted limit all found listed further = omega (arith, ap length listed, length-take limit all, further)

pub accepted_has_none : AcceptedHasNone
accepted_has_none known release limit found consistent is = (
  λ accepted.
      let same : rows_of (placed_lines is.lists) ≡ accepted.rows = one_list release (rows_of (placed_lines is.lists)) accepted.rows (record { lists = is.lists; spelled = is.spelled; rows_are = rows-files 1 is.lists }) accepted.is_release in
      let all_agree : IsConsistent (known ++ rows_of (placed_lines is.lists)) = subst (λ rows. IsConsistent (known ++ rows)) (sym same) accepted.consistent in
      counted limit is.all found is.listed is.further ∙ none is.all (λ c h. none_contradicts known (placed_lines is.lists) c all_agree ((is.each c).0 h)),
  λ zero.
      let no_one = nil_from_length is.all (sym (counted limit is.all found is.listed is.further) ∙ zero) in
      elim (consistent_or_not known [] (placed_lines is.lists) (subst IsConsistent (sym (append-nil known)) consistent)) [
        | inl agree ↦ record { rows = rows_of (placed_lines is.lists); is_release = record { lists = is.lists; spelled = is.spelled; rows_are = rows-files 1 is.lists }; consistent = agree }
        | inr (file, line, key, first) ↦
            let c = first_is_one known (placed_lines is.lists) file line key first in
            absurd (subst (λ l. Has l c.0) no_one ((is.each c.0).1 c.1))
      ],
) where
  none : (all : List ContradictingLine) → ((c : ContradictingLine) → Has all c → ⊥) → length all ≡ 0
  none [] never = refl
  none (c ∷ all) never = absurd (never c (inl refl))
