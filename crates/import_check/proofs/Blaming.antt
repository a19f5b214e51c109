-- Which lines are taken for contradictions, whatever rows are returned for known keys.
use Rattle.std.proofs.Common.{◌≡◌, ◌≢◌, ◌⊎◌, ℕ, List, [], ◌∷◌, ◌++◌, refl, sym, ap, subst, inl, inr, ◌∙◌}
use Rattle.std.specs.Prelude.{Option, Some, None, MatchOption, IfSome, IsSomeAnd, Result, Ok, Err, IfOk, IfErr, IsOkAnd, ◌-◌, length}
use Rattle.std.specs.List.Sorted.{IsPermutation}
use Rattle.rf2_values.specs.declared.key.Key.{Key}
use Rattle.rf2_values.specs.Row.{RowValue}
use Rattle.rf2_values.specs.Key.{key_of}
use Rattle.history_model.specs.InOrder.{Has, IsAscending}
use Rattle.history_model.proofs.InOrder.{Has-append_left, Has-append_right, Has-append_cases}
use Rattle.history_model.proofs.Filtered.{Has-filter, Has-filter_from}
use Rattle.history_model.proofs.Items.{Has-permuted}
use Rattle.history_model.proofs.Keys.{tie_of_same}
use Rattle.import_check.specs.declared.release.Release.{Release}
use Rattle.import_check.specs.declared.release.PlacedLine.{PlacedLine}
use Rattle.import_check.specs.declared.sweep.Contradiction.{Contradiction}
use Rattle.import_check.specs.declared.sweep.Sweep.{Sweep}
use Rattle.import_check.specs.declared.found.NewRows.{NewRows}
use Rattle.import_check.specs.declared.fault.ImportFault.{ImportFault}
use Rattle.import_check.specs.declared.fault.ImportFault.TheVariants as importfault
use Rattle.import_check.specs.Known.{IsUnknown, MayBeKnown, has_key, already_known}
use Rattle.import_check.specs.declared.contradicting.OtherRow.{OtherRow}
use Rattle.import_check.specs.declared.contradicting.OtherRow.TheVariants as others
use Rattle.import_check.specs.declared.contradicting.ContradictingLine.{ContradictingLine}
use Rattle.import_check.specs.declared.contradicting.Contradictions.{Contradictions}
use Rattle.import_check.specs.Release.{rows_of, row_of, MayCount, MayContradict, IsPossibleContradiction}
use Rattle.import_check.specs.NewRows.{IsRefusalByKey}
use Rattle.import_check.specs.Contradictions.{place_cmp, rank_cmp, MayAgree, ArePossibleContradictions}
use Rattle.import_check.specs.Private.Parsed.{IsParsed, IsParseFault}
use Rattle.import_check.specs.Private.Sweep.{IsRising, IsGathered, GoesOn, GoesOnWithKey, IsVerdict, IsEarlierOf, MayCountFor, IsBlameable, IsOutcome, IsCutShort, IsWithoutRead, IsRefusalOfByKey, contradiction_at, standing_row, standing_of}
use Rattle.import_check.specs.Private.Contradictions.{CountsAmong, Sifted, AreSifted}
use Rattle.import_check.proofs.Asking.{has_from, has_to, more_rows}
use Rattle.import_check.proofs.Sweeping.{rank_split, rising_before}
use Rattle.import_check.proofs.Uniting.{split_at, ascending_after, not_after}
use Rattle.import_check.proofs.Gathered.{last_with}
use Rattle.import_check.proofs.Differing.{to, first_there}
use Rattle.import_check.proofs.Receipts.{one_list}
use Rattle.import_check.proofs.Refusals.{of_release}

-- ---- one line more

module _ (known : List RowValue) (may_be : RowValue → Type 0) (lines : List PlacedLine) (line : PlacedLine) where
  abbrev Blame : Contradiction → Type 0
  Blame c = IsBlameable known may_be lines c

  which : (old : Option Contradiction) (c : Contradiction) → IsEarlierOf old (contradiction_at line) c → IfSome old Blame → Blame (contradiction_at line) → Blame c
  which None c e was is = subst Blame (sym e) is
  which (Some f) c (inl p) was is = subst Blame (sym p.0) was
  which (Some f) c (inr p) was is = subst Blame (sym p.0) is

  blamed : (standing : Option RowValue) (first now : Option Contradiction) → IsVerdict standing first line now → IfSome first Blame → (standing ≢ Some line.row → Blame (contradiction_at line)) → IfSome now Blame
  blamed standing first now (inl p) was is = subst (λ o. IfSome o Blame) (sym p.1) was
  blamed standing first now (inr p) was is = subst (λ o. IfSome o Blame) (sym p.2) (which first p.1 p.3 was (is p.0))

key_at : (last : Option Key) (row : RowValue) (key : Key) → IsSomeAnd last (λ k. key_of row ≡ k) → IsSomeAnd last (λ k. k ≡ key) → key_of row ≡ key
key_at None row key has at = absurd at
key_at (Some k) row key has at = has ∙ at

module _ (known : List RowValue) (may_be : RowValue → Type 0) (lines done : List PlacedLine) (line : PlacedLine) (rest : List PlacedLine) (old new : Sweep) (lines_are : lines ≡ done ++ line ∷ rest) where
  there : Has lines line
  there = subst (λ ls. Has ls line) (sym lines_are) (Has-append_right done (line ∷ rest) line (inl refl))

  -- the line has the key of the line before it
  blamed_same : IsRising rank_cmp lines → IsGathered known may_be done old → (same : GoesOnWithKey line old new) → standing_of old ≢ Some line.row → IsBlameable known may_be lines (contradiction_at line)
  blamed_same rising g same differs = by old.known_row refl where
    by : (row : Option RowValue) → old.known_row ≡ row → IsBlameable known may_be lines (contradiction_at line)
    by (Some row) is =
        let shown = g.known_row row is in
        record {
          line = line;
          there = there;
          other = others.Known row;
          counts = shown.1;
          same_key = key_at old.key row (key_of line.row) shown.0 same.at;
          differs = λ equal. differs (ap (λ o. standing_row o old.fresh.items) is ∙ ap Some equal);
          is = refl;
        }
    by None is =
        let last = last_with done old.fresh.items old.key (key_of line.row) (g.new_key is) same.at in
        let standing : standing_of old ≡ Some last.0.row = ap (λ o. standing_row o old.fresh.items) is ∙ last.2 in
        record {
          line = line;
          there = there;
          other = others.Line last.0;
          counts = (
            subst (λ ls. Has ls last.0) (sym lines_are) (Has-append_left done (line ∷ rest) last.0 last.1),
            elim (rank_split last.0 line (rising_before rank_cmp done line rest last.0 (subst (λ ls. IsRising rank_cmp ls) lines_are rising) last.1)) [
              | inl less ↦ absurd (let tie = tie_of_same last.0.row line.row last.3 in cc)
              | inr tie ↦ tie.1
            ],
          );
          same_key = last.3;
          differs = λ equal. differs (standing ∙ ap Some equal);
          is = refl;
        }

  pub blames_on : IsRising rank_cmp lines → IsGathered known may_be done old → GoesOn known may_be line old new → IfSome old.first (IsBlameable known may_be lines) → IfSome new.first (IsBlameable known may_be lines)
  blames_on rising g (inl same) was = blamed known may_be lines line (standing_of old) old.first new.first same.verdict was (blamed_same rising g same)
  blames_on rising g (inr (inl k)) was = blamed known may_be lines line (Some k.found) old.first new.first k.verdict was (λ differs. record {
    line = line;
    there = there;
    other = others.Known k.found;
    counts = k.may_be_known;
    same_key = k.same_key;
    differs = λ equal. differs (ap Some equal);
    is = refl;
  })
  blames_on rising g (inr (inr n)) was = subst (λ o. IfSome o (IsBlameable known may_be lines)) (sym n.first) was

-- ---- all lines

module _ (known : List RowValue) (may_be : RowValue → Type 0) (lines sorted : List PlacedLine) (placed : IsAscending place_cmp lines) (permuted : IsPermutation lines sorted) where
  from : (l : PlacedLine) → Has sorted l → Has lines l
  from l h = Has-permuted lines sorted permuted l h

  -- a line that comes no later and has another row comes earlier
  before_it : (line : PlacedLine) (before after : List PlacedLine) → lines ≡ before ++ line ∷ after → IsAscending place_cmp (before ++ line ∷ after) → (other : OtherRow) → MayCountFor known may_be sorted line other → row_of other ≢ line.row
      → MayCount known may_be before other
  before_it line before after e up (others.Known row) may differs = may
  before_it line before after e up (others.Line first) counts differs = elim (Has-append_cases before (line ∷ after) first (subst (λ ls. Has ls first) e (from first counts.0))) [
    | inl h ↦ h
    | inr t ↦ elim t [
      | inl same ↦ absurd (differs (sym (ap (λ (l : PlacedLine). l.row) same)))
      | inr h ↦ absurd (not_after line first (ascending_after place_cmp before line after first up h) counts.1)
    ]
  ]

  contradicts : (line : PlacedLine) (other : OtherRow) → Has sorted line → MayCountFor known may_be sorted line other → key_of (row_of other) ≡ key_of line.row → row_of other ≢ line.row → MayContradict known may_be lines (record { line = line; other = other })
  contradicts line other there counts same differs =
      let cut = split_at lines line (from line there) in
      let up : IsAscending place_cmp (cut.0 ++ line ∷ cut.1) = subst (λ ls. IsAscending place_cmp ls) cut.2 placed in
      record {
        before = cut.0;
        after = cut.1;
        lines_are = cut.2;
        counts = before_it line cut.0 cut.1 cut.2 up other counts differs;
        same_key = same;
        differs = differs;
      }

  possible : (c : Contradiction) → IsBlameable known may_be sorted c → IsPossibleContradiction known may_be lines c.file c.line c.key
  possible c b = record {
    contradiction = record { line = b.line; other = b.other };
    may_contradict = contradicts b.line b.other b.there b.counts b.same_key b.differs;
    file_is = ap (λ (d : Contradiction). d.file) b.is;
    line_is = ap (λ (d : Contradiction). d.line) b.is;
    key_is = ap (λ (d : Contradiction). d.key) b.is;
  }

  -- what a pass over all lines ends with
  pub outcome_blamed : (s : Sweep) (count : ℕ) (r : Result NewRows ImportFault) → IfSome s.first (IsBlameable known may_be sorted) → IsOutcome s count r → IfErr r (IsRefusalOfByKey known may_be lines)
  outcome_blamed s count r is outcome = by s.first is outcome where
    by : (first : Option Contradiction) → IfSome first (IsBlameable known may_be sorted)
        → MatchOption first (IsOkAnd r (λ f. (f.rows.items ≡ s.fresh.items) × (f.repeated ≡ count - length s.fresh.items))) (λ c. r ≡ Err (importfault.Contradiction c.file c.line c.key))
        → IfErr r (IsRefusalOfByKey known may_be lines)
    by None b out = ok r out where
      ok : (r : Result NewRows ImportFault) → IsOkAnd r (λ f. (f.rows.items ≡ s.fresh.items) × (f.repeated ≡ count - length s.fresh.items)) → IfErr r (IsRefusalOfByKey known may_be lines)
      ok (Ok f) h = tt
      ok (Err e) h = absurd h
    by (Some c) b out = subst (λ r. IfErr r (IsRefusalOfByKey known may_be lines)) (sym out) (possible c b)

  -- what a pass over all lines lists
  counts_for : (line : PlacedLine) (other : OtherRow) → Has sorted line → CountsAmong (MayBeKnown known may_be) known sorted other → key_of (row_of other) ≡ key_of line.row → MayCountFor known may_be sorted line other
  counts_for line (others.Known row) h counts same = counts
  counts_for line (others.Line first) h counts same = (counts.1.there, counts.1.least line h (sym same))

  agree : (row : RowValue) (o : OtherRow) → CountsAmong (MayBeKnown known may_be) known sorted o → row_of o ≡ row → MayAgree known may_be lines row
  agree row (others.Known other) counts same = inl (subst (λ (r : RowValue). MayBeKnown known may_be r) same counts)
  agree row (others.Line first) counts same = inr (first, first_there known lines sorted placed permuted first counts, same)

  rest_agrees : (all : List ContradictingLine) → Sifted (MayBeKnown known may_be) known sorted sorted all → (line : PlacedLine) → Has lines line → ((c : ContradictingLine) × Has all c × (c.line ≡ line)) ⊎ MayAgree known may_be lines line.row
  rest_agrees all sifted line there =
      let e = sifted.each line (to known lines sorted placed permuted line there) in
      elim e.3 [
        | inl agrees ↦ inr (agree line.row e.0 e.1 agrees)
        | inr listed ↦ inl (record { line = line; other = e.0 }, listed, refl)
      ]

  each_possible : (all : List ContradictingLine) → Sifted (MayBeKnown known may_be) known sorted sorted all → (c : ContradictingLine) → Has all c → MayContradict known may_be lines c
  each_possible all sifted c h = let f = sifted.from c h in contradicts c.line c.other f.0 (counts_for c.line c.other f.0 f.1 f.2) f.2 f.3

  pub listed_possible : (release : Release) (limit : ℕ) → IsParsed release lines → (r : Result Contradictions ImportFault) → IfOk r (AreSifted (MayBeKnown known may_be) known limit sorted) → IfOk r (ArePossibleContradictions known may_be release limit)
  listed_possible release limit parsed (Ok found) (all, sifted, listed) = record {
    lists = parsed.lists;
    spelled = parsed.spelled;
    all = all;
    ascending = sifted.ascending;
    each = subst (λ ls. (c : ContradictingLine) → Has all c → MayContradict known may_be ls c) parsed.lines_are (each_possible all sifted);
    rest = subst (λ ls. (line : PlacedLine) → Has ls line → ((c : ContradictingLine) × Has all c × (c.line ≡ line)) ⊎ MayAgree known may_be ls line.row) parsed.lines_are (rest_agrees all sifted);
    listed = listed.0;
    further = listed.1;
  }
  listed_possible release limit parsed (Err e) sifted = tt

-- ---- no line has a known key

pub none_asked : (known rows : List RowValue) (row : RowValue) → already_known known rows ≡ [] → Has rows row → IsUnknown known (key_of row)
none_asked known rows row none h k there same =
    absurd (subst (λ xs. Has xs k) none (Has-filter_from (λ r. has_key rows (key_of r)) known k there (has_to rows (key_of k) row h (sym same))))

none_here : (known rows others : List RowValue) → ((row : RowValue) → Has others row → Has rows row) → already_known known rows ≡ [] → already_known known others ≡ []
none_here known rows others each none = by (already_known known others) refl where
  by : (found : List RowValue) → already_known known others ≡ found → found ≡ []
  by [] e = refl
  by (k ∷ ks) e =
      let p = Has-filter (λ r. has_key others (key_of r)) known k (subst (λ xs. Has xs k) (sym e) (inl refl)) in
      let r = has_from others (key_of k) p.1 in
      absurd (none_asked known rows r.0 none (each r.0 r.1) k p.0 (sym r.2))

pub none_sorted : (known : List RowValue) (lines sorted : List PlacedLine) → IsPermutation lines sorted → already_known known (rows_of lines) ≡ [] → already_known known (rows_of sorted) ≡ []
none_sorted known lines sorted permuted none = none_here known (rows_of lines) (rows_of sorted) (more_rows sorted lines (λ l h. Has-permuted lines sorted permuted l h)) none

-- ---- refusals

module _ (honest : Type 0) (known : List RowValue) (may_be : RowValue → Type 0) (lines : List PlacedLine) where
  pub cut_by_key : (e : ImportFault) → IsCutShort honest e → (already_known known (rows_of lines) ≡ [] → IsWithoutRead e) → IsRefusalOfByKey known may_be lines e
  cut_by_key importfault.OutOfMemory cut without = tt
  cut_by_key (importfault.Known f) cut without = without
  cut_by_key (importfault.Row n l f) cut without = tt
  cut_by_key (importfault.Contradiction n l k) cut without = absurd cut

  pub cut_short_by_key : {T : Type 0} (r : Result T ImportFault) → IfErr r (IsCutShort honest) → (already_known known (rows_of lines) ≡ [] → IfErr r IsWithoutRead) → IfErr r (IsRefusalOfByKey known may_be lines)
  cut_short_by_key (Ok x) cut without = tt
  cut_short_by_key (Err e) cut without = cut_by_key e cut without

module _ (known : List RowValue) (may_be : RowValue → Type 0) (release : Release) where
  pub unread_by_key : (e : ImportFault) → IsParseFault release e → IsRefusalByKey known may_be release e
  unread_by_key importfault.OutOfMemory h = tt
  unread_by_key (importfault.Known f) h = absurd h
  unread_by_key (importfault.Row n l f) h = tt
  unread_by_key (importfault.Contradiction n l k) h = absurd h

  module _ (lines : List PlacedLine) (parsed : IsParsed release lines) where
    pub by_key_of : (e : ImportFault) → IsRefusalOfByKey known may_be lines e → IsRefusalByKey known may_be release e
    by_key_of importfault.OutOfMemory h = tt
    by_key_of (importfault.Known f) h = λ rows are none. h (subst (λ rs. already_known known rs ≡ []) (one_list release rows (rows_of lines) are (of_release ⊥ known release lines parsed)) none)
    by_key_of (importfault.Row n l f) h = tt
    by_key_of (importfault.Contradiction n l k) h = record { lists = parsed.lists; spelled = parsed.spelled; possible = subst (λ ls. IsPossibleContradiction known may_be ls n l k) parsed.lines_are h }

    pub refused_by_key : {T : Type 0} (r : Result T ImportFault) → IfErr r (IsRefusalOfByKey known may_be lines) → IfErr r (IsRefusalByKey known may_be release)
    refused_by_key (Ok x) h = tt
    refused_by_key (Err e) h = by_key_of e h
