-- Lines in key order, of which those that contradict are listed.
use Rattle.std.proofs.Common.{◌≡◌, ◌≢◌, ◌⊎◌, ℕ, ◌≤◌, cond, false, true, List, [], ◌∷◌, ◌++◌, append-nil, append_assoc, refl, sym, ap, subst, inl, inr, ◌∙◌, arith}
use Rattle.std.specs.Prelude.{Option, Some, None, MatchOption, IsSomeAnd, ◌↔◌, Result, Ok, Err, IfOk}
use Rattle.std.specs.List.{AllByRecursion, sum_by}
use Rattle.std.specs.List.Sorted.{IsPermutation}
use Rattle.std.specs.Ordering.{nat_cmp, ordering_then, is_gt, is_eq}
use Rattle.std.specs.Cmp.{IsTotalOrder, tied_itself}
use Rattle.std.specs.declared.cmp.Ordering.{Ordering}
use Rattle.std.specs.declared.cmp.Ordering.TheVariants.{Less, Equal, Greater}
use Rattle.std.proofs.lemmas.List.Sums.{sum_by-cons}
use Rattle.std.proofs.lemmas.List.Sorted.{IsPermutation-sym, sum_by-IsPermutation}
use Rattle.rf2_values.specs.Row.{RowValue}
use Rattle.rf2_values.specs.Key.{key_of, key_cmp}
use Rattle.history_model.specs.InOrder.{Has, IsAscending}
use Rattle.history_model.specs.History.{row_cmp, IsConsistent}
use Rattle.history_model.proofs.InOrder.{Has-all, Has-append_left, Has-append_right, Has-append_cases, all_from_has, tie_is_same}
use Rattle.history_model.proofs.Filtered.{Has-map, Has-map_from}
use Rattle.history_model.proofs.Keys.{rows_total, tie_of_same}
use Rattle.history_model.proofs.Items.{Has-permuted}
use Rattle.import_check.specs.declared.release.PlacedLine.{PlacedLine}
use Rattle.import_check.specs.declared.contradicting.OtherRow.{OtherRow}
use Rattle.import_check.specs.declared.contradicting.OtherRow.TheVariants as others
use Rattle.import_check.specs.declared.contradicting.Counting.{Counting}
use Rattle.import_check.specs.declared.contradicting.ContradictingLine.{ContradictingLine}
use Rattle.import_check.specs.declared.contradicting.Contradictions.{Contradictions}
use Rattle.import_check.specs.Known.{IsUnknown}
use Rattle.import_check.specs.Contradictions.{place_cmp, rank_cmp, CountsForKey, IsContradiction, AreContradictionsOf}
use Rattle.import_check.specs.Private.Contradictions.{CountsAmong, IsFoundFor, IsCountingFor, AreListed, IsNoted, Sifted, AreSifted}
use Rattle.import_check.specs.Private.Parsed.{IsParsed}
use Rattle.import_check.specs.Private.Sweep.{StandsBy, IsRising, IsEarliest}
use Rattle.import_check.specs.declared.release.Release.{Release}
use Rattle.import_check.specs.declared.fault.ImportFault.{ImportFault}
use Rattle.import_check.specs.Release.{rows_of, row_of}
use Rattle.import_check.proofs.Sweeping.{rank_split, placed_by, below_further, cases, earliest, ascending-push, stands_by_itself}
use Rattle.import_check.proofs.Uniting.{places_total, split_at, ascending_before, ascending_after, not_after, tie_from}

-- ---- orders without ties

module _ {X : Type 0} (cmp : X → X → Ordering) where
  -- how many tie with this one
  abbrev tie : X → X → ℕ
  tie p x = cond (is_eq (cmp p x)) 1 0

  tie_of : (p x : X) → cmp p x ≡ Equal → tie p x ≡ 1
  tie_of p x e = ap (λ r. cond (is_eq r) 1 0) e

  tied_there : (p x : X) (xs : List X) → Has xs x → cmp p x ≡ Equal → 1 ≤ sum_by (tie p) xs
  tied_there p x [] h e = absurd h
  tied_there p x (y ∷ ys) h e = elim h [
    | inl same ↦ let one = tie_of p y (subst (λ z. cmp p z ≡ Equal) (sym same) e) in let more = sum_by-cons (tie p) y ys in omega arith
    | inr t ↦ let rest = tied_there p x ys t e in let more = sum_by-cons (tie p) y ys in omega arith
  ]

  none_ties : (o : IsTotalOrder cmp) (p x : X) (xs : List X) → cmp p x ≡ Equal → AllByRecursion (λ y. cmp x y ≡ Less) xs → sum_by (tie p) xs ≡ 0
  none_ties o p x [] e all = refl
  none_ties o p x (y ∷ ys) e all =
      let less : cmp p y ≡ Less = o.congr p x y e ∙ all.0 in
      let zero : tie p y ≡ 0 = ap (λ r. cond (is_eq r) 1 0) less in
      let more = sum_by-cons (tie p) y ys in
      let rest = none_ties o p x ys e all.1 in
      omega arith

  few_more : (o : IsTotalOrder cmp) (p x : X) (xs : List X) (r : Ordering) → cmp p x ≡ r → AllByRecursion (λ y. cmp x y ≡ Less) xs → sum_by (tie p) xs ≤ 1 → sum_by (tie p) (x ∷ xs) ≤ 1
  few_more o p x xs Less e up rest = let zero : tie p x ≡ 0 = ap (λ r. cond (is_eq r) 1 0) e in let more = sum_by-cons (tie p) x xs in omega arith
  few_more o p x xs Equal e up rest = let one = tie_of p x e in let none = none_ties o p x xs e up in let more = sum_by-cons (tie p) x xs in omega arith
  few_more o p x xs Greater e up rest = let zero : tie p x ≡ 0 = ap (λ r. cond (is_eq r) 1 0) e in let more = sum_by-cons (tie p) x xs in omega arith

  one_ties : (o : IsTotalOrder cmp) (p : X) (xs : List X) → IsAscending cmp xs → sum_by (tie p) xs ≤ 1
  one_ties o p [] up = omega arith
  one_ties o p (x ∷ xs) up = few_more o p x xs (cmp p x) refl up.0 (one_ties o p xs up.1)

-- of lines that all have places of their own, those in key order ascend
below_by_rank : (x y : PlacedLine) (xs : List PlacedLine) → Has xs y → sum_by (tie place_cmp x) (x ∷ xs) ≤ 1 → (r p : Ordering) → row_cmp x.row y.row ≡ r → place_cmp x y ≡ p → is_gt (rank_cmp x y) ≡ false → rank_cmp x y ≡ Less
below_by_rank x y xs h one Less p e f up = ap (λ r. ordering_then r (place_cmp x y)) e
below_by_rank x y xs h one Equal Less e f up = ap (λ r. ordering_then r (place_cmp x y)) e ∙ f
below_by_rank x y xs h one Equal Equal e f up =
    let itself = tie_of place_cmp x x (tied_itself places_total x) in
    let again = tied_there place_cmp x y xs h f in
    let more = sum_by-cons (tie place_cmp x) x xs in
    absurd (omega arith)
below_by_rank x y xs h one Equal Greater e f up = absurd (let gt : is_gt (rank_cmp x y) ≡ true = ap (λ r. is_gt (ordering_then r (place_cmp x y))) e ∙ ap is_gt f in cc)
below_by_rank x y xs h one Greater p e f up = absurd (let gt : is_gt (rank_cmp x y) ≡ true = ap (λ r. is_gt (ordering_then r (place_cmp x y))) e in cc)

by_rank : (xs : List PlacedLine) → ((p : PlacedLine) → sum_by (tie place_cmp p) xs ≤ 1) → IsRising rank_cmp xs → IsAscending rank_cmp xs
by_rank [] few up = tt
by_rank (x ∷ xs) few up = (
  all_from_has (λ y. rank_cmp x y ≡ Less) xs (λ y h. below_by_rank x y xs h (few x) (row_cmp x.row y.row) (place_cmp x y) refl refl (Has-all (λ z. is_gt (rank_cmp x z) ≡ false) xs y up.0 h)),
  by_rank xs (λ p. let all = few p in let more = sum_by-cons (tie place_cmp p) x xs in omega arith) up.1,
)

pub sorted_ascends : (lines sorted : List PlacedLine) → IsAscending place_cmp lines → IsPermutation lines sorted → IsRising rank_cmp sorted → IsAscending rank_cmp sorted
sorted_ascends lines sorted placed permuted up =
    by_rank sorted (λ p. let one = one_ties place_cmp places_total p lines placed in let same = sum_by-IsPermutation (tie place_cmp p) lines sorted permuted in omega arith) up

-- what ascends doesn't fall
pub rising_from_ascending : {X : Type 0} (cmp : X → X → Ordering) (xs : List X) → IsAscending cmp xs → IsRising cmp xs
rising_from_ascending cmp [] up = tt
rising_from_ascending {X} cmp (x ∷ xs) up = (each xs up.0, rising_from_ascending cmp xs up.1) where
  each : (ys : List X) → AllByRecursion (λ y. cmp x y ≡ Less) ys → AllByRecursion (λ y. is_gt (cmp x y) ≡ false) ys
  each [] all = tt
  each (y ∷ ys) all = (ap is_gt all.0, each ys all.1)

-- ---- the row that counts for the last key

-- it has the key of a line that was taken, and none of these has a greater one
pub record IsTop (Knows : RowValue → Type 0) (known : List RowValue) (lines done : List PlacedLine) (counting : Counting) : Type 0 where
  pub same : key_of (row_of counting.other) ≡ counting.key
  pub counts : CountsAmong Knows known lines counting.other
  pub greatest : (line : PlacedLine) → Has done line → is_gt (row_cmp line.row (row_of counting.other)) ≡ false
  pub at : (line : PlacedLine) × Has done line × (key_of line.row ≡ key_of (row_of counting.other))

abbrev pub HasTop : (Knows : RowValue → Type 0) → List RowValue → List PlacedLine → List PlacedLine → Option Counting → Type 0
HasTop Knows known lines done last = MatchOption last (done ≡ []) (IsTop Knows known lines done)

module _ (Knows : RowValue → Type 0) (known : List RowValue) (lines done : List PlacedLine) (line : PlacedLine) (rest : List PlacedLine) (lines_are : lines ≡ done ++ line ∷ rest) (strict : IsAscending rank_cmp lines) where
  up : IsAscending rank_cmp (done ++ line ∷ rest)
  up = subst (λ ls. IsAscending rank_cmp ls) lines_are strict

  below : (l : PlacedLine) → Has done l → rank_cmp l line ≡ Less
  below l h = ascending_before rank_cmp done line rest l up h

  all_less : (last : Option Counting) → HasTop Knows known lines done last → (IsSomeAnd last (λ c. c.key ≡ key_of line.row) → ⊥) → (l : PlacedLine) → Has done l → row_cmp l.row line.row ≡ Less
  all_less None none other l h = absurd (subst (λ ls. Has ls l) none h)
  all_less (Some c) top other l h =
      let at = top.at in
      let under : row_cmp (row_of c.other) line.row ≡ Less = elim (rank_split at.0 line (ap is_gt (below at.0 at.1))) [
        | inl less ↦ subst (λ k. key_cmp k (key_of line.row) ≡ Less) at.2 less
        | inr tie ↦ absurd (other (sym top.same ∙ sym at.2 ∙ tie.0))
      ] in
      below_further rows_total l.row (row_of c.other) line.row (row_cmp l.row (row_of c.other)) refl (top.greatest l h) under

  -- a row with the line's key that counts is at the top once the line is taken
  top_at : (c : Counting) → c.key ≡ key_of line.row → key_of (row_of c.other) ≡ c.key → CountsAmong Knows known lines c.other → ((l : PlacedLine) → Has done l → is_gt (row_cmp l.row (row_of c.other)) ≡ false) → IsTop Knows known lines (done ++ line ∷ []) c
  top_at c key same counts greatest = record {
    same = same;
    counts = counts;
    greatest = cases known lines done line rest lines_are (λ l. is_gt (row_cmp l.row (row_of c.other)) ≡ false) greatest (ap is_gt (tie_of_same line.row (row_of c.other) (sym (same ∙ key))));
    at = (line, Has-append_right done (line ∷ []) line (inl refl), sym (same ∙ key));
  }

  counts_new : ((l : PlacedLine) → Has done l → row_cmp l.row line.row ≡ Less) → (o : OtherRow) → IsFoundFor Knows known line o → CountsAmong Knows known lines o × (key_of (row_of o) ≡ key_of line.row)
  counts_new less (others.Known row) found = found
  counts_new less (others.Line first) found =
      let first_is = sym found.1 in
      let is : IsEarliest lines line = earliest known lines done line rest lines_are (rising_from_ascending rank_cmp lines strict) less in
      ((subst (λ (l : PlacedLine). IsUnknown known (key_of l.row)) first_is found.0, subst (IsEarliest lines) first_is is), ap (λ (l : PlacedLine). key_of l.row) found.1)

  pub next_top : (last : Option Counting) (c : Counting) → HasTop Knows known lines done last → IsCountingFor Knows known line last c → IsTop Knows known lines (done ++ line ∷ []) c
  next_top last c top (key, inl stays) =
      let was : IsTop Knows known lines done c = subst (λ l. HasTop Knows known lines done l) stays top in
      top_at c key was.same was.counts was.greatest
  next_top last c top (key, inr (other, found)) =
      let less = all_less last top other in
      let counts = counts_new less c.other found in
      top_at c key (counts.1 ∙ sym key) counts.0 (λ l h. ap is_gt (subst (λ k. key_cmp (key_of l.row) k ≡ Less) (sym counts.1) (less l h)))

  -- ---- one line more

  module _ (all : List ContradictingLine) (sifted : Sifted Knows known lines done all) (o : OtherRow) (same : key_of (row_of o) ≡ key_of line.row) (counts : CountsAmong Knows known lines o) where
    agrees_more : row_of o ≡ line.row → Sifted Knows known lines (done ++ line ∷ []) all
    agrees_more is = record {
      ascending = sifted.ascending;
      from = λ c h. let f = sifted.from c h in (Has-append_left done (line ∷ []) c.line f.0, f.1, f.2, f.3);
      each = cases known lines done line rest lines_are (λ l. (p : OtherRow) × CountsAmong Knows known lines p × (key_of (row_of p) ≡ key_of l.row) × ((row_of p ≡ l.row) ⊎ Has all (record { line = l; other = p })))
          sifted.each (o, counts, same, inl is);
    }

    abbrev one : ContradictingLine
    one = record { line = line; other = o }

    differs_more : row_of o ≢ line.row → Sifted Knows known lines (done ++ line ∷ []) (all ++ one ∷ [])
    differs_more not = record {
      ascending = ascending-push (λ (a b : ContradictingLine). rank_cmp a.line b.line) all one sifted.ascending (λ c h. below c.line (sifted.from c h).0);
      from = λ c h. elim (Has-append_cases all (one ∷ []) c h) [
        | inl before ↦ let f = sifted.from c before in (Has-append_left done (line ∷ []) c.line f.0, f.1, f.2, f.3)
        | inr t ↦ elim t [
          | inl e ↦ subst (λ (d : ContradictingLine). Has (done ++ line ∷ []) d.line × CountsAmong Knows known lines d.other × (key_of (row_of d.other) ≡ key_of d.line.row) × (row_of d.other ≢ d.line.row)) e
              (Has-append_right done (line ∷ []) line (inl refl), counts, same, not)
          | inr n ↦ absurd n
        ]
      ];
      each = cases known lines done line rest lines_are (λ l. (p : OtherRow) × CountsAmong Knows known lines p × (key_of (row_of p) ≡ key_of l.row) × ((row_of p ≡ l.row) ⊎ Has (all ++ one ∷ []) (record { line = l; other = p })))
          (λ l h. let e = sifted.each l h in (e.0, e.1, e.2, elim e.3 [ inl a ↦ inl a | inr b ↦ inr (Has-append_left all (one ∷ []) (record { line = l; other = e.0 }) b) ]))
          (o, counts, same, inr (Has-append_right all (one ∷ []) one (inl refl)));
    }

  pub noted_more : (limit : ℕ) (all : List ContradictingLine) (c : Counting) (old new : Contradictions) → IsTop Knows known lines (done ++ line ∷ []) c → c.key ≡ key_of line.row → IsNoted limit c.other line old new
      → Sifted Knows known lines done all → AreListed limit all old
      → (more : List ContradictingLine) × Sifted Knows known lines (done ++ line ∷ []) more × AreListed limit more new
  noted_more limit all c old new top key (inl is) sifted listed = (all, agrees_more all sifted c.other (top.same ∙ key) top.counts is.0, subst (AreListed limit all) (sym is.1) listed)
  noted_more limit all c old new top key (inr not) sifted listed = (all ++ record { line = line; other = c.other } ∷ [], differs_more all sifted c.other (top.same ∙ key) top.counts not.0, not.1 all listed)

pub none_sifted : (Knows : RowValue → Type 0) (known : List RowValue) (lines : List PlacedLine) → Sifted Knows known lines [] []
none_sifted Knows known lines = record { ascending = tt; from = λ c h. absurd h; each = λ l h. absurd h }

-- how far a pass is when these lines are left
abbrev pub IsSiftedTo : (Knows : RowValue → Type 0) → List RowValue → ℕ → List PlacedLine → List PlacedLine → Option Counting → Contradictions → Type 0
IsSiftedTo Knows known limit lines left last found = (done : List PlacedLine) × (lines ≡ done ++ left) × HasTop Knows known lines done last
    × (all : List ContradictingLine) × Sifted Knows known lines done all × AreListed limit all found

pub sifted_on : (Knows : RowValue → Type 0) (known : List RowValue) (limit : ℕ) (lines left : List PlacedLine) (line : PlacedLine) (rest : List PlacedLine) (last : Option Counting) (c : Counting) (old new : Contradictions) → left ≡ line ∷ rest → IsAscending rank_cmp lines
    → IsCountingFor Knows known line last c → IsNoted limit c.other line old new → IsSiftedTo Knows known limit lines left last old → IsSiftedTo Knows known limit lines rest (Some c) new
sifted_on Knows known limit lines left line rest last c old new steps strict is noted so =
    let lines_are = so.1 ∙ ap (λ ls. so.0 ++ ls) steps in
    let top = next_top Knows known lines so.0 line rest lines_are strict last c so.2 is in
    let more = noted_more Knows known lines so.0 line rest lines_are strict limit so.3 c old new top is.0 noted so.4 so.5 in (
      so.0 ++ line ∷ [],
      lines_are ∙ sym (append_assoc so.0 (line ∷ []) rest),
      top,
      more.0,
      more.1,
      more.2,
    )

pub all_sifted : (Knows : RowValue → Type 0) (known : List RowValue) (limit : ℕ) (lines left : List PlacedLine) (last : Option Counting) (found : Contradictions) → left ≡ [] → IsSiftedTo Knows known limit lines left last found → AreSifted Knows known limit lines found
all_sifted Knows known limit lines left last found none so =
    let all_done = so.1 ∙ ap (λ ls. so.0 ++ ls) none ∙ append-nil so.0 in
    (so.3, subst (λ done. Sifted Knows known lines done so.3) (sym all_done) so.4, so.5)

-- a row that is known to some is known to others
more_found : (Knows More : RowValue → Type 0) (known : List RowValue) (line : PlacedLine) (o : OtherRow) → ((row : RowValue) → Knows row → More row) → IsFoundFor Knows known line o → IsFoundFor More known line o
more_found Knows More known line (others.Known row) each found = (each row found.0, found.1)
more_found Knows More known line (others.Line first) each found = found

pub more_counting : (Knows More : RowValue → Type 0) (known : List RowValue) (line : PlacedLine) (last : Option Counting) (c : Counting) → ((row : RowValue) → Knows row → More row) → IsCountingFor Knows known line last c → IsCountingFor More known line last c
more_counting Knows More known line last c each (key, inl stays) = (key, inl stays)
more_counting Knows More known line last c each (key, inr (other, found)) = (key, inr (other, more_found Knows More known line c.other each found))

-- ---- the same lines in the order of their places

module _ (known : List RowValue) (lines sorted : List PlacedLine) (placed : IsAscending place_cmp lines) (permuted : IsPermutation lines sorted) where
  pub to : (l : PlacedLine) → Has lines l → Has sorted l
  to l h = Has-permuted sorted lines (IsPermutation-sym lines sorted permuted) l h

  pub from : (l : PlacedLine) → Has sorted l → Has lines l
  from l h = Has-permuted lines sorted permuted l h

  pub first_there : (first : PlacedLine) → IsUnknown known (key_of first.row) × IsEarliest sorted first → CountsForKey known lines (others.Line first)
  first_there first is =
      let cut = split_at lines first (from first is.1.there) in
      let up : IsAscending place_cmp (cut.0 ++ first ∷ cut.1) = subst (λ ls. IsAscending place_cmp ls) cut.2 placed in (
        cut.0,
        cut.1,
        cut.2,
        λ row h same. elim (Has-append_cases known (rows_of cut.0) row h) [
          | inl old ↦ is.0 row old same
          | inr new ↦
              let m = Has-map (λ (l : PlacedLine). l.row) cut.0 row new in
              let m_there = to m.0 (subst (λ ls. Has ls m.0) (sym cut.2) (Has-append_left cut.0 (first ∷ cut.1) m.0 m.1)) in
              not_after m.0 first (ascending_before place_cmp cut.0 first cut.1 m.0 up m.1) (is.1.least m.0 m_there (ap key_of m.2 ∙ same))
        ],
      )

module _ (known : List RowValue) (lines sorted : List PlacedLine) (consistent : IsConsistent known) (placed : IsAscending place_cmp lines) (permuted : IsPermutation lines sorted) where
  one_counts : (a b : OtherRow) → CountsAmong (Has known) known sorted a → CountsAmong (Has known) known sorted b → key_of (row_of a) ≡ key_of (row_of b) → a ≡ b
  one_counts (others.Known a) (others.Known b) p q same = ap others.Known (consistent a b p q same)
  one_counts (others.Known a) (others.Line b) p q same = absurd (q.0 a p same)
  one_counts (others.Line a) (others.Known b) p q same = absurd (p.0 b q (sym same))
  one_counts (others.Line a) (others.Line b) p q same =
      let ties = tie_from a b (p.1.least b q.1.there (sym same)) (q.1.least a p.1.there same) in
      ap others.Line (tie_is_same places_total lines a b placed (from known lines sorted placed permuted a p.1.there) (from known lines sorted placed permuted b q.1.there) ties)

  counts_there : (o : OtherRow) → CountsAmong (Has known) known sorted o → CountsForKey known lines o
  counts_there (others.Known row) is = is
  counts_there (others.Line first) is = first_there known lines sorted placed permuted first is

  counts_here : (o : OtherRow) → CountsForKey known lines o → CountsAmong (Has known) known sorted o
  counts_here (others.Known row) is = is
  counts_here (others.Line first) (before, after, lines_are, unknown) =
      let up : IsAscending place_cmp (before ++ first ∷ after) = subst (λ ls. IsAscending place_cmp ls) lines_are placed in (
        λ row h. unknown row (Has-append_left known (rows_of before) row h),
        record {
          there = to known lines sorted placed permuted first (subst (λ ls. Has ls first) (sym lines_are) (Has-append_right before (first ∷ after) first (inl refl)));
          least = λ l h same. elim (Has-append_cases before (first ∷ after) l (subst (λ ls. Has ls l) lines_are (from known lines sorted placed permuted l h))) [
            | inl b ↦ absurd (unknown l.row (Has-append_right known (rows_of before) l.row (Has-map_from (λ (m : PlacedLine). m.row) before l b)) same)
            | inr t ↦ elim t [
              | inl e ↦ subst (λ (m : PlacedLine). StandsBy first.file first.line m.file m.line) e (stands_by_itself first.file first.line)
              | inr a ↦ placed_by first.file first.line l.file l.line (nat_cmp first.file l.file) refl (ap is_gt (ascending_after place_cmp before first after l up a))
            ]
          ];
        },
      )

  pub each_there : (all : List ContradictingLine) → Sifted (Has known) known sorted sorted all → (c : ContradictingLine) → Has all c ↔ IsContradiction known lines c
  each_there all sifted c = (
    λ h. let f = sifted.from c h in record { there = from known lines sorted placed permuted c.line f.0; counts = counts_there c.other f.1; same_key = f.2; differs = f.3 },
    λ is.
        let e = sifted.each c.line (to known lines sorted placed permuted c.line is.there) in
        let same : e.0 ≡ c.other = one_counts e.0 c.other e.1 (counts_here c.other is.counts) (e.2 ∙ sym is.same_key) in
        elim e.3 [
          | inl agrees ↦ absurd (is.differs (ap row_of (sym same) ∙ agrees))
          | inr h ↦ subst (λ (o : OtherRow). Has all (record { line = c.line; other = o })) same h
        ],
  )

-- the lines of a release, listed
pub of_lines : (known : List RowValue) (release : Release) (limit : ℕ) (lines sorted : List PlacedLine) (found : Contradictions) → IsConsistent known → IsParsed release lines → IsAscending place_cmp lines → IsPermutation lines sorted → AreSifted (Has known) known limit sorted found → AreContradictionsOf known release limit found
of_lines known release limit lines sorted found consistent parsed placed permuted (all, sifted, listed) = record {
  lists = parsed.lists;
  spelled = parsed.spelled;
  all = all;
  ascending = sifted.ascending;
  each = subst (λ ls. (c : ContradictingLine) → Has all c ↔ IsContradiction known ls c) parsed.lines_are (each_there known lines sorted consistent placed permuted all sifted);
  listed = listed.0;
  further = listed.1;
}

pub listed_of : (known : List RowValue) (release : Release) (limit : ℕ) (lines sorted : List PlacedLine) → IsConsistent known → IsParsed release lines → IsAscending place_cmp lines → IsPermutation lines sorted
    → (r : Result Contradictions ImportFault) → IfOk r (AreSifted (Has known) known limit sorted) → IfOk r (AreContradictionsOf known release limit)
listed_of known release limit lines sorted consistent parsed placed permuted (Ok found) sifted = of_lines known release limit lines sorted found consistent parsed placed permuted sifted
listed_of known release limit lines sorted consistent parsed placed permuted (Err e) sifted = tt
