-- What changed, what was ever about a component, what it replaces, and which days have rows.
use Rattle.std.proofs.Common.{◌≡◌, ◌⊎◌, ℕ, zero, suc, ◌+◌, ◌<◌, ◌≤◌, Bool, true, false, cond, List, [], ◌∷◌, map, take, refl, sym, ap, subst, inl, inr, ◌∙◌, arith}
use Rattle.std.specs.Prelude.{◌&&◌, ◌==◌, nat_lt, nat_le, Option, Some, None}
use Rattle.std.specs.List.{filter, find, list_any}
use Rattle.std.specs.Ordering.{nat_cmp, ordering_then}
use Rattle.std.specs.Cmp.{IsTotalOrder, nat_cmp_total, nat_cmp_is, on_total, then_total, ranked}
use Rattle.std.specs.declared.cmp.Ordering.TheVariants.{Less, Equal}
use Rattle.std.proofs.lemmas.Bool.Decides.{nat_tests}
use Rattle.std.proofs.lemmas.List.Elements.{filter_agree}
use Rattle.std.proofs.lemmas.Bool.{eqb-true, eq-eqb, and_from, and_parts, and_right}
use Rattle.list_lemmas.proofs.Tests.{both_equal}
use Rattle.rf2_values.specs.declared.row.Kind.{Kind}
use Rattle.rf2_values.specs.declared.row.Kind.TheVariants.{Association}
use Rattle.rf2_values.specs.declared.row.Body.{Body}
use Rattle.rf2_values.specs.declared.row.Body.TheVariants as body
use Rattle.rf2_values.specs.Row.{RowValue, kind_of, kind_of_body}
use Rattle.history_model.specs.InOrder.{Has, IsAscending}
use Rattle.history_model.specs.History.{row_cmp}
use Rattle.history_model.specs.Queries.{is_kind, is_version_of, is_later_version, is_current, is_kind_above, is_above, snapshot, get, versions, all_above, page}
use Rattle.history_model.specs.Queries.{is_changed_above, changed_above, delta, is_about, is_subject, subject_of, about, was_about, timeline, dates}
use Rattle.history_model.specs.Queries.{refers_to, refset_of, target_of, has_target, is_replaced_by, referenced_of, replaced_cmp, replaces}
use Rattle.history_model.specs.Laws.{by_id}
use Rattle.history_model.specs.Audit.{DeltaIsWhatDiffers, DeltaHasTheLaterRow, DeltaFromTheFirst, DeltaBackwardsIsEmpty, TwoDeltasCoverBoth, changed_ids}
use Rattle.history_model.specs.Audit.{TimelineIsAll, TimelineHasWhatIsAbout, by_version}
use Rattle.history_model.specs.Audit.{ReplacesAreAll, BothEndsAreOne, DatesAreThoseOfVersions, DatesAscend, DatesStay}
use Rattle.history_model.proofs.InOrder.{Has-put_all_cases, Has-put_all_new, IsAscending-in_order, Has-all, all_from_has}
use Rattle.history_model.proofs.Filtered.{Has-filter, Has-filter_from, Has-map, Has-map_from, IsAscending-filter, filter_none, list_any_at, filter_same, IsAscending-take}
use Rattle.history_model.proofs.Snapshots.{IsVersionOf, version_from_test, test_from_version, Has-snapshot_from, current_from_snapshot, get_is, IsConsistent-from_ascending, IsAscending-snapshot, kind_from_test, below_in_kind, above_cons, Rises-current, take-nil}
use Rattle.history_model.proofs.Ascents.{ascends, one_row_of_a_component, replacements_are_all}
use Rattle.history_model.proofs.Chains.{pinned_stays}
use Rattle.history_model.proofs.Searched.{in_order_has, has_in_order}

-- ---- members that pass

any_true : {X : Type 0} (p : X → Bool) (xs : List X) (x : X) → Has xs x → p x ≡ true → list_any p xs ≡ true
any_true p xs x h e = elim (list_any p xs) as (λ b. list_any p xs ≡ b → b ≡ true) [
  | true ↦ λ f. refl
  | false ↦ λ f. absurd (let g = list_any_at p xs x f h in cc)
] refl

any_has : {X : Type 0} (p : X → Bool) (xs : List X) → list_any p xs ≡ true → (x : X) × Has xs x × (p x ≡ true)
any_has p [] e = absurd (cc)
any_has p (x ∷ xs) e = elim (p x) as (λ b. p x ≡ b → (y : _) × Has (x ∷ xs) y × (p y ≡ true)) [
  | true ↦ λ f. (x, inl refl, f)
  | false ↦ λ f. let w = any_has p xs (rw f at e) in (w.0, inr w.1, w.2)
] refl

pub find_has : {X : Type 0} (p : X → Bool) (xs : List X) (x : X) → find p xs ≡ Some x → Has xs x × (p x ≡ true)
find_has p [] x e = absurd (cc)
find_has p (y ∷ xs) x e = elim (p y) as (λ b. p y ≡ b → cond b (Some y) (find p xs) ≡ Some x → Has (y ∷ xs) x × (p x ≡ true)) [
  | true ↦ λ f g. let s : y ≡ x = cc in (inl s, subst (λ z. p z ≡ true) s f)
  | false ↦ λ f g. let w = find_has p xs x g in (inr w.0, w.1)
] refl e

-- ---- the row of a component

-- a version up to a date is followed by the one that counts
record IsFollowed (rows : List RowValue) (date : ℕ) (c : RowValue) : Type 0 where
  row : RowValue
  current : Has (snapshot rows date) row
  version : IsVersionOf (kind_of c) c.id row
  later : c.time ≤ row.time

followed : (n : ℕ) (rows : List RowValue) (date : ℕ) (c : RowValue) → date ≤ c.time + n → Has rows c → c.time ≤ date → IsFollowed rows date c
followed zero rows date c near h early =
    record { row = c; current = Has-snapshot_from rows date c h early (λ d there v le. omega arith); version = record { kind_is = refl; id_is = refl }; later = omega arith }
followed (suc n) rows date c near h early =
    elim (list_any (is_later_version date c) rows) as (λ b. list_any (is_later_version date c) rows ≡ b → IsFollowed rows date c) [
      | true ↦ λ e.
          let w = any_has (is_later_version date c) rows e in
          let p = and_parts (is_version_of (kind_of c) c.id w.0 && nat_lt c.time w.0.time) (nat_le w.0.time date) w.2 in
          let q = and_parts (is_version_of (kind_of c) c.id w.0) (nat_lt c.time w.0.time) p.0 in
          let v = version_from_test (kind_of c) c.id w.0 q.0 in
          let lt : c.time < w.0.time = grind (arith, nat_tests, q.1) in
          let le : w.0.time ≤ date = grind (arith, nat_tests, p.1) in
          let f = followed n rows date w.0 (omega arith) w.1 le in
          let later = f.later in
          record { row = f.row; current = f.current; version = record { kind_is = f.version.kind_is ∙ v.kind_is; id_is = f.version.id_is ∙ v.id_is }; later = omega arith }
      | false ↦ λ e. record {
        row = c;
        current = Has-snapshot_from rows date c h early (λ d there v le.
            let no = list_any_at (is_later_version date c) rows d e there in
            elim (nat_lt c.time d.time) as (λ t. nat_lt c.time d.time ≡ t → d.time ≤ c.time) [
              | true ↦ λ f.
                  let up : nat_le d.time date ≡ true = grind (arith, nat_tests) in
                  let same = test_from_version (kind_of c) c.id d v.kind_is v.id_is in
                  absurd (let yes : is_later_version date c d ≡ true = rw (same, f, up) refl in cc)
              | false ↦ λ f. grind (arith, nat_tests, f)
            ] refl);
        version = record { kind_is = refl; id_is = refl };
        later = omega arith;
      }
    ] refl

-- the row of a component at a date, as the Snapshot has it
pub record IsRowAt (kind : Kind) (id date : ℕ) (rows : List RowValue) (row : RowValue) : Type 0 where
  pub current : Has (snapshot rows date) row
  pub version : IsVersionOf kind id row

pub row_at : (kind : Kind) (id date : ℕ) (rows : List RowValue) (row : RowValue) → get kind id date rows ≡ Some row → IsRowAt kind id date rows row
unfolding get
row_at kind id date rows row e =
    let f = find_has (is_version_of kind id) (snapshot rows date) row e in
    record { current = f.0; version = version_from_test kind id row f.1 }

pub at_row : (kind : Kind) (id date : ℕ) (rows : List RowValue) (row : RowValue) → IsAscending row_cmp rows → IsRowAt kind id date rows row → get kind id date rows ≡ Some row
at_row kind id date rows row up r =
    let c = current_from_snapshot rows date row r.current in
    let v = r.version in
    get_is kind id date rows row (IsConsistent-from_ascending rows up) c.known v c.early
    (λ d there w early. c.latest d there (record { kind_is = w.kind_is ∙ sym v.kind_is; id_is = w.id_is ∙ sym v.id_is }) early)

-- what counts up to a date counts up to an earlier one too, if it isn't later
counts_before : (rows : List RowValue) (from date : ℕ) (row : RowValue) → from ≤ date → Has (snapshot rows date) row → row.time ≤ from → Has (snapshot rows from) row
counts_before rows from date row le h early =
    let c = current_from_snapshot rows date row h in
    Has-snapshot_from rows from row c.known early (λ d there v up. c.latest d there v (omega arith))

-- ---- what changed

record IsChanged (kind : Kind) (from date id : ℕ) (rows : List RowValue) : Type 0 where
  row : RowValue
  is_row : IsRowAt kind id date rows row
  later : from < row.time

changed_row : (kind : Kind) (from date : ℕ) (rows : List RowValue) (row : RowValue) → Has (changed_above kind from date None rows) row → IsRowAt kind row.id date rows row × (from < row.time)
unfolding changed_above
changed_row kind from date rows row h =
    let f = Has-filter (is_changed_above kind from None) (snapshot rows date) row h in
    let p = and_parts (is_kind_above kind None row) (nat_lt from row.time) f.1 in
    let q = and_parts (is_kind kind row) true p.0 in (
      record { current = f.0; version = record { kind_is = kind_from_test kind row q.0; id_is = refl } },
      grind (arith, nat_tests, p.1),
    )

is_changed : (kind : Kind) (from date id : ℕ) (rows : List RowValue) → Has (changed_ids kind from date rows) id → IsChanged kind from date id rows
is_changed kind from date id rows h =
    let m = Has-map (λ (row : RowValue). row.id) (changed_above kind from date None rows) id h in
    let c = changed_row kind from date rows m.0 m.1 in
    record { row = m.0; is_row = subst (λ n. IsRowAt kind n date rows m.0) m.2 c.0; later = c.1 }

changed_is : (kind : Kind) (from date id : ℕ) (rows : List RowValue) → IsChanged kind from date id rows → Has (changed_ids kind from date rows) id
unfolding changed_above
changed_is kind from date id rows c =
    let v = c.is_row.version in
    let later = c.later in
    let kinds : is_kind kind c.row ≡ true = (and_parts (is_kind kind c.row) (c.row.id == id) (test_from_version kind id c.row v.kind_is v.id_is)).0 in
    let test : is_changed_above kind from None c.row ≡ true = and_from (is_kind_above kind None c.row) (nat_lt from c.row.time) (and_from (is_kind kind c.row) true kinds refl) (grind (arith, nat_tests, later)) in
    subst (λ n. Has (changed_ids kind from date rows) n) v.id_is
    (Has-map_from (λ (row : RowValue). row.id) (changed_above kind from date None rows) c.row
    (Has-filter_from (is_changed_above kind from None) (snapshot rows date) c.row c.is_row.current test))

pub delta_has_the_later_row : DeltaHasTheLaterRow
delta_has_the_later_row kind from date rows row up h = at_row kind row.id date rows row up (changed_row kind from date rows row h).0

pub delta_is_what_differs : DeltaIsWhatDiffers
delta_is_what_differs kind from date id rows up le = (
  λ h same.
      let c = is_changed kind from date id rows h in
      let before = row_at kind id from rows c.row (same ∙ at_row kind id date rows c.row up c.is_row) in
      let early = (current_from_snapshot rows from c.row before.current).early in
      let later = c.later in absurd (omega arith),
  λ differs. elim (get kind id date rows) as (λ r. get kind id date rows ≡ r → Has (changed_ids kind from date rows) id) [
    | Some row ↦ λ e.
        let r = row_at kind id date rows row e in
        elim (nat_lt from row.time) as (λ t. nat_lt from row.time ≡ t → Has (changed_ids kind from date rows) id) [
          | true ↦ λ f. changed_is kind from date id rows (record { row = row; is_row = r; later = grind (arith, nat_tests, f) })
          | false ↦ λ f. absurd (differs (at_row kind id from rows row up (record { current = counts_before rows from date row le r.current (grind (arith, nat_tests, f)); version = r.version }) ∙ sym e))
        ] refl
    | None ↦ λ e. elim (get kind id from rows) as (λ r. get kind id from rows ≡ r → Has (changed_ids kind from date rows) id) [
      | Some row ↦ λ f.
          let r = row_at kind id from rows row f in
          let c = current_from_snapshot rows from row r.current in
          let early = c.early in
          let w = followed date rows date row (omega arith) c.known (omega arith) in
          let there = at_row kind id date rows w.row up (record { current = w.current; version = record { kind_is = w.version.kind_is ∙ r.version.kind_is; id_is = w.version.id_is ∙ r.version.id_is } }) in
          absurd (let no = sym there ∙ e in cc)
      | None ↦ λ f. absurd (differs (f ∙ sym e))
    ] refl
  ] refl,
)

pub two_deltas_cover_both : TwoDeltasCoverBoth
two_deltas_cover_both kind from between date id rows first second = (
  λ h.
      let c = is_changed kind from date id rows h in
      elim (nat_lt between c.row.time) as (λ t. nat_lt between c.row.time ≡ t → Has (changed_ids kind from between rows) id ⊎ Has (changed_ids kind between date rows) id) [
        | true ↦ λ f. inr (changed_is kind between date id rows (record { row = c.row; is_row = c.is_row; later = grind (arith, nat_tests, f) }))
        | false ↦ λ f. inl (changed_is kind from between id rows (record { row = c.row; is_row = record { current = counts_before rows between date c.row second c.is_row.current (grind (arith, nat_tests, f)); version = c.is_row.version }; later = c.later }))
      ] refl,
  λ h. elim h [
    | inl k ↦
        let c = is_changed kind from between id rows k in
        let r = current_from_snapshot rows between c.row c.is_row.current in
        let early = r.early in
        let later = c.later in
        let w = followed date rows date c.row (omega arith) r.known (omega arith) in
        let more = w.later in
        changed_is kind from date id rows (record { row = w.row; is_row = record { current = w.current; version = record { kind_is = w.version.kind_is ∙ c.is_row.version.kind_is; id_is = w.version.id_is ∙ c.is_row.version.id_is } }; later = omega arith })
    | inr k ↦
        let c = is_changed kind between date id rows k in
        let later = c.later in
        changed_is kind from date id rows (record { row = c.row; is_row = c.is_row; later = omega arith })
  ],
)

and_true : (a b : Bool) → b ≡ true → (a && b) ≡ a
and_true true b e = e
and_true false b e = refl

pub delta_from_the_first : DeltaFromTheFirst
unfolding delta changed_above page all_above snapshot
delta_from_the_first kind from date after limit rows early = ap (take limit) (filter_same (is_changed_above kind from after) (is_kind_above kind after) (filter (is_current rows date) rows) (λ row h.
    let there = Has-filter (is_current rows date) rows row h in
    let e = early row there.0 in and_true (is_kind_above kind after row) (nat_lt from row.time) (grind (arith, nat_tests, e))))

pub delta_backwards_is_empty : DeltaBackwardsIsEmpty
unfolding delta changed_above
delta_backwards_is_empty kind from date after limit rows le =
    ap (take limit) (filter_none (is_changed_above kind from after) (snapshot rows date) (λ row h.
    let early = (current_from_snapshot rows date row h).early in
    and_right (is_kind_above kind after row) (nat_lt from row.time) (grind (arith, nat_tests)))) ∙ take-nil limit

pub delta_ascends : (kind : Kind) (from date : ℕ) (after : Option ℕ) (limit : ℕ) (rows : List RowValue) → IsAscending row_cmp rows → IsAscending by_id (delta kind from date after limit rows)
unfolding delta changed_above
delta_ascends kind from date after limit rows up =
    IsAscending-take by_id limit (filter (is_changed_above kind from after) (snapshot rows date))
    (ascends (is_changed_above kind from after) (λ row. row.id) (snapshot rows date)
    (Rises-current (is_changed_above kind from after) kind rows date
    (λ row e. kind_from_test kind row (and_parts (is_kind kind row) (is_above after row.id) (and_parts (is_kind_above kind after row) (nat_lt from row.time) e).0).0)
    (snapshot rows date) (IsAscending-snapshot rows date up) (λ row h. current_from_snapshot rows date row h)))

and_swapped : (a b c : Bool) → ((a && b) && c) ≡ ((a && c) && b)
and_swapped true true true = refl
and_swapped true true false = refl
and_swapped true false true = refl
and_swapped true false false = refl
and_swapped false b c = refl

-- the first that changed, and then those above it
pub changed_cons : (kind : Kind) (from date : ℕ) (after : Option ℕ) (rows : List RowValue) (b : RowValue) (ys : List RowValue) → IsAscending row_cmp rows → changed_above kind from date after rows ≡ b ∷ ys → changed_above kind from date after rows ≡ b ∷ changed_above kind from date (Some b.id) rows
unfolding changed_above
changed_cons kind from date after rows b ys up here =
    let test : RowValue → Bool = λ row. is_kind kind row && nat_lt from row.time in
    let same = λ (id : Option ℕ). filter_agree (is_changed_above kind from id) (λ (row : RowValue). test row && is_above id row.id) (λ (row : RowValue). and_swapped (is_kind kind row) (is_above id row.id) (nat_lt from row.time)) (snapshot rows date) in
    let rises = Rises-current (λ (row : RowValue). test row && is_above after row.id) kind rows date
    (λ row e. kind_from_test kind row (and_parts (is_kind kind row) (nat_lt from row.time) (and_parts (test row) (is_above after row.id) e).0).0)
    (snapshot rows date) (IsAscending-snapshot rows date up) (λ row h. current_from_snapshot rows date row h) in
    same after ∙ above_cons test after (snapshot rows date) b ys rises (sym (same after) ∙ here) ∙ ap (λ zs. b ∷ zs) (sym (same (Some b.id)))

-- ---- what was ever about a component

-- a row counts on its own day
pub on_its_day : (rows : List RowValue) (row : RowValue) → Has rows row → Has (snapshot rows row.time) row
on_its_day rows row h = Has-snapshot_from rows row.time row h (omega arith) (λ c there v early. early)

pub timeline_is_all : TimelineIsAll
unfolding timeline about versions
timeline_is_all kind id rows row = (
  λ h.
      let f = Has-filter (was_about kind id rows) rows row h in
      let p = and_parts (is_kind kind row) (list_any (λ other. is_about kind id other && is_version_of kind row.id other) rows) f.1 in
      let w = any_has (λ other. is_about kind id other && is_version_of kind row.id other) rows p.1 in
      let q = and_parts (is_about kind id w.0) (is_version_of kind row.id w.0) w.2 in
      let v = version_from_test kind row.id w.0 q.1 in (
        w.0.time,
        w.0,
        Has-filter_from (is_about kind id) (snapshot rows w.0.time) w.0 (on_its_day rows w.0 w.1) q.0,
        Has-filter_from (is_version_of kind w.0.id) rows row f.0 (test_from_version kind w.0.id row (kind_from_test kind row p.0) (sym v.id_is)),
      ),
  λ w.
      let other = w.1 in
      let f = Has-filter (is_about kind id) (snapshot rows w.0) other w.2 in
      let known = (current_from_snapshot rows w.0 other f.0).known in
      let kinds = (and_parts other.active (is_kind kind other) (and_parts (other.active && is_kind kind other) (is_subject id (subject_of other)) f.1).0).1 in
      let g = Has-filter (is_version_of kind other.id) rows row w.3 in
      let p = and_parts (is_kind kind row) (row.id == other.id) g.1 in
      let version : is_version_of kind row.id other ≡ true = and_from (is_kind kind other) (other.id == row.id) kinds (eq-eqb other.id row.id (sym (eqb-true row.id other.id p.1))) in
      Has-filter_from (was_about kind id rows) rows row g.0
      (and_from (is_kind kind row) _ p.0 (any_true (λ other. is_about kind id other && is_version_of kind row.id other) rows other known (and_from (is_about kind id other) (is_version_of kind row.id other) f.1 version))),
)

pub timeline_has_what_is_about : TimelineHasWhatIsAbout
unfolding about versions
timeline_has_what_is_about kind id date rows row h =
    let f = Has-filter (is_about kind id) (snapshot rows date) row h in
    let known = (current_from_snapshot rows date row f.0).known in
    let kinds = (and_parts row.active (is_kind kind row) (and_parts (row.active && is_kind kind row) (is_subject id (subject_of row)) f.1).0).1 in
    (timeline_is_all kind id rows row).1 (date, row, h, Has-filter_from (is_version_of kind row.id) rows row known (and_from (is_kind kind row) (row.id == row.id) kinds (eq-eqb row.id row.id refl)))

-- rows of one kind in the order of keys are in that of versions
by_version_less : (a b : RowValue) → (a.id < b.id) ⊎ ((a.id ≡ b.id) × (a.time < b.time)) → by_version a b ≡ Less
by_version_less a b h = elim h [
  | inl l ↦ ap (λ o. ordering_then o (nat_cmp a.time b.time)) (sym (nat_cmp_is a.id b.id Less l))
  | inr r ↦ ap (λ o. ordering_then o (nat_cmp a.time b.time)) (sym (nat_cmp_is a.id b.id Equal r.0)) ∙ sym (nat_cmp_is a.time b.time Less r.1)
]

versions_ascend : (kind : Kind) (xs : List RowValue) → ((x : RowValue) → Has xs x → kind_of x ≡ kind) → IsAscending row_cmp xs → IsAscending by_version xs
versions_ascend kind [] kinds up = tt
versions_ascend kind (x ∷ xs) kinds up = (
  all_from_has (λ y. by_version x y ≡ Less) xs (λ y h. by_version_less x y (below_in_kind x y (kinds x (inl refl) ∙ sym (kinds y (inr h))) (Has-all (λ y. row_cmp x y ≡ Less) xs y up.0 h))),
  versions_ascend kind xs (λ y h. kinds y (inr h)) up.1,
)

pub timeline_ascends : (kind : Kind) (id : ℕ) (rows : List RowValue) → IsAscending row_cmp rows → IsAscending by_version (timeline kind id rows)
unfolding timeline
timeline_ascends kind id rows up =
    versions_ascend kind (filter (was_about kind id rows) rows)
    (λ row h. kind_from_test kind row (and_parts (is_kind kind row) _ (Has-filter (was_about kind id rows) rows row h).1).0)
    (IsAscending-filter (was_about kind id rows) row_cmp rows up)

-- ---- what a component replaces

pub association_kind : (id : ℕ) (b : Body) → has_target id b ≡ true → kind_of_body b ≡ Association
association_kind id (body.Concept c) e = cc
association_kind id (body.Description d) e = cc
association_kind id (body.Relationship r) e = cc
association_kind id (body.Association a) e = refl
association_kind id (body.Concrete c) e = cc
association_kind id (body.Member m) e = cc

pub replaces_are_all : ReplacesAreAll
unfolding replaces
replaces_are_all id date rows row up = (
  λ h. elim (Has-put_all_cases replaced_cmp _ [] row h) [
    | inl k ↦ Has-filter (is_replaced_by id) (snapshot rows date) row k
    | inr k ↦ absurd k
  ],
  λ w. Has-put_all_new replaced_cmp _ [] row (λ y there tie. elim there [
    | inl k ↦
        let f = Has-filter (is_replaced_by id) (snapshot rows date) y k in
        let ids : row.id ≡ y.id = ranked row.id y.id Equal (sym (both_equal _ _ (both_equal _ _ tie).1).1) in
        let kinds : kind_of y ≡ kind_of row = association_kind id y.body (and_parts y.active (has_target id y.body) f.1).1 ∙ sym (association_kind id row.body (and_parts row.active (has_target id row.body) w.1).1) in
        one_row_of_a_component rows date y row up f.0 w.0 kinds (sym ids)
    | inr k ↦ absurd k
  ]) (Has-filter_from (is_replaced_by id) (snapshot rows date) row w.0 w.1),
)

pub other_end : (id target : ℕ) (b : Body) → refers_to id b ≡ true → target_of b ≡ target → (has_target target b ≡ true) × (referenced_of b ≡ id)
other_end id target (body.Concept c) e f = absurd (cc)
other_end id target (body.Description d) e f = absurd (cc)
other_end id target (body.Relationship r) e f = absurd (cc)
other_end id target (body.Association a) e f = (eq-eqb a.target target f, eqb-true a.referenced id e)
other_end id target (body.Concrete c) e f = absurd (cc)
other_end id target (body.Member m) e f = absurd (cc)

first_end : (id target : ℕ) (b : Body) → has_target target b ≡ true → referenced_of b ≡ id → (refers_to id b ≡ true) × (target_of b ≡ target)
first_end id target (body.Concept c) e f = absurd (cc)
first_end id target (body.Description d) e f = absurd (cc)
first_end id target (body.Relationship r) e f = absurd (cc)
first_end id target (body.Association a) e f = (eq-eqb a.referenced id f, eqb-true a.target target e)
first_end id target (body.Concrete c) e f = absurd (cc)
first_end id target (body.Member m) e f = absurd (cc)

pub both_ends_are_one : BothEndsAreOne
both_ends_are_one id target date rows row up = (
  λ h.
      let w = (replacements_are_all id date rows row up).0 h.0 in
      let p = and_parts row.active (refers_to id row.body) w.1 in
      let q = other_end id target row.body p.1 h.1 in
      ((replaces_are_all target date rows row up).1 (w.0, and_from row.active (has_target target row.body) p.0 q.0), q.1),
  λ h.
      let w = (replaces_are_all target date rows row up).0 h.0 in
      let p = and_parts row.active (has_target target row.body) w.1 in
      let q = first_end id target row.body p.1 h.1 in
      ((replacements_are_all id date rows row up).1 (w.0, and_from row.active (refers_to id row.body) p.0 q.0), q.1),
)

pub replaced_total : IsTotalOrder replaced_cmp
replaced_total = then_total (on_total (λ row. refset_of row.body) nat_cmp_total)
    (then_total (on_total (λ row. referenced_of row.body) nat_cmp_total) (on_total (λ row. row.id) nat_cmp_total))

pub replaces_ascend : (id date : ℕ) (rows : List RowValue) → IsAscending replaced_cmp (replaces id date rows)
unfolding replaces
replaces_ascend id date rows = IsAscending-in_order replaced_total (filter (is_replaced_by id) (snapshot rows date))

-- ---- which days have rows

pub dates_are_those_of_versions : DatesAreThoseOfVersions
unfolding dates versions
dates_are_those_of_versions rows time = (
  λ h.
      let m = Has-map (λ (row : RowValue). row.time) rows time (in_order_has (map (λ row. row.time) rows) time h) in
      (kind_of m.0, m.0.id, m.0, Has-filter_from (is_version_of (kind_of m.0) m.0.id) rows m.0 m.1 (test_from_version (kind_of m.0) m.0.id m.0 refl refl), m.2),
  λ w.
      let f = Has-filter (is_version_of w.0 w.1) rows w.2 w.3 in
      has_in_order (map (λ row. row.time) rows) time (subst (λ t. Has (map (λ (row : RowValue). row.time) rows) t) w.4 (Has-map_from (λ (row : RowValue). row.time) rows w.2 f.0)),
)

pub dates_ascend : DatesAscend
unfolding dates
dates_ascend rows = IsAscending-in_order nat_cmp_total (map (λ row. row.time) rows)

-- ---- later imports

pub dates_stay : DatesStay
dates_stay h release pin is le = ap dates (pinned_stays h release pin is le)
