-- Keys that are equal, rows that are looked up, and rows of several lists.
use Rattle.std.proofs.Common.{◌≡◌, ℕ, Bool, true, false, List, refl, arith}
use Rattle.std.specs.Prelude.{◌&&◌, ◌==◌, Some}
use Rattle.std.proofs.lemmas.Bool.Decides.{nat_tests}
use Rattle.std.proofs.lemmas.Bool.{and_parts, eqb-true}
use Rattle.rf2_values.specs.declared.row.Kind.{Kind}
use Rattle.rf2_values.specs.declared.key.Key.{Key}
use Rattle.rf2_values.specs.Row.{RowValue}
use Rattle.rf2_values.specs.Key.{kind_place}
use Rattle.history_model.specs.InOrder.{Has}
use Rattle.history_model.specs.Queries.{get, snapshot, is_version_of}
use Rattle.history_model.proofs.Keys.{same_kind}
use Rattle.history_model.proofs.Audits.{find_has}

-- the two keys are equal
abbrev is_same_key : Key → Key → Bool
is_same_key a b = kind_place a.kind == kind_place b.kind && a.id == b.id && a.time == b.time

pub key_test : (k : Key) → is_same_key k k ≡ true
key_test k =
    let a : (kind_place k.kind == kind_place k.kind) ≡ true = grind (arith, nat_tests) in
    let b : (k.id == k.id) ≡ true = grind (arith, nat_tests) in
    let c : (k.time == k.time) ≡ true = grind (arith, nat_tests) in
    rw (a, b, c) refl

pub key_from_test : (j k : Key) → is_same_key j k ≡ true → j ≡ k
key_from_test j k e =
    let p = and_parts (kind_place j.kind == kind_place k.kind && j.id == k.id) (j.time == k.time) (and_assoc (kind_place j.kind == kind_place k.kind) (j.id == k.id) (j.time == k.time) e) in
    let q = and_parts (kind_place j.kind == kind_place k.kind) (j.id == k.id) p.0 in
    let kinds = same_kind j.kind k.kind (eqb-true _ _ q.0) in
    let ids = eqb-true j.id k.id q.1 in
    let times : j.time ≡ k.time = eqb-true _ _ p.1 in
    λ i. record { kind = kinds i; id = ids i; time = times i } where
      and_assoc : (a b c : Bool) → (a && b && c) ≡ true → ((a && b) && c) ≡ true
      and_assoc true b c e = e
      and_assoc false b c e = e

-- ---- a component's row and the snapshot

pub looked_up : (kind : Kind) (id date : ℕ) (rows : List RowValue) (b : RowValue) → get kind id date rows ≡ Some b → Has (snapshot rows date) b
unfolding get
looked_up kind id date rows b e = (find_has (is_version_of kind id) (snapshot rows date) b e).0

-- ---- rows of several lists
