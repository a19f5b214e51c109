-- Each question's path: a row passes the test exactly if one of its postings is wanted.
use Rattle.std.proofs.Common.{◌≡◌, ℕ, zero, suc, Bool, true, false, List, [], ◌∷◌, refl, sym, ap, subst, inl, inr, ◌∙◌}
use Rattle.std.specs.Prelude.{◌||◌, ◌&&◌, ◌==◌, not, Option, Some, None, if◌then◌else◌}
use Rattle.std.proofs.lemmas.Bool.{and_parts}
use Rattle.std.specs.List.{list_any}
use Rattle.rf2_values.specs.declared.row.Body.{Body}
use Rattle.rf2_values.specs.declared.row.Body.TheVariants as body
use Rattle.rf2_values.specs.declared.row.Kind.TheVariants.{Member}
use Rattle.rf2_values.specs.Row.{RowValue, kind_of_body}
use Rattle.history_model.specs.InOrder.{Has}
use Rattle.history_model.specs.Relationships.{is_of_type, says_to, leads_to}
use Rattle.history_model.specs.Queries.{is_a, is_child_of, is_parent_of, says_is_kind, source_of, destination_of, refset_of, is_replaced_by, is_member_of, component_of, member_component}
use Rattle.history_model.proofs.Items.{Has-if}
use Rattle.history_model.proofs.Relationships.{same_test}
use Rattle.history_model.proofs.Snapshots.{and-true}
use Rattle.links.specs.declared.posting.Tag.{Tag}
use Rattle.links.specs.declared.posting.Tag.TheVariants as tags
use Rattle.links.specs.declared.wanted.Seconds.TheVariants as seconds
use Rattle.links.specs.declared.wanted.Wanted.{Wanted}
use Rattle.links.specs.Edges.{RowKey, row_key, plain_key, keys_of_relationship, keys_of_body, tag_place}
use Rattle.links.specs.Selection.{is_between, is_second, is_wanted, IsPath, IsMemberPath}
use Rattle.links.specs.declared.wanted.Seconds.{Seconds}
use Rattle.links.specs.Private.Asking.{all_with, sources_with}
use Rattle.links.specs.Private.Memberships.{members_with}

or_false : (b : Bool) → b ≡ (b || false)
or_false true = refl
or_false false = refl

and_false : (b : Bool) → (b && false) ≡ false
and_false true = refl
and_false false = refl

-- no posting is wanted
none_if : (w : Wanted) (c : Bool) (ks : List RowKey) → list_any (is_wanted w) ks ≡ false → false ≡ list_any (is_wanted w) (if c then ks else [])
none_if w true ks e = sym e
none_if w false ks e = refl

abbrev pub target_keys : (target refset : ℕ) → List RowKey
target_keys target refset = plain_key tags.Target target refset true ∷ []

-- the second key of a relationship, if it has one
abbrev second_key : Bool → RowKey → List RowKey
second_key has k = if has then k ∷ [] else []

two_parts : (has y : Bool) (w : Wanted) (k : RowKey) → is_wanted w k ≡ y → list_any (is_wanted w) (second_key has k) ≡ (y && has)
two_parts true y w k e = rw e (sym (or_false y) ∙ and-true y)
two_parts false y w k e = sym (and_false y)

-- no key of a relationship is wanted
none_leads : (w : Wanted) (source type_id destination : ℕ) → is_wanted w (row_key tags.Source destination type_id source true) ≡ false → is_wanted w (row_key tags.Parent source type_id destination true) ≡ false → list_any (is_wanted w) (keys_of_relationship source type_id destination) ≡ false
none_leads w source type_id destination e f = rw e (two_parts (type_id == is_a) false w (row_key tags.Parent source type_id destination true) f)

-- ---- sources and parents

if_active : (active t : Bool) (w : Wanted) (ks : List RowKey) → list_any (is_wanted w) ks ≡ t → (active && t) ≡ list_any (is_wanted w) (if active then ks else [])
if_active true t w ks e = sym e
if_active false t w ks e = refl

turned : (x y : Bool) → (((x && true) && y) || false) ≡ (y && x)
turned true true = refl
turned true false = refl
turned false true = refl
turned false false = refl

module _ (type_id : Option ℕ) (destination : ℕ) where
  abbrev w : Wanted
  w = sources_with type_id destination

  only_source : (o : Option ℕ) (s t d : ℕ) → list_any (is_wanted (sources_with o destination)) (keys_of_relationship s t d) ≡ (d == destination && is_of_type o t)
  only_source None s t d = rw (two_parts (t == is_a) false (sources_with None destination) (row_key tags.Parent s t d true) refl) (turned true (d == destination))
  only_source (Some o) s t d = rw (two_parts (t == is_a) false (sources_with (Some o) destination) (row_key tags.Parent s t d true) refl) (turned (t == o) (d == destination))

  plain_none : (o : Option ℕ) (tag : Tag) (first second : ℕ) (active : Bool) → (tag_place tag == 0) ≡ false → is_wanted (sources_with o destination) (plain_key tag first second active) ≡ false
  plain_none None tag first second active e = rw e refl
  plain_none (Some o) tag first second active e = rw e refl

  source_path : (active : Bool) (b : Body) → (active && says_to type_id destination b) ≡ list_any (is_wanted w) (keys_of_body active b)
  source_path active (body.Concept c) = and_false active
  source_path active (body.Description d) = and_false active
  source_path active (body.Relationship r) = if_active active (r.destination == destination && is_of_type type_id r.type_id) w (keys_of_relationship r.source r.type_id r.destination) (only_source type_id r.source r.type_id r.destination)
  source_path active (body.Association a) = and_false active ∙ none_if w active (target_keys a.target a.refset) (rw (plain_none type_id tags.Target a.target a.refset true refl) refl)
  source_path active (body.Concrete c) = and_false active
  source_path active (body.Member m) = and_false active ∙ rw (plain_none type_id tags.Member m.refset m.referenced active refl) refl

  pub path_of_sources : IsPath (leads_to type_id destination) (sources_with type_id destination)
  path_of_sources row = source_path row.active row.body

module _ (concept : ℕ) where
  pub path_of_children : IsPath (is_child_of concept) (sources_with (Some is_a) concept)
  path_of_children row = ap (λ t. row.active && t) (sym (same_test concept row.body)) ∙ path_of_sources (Some is_a) concept row

  only_parent : (s t d : ℕ) → list_any (is_wanted (all_with tags.Parent concept)) (keys_of_relationship s t d) ≡ (s == concept && t == is_a)
  only_parent s t d = two_parts (t == is_a) (s == concept) (all_with tags.Parent concept) (row_key tags.Parent s t d true) refl

  parent_path : (active : Bool) (b : Body) → (active && says_is_kind concept b) ≡ list_any (is_wanted (all_with tags.Parent concept)) (keys_of_body active b)
  parent_path active (body.Concept c) = and_false active
  parent_path active (body.Description d) = and_false active
  parent_path active (body.Relationship r) = if_active active (r.source == concept && r.type_id == is_a) (all_with tags.Parent concept) (keys_of_relationship r.source r.type_id r.destination) (only_parent r.source r.type_id r.destination)
  parent_path active (body.Association a) = and_false active ∙ none_if (all_with tags.Parent concept) active (target_keys a.target a.refset) refl
  parent_path active (body.Concrete c) = and_false active
  parent_path active (body.Member m) = and_false active

  pub path_of_parents : IsPath (is_parent_of concept) (all_with tags.Parent concept)
  path_of_parents row = parent_path row.active row.body

-- ---- what postings lead to, and their second numbers

-- by the place of a posting's tag, what it leads to, and what its second number is
abbrev pub end_at : ℕ → Body → ℕ
end_at zero b = source_of b
end_at (suc zero) b = destination_of b
end_at (suc (suc n)) b = 0

abbrev type_of : Body → ℕ
type_of (body.Relationship r) = r.type_id
type_of _ = 0

abbrev pub second_at : ℕ → Body → ℕ
second_at zero b = type_of b
second_at (suc zero) b = type_of b
second_at (suc (suc zero)) b = refset_of b
second_at (suc (suc (suc n))) b = member_component b

-- a key has the body's numbers
abbrev IsOf : Body → RowKey → Type 0
IsOf b k = (second_at (tag_place k.tag) b ≡ k.second) × (end_at (tag_place k.tag) b ≡ k.end)

of_same : (b : Body) (j k : RowKey) → j ≡ k → IsOf b j → IsOf b k
of_same b j k same e = subst (IsOf b) same e

second_of : (b : Body) (has : Bool) (j k : RowKey) → IsOf b j → Has (second_key has j) k → IsOf b k
second_of b true j k e h = elim h [ inl same ↦ of_same b j k same e | inr f ↦ absurd f ]
second_of b false j k e h = absurd h

numbers_are : (active : Bool) (b : Body) (k : RowKey) → Has (keys_of_body active b) k → IsOf b k
numbers_are active (body.Concept c) k h = absurd h
numbers_are active (body.Description d) k h = absurd h
numbers_are active (body.Relationship r) k h =
    elim (Has-if active (keys_of_relationship r.source r.type_id r.destination) k h).1 [
      | inl same ↦ of_same (body.Relationship r) (row_key tags.Source r.destination r.type_id r.source true) k same (refl, refl)
      | inr rest ↦ second_of (body.Relationship r) (r.type_id == is_a) (row_key tags.Parent r.source r.type_id r.destination true) k (refl, refl) rest
    ]
numbers_are active (body.Association a) k h =
    elim (Has-if active (target_keys a.target a.refset) k h).1 [ inl same ↦ of_same (body.Association a) (plain_key tags.Target a.target a.refset true) k same (refl, refl) | inr f ↦ absurd f ]
numbers_are active (body.Concrete c) k h = absurd h
numbers_are active (body.Member m) k h = elim h [ inl same ↦ of_same (body.Member m) (plain_key tags.Member m.refset m.referenced active) k same (refl, refl) | inr f ↦ absurd f ]

pub second_is : (active : Bool) (b : Body) (k : RowKey) → Has (keys_of_body active b) k → second_at (tag_place k.tag) b ≡ k.second
second_is active b k h = (numbers_are active b k h).0

pub end_is : (active : Bool) (b : Body) (k : RowKey) → Has (keys_of_body active b) k → end_at (tag_place k.tag) b ≡ k.end
end_is active b k h = (numbers_are active b k h).1

-- ---- associations by their targets

module _ (id : ℕ) where
  target_path : (active : Bool) (b : Body) (row : RowValue) → row.active ≡ active → row.body ≡ b → is_replaced_by id row ≡ list_any (is_wanted (all_with tags.Target id)) (keys_of_body active b)
  target_path active (body.Concept c) row e f = rw (e, f) (and_false active)
  target_path active (body.Description d) row e f = rw (e, f) (and_false active)
  target_path active (body.Relationship r) row e f = rw (e, f) (and_false active ∙ none_if (all_with tags.Target id) active (keys_of_relationship r.source r.type_id r.destination) (none_leads (all_with tags.Target id) r.source r.type_id r.destination refl refl))
  target_path active (body.Association a) row e f = rw (e, f) (if_active active (a.target == id) (all_with tags.Target id) (target_keys a.target a.refset) (sym (or_false (a.target == id))))
  target_path active (body.Concrete c) row e f = rw (e, f) (and_false active)
  target_path active (body.Member m) row e f = rw (e, f) (and_false active)

  pub path_of_targets : IsPath (is_replaced_by id) (all_with tags.Target id)
  path_of_targets row = target_path row.active row.body row refl refl

-- ---- members

-- a member is one of the kind
pub member_kind : (refset : ℕ) (b : Body) → is_member_of refset b ≡ true → kind_of_body b ≡ Member
member_kind refset (body.Concept c) e = absurd (cc)
member_kind refset (body.Description d) e = absurd (cc)
member_kind refset (body.Relationship r) e = absurd (cc)
member_kind refset (body.Association a) e = absurd (cc)
member_kind refset (body.Concrete c) e = absurd (cc)
member_kind refset (body.Member m) e = refl

or_true : (a : Bool) → (a || true) ≡ true
or_true true = refl
or_true false = refl

last_first : (a b c : Bool) → (a && b && c) ≡ ((c && (a || false)) && b)
last_first true true true = refl
last_first true true false = refl
last_first true false true = refl
last_first true false false = refl
last_first false true true = refl
last_first false true false = refl
last_first false false true = refl
last_first false false false = refl

module _ (refset : ℕ) (those : Seconds) (only_active : Bool) where
  abbrev members : Wanted
  members = members_with refset those only_active

  -- what says of a body that it is of a member that is wanted
  abbrev pub is_wanted_member : Bool → Body → Bool
  is_wanted_member active b = is_second those (member_component b) && (active || not only_active) && is_member_of refset b

  body_path : (active : Bool) (b : Body) → is_wanted_member active b ≡ list_any (is_wanted members) (keys_of_body active b)
  body_path active (body.Concept c) = and_false (is_second those 0 && (active || not only_active))
  body_path active (body.Description d) = and_false (is_second those 0 && (active || not only_active))
  body_path active (body.Relationship r) = and_false (is_second those 0 && (active || not only_active)) ∙ none_if members active (keys_of_relationship r.source r.type_id r.destination) (none_leads members r.source r.type_id r.destination refl refl)
  body_path active (body.Association a) = and_false (is_second those 0 && (active || not only_active)) ∙ none_if members active (target_keys a.target a.refset) refl
  body_path active (body.Concrete c) = and_false (is_second those 0 && (active || not only_active))
  body_path active (body.Member m) = or_false (is_wanted_member active (body.Member m))

  -- each test that says the same has these members as its path
  pub path_of_wanted : (test : RowValue → Bool) → ((row : RowValue) → test row ≡ is_wanted_member row.active row.body) → IsMemberPath test members
  path_of_wanted test same = record {
    path = λ row. same row ∙ body_path row.active row.body;
    of_kind = λ row e. member_kind refset row.body (and_parts (is_second those (component_of row) && (row.active || not only_active)) (is_member_of refset row.body) (sym (same row) ∙ e)).1;
  }

module _ (refset : ℕ) where
  pub path_of_members : IsMemberPath (λ row. is_member_of refset row.body) (members_with refset (seconds.Between None None) false)
  path_of_members = path_of_wanted refset (seconds.Between None None) false _ (λ row. ap (λ a. a && is_member_of refset row.body) (sym (or_true row.active)))

  -- an active member that refers to a component greater than `after` and at most `last`, if these are given
  abbrev pub is_value_between : Option ℕ → Option ℕ → RowValue → Bool
  is_value_between after last row = row.active && is_member_of refset row.body && is_between after last (component_of row)

  pub path_of_values : (after last : Option ℕ) → IsPath (is_value_between after last) (members_with refset (seconds.Between after last) true)
  path_of_values after last = (path_of_wanted refset (seconds.Between after last) true _ (λ row. last_first row.active (is_member_of refset row.body) (is_between after last (component_of row)))).path

  -- an active member that refers to the component
  abbrev pub is_member_about : ℕ → RowValue → Bool
  is_member_about component row = row.active && is_member_of refset row.body && component_of row == component

  pub path_of_members_about : (component : ℕ) → IsPath (is_member_about component) (members_with refset (seconds.Only component) true)
  path_of_members_about component = (path_of_wanted refset (seconds.Only component) true _ (λ row. last_first row.active (is_member_of refset row.body) (component_of row == component))).path
