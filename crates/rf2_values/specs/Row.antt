-- What a row is, and how a line spells it.
use Rattle.std.specs.Prelude.{◌≡◌, ℕ, ◌≤◌, ◌<◌, ◌^◌, Bool, true, false, List, [], ◌∷◌, length, Some}
use Rattle.std.specs.Prelude.{IsSome, decimal}
use Rattle.std.specs.List.{join_with_byte}
use Rattle.rf2_values.specs.declared.sctid.Class.{Class}
use Rattle.rf2_values.specs.declared.sctid.Class.TheVariants as class
use Rattle.rf2_values.specs.declared.row.Kind.{Kind}
use Rattle.rf2_values.specs.declared.row.Kind.TheVariants as kind
use Rattle.rf2_values.specs.declared.row.Body.{Body}
use Rattle.rf2_values.specs.declared.row.Body.TheVariants as body
use Rattle.rf2_values.specs.Sctid.{IsSctid, class_of}
use Rattle.rf2_values.specs.Time.{IsTime}
use Rattle.rf2_values.specs.Text.{IsText, IsFurther, further_columns}
use Rattle.rf2_values.specs.Member.{SpellsMember, member_text}

-- a row as clauses see it
pub record RowValue : Type 0 where
  pub id : ℕ
  pub time : ℕ
  pub active : Bool
  pub module_id : ℕ
  pub body : Body

abbrev pub version : ℕ → ℕ → Bool → ℕ → Body → RowValue
version id time active module_id body =
    record { id = id; time = time; active = active; module_id = module_id; body = body }

abbrev pub kind_of_body : Body → Kind
kind_of_body (body.Concept c) = kind.Concept
kind_of_body (body.Description d) = kind.Description
kind_of_body (body.Relationship r) = kind.Relationship
kind_of_body (body.Association a) = kind.Association
kind_of_body (body.Concrete c) = kind.Concrete
kind_of_body (body.Member m) = kind.Member

abbrev pub kind_of : RowValue → Kind
kind_of v = kind_of_body v.body

-- an SCTID of a class
pub record IsOfClass (c : Class) (n : ℕ) : Type 0 where
  pub sctid : IsSctid n
  pub «class» : class_of n ≡ Some c

abbrev pub IsConcept : ℕ → Type 0
IsConcept n = IsOfClass class.Concept n

-- an SCTID of a concept, a description or a relationship
pub record IsComponent (n : ℕ) : Type 0 where
  pub sctid : IsSctid n
  pub some_class : IsSome (class_of n)

-- the identifiers of a kind
abbrev pub IsIdOf : Kind → ℕ → Type 0
IsIdOf kind.Concept n = IsOfClass class.Concept n
IsIdOf kind.Description n = IsOfClass class.Description n
IsIdOf kind.Relationship n = IsOfClass class.Relationship n
IsIdOf kind.Association n = n < 2 ^ 128
IsIdOf kind.Concrete n = IsOfClass class.Relationship n
IsIdOf kind.Member n = n < 2 ^ 128

abbrev pub IsBody : Body → Type 0
IsBody (body.Concept c) = IsConcept c.definition_status
IsBody (body.Description d) =
    IsConcept d.concept × IsText d.language_code × IsConcept d.type_id × IsText d.term
    × IsConcept d.case_significance
IsBody (body.Relationship r) =
    IsConcept r.source × IsConcept r.destination × (r.group < 2 ^ 32) × IsConcept r.type_id
    × IsConcept r.characteristic_type × IsConcept r.modifier
IsBody (body.Association a) = IsConcept a.refset × IsComponent a.referenced × IsComponent a.target
IsBody (body.Concrete c) =
    IsConcept c.source × IsText c.value × (c.group < 2 ^ 32) × IsConcept c.type_id
    × IsConcept c.characteristic_type × IsConcept c.modifier
IsBody (body.Member m) = IsConcept m.refset × IsComponent m.referenced × IsFurther m.further

-- ---- how a line spells a row

abbrev pub flag : Bool → List ℕ
flag false = 48 ∷ []
flag true = 49 ∷ []

-- the text spells an identifier of the kind, in its column
abbrev pub SpellsId : Kind → ℕ → List ℕ → Type 0
SpellsId kind.Concept n text = text ≡ decimal n
SpellsId kind.Description n text = text ≡ decimal n
SpellsId kind.Relationship n text = text ≡ decimal n
SpellsId kind.Association n text = SpellsMember n text
SpellsId kind.Concrete n text = text ≡ decimal n
SpellsId kind.Member n text = SpellsMember n text

-- the canonical spelling of an identifier of the kind
abbrev pub id_text : Kind → ℕ → List ℕ
id_text kind.Concept n = decimal n
id_text kind.Description n = decimal n
id_text kind.Relationship n = decimal n
id_text kind.Association n = member_text n
id_text kind.Concrete n = decimal n
id_text kind.Member n = member_text n

abbrev pub body_columns : Body → List (List ℕ)
body_columns (body.Concept c) = decimal c.definition_status ∷ []
body_columns (body.Description d) =
    decimal d.concept ∷ d.language_code ∷ decimal d.type_id ∷ d.term
    ∷ decimal d.case_significance ∷ []
body_columns (body.Relationship r) =
    decimal r.source ∷ decimal r.destination ∷ decimal r.group ∷ decimal r.type_id
    ∷ decimal r.characteristic_type ∷ decimal r.modifier ∷ []
body_columns (body.Association a) =
    decimal a.refset ∷ decimal a.referenced ∷ decimal a.target ∷ []
body_columns (body.Concrete c) =
    decimal c.source ∷ c.value ∷ decimal c.group ∷ decimal c.type_id
    ∷ decimal c.characteristic_type ∷ decimal c.modifier ∷ []
body_columns (body.Member m) =
    decimal m.refset ∷ decimal m.referenced ∷ further_columns m.further

-- the columns of a row after the identifier, in their canonical spelling
abbrev pub later_columns : RowValue → List (List ℕ)
later_columns v =
    decimal v.time ∷ flag v.active ∷ decimal v.module_id ∷ body_columns v.body

-- the columns joined by TAB
abbrev pub line_of : List (List ℕ) → List ℕ
line_of columns = join_with_byte 9 columns

-- the canonical spelling of a row
abbrev pub canonical : RowValue → List ℕ
canonical v = line_of (id_text (kind_of v) v.id ∷ later_columns v)

-- the most bytes that a line may have, without its line end
abbrev pub line_limit : ℕ
line_limit = 65535

-- which rows are valid
pub record IsVersion (v : RowValue) : Type 0 where
  pub id : IsIdOf (kind_of v) v.id
  pub time : IsTime v.time
  pub module_id : IsOfClass class.Concept v.module_id
  pub body : IsBody v.body
  pub short : length (canonical v) ≤ line_limit

-- the texts spell the row's columns
abbrev pub SpellsColumns : RowValue → List (List ℕ) → Type 0
SpellsColumns v texts =
    (id : List ℕ) × SpellsId (kind_of v) v.id id × (texts ≡ id ∷ later_columns v)

-- the text spells the row's columns, joined by TAB, in no more bytes than a line may have
pub record Spells (v : RowValue) (text : List ℕ) : Type 0 where
  pub is_row : IsVersion v
  pub columns : (texts : List (List ℕ)) × SpellsColumns v texts × (text ≡ line_of texts)
  pub short : length text ≤ line_limit
