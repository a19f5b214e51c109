-- What is wrong with a line.
use Rattle.std.specs.Prelude.{◌≡◌, ◌≢◌, ℕ, ◌≤◌, ◌<◌, ◌^◌, ◌==◌, ◌⊎◌, Bool, List, [], ◌∷◌, ◌++◌}
use Rattle.std.specs.Prelude.{length, map, replicate, decimal, codes}
use Rattle.std.specs.List.{slice_split}
use Rattle.std.specs.Str.{IsUtf8}
use Rattle.rf2_values.specs.declared.sctid.Class.{Class}
use Rattle.rf2_values.specs.declared.sctid.Class.TheVariants as class
use Rattle.rf2_values.specs.declared.row.Kind.{Kind}
use Rattle.rf2_values.specs.declared.row.Kind.TheVariants as kind
use Rattle.rf2_rows.specs.declared.fault.LineFault.{LineFault}
use Rattle.rf2_rows.specs.declared.fault.LineFault.TheVariants as fault
use Rattle.rf2_values.specs.Sctid.{IsSctid}
use Rattle.rf2_values.specs.Time.{IsTime}
use Rattle.rf2_values.specs.Text.{IsText, IsColumn}
use Rattle.rf2_rows.specs.declared.fault.RowFault.{RowFault}
use Rattle.rf2_rows.specs.declared.fault.RowFault.TheVariants as rowfault
use Rattle.rf2_rows.specs.declared.shape.Shape.{Shape}
use Rattle.rf2_values.specs.Row.{RowValue, IsOfClass, IsConcept, IsComponent, IsIdOf, SpellsId, flag}
use Rattle.rf2_values.specs.Row.{kind_of, body_columns, line_limit, line_of}

-- the texts between the TABs
abbrev pub columns_of : List ℕ → List (List ℕ)
columns_of text = slice_split (λ b. b == 9) text

-- the contents of a column
pub data Column : Type 0 where
  Identifier : Kind → Column
  Time : Column
  Active : Column
  ConceptReference : Column
  ComponentReference : Column
  Number : Column
  Text : Column
  Any : Column

-- the columns that every kind has, each with its name
abbrev pub common_layout : Kind → List (List ℕ × Column)
common_layout kind =
    (codes "id", Identifier kind)
    ∷ (codes "effectiveTime", Time)
    ∷ (codes "active", Active)
    ∷ (codes "moduleId", ConceptReference)
    ∷ []

-- the further columns that only this kind has
abbrev pub own_layout : Kind → List (List ℕ × Column)
own_layout kind.Concept = (codes "definitionStatusId", ConceptReference) ∷ []
own_layout kind.Description =
    (codes "conceptId", ConceptReference)
    ∷ (codes "languageCode", Text)
    ∷ (codes "typeId", ConceptReference)
    ∷ (codes "term", Text)
    ∷ (codes "caseSignificanceId", ConceptReference)
    ∷ []
own_layout kind.Relationship =
    (codes "sourceId", ConceptReference)
    ∷ (codes "destinationId", ConceptReference)
    ∷ (codes "relationshipGroup", Number)
    ∷ (codes "typeId", ConceptReference)
    ∷ (codes "characteristicTypeId", ConceptReference)
    ∷ (codes "modifierId", ConceptReference)
    ∷ []
own_layout kind.Association =
    (codes "refsetId", ConceptReference)
    ∷ (codes "referencedComponentId", ComponentReference)
    ∷ (codes "targetComponentId", ComponentReference)
    ∷ []
own_layout kind.Concrete =
    (codes "sourceId", ConceptReference)
    ∷ (codes "value", Text)
    ∷ (codes "relationshipGroup", Number)
    ∷ (codes "typeId", ConceptReference)
    ∷ (codes "characteristicTypeId", ConceptReference)
    ∷ (codes "modifierId", ConceptReference)
    ∷ []
own_layout kind.Member =
    (codes "refsetId", ConceptReference)
    ∷ (codes "referencedComponentId", ComponentReference)
    ∷ []

-- the columns after these: `n` for members, and none for other kinds
abbrev pub further_layout : Kind → ℕ → List Column
further_layout kind.Member n = replicate n Any
further_layout _ n = []

abbrev pub columns_in : List (List ℕ × Column) → List Column
columns_in layout = map (λ c. c.1) layout

-- the columns of lines of the shape, besides the common ones
abbrev pub own_columns : Shape → List Column
own_columns shape =
    columns_in (own_layout shape.kind) ++ further_layout shape.kind shape.further

abbrev pub columns : Shape → List Column
columns shape = columns_in (common_layout shape.kind) ++ own_columns shape

-- the row is of the shape's kind, and has as many columns
abbrev pub HasShape : Shape → RowValue → Type 0
HasShape shape v =
    (kind_of v ≡ shape.kind) × (length (body_columns v.body) ≡ length (own_columns shape))

-- the column names of each file of the kind
abbrev pub header : Kind → List ℕ
header kind = line_of (map (λ c. c.0) (common_layout kind ++ own_layout kind))

-- the text spells a number with this property
abbrev pub SpellsSome : (ℕ → Type 0) → List ℕ → Type 0
SpellsSome P text = (n : ℕ) × P n × (text ≡ decimal n)

-- the text is allowed in the column
abbrev pub MayStand : Column → List ℕ → Type 0
MayStand (Identifier kind) text = (n : ℕ) × IsIdOf kind n × SpellsId kind n text
MayStand Time text = SpellsSome IsTime text
MayStand Active text = (active : Bool) × (text ≡ flag active)
MayStand ConceptReference text = SpellsSome IsConcept text
MayStand ComponentReference text = SpellsSome IsComponent text
MayStand Number text = SpellsSome (λ n. n < 2 ^ 32) text
MayStand Text text = IsText text
MayStand Any text = IsColumn text

-- the fault of a text that isn't an SCTID of the class
abbrev pub HasClassFault : Class → List ℕ → LineFault → Type 0
HasClassFault c text f =
    (¬ (SpellsSome IsSctid text) × (f ≡ fault.Id))
    ⊎ (SpellsSome IsSctid text × ¬ (SpellsSome (IsOfClass c) text) × (f ≡ fault.Partition))

-- the fault of a text that isn't an identifier of the kind
abbrev pub HasIdFault : Kind → List ℕ → LineFault → Type 0
HasIdFault kind.Concept text f = HasClassFault class.Concept text f
HasIdFault kind.Description text f = HasClassFault class.Description text f
HasIdFault kind.Relationship text f = HasClassFault class.Relationship text f
HasIdFault kind.Association text f =
    ¬ (MayStand (Identifier kind.Association) text) × (f ≡ fault.MemberId)
HasIdFault kind.Concrete text f = HasClassFault class.Relationship text f
HasIdFault kind.Member text f =
    ¬ (MayStand (Identifier kind.Member) text) × (f ≡ fault.MemberId)

-- the fault of a text that isn't allowed in the column
abbrev pub HasFault : Column → List ℕ → LineFault → Type 0
HasFault (Identifier kind) text f = HasIdFault kind text f
HasFault Time text f = ¬ (MayStand Time text) × (f ≡ fault.Time)
HasFault Active text f = ¬ (MayStand Active text) × (f ≡ fault.Active)
HasFault ConceptReference text f = ¬ (MayStand ConceptReference text) × (f ≡ fault.Reference)
HasFault ComponentReference text f = ¬ (MayStand ComponentReference text) × (f ≡ fault.Reference)
HasFault Number text f = ¬ (MayStand Number text) × (f ≡ fault.Number)
HasFault Text text f = ¬ (MayStand Text text) × (f ≡ fault.EmptyText)
HasFault Any text f = ¬ (MayStand Any text) × (f ≡ fault.EmptyText)

-- the fault of the first text, from the left, that isn't allowed in its column
unfoldable pub FirstFault : List Column → List (List ℕ) → LineFault → Type 0
FirstFault [] texts f = ⊥
FirstFault (c ∷ cs) [] f = ⊥
FirstFault (c ∷ cs) (t ∷ ts) f = HasFault c t f ⊎ (MayStand c t × FirstFault cs ts f)

-- the first fault of columns
abbrev pub IsFaultOfColumns : Shape → List (List ℕ) → LineFault → Type 0
IsFaultOfColumns shape texts f =
    ((length texts ≢ length (columns shape)) × (f ≡ fault.Columns))
    ⊎ ((length texts ≡ length (columns shape)) × FirstFault (columns shape) texts f)

-- the first fault of a line
abbrev pub IsFaultOf : Shape → List ℕ → LineFault → Type 0
IsFaultOf shape text f =
    ((line_limit < length text) × (f ≡ fault.LineLength))
    ⊎ ((length text ≤ line_limit)
    × ((¬ (IsUtf8 text) × (f ≡ fault.NotUtf8))
    ⊎ (IsUtf8 text × IsFaultOfColumns shape (columns_of text) f)))

-- a fault of reading is this one, unless memory ran out
abbrev pub IsLineFaultThat : (LineFault → Type 0) → RowFault → Type 0
IsLineFaultThat P rowfault.OutOfMemory = Unit {0}
IsLineFaultThat P (rowfault.Line f) = P f
