-- What a release file is, and what is wrong with a file that isn't one.
use Rattle.std.specs.Prelude.{◌≡◌, ◌≢◌, ℕ, ◌+◌, ◌-◌, ◌≤◌, ◌<◌, ◌⊎◌, List, [], ◌∷◌, ◌++◌, length, map}
use Rattle.std.specs.Prelude.{drop, nat_eq, slice_index, if◌then◌else◌}
use Rattle.std.specs.List.{AllZip, starts_with}
use Rattle.std.specs.Str.{IsUtf8}
use Rattle.bstr.specs.Text.{lines_of, without_terminator}
use Rattle.rf2_values.specs.declared.row.Kind.{Kind}
use Rattle.rf2_values.specs.declared.row.Kind.TheVariants as kind
use Rattle.rf2_rows.specs.declared.fault.LineFault.{LineFault}
use Rattle.rf2_rows.specs.declared.fault.FileFault.{FileFault}
use Rattle.rf2_rows.specs.declared.fault.FileFault.TheVariants as filefault
use Rattle.rf2_rows.specs.declared.fault.LineFault.TheVariants as fault
use Rattle.rf2_values.specs.Text.{IsFurther, further_columns}
use Rattle.rf2_values.specs.Row.{RowValue, Spells, line_limit}
use Rattle.rf2_rows.specs.declared.shape.Shape.{Shape}
use Rattle.rf2_rows.specs.Line.{header, HasShape, IsFaultOf}

-- the possible ends of a line with this text: CR LF, or LF alone if the text itself doesn't end
-- with CR
abbrev pub IsLineEnd : List ℕ → List ℕ → Type 0
IsLineEnd text end =
    ((end ≡ 10 ∷ []) × (slice_index text (length text - 1) ≢ 13)) ⊎ (end ≡ 13 ∷ 10 ∷ [])

-- the bytes are the texts in order, each with a line end, which the last one may lack
abbrev pub InLines : List (List ℕ) → List ℕ → Type 0
InLines [] bytes = bytes ≡ []
InLines (t ∷ []) bytes = (bytes ≡ t) ⊎ ((end : List ℕ) × IsLineEnd t end × (bytes ≡ t ++ end))
InLines (t ∷ u ∷ us) bytes =
    (end : List ℕ) × (rest : List ℕ) × IsLineEnd t end × (bytes ≡ t ++ (end ++ rest))
    × InLines (u ∷ us) rest

-- the byte order mark
abbrev pub mark : List ℕ
mark = 0xef ∷ 0xbb ∷ 0xbf ∷ []

-- the text has the column names of a file of the kind that has `n` further columns, whose names may
-- be any
abbrev pub IsHeader : Kind → ℕ → List ℕ → Type 0
IsHeader kind.Concept n text = (n ≡ 0) × (text ≡ header kind.Concept)
IsHeader kind.Description n text = (n ≡ 0) × (text ≡ header kind.Description)
IsHeader kind.Relationship n text = (n ≡ 0) × (text ≡ header kind.Relationship)
IsHeader kind.Association n text = (n ≡ 0) × (text ≡ header kind.Association)
IsHeader kind.Concrete n text = (n ≡ 0) × (text ≡ header kind.Concrete)
IsHeader kind.Member n text =
    (names : List ℕ) × IsFurther names × (n ≡ length (further_columns names))
    × (text ≡ header kind.Member ++ names) × (length text ≤ line_limit)

-- each text spells the row at the same position, which has this shape
abbrev pub SpellsEach : Shape → List RowValue → List (List ℕ) → Type 0
SpellsEach shape rows texts = AllZip (λ v text. HasShape shape v × Spells v text) rows texts

-- the shape of rows of the kind with `n` further columns
abbrev pub shape_with : Kind → ℕ → Shape
shape_with kind n = record { kind = kind; further = n }

-- An optional mark, the column names, and then one line for each row, in order. Each line has as
-- many columns as there are names.
pub record IsReleaseFile (kind : Kind) (rows : List RowValue) (bytes : List ℕ) : Type 0 where
  pub front : List ℕ
  pub is_front : (front ≡ []) ⊎ (front ≡ mark)
  pub body : List ℕ
  pub names : List ℕ
  pub further : ℕ
  pub are_names : IsHeader kind further names
  pub texts : List (List ℕ)
  pub whole : bytes ≡ front ++ body
  pub in_lines : InLines (names ∷ texts) body
  pub spelled : SpellsEach (shape_with kind further) rows texts

-- ---- faults

-- the bytes after a mark
abbrev pub without_mark : List ℕ → List ℕ
without_mark bytes = if starts_with nat_eq bytes mark then drop 3 bytes else bytes

-- the lines of the bytes: a CR doesn't belong to a line if LF follows it
abbrev pub lines_in : List ℕ → List (List ℕ)
lines_in bytes = map without_terminator (lines_of bytes)

-- the first fault of a first line
abbrev pub IsFirstLineFault : Kind → List ℕ → LineFault → Type 0
IsFirstLineFault kind text f =
    ((line_limit < length text) × (f ≡ fault.LineLength))
    ⊎ ((length text ≤ line_limit)
    × ((¬ (IsUtf8 text) × (f ≡ fault.NotUtf8))
    ⊎ (IsUtf8 text × ((n : ℕ) → ¬ (IsHeader kind n text)) × (f ≡ fault.Header))))

-- Of the lines from line 2 on, line `n` is the first with a fault, which is `f`: the lines before
-- it spell rows.
abbrev pub IsFaultOfRows : Shape → List (List ℕ) → ℕ → LineFault → Type 0
IsFaultOfRows shape lines n f =
    (rows : List RowValue) × (before : List (List ℕ)) × (text : List ℕ) × (after : List (List ℕ))
    × (lines ≡ before ++ text ∷ after) × SpellsEach shape rows before × IsFaultOf shape text f
    × (n ≡ length before + 2)

-- Line `n`, counted from 1, is the first with a fault, which is `f`. A file without lines counts as
-- one whose first line isn't the header.
abbrev pub IsFaultOfLines : Kind → List (List ℕ) → ℕ → LineFault → Type 0
IsFaultOfLines kind [] n f = (n ≡ 1) × (f ≡ fault.Header)
IsFaultOfLines kind (first ∷ others) n f =
    ((n ≡ 1) × IsFirstLineFault kind first f)
    ⊎ ((further : ℕ) × IsHeader kind further first
    × IsFaultOfRows (shape_with kind further) others n f)

abbrev pub IsFaultOfFile : Kind → List ℕ → ℕ → LineFault → Type 0
IsFaultOfFile kind bytes n f = IsFaultOfLines kind (lines_in (without_mark bytes)) n f

-- a fault of reading is this one, unless memory ran out
abbrev pub IsFaultThat : (ℕ → LineFault → Type 0) → FileFault → Type 0
IsFaultThat P filefault.OutOfMemory = Unit {0}
IsFaultThat P (filefault.Row n f) = P n f
