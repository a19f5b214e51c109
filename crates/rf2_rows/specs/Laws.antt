-- Laws of all rows, lines and files. Each is proved by the function of its name in `laws`.
use Rattle.std.specs.Prelude.{◌≡◌, ◌≢◌, ◌↔◌, ◌⊎◌, ℕ, ◌<◌, List, [], ◌∷◌, ◌++◌, length, decimal}
use Rattle.std.specs.List.{All, AllByRecursion}
use Rattle.rf2_values.specs.declared.row.Kind.{Kind}
use Rattle.rf2_values.specs.declared.row.RefsetMember.{RefsetMember}
use Rattle.rf2_values.specs.declared.row.Body.TheVariants as body
use Rattle.rf2_values.specs.Member.{member_text}
use Rattle.rf2_values.specs.Row.{RowValue, IsVersion, Spells, canonical, kind_of, flag, line_of}
use Rattle.rf2_rows.specs.declared.fault.LineFault.{LineFault}
use Rattle.rf2_rows.specs.declared.shape.Shape.{Shape}
use Rattle.rf2_rows.specs.Line.{HasShape, IsFaultOf}
use Rattle.rf2_rows.specs.File.{InLines, lines_in, IsReleaseFile, IsFaultOfFile}

-- ---- lines

-- A text spells at most one row of a kind.
abbrev pub SpellsOneRow : Type 0
SpellsOneRow =
    (v w : RowValue) (text : List ℕ) → kind_of v ≡ kind_of w → Spells v text → Spells w text → v ≡ w

-- The canonical spelling of a row spells it.
abbrev pub CanonicalSpells : Type 0
CanonicalSpells = (v : RowValue) → IsVersion v → Spells v (canonical v)

-- The line of a member of a reference set consists of its six columns with a known meaning,
-- followed by its further columns, unchanged.
abbrev pub MemberKeepsItsBytes : Type 0
MemberKeepsItsBytes =
    (v : RowValue) (m : RefsetMember) → IsVersion v → v.body ≡ body.Member m
    → canonical v
    ≡
    line_of (member_text v.id ∷ decimal v.time ∷ flag v.active ∷ decimal v.module_id
    ∷ decimal m.refset ∷ decimal m.referenced ∷ [])
    ++ m.further

-- A line has at most one fault.
abbrev pub OneFaultOfLine : Type 0
OneFaultOfLine =
    (shape : Shape) (text : List ℕ) (f g : LineFault)
    → IsFaultOf shape text f → IsFaultOf shape text g → f ≡ g

-- A line that spells a row of the shape has no fault.
abbrev pub RowHasNoFault : Type 0
RowHasNoFault =
    (shape : Shape) (v : RowValue) (text : List ℕ) (f : LineFault)
    → HasShape shape v → Spells v text → ¬ IsFaultOf shape text f

-- Each line spells a row of the shape or has a fault.
abbrev pub RowOrFault : Type 0
RowOrFault =
    (shape : Shape) (text : List ℕ)
    → ((v : RowValue) × HasShape shape v × Spells v text)
    ⊎ ((f : LineFault) × IsFaultOf shape text f)

-- ---- files

-- The bytes of a file are those of at most one list of rows.
abbrev pub OneList : Type 0
OneList =
    (kind : Kind) (rows others : List RowValue) (bytes : List ℕ)
    → IsReleaseFile kind rows bytes → IsReleaseFile kind others bytes → rows ≡ others

-- A file has at most one first faulty line, with one fault.
abbrev pub OneFaultOfFile : Type 0
OneFaultOfFile =
    (kind : Kind) (bytes : List ℕ) (m n : ℕ) (f g : LineFault)
    → IsFaultOfFile kind bytes m f → IsFaultOfFile kind bytes n g → (m ≡ n) × (f ≡ g)

-- A release file has no fault.
abbrev pub ReleaseFileHasNoFault : Type 0
ReleaseFileHasNoFault =
    (kind : Kind) (rows : List RowValue) (bytes : List ℕ) (n : ℕ) (f : LineFault)
    → IsReleaseFile kind rows bytes → ¬ IsFaultOfFile kind bytes n f

-- Each file is a release file of the kind or has a fault.
abbrev pub FileOrFault : Type 0
FileOrFault =
    (kind : Kind) (bytes : List ℕ)
    → ((rows : List RowValue) × IsReleaseFile kind rows bytes)
    ⊎ ((n : ℕ) × (f : LineFault) × IsFaultOfFile kind bytes n f)

-- ---- the lines of bytes

-- the text of a line: at least one byte, and no LF
pub record IsLineText (text : List ℕ) : Type 0 where
  pub some : 0 < length text
  pub no_lf : All (λ b. b ≢ 10) text

-- Any bytes are their lines in order, each with a line end, which the last one may lack.
abbrev pub BytesAreTheirLines : Type 0
BytesAreTheirLines = (bytes : List ℕ) → InLines (lines_in bytes) bytes

-- Bytes have these lines exactly if they are these texts in order, each with a line end, which the
-- last one may lack.
abbrev pub LinesAreFound : Type 0
LinesAreFound =
    (texts : List (List ℕ)) (bytes : List ℕ)
    → AllByRecursion IsLineText texts → (InLines texts bytes ↔ (lines_in bytes ≡ texts))
