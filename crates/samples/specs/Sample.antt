-- The sample releases: which files each has.
use Rattle.std.specs.Prelude.{ℕ, List, [], ◌∷◌, ◌++◌, map, nat_eq, codes, Option, Some, None}
use Rattle.std.specs.Prelude.{if◌then◌else◌}
use Rattle.std.specs.List.{flat_map}
use Rattle.std.specs.Cmp.Lexicographic.{pointwise}
use Rattle.rf2_values.specs.declared.row.Kind.{Kind}
use Rattle.rf2_values.specs.declared.row.Kind.TheVariants as kind
use Rattle.rf2_values.specs.Row.{line_of}
use Rattle.rf2_rows.specs.Line.{header}

-- the file of a kind with these rows, each given by its columns: the column names and the rows,
-- each line followed by CR LF
abbrev pub file_with : Kind → List (List (List ℕ)) → Kind × List ℕ
file_with kind rows =
    (kind, flat_map (λ line. line ++ 13 ∷ 10 ∷ []) (header kind ∷ map line_of rows))

-- ---- rows, by the columns in which they differ

abbrev pub core : List ℕ
core = codes "900000000000207008"

abbrev pub concept : List ℕ → List ℕ → List ℕ → List (List ℕ)
concept id time active = id ∷ time ∷ active ∷ core ∷ codes "900000000000074008" ∷ []

-- a German synonym of concept 1000004
abbrev pub description : List ℕ → List ℕ → List (List ℕ)
description time term =
    codes "1000015" ∷ time ∷ codes "1" ∷ core ∷ codes "1000004" ∷ codes "de"
    ∷ codes "900000000000013009" ∷ term
    ∷ codes "900000000000448009" ∷ []

-- concept 1000004 is a concept 138875005
abbrev pub relationship : List ℕ → List ℕ → List ℕ → List (List ℕ)
relationship id time active =
    id ∷ time ∷ active ∷ core ∷ codes "1000004" ∷ codes "138875005" ∷ codes "0" ∷ codes "116680003"
    ∷ codes "900000000000011006" ∷ codes "900000000000451002" ∷ []

-- concept 2000001 is the same as concept 1000004
abbrev pub association : List ℕ → List (List ℕ)
association time =
    codes "0b6a0c2e-5d0f-4c53-9f6e-8d9d2a7b1c01" ∷ time ∷ codes "1" ∷ core
    ∷ codes "900000000000527005"
    ∷ codes "1000004" ∷ codes "2000001" ∷ []

-- Straße
abbrev pub street : List ℕ
street = codes "Stra" ++ 195 ∷ 159 ∷ codes "e"

-- ---- the releases

-- January 2020: three concepts, a description and two relationships
abbrev pub first_files : List (Kind × List ℕ)
first_files =
    let time = codes "20200131" in
    file_with kind.Concept
    (concept (codes "138875005") time (codes "1") ∷ concept (codes "1000004") time (codes "1")
    ∷ concept (codes "2000001") time (codes "1") ∷ [])
    ∷ file_with kind.Description (description time street ∷ [])
    ∷ file_with kind.Relationship
    (relationship (codes "1000027") time (codes "1")
    ∷ relationship (codes "2000029") time (codes "1") ∷ [])
    ∷ []

-- January 2021: a concept and a relationship are retired, a description
-- gets another term, and an association says what replaces the concept
abbrev pub second_files : List (Kind × List ℕ)
second_files =
    let time = codes "20210131" in
    file_with kind.Concept (concept (codes "1000004") time (codes "0") ∷ [])
    ∷ file_with kind.Description (description time (codes "Weg") ∷ [])
    ∷ file_with kind.Relationship (relationship (codes "2000029") time (codes "0") ∷ [])
    ∷ file_with kind.Association (association time ∷ [])
    ∷ []

-- July 2020: a row that the first one has too, the retirement of a concept, and a concept that the
-- first one lacks
abbrev pub third_files : List (Kind × List ℕ)
third_files =
    file_with kind.Concept
    (concept (codes "138875005") (codes "20200131") (codes "1")
    ∷ concept (codes "1000004") (codes "20200731") (codes "0")
    ∷ concept (codes "3000005") (codes "20200131") (codes "1") ∷ [])
    ∷ []

-- the files of the sample with this name
abbrev pub sample_files : List ℕ → Option (List (Kind × List ℕ))
sample_files name =
    if pointwise nat_eq name (codes "r1") then Some first_files
    else if pointwise nat_eq name (codes "r2") then Some second_files
    else if pointwise nat_eq name (codes "r3") then Some third_files
    else None
