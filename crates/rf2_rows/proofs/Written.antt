-- What is written of a row, column by column, is its line.
use Rattle.std.proofs.Common.{◌≡◌, ℕ, List, [], ◌∷◌, ◌++◌, Result, Ok, Err, sym, ap, ◌∙◌, append_assoc}
use Rattle.std.specs.Prelude.{OnOk, is_ok, decimal, if◌then◌else◌}
use Rattle.rf2_values.specs.declared.row.Body.{Body}
use Rattle.rf2_values.specs.declared.row.Body.TheVariants as body
use Rattle.rf2_values.specs.declared.row.RefsetMember.{RefsetMember}
use Rattle.rf2_values.specs.Text.{IsFurther}
use Rattle.rf2_values.specs.Private.{tabbed}
use Rattle.rf2_values.specs.Row.{body_columns, line_of}
use Rattle.rf2_values.proofs.FurtherColumns.{tabbed_further}
use Rattle.rf2_rows.proofs.RowLaws.{joined}

-- a member's further columns, behind its two others
pub member_put : {E : Type 0} (r : Result Unit E) (start first second new added : List ℕ) (b : Body) (m : RefsetMember) → b ≡ body.Member m → IsFurther m.further
    → first ≡ start ++ 9 ∷ decimal m.refset → second ≡ first ++ 9 ∷ decimal m.referenced → added ≡ m.further → new ≡ (if is_ok r then second ++ added else second)
    → OnOk r (new ≡ start ++ tabbed (body_columns b))
member_put (Err e) start first second new added b m is further one two same put = tt
member_put (Ok x) start first second new added b m is further one two same put =
    let a : List ℕ = 9 ∷ decimal m.refset in
    let z : List ℕ = 9 ∷ decimal m.referenced in
    let whole : new ≡ ((start ++ a) ++ z) ++ m.further =
    put ∙ ap (λ (t : List ℕ). second ++ t) same ∙ ap (λ (t : List ℕ). t ++ m.further) two ∙ ap (λ (t : List ℕ). (t ++ z) ++ m.further) one in
    let parts : ((start ++ a) ++ z) ++ m.further ≡ start ++ (a ++ (z ++ m.further)) = append_assoc (start ++ a) z m.further ∙ append_assoc start a (z ++ m.further) in
    let columns : tabbed (body_columns b) ≡ a ++ (z ++ m.further) =
    ap (λ (c : Body). tabbed (body_columns c)) is ∙ ap (λ (t : List ℕ). a ++ (z ++ t)) (tabbed_further m.further further) in
    whole ∙ parts ∙ ap (λ (t : List ℕ). start ++ t) (sym columns)

-- behind a start, a line from its first column and the others, each after a TAB
pub line_put : (start id time flag modul : List ℕ) (own : List (List ℕ)) → ((((start ++ id) ++ 9 ∷ time) ++ 9 ∷ flag) ++ 9 ∷ modul) ++ tabbed own ≡ start ++ line_of (id ∷ time ∷ flag ∷ modul ∷ own)
line_put start id time flag modul own =
    append_assoc (((start ++ id) ++ 9 ∷ time) ++ 9 ∷ flag) (9 ∷ modul) (tabbed own)
    ∙ append_assoc ((start ++ id) ++ 9 ∷ time) (9 ∷ flag) (9 ∷ (modul ++ tabbed own))
    ∙ append_assoc (start ++ id) (9 ∷ time) (9 ∷ (flag ++ 9 ∷ (modul ++ tabbed own)))
    ∙ append_assoc start id (9 ∷ (time ++ 9 ∷ (flag ++ 9 ∷ (modul ++ tabbed own))))
    ∙ ap (λ (t : List ℕ). start ++ t) (sym (joined id [] (time ∷ flag ∷ modul ∷ own)))
