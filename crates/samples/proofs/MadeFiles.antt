-- The files of a sample, made one after the other.
use Rattle.std.proofs.Common.{◌≡◌, ℕ, ◌+◌, ◌<◌, List, [], ◌∷◌, ◌++◌, length, map, take, get_or, sym, ap, ◌∙◌}
use Rattle.std.proofs.lemmas.List.{map_push, map_more}
use Rattle.rf2_values.specs.declared.row.Kind.{Kind}
use Rattle.import_check.specs.declared.release.ReleaseFile.{ReleaseFile}
use Rattle.samples.specs.declared.releases.SampleFile.{SampleFile}
use Rattle.samples.specs.Private.SampleFiles.{texts_of}

abbrev pub texts_in : List ReleaseFile → List (Kind × List ℕ)
texts_in files = map (λ file. (file.kind, file.bytes.items)) files

pub one_more : (samples : List SampleFile) (i : ℕ) (d : SampleFile) (old new : List ReleaseFile) (file : ReleaseFile)
    → i < length samples → new ≡ old ++ file ∷ []
    → file.kind ≡ (get_or samples i d).kind → file.bytes.items ≡ (get_or samples i d).text.now
    → texts_in old ≡ texts_of (take i samples) → texts_in new ≡ texts_of (take (i + 1) samples)
one_more samples i d old new file lt added kind bytes so =
    let made : ReleaseFile → Kind × List ℕ = λ f. (f.kind, f.bytes.items) in
    let wanted : SampleFile → Kind × List ℕ = λ f. (f.kind, f.text.now) in
    let same : made file ≡ wanted (get_or samples i d) = λ k. (kind k, bytes k) in
    ap texts_in added ∙ map_push made old file
    ∙ ap (λ (files : List (Kind × List ℕ)). files ++ made file ∷ []) so
    ∙ ap (λ (pair : Kind × List ℕ). texts_of (take i samples) ++ pair ∷ []) same
    ∙ sym (map_more wanted samples i d lt)
