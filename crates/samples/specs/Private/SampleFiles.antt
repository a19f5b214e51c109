-- What a release has of a sample's files: a definition for private functions.
use Rattle.std.specs.Prelude.{ℕ, List, map}
use Rattle.rf2_values.specs.declared.row.Kind.{Kind}
use Rattle.samples.specs.declared.releases.SampleFile.{SampleFile}

abbrev pub texts_of : List SampleFile → List (Kind × List ℕ)
texts_of files = map (λ file. (file.kind, file.text.now)) files
