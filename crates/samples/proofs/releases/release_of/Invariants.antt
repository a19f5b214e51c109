use Rattle.std.proofs.Common.{◌≡◌, map, take}
use Rattle.samples.specs.Private.SampleFiles.{texts_of}
use Rattle.samples.proofs.releases.release_of.Given as goal

abbrev pub invariant-loop-sample : goal.invariant-loop-sample
invariant-loop-sample l = map (λ file. (file.kind, file.bytes.items)) l.files.items ≡ texts_of (take l.sample-index l.samples)
