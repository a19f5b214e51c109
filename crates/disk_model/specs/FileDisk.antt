-- What clauses see of a file's disk, and the error of its last call that failed.
use Rattle.std.specs.Prelude.{[], Option}
use Rattle.std.specs.declared.io.Error.{Error}
use Rattle.disk_model.specs.declared.file.FileDisk.{FileDisk}
use Rattle.disk_model.specs.Change.{made}
use Rattle.disk_model.specs.View.{DiskView}

abbrev pub fault_of : FileDisk → Option Error
fault_of d = d.last

-- nothing is specified about the bytes of a file, and so its disk counts neither as honest nor as
-- one whose reads return the bytes of some file
abbrev pub file_view : FileDisk → DiskView
file_view d =
    record {
      is_honest = ⊥;
      moments = made [];
      reads_as = λ _. ⊥;
      failures = d.failures;
      bytes_read = d.bytes_read;
      other_calls = d.other_calls;
    }
