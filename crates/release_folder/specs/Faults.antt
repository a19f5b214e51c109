-- How an error of the system is classified.
use Rattle.std.specs.Prelude.{◌≡◌, ◌≢◌, ◌⊎◌}
use Rattle.std.specs.IoError.{error_kind}
use Rattle.std.specs.declared.io.Error.{Error}
use Rattle.std.specs.declared.io.ErrorKind.TheVariants as kinds
use Rattle.release_folder.specs.declared.fault.FolderFault.{FolderFault}
use Rattle.release_folder.specs.declared.fault.FolderFault.TheVariants as faults
use Rattle.release_folder.specs.declared.obstacle.FolderReadFault.{FolderReadFault}
use Rattle.release_folder.specs.declared.obstacle.FolderReadFault.TheVariants as reading

-- the system's "out of memory" is `OutOfMemory`, and every other error is `NoFolder`
abbrev pub IsFaultOf : Error → FolderFault → Type 0
IsFaultOf error fault =
    ((error_kind error ≡ kinds.OutOfMemory) × (fault ≡ faults.OutOfMemory))
    ⊎ ((error_kind error ≢ kinds.OutOfMemory) × (fault ≡ faults.NoFolder))

-- the fault without details
abbrev pub folder_fault : FolderReadFault → FolderFault
folder_fault reading.OutOfMemory = faults.OutOfMemory
folder_fault (reading.Met path obstacle) = faults.NoFolder
folder_fault (reading.Misnamed folder name) = faults.NoFolder
