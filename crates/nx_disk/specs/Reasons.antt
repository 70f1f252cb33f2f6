-- Why a file can't be opened, by the kind of the system's error.
use Rattle.std.specs.declared.io.ErrorKind.{ErrorKind}
use Rattle.std.specs.declared.io.ErrorKind.TheVariants as kind
use Rattle.nx_disk.specs.declared.file.FileFault.{FileFault}
use Rattle.nx_disk.specs.declared.file.FileFault.TheVariants.{Memory, Open}
use Rattle.nx_disk.specs.declared.file.FileOpenFault.TheVariants as fault

-- the fault that an error of this kind is, where a file is opened or made
abbrev pub fault_of_kind : ErrorKind → FileFault
fault_of_kind kind.NotFound = Open fault.NoFolder
fault_of_kind kind.NotADirectory = Open fault.NoFolder
fault_of_kind kind.PermissionDenied = Open fault.NoLeave
fault_of_kind kind.FilesystemLoop = Open fault.DeadLink
fault_of_kind kind.IsADirectory = Open fault.FolderName
fault_of_kind kind.InvalidFilename = Open fault.LongName
fault_of_kind kind.StorageFull = Open fault.NoRoom
fault_of_kind kind.QuotaExceeded = Open fault.NoRoom
fault_of_kind kind.ReadOnlyFilesystem = Open fault.OnlyRead
fault_of_kind kind.OutOfMemory = Memory
fault_of_kind _ = Open fault.Other
