-- The numbers by which C knows how a call ended (this profile).
use Rattle.std.specs.Prelude.{ℕ}
use Rattle.nx_handle.specs.declared.status.Status.{Status}
use Rattle.nx_handle.specs.declared.status.Status.TheVariants.{Done, NoRoom, Read, Write, Memory}
use Rattle.nx_handle.specs.declared.status.Status.TheVariants.{FileTooLong, AirTooLong, LineLong, LineCut}
use Rattle.nx_handle.specs.declared.status.Status.TheVariants.{BadLine, NoMoment, MomentRange, MomentBack}
use Rattle.nx_handle.specs.declared.status.Status.TheVariants.{Vital, StateLine, StateCut, StateNoRoom}
use Rattle.nx_handle.specs.declared.status.Status.TheVariants.{Ragged, NoSuchCharacter, LongLine}
use Rattle.nx_handle.specs.declared.status.Status.TheVariants.{BadCharacter, Reserved, LongText, Open}
use Rattle.nx_handle.specs.declared.status.Status.TheVariants.{NoMessages, MixedStations, NoSlot, SlotFull}
use Rattle.nx_handle.specs.declared.status.Status.TheVariants.{NoStation, WrongWord, Unpaired, BadEnvelope}
use Rattle.nx_handle.specs.declared.status.Status.TheVariants.{Closed, AlreadyOpen, NoChannel, NoElement}
use Rattle.nx_handle.specs.declared.status.Status.TheVariants.{NoSubject, NoEntry, TooManyFamilies}

-- the number of a status
abbrev pub number_of : Status → ℕ
number_of Done = 0
number_of NoRoom = 1
number_of Read = 2
number_of Write = 3
number_of Memory = 4
number_of FileTooLong = 5
number_of AirTooLong = 6
number_of LineLong = 7
number_of LineCut = 8
number_of BadLine = 9
number_of NoMoment = 10
number_of MomentRange = 11
number_of MomentBack = 12
number_of Vital = 13
number_of StateLine = 14
number_of StateCut = 15
number_of StateNoRoom = 16
number_of Ragged = 17
number_of NoSuchCharacter = 18
number_of LongLine = 19
number_of BadCharacter = 20
number_of Reserved = 21
number_of LongText = 22
number_of Open = 23
number_of NoMessages = 24
number_of MixedStations = 25
number_of NoSlot = 26
number_of SlotFull = 27
number_of NoStation = 28
number_of WrongWord = 29
number_of Unpaired = 30
number_of BadEnvelope = 31
number_of Closed = 32
number_of AlreadyOpen = 33
number_of NoChannel = 34
number_of NoElement = 35
number_of NoSubject = 36
number_of NoEntry = 37
number_of TooManyFamilies = 38
