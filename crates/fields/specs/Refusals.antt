-- Refusals: the number of each flaw, and where the field begins that is wrong.
--
--   flaw_number f, flaw_offset f        the number and the offset of a flaw
--   refusal_number x, refusal_offset x  those of a refused record
use Rattle.std.specs.Prelude.{ℕ}
use Rattle.fields.specs.declared.malformed.Flaw.{Flaw}
use Rattle.fields.specs.declared.malformed.Flaw.TheVariants.{LongName, OddName, NoNull, BadUtf16, BadType, RootName, ForbiddenUnit, BadColor, BadLink, StreamChild, StreamClsid, StreamTime, StorageStart, StorageLength}
use Rattle.fields.specs.declared.malformed.Malformed.{Malformed}
use Rattle.fields.specs.Offsets.{link_offset, time_offset}

abbrev pub flaw_number : Flaw → ℕ
flaw_number LongName = 20
flaw_number OddName = 21
flaw_number NoNull = 22
flaw_number BadUtf16 = 23
flaw_number BadType = 24
flaw_number RootName = 25
flaw_number ForbiddenUnit = 26
flaw_number BadColor = 27
flaw_number (BadLink l) = 28
flaw_number StreamChild = 29
flaw_number StreamClsid = 30
flaw_number (StreamTime t) = 31
flaw_number StorageStart = 32
flaw_number StorageLength = 33

abbrev pub flaw_offset : Flaw → ℕ
flaw_offset LongName = 64
flaw_offset OddName = 64
flaw_offset NoNull = 0
flaw_offset BadUtf16 = 0
flaw_offset BadType = 66
flaw_offset RootName = 0
flaw_offset ForbiddenUnit = 0
flaw_offset BadColor = 67
flaw_offset (BadLink l) = link_offset l
flaw_offset StreamChild = 76
flaw_offset StreamClsid = 80
flaw_offset (StreamTime t) = time_offset t
flaw_offset StorageStart = 116
flaw_offset StorageLength = 120

abbrev pub refusal_number : Malformed → ℕ
refusal_number x = flaw_number x.flaw

abbrev pub refusal_offset : Malformed → ℕ
refusal_offset x = flaw_offset x.flaw
