-- The numbers of the causes, and a refusal by its number.
use Rattle.std.specs.Prelude.{ℕ, cond, ◌==◌}
use Rattle.fault.specs.declared.Cause.{Cause}
use Rattle.fault.specs.declared.Cause.TheVariants.{SizeOutOfLimits, ArrayTooShort, KindNotPermitted, EntriesMismatch, OperandOutOfRange, TooLongOrDeep, TooManyAtoms, NotRising, FileLength, PlacesTooShort, BookTooLong, ListTooShort, LiteralClashes, OutputTooShort, StoreTooSmall, ImageTooShort, NameDoesNotFit, NotApplicable, NoSuchAtom, StepLimit, OutsideStore, NoMemory}
use Rattle.fault.specs.declared.Layer.{Layer}
use Rattle.fault.specs.declared.Fault.{Fault}

-- the number of a cause
abbrev pub number_of : Cause → ℕ
number_of SizeOutOfLimits = 1
number_of ArrayTooShort = 2
number_of KindNotPermitted = 3
number_of EntriesMismatch = 4
number_of OperandOutOfRange = 5
number_of TooLongOrDeep = 6
number_of TooManyAtoms = 7
number_of NotRising = 8
number_of FileLength = 9
number_of PlacesTooShort = 10
number_of BookTooLong = 11
number_of ListTooShort = 12
number_of LiteralClashes = 13
number_of OutputTooShort = 14
number_of StoreTooSmall = 21
number_of ImageTooShort = 22
number_of NameDoesNotFit = 23
number_of NotApplicable = 24
number_of NoSuchAtom = 25
number_of StepLimit = 26
number_of OutsideStore = 31
number_of NoMemory = 61

-- the cause with that number, of those that only the writing of a book and of its file have
unfoldable pub writing_cause : ℕ → Cause
writing_cause n =
    cond (n == 9) FileLength
    (cond (n == 10) PlacesTooShort
    (cond (n == 11) BookTooLong
    (cond (n == 12) ListTooShort
    (cond (n == 13) LiteralClashes
    (cond (n == 14) OutputTooShort NoMemory)))))

-- the cause with that number
abbrev pub cause_of : ℕ → Cause
cause_of n =
    cond (n == 1) SizeOutOfLimits
    (cond (n == 2) ArrayTooShort
    (cond (n == 3) KindNotPermitted
    (cond (n == 4) EntriesMismatch
    (cond (n == 5) OperandOutOfRange
    (cond (n == 6) TooLongOrDeep
    (cond (n == 7) TooManyAtoms
    (cond (n == 8) NotRising
    (cond (n == 21) StoreTooSmall
    (cond (n == 22) ImageTooShort
    (cond (n == 23) NameDoesNotFit
    (cond (n == 24) NotApplicable
    (cond (n == 25) NoSuchAtom
    (cond (n == 26) StepLimit
    (cond (n == 31) OutsideStore (writing_cause n)))))))))))))))

-- a refusal by its number
abbrev pub refusal : ℕ → Layer → ℕ → Fault
refusal n l p = record { cause = cause_of n; layer = l; place = p }
