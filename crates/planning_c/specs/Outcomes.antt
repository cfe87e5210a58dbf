-- What the calls for C tell, in plain numbers.
use Rattle.std.specs.Prelude.{ℕ, cond, ◌==◌, nat_lt, List, [], length, Some, None, Option, Ok, Err, Result}
use Rattle.fault.specs.declared.Cause.{Cause}
use Rattle.fault.specs.declared.Layer.{Layer}
use Rattle.fault.specs.declared.Layer.TheVariants.{Task, Book, Run, Store, File}
use Rattle.fault.specs.declared.Fault.{Fault}
use Rattle.fault.specs.Faults.{number_of, cause_of}
use Rattle.fault.specs.Texts.{refusal_text}
use Rattle.table.specs.Answers.{Answer}
use Rattle.instantiate.specs.Growing.{over}
use Rattle.files.specs.Converting.{Room}
use Rattle.planning_c.specs.declared.outcome.Outcome.{Outcome}

-- the number of a layer
abbrev pub layer_number : Layer → ℕ
layer_number Task = 1
layer_number Book = 2
layer_number Run = 3
layer_number Store = 4
layer_number File = 5

-- nothing was refused, and so many bytes were written
abbrev pub done : ℕ → Outcome
done n = record { number = 0; layer = 0; place = 0; length = n }

-- a refusal: the numbers of its cause and of its layer, and its place
abbrev pub refused : Fault → Outcome
refused f = record { number = number_of f.cause; layer = layer_number f.layer; place = f.place; length = 0 }

-- what writing answers
abbrev pub written : Result ℕ Fault → Outcome
written (Ok n) = done n
written (Err f) = refused f

-- what checking answers
abbrev pub checked : Answer → Outcome
checked (Ok u) = done 0
checked (Err f) = refused f

-- each array has so many places
abbrev pub room_with : ℕ → Room
room_with n = record { task_kinds = n; task_operands = n; literals = n; book_kinds = n; book_operands = n }

-- the cause that has this number, if there is one
abbrev pub cause_with : ℕ → Option Cause
cause_with n = cond (number_of (cause_of n) == n) (Some (cause_of n)) None

-- the layer that has this number, if there is one
abbrev pub layer_with : ℕ → Option Layer
layer_with n =
    cond (n == 1) (Some Task)
    (cond (n == 2) (Some Book)
    (cond (n == 3) (Some Run)
    (cond (n == 4) (Some Store)
    (cond (n == 5) (Some File) None))))

-- the refusal with this cause, in this layer, if there are both
abbrev pub fault_with : Option Cause → Option Layer → ℕ → Option Fault
fault_with (Some c) (Some l) p = Some (record { cause = c; layer = l; place = p })
fault_with (Some c) None p = None
fault_with None l p = None

-- the refusal that an outcome tells, if it tells one
abbrev pub refusal_told : Outcome → Option Fault
refusal_told o = fault_with (cause_with o.number) (layer_with o.layer) o.place

-- the line that tells it
abbrev pub line_of : Option Fault → List ℕ
line_of (Some f) = refusal_text f
line_of None = []

-- what a buffer holds into which a line was written, if there was room
abbrev pub with_line : List ℕ → List ℕ → List ℕ
with_line text old = cond (nat_lt (length old) (length text)) old (over text old)
