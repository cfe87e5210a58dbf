-- How answers are told.
use Rattle.std.specs.Prelude.{ℕ, List, Result, Ok, Err}
use Rattle.std.specs.Borrow.{Bor}
use Rattle.fault.specs.declared.Fault.{Fault}
use Rattle.fault.specs.Texts.{fault_text}

-- the words of a good answer, or the text of the refusal
abbrev pub answer_text : Result (Bor (List ℕ)) Fault → List ℕ
answer_text (Ok words) = words.now
answer_text (Err fault) = fault_text fault
