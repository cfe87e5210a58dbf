-- The text of an answer.
use Rattle.std.specs.Prelude.{ℕ, List, ◌++◌, codes, decimal, if◌then◌else◌}
use Rattle.fault.specs.Texts.{fault_text}
use Rattle.protocol.specs.declared.calls.Answer.{Answer}
use Rattle.protocol.specs.declared.calls.Answer.TheVariants.{NoRun, Done, Told, Count, Refused}

-- that there is no run, that the call is done, the truth, the steps, or the refusal
abbrev pub answer_text : Answer → List ℕ
answer_text NoRun = codes "no run"
answer_text Done = codes "done"
answer_text (Told b) = if b then codes "true" else codes "false"
answer_text (Count n) = decimal n ++ codes " steps"
answer_text (Refused f) = fault_text f
