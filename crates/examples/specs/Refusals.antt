-- Refusals and answers: their numbers and their texts.
use Rattle.std.specs.Prelude.{◌≡◌, true, false, [], ◌∷◌, ◌++◌, codes, Ok, Err}
use Rattle.fault.specs.declared.Cause.TheVariants.{NotRising, LiteralClashes}
use Rattle.fault.specs.declared.Layer.TheVariants.{Task, Book, Run, Store, File}
use Rattle.fault.specs.Faults.{number_of, cause_of, refusal}
use Rattle.fault.specs.Texts.{layer_text, fault_text, refusal_text}
use Rattle.protocol.specs.Machines.{done, told}
use Rattle.protocol.specs.Texts.{answer_text}
use Rattle.protocol.specs.declared.calls.Answer.TheVariants.{NoRun, Done, Told, Count, Refused}
use Rattle.runs.specs.Clauses.{fault_of}
use Rattle.runs.specs.declared.draft.Stop.TheVariants.{NoMemory, Clash}
use Rattle.instantiate.specs.Refusals.{no_memory}

pub record RefusalsByExample : Type 0 where
  pub number : number_of NotRising ≡ 8
  pub cause : cause_of 13 ≡ LiteralClashes
  pub layer : layer_text File ≡ codes "file"
  pub text : fault_text (refusal 5 Task 17) ≡ codes "refused 5 task 17"
  pub line : refusal_text (refusal 31 Store 9) ≡ codes "refused 31 store 9" ++ (10 ∷ [])
  -- why an action could not be written, and that there is no memory left
  pub clash : fault_of (Clash 16) ≡ refusal 13 Book 16
  pub no_memory : fault_of NoMemory ≡ no_memory
  -- answers, and their texts
  pub is_done : done (Ok tt) ≡ Done
  pub not_done : done (Err (refusal 24 Run 3)) ≡ Refused (refusal 24 Run 3)
  pub is_told : told (Ok false) ≡ Told false
  pub text_told : answer_text (Told true) ≡ codes "true"
  pub text_count : answer_text (Count 3) ≡ codes "3 steps"
  pub text_refused : answer_text (Refused (refusal 24 Run 3)) ≡ codes "refused 24 run 3"
  pub text_idle : answer_text NoRun ≡ codes "no run"
