-- The calls that are made on each worked task and on its book, and what each is answered.
use Rattle.std.specs.Prelude.{ℕ, Bool, true, false, List, [], ◌∷◌}
use Rattle.fault.specs.declared.Layer.TheVariants.{Run}
use Rattle.fault.specs.Faults.{refusal}
use Rattle.model.specs.Runs.{Call, begin, perform, holds, goal, end}
use Rattle.protocol.specs.declared.calls.Answer.{Answer}
use Rattle.protocol.specs.declared.calls.Answer.TheVariants.{Done, Told, Count, Refused}
use Rattle.worked.specs.declared.case.Case.{Case}
use Rattle.worked.specs.declared.case.Case.TheVariants.{CellPainted, GoalTrue, ForallOfNone, ExistsOfNone, OrOfNothing, AndOfNothing, NotOfNot, ObjectTwice, DeletedAndAdded}

-- a step by the first operator with these objects
abbrev pub step : List ℕ → Call
step os = perform (record { operator = 0; objects = os })

-- asking for the goal alone
abbrev pub goal_alone : List Call
goal_alone = begin ∷ goal ∷ end ∷ []

-- the calls
abbrev pub calls : Case → List Call
calls CellPainted = begin ∷ step (1 ∷ []) ∷ step (2 ∷ []) ∷ goal ∷ step (0 ∷ []) ∷ goal ∷ holds 2 ∷ step (0 ∷ []) ∷ end ∷ []
calls GoalTrue = goal_alone
calls ForallOfNone = goal_alone
calls ExistsOfNone = goal_alone
calls OrOfNothing = goal_alone
calls AndOfNothing = goal_alone
calls NotOfNot = begin ∷ goal ∷ step [] ∷ goal ∷ end ∷ []
calls ObjectTwice = begin ∷ step (1 ∷ 1 ∷ []) ∷ step (0 ∷ 1 ∷ []) ∷ step (1 ∷ 1 ∷ []) ∷ step (1 ∷ 0 ∷ []) ∷ end ∷ []
calls DeletedAndAdded = begin ∷ holds 0 ∷ step [] ∷ holds 0 ∷ step [] ∷ holds 0 ∷ end ∷ []

-- a refusal of a run
abbrev pub refused : ℕ → ℕ → Answer
refused n place = Refused (refusal n Run place)

-- the answers where the goal alone is asked for, and is b
abbrev pub goal_is : Bool → List Answer
goal_is b = Done ∷ Told b ∷ Count 0 ∷ []

-- what the task's run answers
abbrev pub in_task : Case → List Answer
in_task CellPainted = Done ∷ refused 24 0 ∷ refused 23 0 ∷ Told false ∷ Done ∷ Told true ∷ Told true ∷ refused 24 1 ∷ Count 1 ∷ []
in_task GoalTrue = goal_is true
in_task ForallOfNone = goal_is true
in_task ExistsOfNone = goal_is false
in_task OrOfNothing = goal_is false
in_task AndOfNothing = goal_is true
in_task NotOfNot = Done ∷ Told false ∷ Done ∷ Told true ∷ Count 1 ∷ []
in_task ObjectTwice = Done ∷ refused 23 0 ∷ Done ∷ refused 23 0 ∷ Done ∷ Count 2 ∷ []
in_task DeletedAndAdded = Done ∷ Told false ∷ Done ∷ Told true ∷ Done ∷ Told true ∷ Count 2 ∷ []

-- what the book's run answers: a name that does not fit is one that the book does not have
abbrev pub in_book : Case → List Answer
in_book CellPainted = Done ∷ refused 24 0 ∷ refused 24 0 ∷ Told false ∷ Done ∷ Told true ∷ Told true ∷ refused 24 1 ∷ Count 1 ∷ []
in_book GoalTrue = goal_is true
in_book ForallOfNone = goal_is true
in_book ExistsOfNone = goal_is false
in_book OrOfNothing = goal_is false
in_book AndOfNothing = goal_is true
in_book NotOfNot = Done ∷ Told false ∷ Done ∷ Told true ∷ Count 1 ∷ []
in_book ObjectTwice = Done ∷ refused 24 0 ∷ Done ∷ refused 24 1 ∷ Done ∷ Count 2 ∷ []
in_book DeletedAndAdded = Done ∷ Told false ∷ Done ∷ Told true ∷ Done ∷ Told true ∷ Count 2 ∷ []
