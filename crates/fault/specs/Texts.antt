-- The text of a refusal.
use Rattle.std.specs.Prelude.{ℕ, List, [], ◌∷◌, ◌++◌, codes, decimal}
use Rattle.fault.specs.declared.Layer.{Layer}
use Rattle.fault.specs.declared.Layer.TheVariants.{Task, Book, Run, Store, File}
use Rattle.fault.specs.declared.Fault.{Fault}
use Rattle.fault.specs.Faults.{number_of}

-- the name of a layer
abbrev pub layer_text : Layer → List ℕ
layer_text Task = codes "task"
layer_text Book = codes "book"
layer_text Run = codes "run"
layer_text Store = codes "store"
layer_text File = codes "file"

-- the number of the cause, the layer and the place
abbrev pub fault_text : Fault → List ℕ
fault_text f = codes "refused " ++ (decimal (number_of f.cause) ++ (codes " " ++ (layer_text f.layer ++ (codes " " ++ decimal f.place))))

-- the line that tells a refusal: its text, and byte 10
abbrev pub refusal_text : Fault → List ℕ
refusal_text f = fault_text f ++ (10 ∷ [])
