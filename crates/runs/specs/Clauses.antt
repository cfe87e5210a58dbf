-- What is written of the effect of an action, and the literals that it can bring about.
use Rattle.std.specs.Prelude.{◌≡◌, ℕ, ◌++◌, Bool, false, List, [], ◌∷◌, map, length}
use Rattle.std.proofs.Math.Option.{Option, some}
use Rattle.table.specs.Entries.{coded}
use Rattle.table.specs.Reading.{Entry}
use Rattle.model.specs.Lists.{gather}
use Rattle.model.specs.Meaning.{Literal, Part, bind, parts, all_parts, literals_where}
use Rattle.model.specs.Trees.{Task, Formula, Effect, Consequent}
use Rattle.model.specs.Settling.{Round, possible}
use Rattle.model.specs.Books.{on_facts, clauses}
use Rattle.adl.specs.Held.{held, tree_of}
use Rattle.adl.specs.Reads.{consequents_of, effects_of}
use Rattle.book_theorems.specs.Writes.{write_literal, write_clause}
use Rattle.fault.specs.Faults.{refusal}
use Rattle.fault.specs.declared.Fault.{Fault}
use Rattle.fault.specs.declared.Layer.TheVariants.{Book}
use Rattle.book_of_task.specs.Clashes.{some_clashes}
use Rattle.book_of_task.specs.Places.{outcome_places, all_outcome_places, part_places, all_part_places, clash_in, clash_in_parts}
use Rattle.runs.specs.declared.draft.Draft.{Draft}
use Rattle.runs.specs.declared.draft.Stop.{Stop}
use Rattle.runs.specs.declared.draft.Stop.TheVariants.{NoMemory, Clash}
use Rattle.runs.specs.declared.settling.Settling.{Settling}
use Rattle.runs.specs.Effects.{meant, EffectAt, EffectsAt, consequent_literals, consequents_literals}
use Rattle.runs.specs.Settled.{round_of}
use Rattle.runs.specs.Shown.{bound}

-- if it is a clash that stopped the writing, the first literal that clashes begins at the place that is told
abbrev pub Explains : Option ℕ → Stop → Type 0
Explains first NoMemory = Unit {0}
Explains first (Clash p) = first ≡ some p

-- these entries and these literals were appended
pub record Appends (es : List Entry) (ls : List Literal) (before after : Draft) : Type 0 where
  pub entries : map coded after.entries.items ≡ map coded before.entries.items ++ es
  pub literals : map meant after.literals.items ≡ map meant before.literals.items ++ ls

-- some entries and some literals may have been appended
pub record DraftExtends (before after : Draft) : Type 0 where
  pub entries : List Entry
  pub literals : List Literal
  pub appends : Appends entries literals before after

-- literals were written, those on facts, n of them; all were noted, and none clashes
abbrev pub LiteralsWritten : Round → List Literal → Draft → Draft → ℕ → Type 0
LiteralsWritten r ls before after n = Appends (gather write_literal (on_facts r ls)) ls before after × (n ≡ length (on_facts r ls)) × (some_clashes r ls ≡ false)

-- the literals that parts can bring about clash
abbrev pub parts_clash : Task → Round → List Part → Bool
parts_clash t r ps = some_clashes r (literals_where (possible t r) ps)

-- the parts of an effect were written, in n clauses; the literals of those whose condition is not FALSE were noted, and none of these clashes
abbrev pub PartsWritten : Task → Round → List Part → Draft → Draft → ℕ → Type 0
PartsWritten t r ps before after n =
    Appends (gather write_clause (clauses t r ps)) (literals_where (possible t r) ps) before after × (n ≡ length (clauses t r ps)) × (parts_clash t r ps ≡ false)

-- an effect, or so many, stand from place i to place j
abbrev pub EffectOf : Settling → ℕ → Effect → ℕ → Type 0
EffectOf s i e j = EffectAt (held s.sheet.task.now) s.sheet.depth i e j

abbrev pub EffectsOf : Settling → ℕ → ℕ → List Effect → ℕ → Type 0
EffectsOf s i m es j = EffectsAt (held s.sheet.task.now) s.sheet.depth i m es j

-- the task, and what is settled
abbrev pub task_in : Settling → Task
task_in s = tree_of s.sheet.task.now

abbrev pub round_in : Settling → Round
round_in s = round_of s.verdicts.now

-- the literals of a consequent, or of so many
abbrev pub literals_of : Settling → Consequent → List Literal
literals_of s c = consequent_literals (task_in s) (bound s.sheet) c

abbrev pub all_literals_of : Settling → List Consequent → List Literal
all_literals_of s cs = consequents_literals (task_in s) (bound s.sheet) cs

-- the parts of an effect, or of so many
abbrev pub parts_of : Settling → Effect → List Part
parts_of s e = parts (task_in s) (bound s.sheet) e

abbrev pub all_parts_of : Settling → List Effect → List Part
all_parts_of s es = all_parts (task_in s) (bound s.sheet) (effects_of es)

-- the part that a WHEN is
abbrev pub part_of : Settling → Formula → Consequent → Part
part_of s f c = record { sheet = bound s.sheet; condition = f; literals = literals_of s c }

-- where the first literal that clashes begins: of a consequent that stands from place i on, and of so many
abbrev pub consequent_clash : Settling → ℕ → Consequent → Option ℕ
consequent_clash s i c = clash_in (round_in s) (literals_of s c) (outcome_places i c)

abbrev pub consequents_clash : Settling → ℕ → List Consequent → Option ℕ
consequents_clash s i cs = clash_in (round_in s) (all_literals_of s cs) (all_outcome_places i (consequents_of cs))

-- of a WHEN whose consequent stands from place i on
abbrev pub when_clash : Settling → ℕ → Formula → Consequent → Option ℕ
when_clash s i f c = clash_in_parts (task_in s) (round_in s) (part_of s f c ∷ []) (outcome_places i c ∷ [])

-- of an effect that stands from place i on, of so many, and of one for each object of a list
abbrev pub effect_clash : Settling → ℕ → Effect → Option ℕ
effect_clash s i e = clash_in_parts (task_in s) (round_in s) (parts_of s e) (part_places (task_in s) i e)

abbrev pub effects_clash : Settling → ℕ → List Effect → Option ℕ
effects_clash s i es = clash_in_parts (task_in s) (round_in s) (all_parts_of s es) (all_part_places (task_in s) i (effects_of es))

abbrev pub instances_clash : Settling → ℕ → Effect → List ℕ → Option ℕ
instances_clash s i e os = clash_in_parts (task_in s) (round_in s) (gather (λ o. parts (task_in s) (bind (bound s.sheet) o) e) os) (gather (λ o. part_places (task_in s) i e) os)

-- the refusal that tells why the writing stopped
abbrev pub fault_of : Stop → Fault
fault_of NoMemory = refusal 61 Book 0
fault_of (Clash p) = refusal 13 Book p
