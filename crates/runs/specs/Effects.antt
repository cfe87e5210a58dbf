-- Where effects stand in a table, and the literals that they bring about.
use Rattle.rising.specs.Literals.{is_adds}
use Rattle.std.specs.Prelude.{◌≡◌, ℕ, ◌+◌, ◌≤◌, List, map, slice_index_or}
use Rattle.table.specs.Reading.{Out, good, many, then}
use Rattle.table.specs.declared.places.Place.TheVariants as place
use Rattle.model.specs.Meaning.{State, Literal, value, ground, parts, all_parts, literals_where}
use Rattle.model.specs.Trees.{Task, Change, Consequent, outcomes_of, all_outcomes, Effect}
use Rattle.adl.specs.Tables.{Table, Around, head}
use Rattle.adl.specs.Reads.{change_by, consequent, consequents_of, effect, effects_of}
use Rattle.adl.specs.Held.{held, tree_of}
use Rattle.protocol.specs.Shown.{shown}
use Rattle.rising.specs.declared.literal.Literal as code
use Rattle.runs.specs.declared.sheet.Sheet.{Sheet}
use Rattle.runs.specs.declared.sheet.Scene.{Scene}
use Rattle.runs.specs.Shown.{bound}

-- the literal that the code's literal means
abbrev pub meant : code.Literal → Literal
meant l = record { adds = is_adds l.sign; atom = l.atom }

-- an atom that is added or deleted, read from its first entry on
abbrev pub change_from : Table → Around → ℕ → Out Change
change_from t a i = then (head t place.Effect a i) λ e j. change_by t a e j

-- an atom that is added or deleted stands from place i to place j, where v variables are known; it begins with ATOM or NOT, and with no
-- other kind that an effect may begin with
pub record ChangeAt (t : Table) (v i : ℕ) (c : Change) (j : ℕ) : Type 0 where
  pub around : Around
  pub reads : change_from t around i ≡ good c j
  pub known : around.variables ≡ v
  pub plain : slice_index_or t.kinds i 0 ≤ 4

-- a consequent stands from place i to place j
pub record ConsequentAt (t : Table) (v i : ℕ) (c : Consequent) (j : ℕ) : Type 0 where
  pub room : ℕ
  pub around : Around
  pub reads : consequent t room around i ≡ good c j
  pub known : around.variables ≡ v

-- so many consequents stand one after the other
pub record ConsequentsAt (t : Table) (v i m : ℕ) (cs : List Consequent) (j : ℕ) : Type 0 where
  pub room : ℕ
  pub around : Around
  pub reads : many (consequent t room around) m i ≡ good cs j
  pub known : around.variables ≡ v

-- an effect stands from place i to place j; besides the parameters, of which there are at most four, each variable has its quantifier
pub record EffectAt (t : Table) (v i : ℕ) (e : Effect) (j : ℕ) : Type 0 where
  pub room : ℕ
  pub around : Around
  pub reads : effect t room around i ≡ good e j
  pub known : around.variables ≡ v
  pub few : v ≤ around.quantifiers + 4

-- so many effects stand one after the other
pub record EffectsAt (t : Table) (v i m : ℕ) (es : List Effect) (j : ℕ) : Type 0 where
  pub room : ℕ
  pub around : Around
  pub reads : many (effect t room around) m i ≡ good es j
  pub known : around.variables ≡ v
  pub few : v ≤ around.quantifiers + 4

-- an atom that is added or deleted, or a consequent, stands from place i to place j
abbrev pub ChangeIn : Sheet → ℕ → Change → ℕ → Type 0
ChangeIn s i c j = ChangeAt (held s.task.now) s.depth i c j

abbrev pub ConsequentIn : Sheet → ℕ → Consequent → ℕ → Type 0
ConsequentIn s i c j = ConsequentAt (held s.task.now) s.depth i c j

abbrev pub ConsequentsIn : Sheet → ℕ → ℕ → List Consequent → ℕ → Type 0
ConsequentsIn s i m cs j = ConsequentsAt (held s.task.now) s.depth i m cs j

-- an effect stands from place i to place j
abbrev pub EffectIn : Scene → ℕ → Effect → ℕ → Type 0
EffectIn s i e j = EffectAt (held s.sheet.task.now) s.sheet.depth i e j

abbrev pub EffectsIn : Scene → ℕ → ℕ → List Effect → ℕ → Type 0
EffectsIn s i m es j = EffectsAt (held s.sheet.task.now) s.sheet.depth i m es j

-- the literals of a consequent
abbrev pub consequent_literals : Task → List ℕ → Consequent → List Literal
consequent_literals t sheet c = map (ground t sheet) (outcomes_of c)

abbrev pub consequents_literals : Task → List ℕ → List Consequent → List Literal
consequents_literals t sheet cs = map (ground t sheet) (all_outcomes (consequents_of cs))

-- the literals of an effect, every condition judged in the state s
abbrev pub effect_literals : Task → State → List ℕ → Effect → List Literal
effect_literals t s sheet e = literals_where (value t s) (parts t sheet e)

abbrev pub effects_literals : Task → State → List ℕ → List Effect → List Literal
effects_literals t s sheet es = literals_where (value t s) (all_parts t sheet (effects_of es))

-- the literals of an effect in a scene
abbrev pub literals_in : Scene → Effect → List Literal
literals_in s e = effect_literals (tree_of s.sheet.task.now) (shown s.image.now) (bound s.sheet) e

abbrev pub all_literals_in : Scene → List Effect → List Literal
all_literals_in s es = effects_literals (tree_of s.sheet.task.now) (shown s.image.now) (bound s.sheet) es
