-- What a junction or a negation comes to by what is left of its parts.
use Rattle.std.specs.Prelude.{ℕ, Bool, not, cond, List, [], ◌∷◌, take, Option, Some, None, ◌==◌}
use Rattle.model.specs.Meaning.{empty}
use Rattle.model.specs.Trees.{Junction, all, any}
use Rattle.table.specs.declared.arrays.Head.{Head}
use Rattle.table.specs.declared.kind.Kind.{Kind}
use Rattle.table.specs.declared.kind.Kind.TheVariants.{And, Or}

-- AND or OR
abbrev pub kind_of : Junction → Kind
kind_of all = And
kind_of any = Or

-- a junction of n parts that are left, none of which decides
abbrev pub closed_truth : Junction → ℕ → Option Bool
closed_truth j n = cond (n == 0) (Some (empty j)) None

-- what is written of it, where these are the entries of its parts
abbrev pub closed_entries : Junction → ℕ → List Head → List Head
closed_entries j n es = cond (n == 0) [] (cond (n == 1) es (record { kind = kind_of j; operand = n } ∷ es))

-- NOT of TRUE or FALSE is turned over
abbrev pub turned_truth : Option Bool → Option Bool
turned_truth None = None
turned_truth (Some b) = Some (not b)

-- what stands from place i on, NOT and its part, is taken away where the part is known
abbrev pub turned_entries : ℕ → Option Bool → List Head → List Head
turned_entries i None es = es
turned_entries i (Some b) es = take i es
